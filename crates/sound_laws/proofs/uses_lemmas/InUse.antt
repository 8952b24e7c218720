-- A step is on no word of a piece that nobody uses.
use Rattle.std.proofs.Common.{ℕ, false, ◌≡◌, ◌<◌, ◌≤◌, ◌+◌, ◌-◌, ◌*◌, ◌%◌, ◌^◌, [], ◌∷◌, refl, arith, ap, sym, subst, inl, inr, ◌∙◌, IsTrue, pow_pos}
use Rattle.std.proofs.lemmas.List.Elements.{All-head}
use Rattle.sound_state.proofs.Common.{Geometry, Block, Stack, Desc, Partial, Large, Point, State, IsSoundWith, IsSoundWithoutCounts, IsOwned, Lists, IsLive, Site, Need}
use Rattle.sound_state.proofs.Common.{occurs, occurs-here, holds_of, recalls_of, errand_frames, errand_keeps, waiting, callers_sum, is_bound, info_for, fills_frame, descriptor_count, pool_of, place-found}
use Rattle.sound_state.proofs.Common.{block_place, block_count_of, frame_of, unit_place, usable_words, frame_of-block_place, block-within, plan_point_of, name_of}
use Rattle.heap_geometry.specs.declared.need.Need.TheVariants as need
use Rattle.heap_geometry.specs.declared.limits.TheConstants.{FRAME_WORDS}
use Rattle.heap_geometry.specs.Need.{IsNeed, block_words_of}
use Rattle.heap_geometry.specs.Place.{unit_of}
use Rattle.pool_model.specs.WellFormed.{IsPlaceFor}
use Rattle.word_table.specs.Counts.{arena_words}
use Rattle.word_table.specs.declared.name.WordName.TheVariants as name
use Rattle.step_parts.specs.declared.superblock.point.BlockPoint.TheVariants as block
use Rattle.step_parts.specs.declared.large.point.LargePoint.TheVariants as large
use Rattle.sound_state.proofs.shared.ArenaNames.{arena_place, stack-elsewhere, desc-elsewhere, partial-elsewhere, not-arena}
use Rattle.sound_state.proofs.shared.FrameLemmas.{held-or-filled}
use Rattle.sound_state.proofs.shared.OverlapLemmas.{formed-at}
use Rattle.sound_state.proofs.shared.PointLemmas.{fits-at, frees-at, hands-at, recalled-at}
use Rattle.sound_state.proofs.shared.StackedLemmas.{stacked-same}
use Rattle.sound_state.proofs.shared.SumLemmas.{term-sum}
use Rattle.sound_laws.specs.uses.Pieces.{piece_of}
use Rattle.errand_steps.specs.Openers.{Opens}
use Rattle.sound_laws.specs.uses.Uses.{IsUnused}
use Rattle.sound_laws.proofs.uses_lemmas.PieceLemmas.{frame-of, unit-of}
use Rattle.sound_laws.proofs.uses_lemmas.Opened.{HasRun, opens-hand, opens-waits, opens-run, one-hand, one-run}

-- somebody uses the piece, and no other caller is about to use it first
pub record InUse (g : Geometry) (s : State) (caller k : ℕ) : Type 0 where
  pub used : IsUnused g s.word k → ⊥
  pub alone : (other : ℕ) → other < g.callers → Opens g (s.errand other).point k → other ≡ caller

-- a frame that isn't among the free ones is none by the words
pub off-stack : (g : Geometry) (s : State) (l : Lists) (f : ℕ) → IsSoundWith g s l → f < g.frames → occurs f l.frames ≡ 0 → IsUnused g s.word f → ⊥
off-stack g s l f old has none (inl free) =
    let same = stacked-same _ _ free.1.0 l.frames free.1.1 old.listed.frames in omega (arith, none, free.1.2, ap (occurs f) same)
off-stack g s l f old has none (inr unit) = omega (arith, has, unit.0)

-- a frame in the caller's hand
held-in_use : (g : Geometry) (s : State) (l : Lists) (caller f : ℕ) → IsSoundWith g s l → f < g.frames → caller < g.callers → 1 ≤ errand_frames f (s.errand caller) → InUse g s caller f
unfolding callers_sum
held-in_use g s l caller f old has has_caller held = record {
  used = off-stack g s l f old has (omega (arith, old.framed.once f has, held, term-sum g.callers (λ c. errand_frames f (s.errand c)) caller has_caller));
  alone = λ other has_other opens. one-hand g s l other caller f old has has_other has_caller (opens-hand g (s.errand other).point f opens has) held;
}

-- a frame in which a superblock lies
bound-in_use :
    (g : Geometry) (s : State) (l : Lists) (caller d f : ℕ) → IsSoundWith g s l → f < g.frames → d < descriptor_count g → IsTrue (is_bound g s l d)
    → (info_for s d).frame ≡ f → InUse g s caller f
unfolding callers_sum
bound-in_use g s l caller d f old has has_d bound lies =
    let hands = λ (c : ℕ). errand_frames f (s.errand c) in
    let once = old.framed.once f has in
    elim (held-or-filled g s l f d old bound lies) [
      | inl one ↦ record {
        used = off-stack g s l f old has (omega (arith, once, one.3, term-sum g.callers hands one.0 one.1));
        alone = λ other has_other opens.
            let same = one-hand g s l other one.0 f old has has_other one.1 (opens-hand g (s.errand other).point f opens has) (omega (arith, one.3)) in
            let none = opens-waits g (s.errand other).point f d opens has in
            let waits : 0 < errand_keeps waiting d (s.errand other) = subst (λ c. 0 < errand_keeps waiting d (s.errand c)) (sym same) one.2 in
            absurd (omega (arith, none, waits));
      }
      | inr filled ↦
          let filling = term-sum (descriptor_count g) (fills_frame g s l f) d has_d in record {
            used = off-stack g s l f old has (omega (arith, once, filled, filling));
            alone = λ other has_other opens.
                absurd (omega (arith, once, filled, filling, opens-hand g (s.errand other).point f opens has, term-sum g.callers hands other has_other));
          }
    ]

-- a unit of a live run
run-in_use : (g : Geometry) (s : State) (caller k : ℕ) → IsSoundWithoutCounts g s → caller < g.callers → HasRun g s caller k → InUse g s caller k
run-in_use g s caller k sound has_caller run =
    let l = sound.parts.0 in
    let old = sound.parts.1 in
    let unit : ℕ = k - g.frames in
    let beyond : g.frames ≤ k = omega (arith, run.from) in
    let b = run.owned.block in
    let live : IsLive s (unit_place g.frames run.first) b.0 = subst (λ p. IsLive s p b.0) run.at b.1 in
    let bit = (old.tied.units unit (omega (arith, run.below, run.within))).1 (b.0, run.first, run.units, live, b.3, omega (arith, run.from), omega (arith, run.below, run.from)) in
    record {
      used = λ unused. elim unused [
        | inl frame ↦ omega (arith, frame.0, beyond)
        | inr free ↦ omega (arith, free.1, bit)
      ];
      alone = λ other has_other opens. one-run g s other caller k sound (opens-run g s l other k (s.errand other).point old has_other refl opens beyond) run;
    }

-- the piece of a word in a frame, and of one behind the frames
piece-frame : (g : Geometry) (f j : ℕ) → f < g.frames → j < FRAME_WORDS → piece_of g (FRAME_WORDS * f + j) ≡ f
piece-frame g f j has within =
    let is : frame_of (FRAME_WORDS * f + j) ≡ f = omega (arith, within) in frame-of g (FRAME_WORDS * f + j) (omega (arith, has, within)) ∙ is

piece-unit : (g : Geometry) (first j : ℕ) → piece_of g (unit_place g.frames first + j) ≡ g.frames + unit_of g.frames (unit_place g.frames first + j)
piece-unit g first j = unit-of g (unit_place g.frames first + j) (omega arith)

-- a word of a block that a caller owns
need-in_use :
    (g : Geometry) (s : State) (caller place j : ℕ) (n : Need) → IsSoundWithoutCounts g s → caller < g.callers → IsOwned s caller place n → j < 1 + usable_words n
    → InUse g s caller (piece_of g (place + j))
need-in_use g s caller place j (need.Small class) sound has_caller owned within =
    let l = sound.parts.0 in
    let old = sound.parts.1 in
    let b = owned.block in
    let formed = formed-at g s place b.0 sound b.1 in
    let at = subst (λ n. IsPlaceFor g n b.0.place) b.3 formed.place in
    let f = at.0 in
    let here = place-found place (pool_of s.history) b.0 b.1 in
    let lies : place ≡ block_place f class at.1 = sym here ∙ at.4 in
    let fits = block-within class at.1 at.3 in
    let (d, its, said) = old.tied.small place class b.0 b.1 b.3 in
    let frame : frame_of place ≡ f = ap frame_of lies ∙ frame_of-block_place f class at.1 at.3 in
    let word : place + j ≡ FRAME_WORDS * f + (at.1 * block_words_of class + j) = omega (arith, lies) in
    let inside : at.1 * block_words_of class + j < FRAME_WORDS = omega (arith, fits, within, pow_pos (class + 1)) in
    subst (InUse g s caller) (sym (ap (piece_of g) word ∙ piece-frame g f _ at.2 inside))
    (bound-in_use g s l caller d f old at.2 its.exists its.bound (its.located.frame ∙ frame))
need-in_use g s caller place j (need.Large units) sound has_caller owned within =
    let b = owned.block in
    let formed = formed-at g s place b.0 sound b.1 in
    let at = subst (λ n. IsPlaceFor g n b.0.place) b.3 formed.place in
    let here = place-found place (pool_of s.history) b.0 b.1 in
    let lies : place ≡ unit_place g.frames at.0 = sym here ∙ at.2 in
    let some = subst IsNeed b.3 formed.need in
    let is : piece_of g (place + j) ≡ g.frames + unit_of g.frames (unit_place g.frames at.0 + j) = ap (λ p. piece_of g (p + j)) lies ∙ piece-unit g at.0 j in
    subst (InUse g s caller) (sym is)
    (run-in_use g s caller _ sound has_caller (record {
      place = place;
      first = at.0;
      units = units;
      owned = owned;
      at = lies;
      from = omega arith;
      below = omega (arith, within, some.0);
      within = at.1;
    }))
need-in_use g s caller place j need.TooLarge sound has_caller owned within =
    let b = owned.block in
    let formed = formed-at g s place b.0 sound b.1 in
    absurd (subst (λ n. IsPlaceFor g n b.0.place) b.3 formed.place)

-- the piece of a block's first word
piece-block : (g : Geometry) (f class i : ℕ) → f < g.frames → i < block_count_of class → piece_of g (block_place f class i) ≡ f
piece-block g f class i has within =
    piece-frame g f (i * block_words_of class) has (omega (arith, block-within class i within, pow_pos (class + 1)))

-- the first word of a block of a superblock at hand
site-in_use :
    (g : Geometry) (s : State) (l : Lists) (caller i word : ℕ) (at : Site) → IsSoundWith g s l → at.desc < descriptor_count g → at.frame < g.frames
    → i < block_count_of at.seat.class → IsTrue (is_bound g s l at.desc) → (info_for s at.desc).frame ≡ at.frame
    → name.Arena (block_place at.frame at.seat.class i) ≡ name.Arena word → InUse g s caller (piece_of g word)
site-in_use g s l caller i word at old has_d has within bound lies is =
    subst (InUse g s caller) (sym (ap (piece_of g) (sym (ap arena_place is)) ∙ piece-block g at.frame at.seat.class i has within))
    (bound-in_use g s l caller at.desc at.frame old has has_d bound lies)

first-in_use :
    (g : Geometry) (s : State) (caller place word : ℕ) (n : Need) → IsSoundWithoutCounts g s → caller < g.callers → IsOwned s caller place n
    → name.Arena place ≡ name.Arena word → InUse g s caller (piece_of g word)
first-in_use g s caller place word n sound has owned is =
    let same : place + 0 ≡ word = omega (arith, ap arena_place is) in
    subst (λ w. InUse g s caller (piece_of g w)) same (need-in_use g s caller place 0 n sound has owned (omega arith))

payload-in_use :
    (g : Geometry) (s : State) (caller place i word : ℕ) (n : Need) → IsSoundWithoutCounts g s → caller < g.callers → IsOwned s caller place n
    → i < usable_words n → place + 1 + i < arena_words g → name.Arena ((place + 1 + i) % 2 ^ 32) ≡ name.Arena word → InUse g s caller (piece_of g word)
payload-in_use g s caller place i word n sound has owned within there is =
    let short : place + 1 + i < 2 ^ 32 = omega (arith, there, sound.checked.frames.1, sound.checked.units.1) in
    let same : place + (1 + i) ≡ word = omega (arith, ap arena_place is, short) in
    subst (λ w. InUse g s caller (piece_of g w)) same (need-in_use g s caller place (1 + i) n sound has owned (omega (arith, within)))

pub point-in_use :
    (g : Geometry) (s : State) (caller word : ℕ) (p : Point) → IsSoundWithoutCounts g s → caller < g.callers → (s.errand caller).point ≡ p
    → name_of (plan_point_of p) ≡ name.Arena word → InUse g s caller (piece_of g word)
unfolding plan_point_of holds_of recalls_of
point-in_use g s caller word (Block (block.LoadLink at share a) o) sound has stands is =
    let l = sound.parts.0 in
    let fit = fits-at g s l caller (Block (block.LoadLink at share a) o) sound.parts.1 has stands in
    let so = recalled-at g s l caller (Block (block.LoadLink at share a) o) sound.parts.1 has stands in
    site-in_use g s l caller a.avail word at sound.parts.1 fit.point.site.desc fit.point.site.frame fit.point.anchor.avail so.1.0.0 so.1.0.1.frame is
point-in_use g s caller word (Block (block.StorePrefix at i) o) sound has stands is =
    let l = sound.parts.0 in
    let fit = fits-at g s l caller (Block (block.StorePrefix at i) o) sound.parts.1 has stands in
    let so = recalled-at g s l caller (Block (block.StorePrefix at i) o) sound.parts.1 has stands in
    site-in_use g s l caller i word at sound.parts.1 fit.point.site.desc fit.point.site.frame fit.point.index so.0.0 so.0.1.frame is
point-in_use g s caller word (Block (block.StoreLink at i a stored heap) o) sound has stands is =
    let l = sound.parts.0 in
    let fit = fits-at g s l caller (Block (block.StoreLink at i a stored heap) o) sound.parts.1 has stands in
    let so = recalled-at g s l caller (Block (block.StoreLink at i a stored heap) o) sound.parts.1 has stands in
    site-in_use g s l caller i word at sound.parts.1 fit.point.block.site.desc fit.point.block.site.frame fit.point.block.index so.0.0 so.0.1.frame is
point-in_use g s caller word (Block (block.LinkBlock at i) o) sound has stands is =
    let l = sound.parts.0 in
    let fit = fits-at g s l caller (Block (block.LinkBlock at i) o) sound.parts.1 has stands in
    let here : occurs at.frame (at.frame ∷ []) ≡ 1 = occurs-here at.frame [] in
    let held : 1 ≤ errand_frames at.frame (s.errand caller) = subst (λ q. 1 ≤ occurs at.frame (holds_of q).frames) (sym stands) (omega (arith, here)) in
    subst (InUse g s caller) (sym (ap (piece_of g) (sym (ap arena_place is)) ∙ piece-block g at.frame at.seat.class i fit.point.site.frame fit.point.index))
    (held-in_use g s l caller at.frame sound.parts.1 fit.point.site.frame has held)
point-in_use g s caller word (Block (block.LoadPrefix seat frame i) o) sound has stands is =
    let frees = frees-at g s sound.parts.0 caller (Block (block.LoadPrefix seat frame i) o) sound.parts.1 has stands in
    let owned = All-head (λ x. IsOwned s caller x.place x.need) (record { place = block_place frame seat.class i; need = need.Small seat.class; overwritten = false }) [] frees in
    first-in_use g s caller (block_place frame seat.class i) word (need.Small seat.class) sound has owned is
point-in_use g s caller word (Large (large.StoreRunPrefix place run) o) sound has stands is =
    let hands = hands-at g s sound.parts.0 caller (Large (large.StoreRunPrefix place run) o) sound.parts.1 has stands in
    let owned = All-head (λ x. IsOwned s caller x.place x.need) (record { place = place; need = need.Large run.units }) [] hands in
    first-in_use g s caller place word (need.Large run.units) sound has owned is
point-in_use g s caller word (Large (large.LoadRunPrefix place run) o) sound has stands is =
    let frees = frees-at g s sound.parts.0 caller (Large (large.LoadRunPrefix place run) o) sound.parts.1 has stands in
    let owned = All-head (λ x. IsOwned s caller x.place x.need) (record { place = place; need = need.Large run.units; overwritten = false }) [] frees in
    first-in_use g s caller place word (need.Large run.units) sound has owned is
point-in_use g s caller word (Large (large.StoreWord place i value) o) sound has stands is =
    let fit = fits-at g s sound.parts.0 caller (Large (large.StoreWord place i value) o) sound.parts.1 has stands in
    let so = recalled-at g s sound.parts.0 caller (Large (large.StoreWord place i value) o) sound.parts.1 has stands in
    payload-in_use g s caller place i word so.0.0 sound has so.0.1 so.0.2 fit.point.0 is
point-in_use g s caller word (Large (large.LoadWord place i) o) sound has stands is =
    let fit = fits-at g s sound.parts.0 caller (Large (large.LoadWord place i) o) sound.parts.1 has stands in
    let so = recalled-at g s sound.parts.0 caller (Large (large.LoadWord place i) o) sound.parts.1 has stands in
    payload-in_use g s caller place i word so.0.0 sound has so.0.1 so.0.2 fit.point is
point-in_use g s caller word (Stack p o) sound has stands is = absurd (not-arena _ word (stack-elsewhere p) is)
point-in_use g s caller word (Desc p o) sound has stands is = absurd (not-arena _ word (desc-elsewhere p) is)
point-in_use g s caller word (Partial p o) sound has stands is = absurd (not-arena _ word (partial-elsewhere p) is)
point-in_use g s caller word p sound has stands is = absurd (not-arena _ word refl is)
