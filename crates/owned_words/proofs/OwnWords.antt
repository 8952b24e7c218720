-- A step on a usable word of a live block is its owner's read or write of it.
use Rattle.std.proofs.Common.{ℕ, false, ◌≡◌, ◌<◌, ◌≤◌, ◌+◌, ◌*◌, ◌%◌, ◌^◌, [], ◌∷◌, refl, arith, ap, sym, subst, inl, inr, ◌∙◌, IsTrue, pow_pos}
use Rattle.std.proofs.lemmas.Bool.{cases_eq}
use Rattle.std.proofs.lemmas.List.Elements.{All-head}
use Rattle.sound_state.proofs.Common.{Geometry, Block, Large, Stack, Desc, Partial, Point, State, IsSoundWith, IsSoundWithoutCounts, IsOwned, IsLocated, Lists, IsLive}
use Rattle.sound_state.proofs.Common.{Site, Need, Caller, Continuation}
use Rattle.sound_state.proofs.Common.{occurs, occurs-here, holds_of, recalls_of, errand_frames, errand_keeps, kept_among, waiting, is_bound, info_for, descriptor_count, pool_of, place-found}
use Rattle.sound_state.proofs.Common.{block_place, block_count_of, frame_of, usable_words, frame_of-block_place, block-within, plan_point_of, name_of}
use Rattle.heap_geometry.specs.declared.need.Need.TheVariants as need
use Rattle.heap_geometry.specs.declared.limits.TheConstants.{FRAME_WORDS}
use Rattle.heap_geometry.proofs.PlaceLemmas.{frame-apart}
use Rattle.pool_model.specs.Pool.{Block as Live}
use Rattle.pool_model.specs.WellFormed.{IsPlaceFor}
use Rattle.word_table.specs.Counts.{arena_words}
use Rattle.word_table.specs.declared.name.WordName.TheVariants as name
use Rattle.step_parts.specs.declared.superblock.point.BlockPoint.TheVariants as block
use Rattle.step_parts.specs.declared.large.point.LargePoint.TheVariants as large
use Rattle.sound_state.proofs.shared.ArenaNames.{arena_place, stack-elsewhere, desc-elsewhere, partial-elsewhere, not-arena}
use Rattle.sound_state.proofs.shared.FrameLemmas.{in-hand-waits, one-in-frame}
use Rattle.sound_state.proofs.shared.OverlapLemmas.{formed-at, live-apart}
use Rattle.sound_state.proofs.shared.PointLemmas.{fits-at, frees-at, hands-at, recalled-at}
use Rattle.sound_state.proofs.shared.TieLemmas.{one-live}
use Rattle.owned_words.specs.Accesses.{AccessesWord}

-- the word is the usable word i of the live block at the place
pub record IsUsable (s : State) (word place i : ℕ) (b : Live) : Type 0 where
  pub live : IsLive s place b
  pub at : word ≡ place + 1 + i
  pub within : i < usable_words b.need

-- the place is that of a block of the class, in a frame that a superblock of the class fills or is about to
record LiesInFrame (g : Geometry) (s : State) (l : Lists) (place class : ℕ) : Type 0 where
  pub frame : ℕ
  pub index : ℕ
  pub has : frame < g.frames
  pub below : index < block_count_of class
  pub at : place ≡ block_place frame class index
  pub desc : ℕ
  pub exists : desc < descriptor_count g
  pub bound : IsTrue (is_bound g s l desc)
  pub located : IsLocated s desc frame class

small-lies :
    (g : Geometry) (s : State) (place class : ℕ) (b : Live) (sound : IsSoundWithoutCounts g s) → IsLive s place b → b.need ≡ need.Small class
    → LiesInFrame g s sound.parts.0 place class
small-lies g s place class b sound live small =
    let at = subst (λ n. IsPlaceFor g n b.place) small (formed-at g s place b sound live).place in
    let lies : place ≡ block_place at.0 class at.1 = sym (place-found place (pool_of s.history) b live) ∙ at.4 in
    let (d, its, said) = sound.parts.1.tied.small place class b live small in
    record {
      frame = at.0;
      index = at.1;
      has = at.2;
      below = at.3;
      at = lies;
      desc = d;
      exists = its.exists;
      bound = its.bound;
      located = record { frame = its.located.frame ∙ ap frame_of lies ∙ frame_of-block_place at.0 class at.1 at.3; class = its.located.class };
    }

large-lies :
    (g : Geometry) (s : State) (place units : ℕ) (b : Live) → IsSoundWithoutCounts g s → IsLive s place b → b.need ≡ need.Large units
    → FRAME_WORDS * g.frames ≤ place
large-lies g s place units b sound live large =
    let at = subst (λ n. IsPlaceFor g n b.place) large (formed-at g s place b sound live).place in
    omega (arith, place-found place (pool_of s.history) b live, at.2)

-- a word of a block in a frame lies in that frame
word-frame :
    (f class j i word : ℕ) → j < block_count_of class → i < usable_words (need.Small class) → word ≡ block_place f class j + 1 + i
    → frame_of word ≡ f
word-frame f class j i word below within at = omega (arith, block-within class j below, within, at, pow_pos (class + 1))

-- no prefix word of a frame's blocks is a usable word of one of them
off-grid :
    (f class i j k : ℕ) → k < usable_words (need.Small class) → block_place f class i ≡ block_place f class j + 1 + k → ⊥
off-grid f class i j k within is =
    elim (cases_eq i j) [
      | inl same ↦ omega (arith, ap (block_place f class) same, is)
      | inr differ ↦
          elim (frame-apart f class i j differ) [
            | inl before ↦ omega (arith, before, is, within)
            | inr behind ↦ omega (arith, behind, is, within)
          ]
    ]

-- a block's first word at a frame's place
first-frame : (f class i : ℕ) → i < block_count_of class → (FRAME_WORDS * f ≤ block_place f class i) × (block_place f class i < FRAME_WORDS * f + FRAME_WORDS)
first-frame f class i below = (omega arith, omega (arith, block-within class i below, pow_pos (class + 1)))

-- a prefix word of a superblock at hand is no usable word of a small block, nor of a run
site-small :
    (g : Geometry) (s : State) (l : Lists) (i word place k class : ℕ) (at : Site) → IsSoundWith g s l → at.desc < descriptor_count g → at.frame < g.frames
    → i < block_count_of at.seat.class → IsTrue (is_bound g s l at.desc) → IsLocated s at.desc at.frame at.seat.class
    → block_place at.frame at.seat.class i ≡ word → LiesInFrame g s l place class → word ≡ place + 1 + k → k < usable_words (need.Small class) → ⊥
site-small g s l i word place k class at old has_d has below bound located is lies here within =
    let there : word ≡ block_place lies.frame class lies.index + 1 + k = omega (arith, here, lies.at) in
    let one : frame_of word ≡ at.frame = sym (ap frame_of is) ∙ frame_of-block_place at.frame at.seat.class i below in
    let frame : lies.frame ≡ at.frame = sym (word-frame lies.frame class lies.index k word lies.below within there) ∙ one in
    let desc = one-in-frame g s l at.frame lies.desc at.desc old has lies.exists has_d lies.bound bound (lies.located.frame ∙ frame) located.frame in
    let same : at.seat.class ≡ class = sym located.class ∙ sym (ap (λ d. (info_for s d).class) desc) ∙ lies.located.class in
    let first : block_place at.frame class i ≡ word = sym (ap (λ c. block_place at.frame c i) same) ∙ is in
    off-grid at.frame class i lies.index k within (first ∙ there ∙ ap (λ f. block_place f class lies.index + 1 + k) frame)

site-off :
    (g : Geometry) (s : State) (i word place k : ℕ) (b : Live) (at : Site) (n : Need) (sound : IsSoundWithoutCounts g s) → at.desc < descriptor_count g
    → at.frame < g.frames → i < block_count_of at.seat.class → IsTrue (is_bound g s sound.parts.0 at.desc)
    → IsLocated s at.desc at.frame at.seat.class → name.Arena (block_place at.frame at.seat.class i) ≡ name.Arena word
    → IsUsable s word place k b → b.need ≡ n → ⊥
site-off g s i word place k b at (need.Small class) sound has_d has below bound located is usable of =
    site-small g s sound.parts.0 i word place k class at sound.parts.1 has_d has below bound located (ap arena_place is)
    (small-lies g s place class b sound usable.live of) usable.at (subst (λ n. k < usable_words n) of usable.within)
site-off g s i word place k b at (need.Large units) sound has_d has below bound located is usable of =
    omega (
      arith,
      large-lies g s place units b sound usable.live of,
      usable.at,
      ap arena_place is,
      has,
      (first-frame at.frame at.seat.class i below).1,
    )
site-off g s i word place k b at need.TooLarge sound has_d has below bound located is usable of =
    omega (arith, subst (λ n. k < usable_words n) of usable.within)

-- nor is one of a frame in a caller's hand with which no superblock waits
hand-off :
    (g : Geometry) (s : State) (caller i word place k f class : ℕ) (b : Live) (n : Need) → IsSoundWithoutCounts g s → caller < g.callers → f < g.frames
    → i < block_count_of class → 1 ≤ errand_frames f (s.errand caller) → ((d : ℕ) → errand_keeps waiting d (s.errand caller) ≡ 0)
    → name.Arena (block_place f class i) ≡ name.Arena word → IsUsable s word place k b → b.need ≡ n → ⊥
hand-off g s caller i word place k f class b (need.Small c) sound has_caller has below held bare is usable of =
    let l = sound.parts.0 in
    let lies = small-lies g s place c b sound usable.live of in
    let within : k < usable_words (need.Small c) = subst (λ n. k < usable_words n) of usable.within in
    let there : word ≡ block_place lies.frame c lies.index + 1 + k = omega (arith, usable.at, lies.at) in
    let one : frame_of word ≡ f = sym (ap (λ w. frame_of (arena_place w)) is) ∙ frame_of-block_place f class i below in
    let frame : lies.frame ≡ f = sym (word-frame lies.frame c lies.index k word lies.below within there) ∙ one in
    let waits = in-hand-waits g s l f lies.desc caller sound.parts.1 has lies.exists lies.bound (lies.located.frame ∙ frame) has_caller held in
    omega (arith, waits, bare lies.desc)
hand-off g s caller i word place k f class b (need.Large units) sound has_caller has below held bare is usable of =
    omega (arith, large-lies g s place units b sound usable.live of, usable.at, ap arena_place is, has, (first-frame f class i below).1)
hand-off g s caller i word place k f class b need.TooLarge sound has_caller has below held bare is usable of =
    omega (arith, subst (λ n. k < usable_words n) of usable.within)

-- the prefix word of a live block is no usable word of one
first-off :
    (g : Geometry) (s : State) (caller p word place i : ℕ) (n : Need) (b : Live) → IsSoundWithoutCounts g s → IsOwned s caller p n
    → name.Arena p ≡ name.Arena word → IsUsable s word place i b → ⊥
first-off g s caller p word place i n b sound owned is usable =
    let (a, live, owner, serves) = owned.block in
    let same : p ≡ word = ap arena_place is in
    elim (cases_eq p place) [
      | inl one ↦ omega (arith, one, same, usable.at)
      | inr differ ↦
          let at_a = place-found p (pool_of s.history) a live in
          let at_b = place-found place (pool_of s.history) b usable.live in
          elim (live-apart g s sound p place a b live usable.live differ) [
            | inl before ↦ omega (arith, before, at_a, at_b, same, usable.at, usable.within)
            | inr behind ↦ omega (arith, behind, at_a, at_b, same, usable.at, usable.within)
          ]
    ]

-- the name of a usable word that a point is on
word-short : (g : Geometry) (s : State) (place i : ℕ) → IsSoundWithoutCounts g s → place + 1 + i < arena_words g → place + 1 + i < 2 ^ 32
word-short g s place i sound there = omega (arith, there, sound.checked.frames.1, sound.checked.units.1)

-- a usable word of a block that the caller owns is that of no other live block
word-own :
    (g : Geometry) (s : State) (caller p j word place i : ℕ) (n : Need) (b : Live) → IsSoundWithoutCounts g s → IsOwned s caller p n
    → j < usable_words n → p + 1 + j < arena_words g → name.Arena ((p + 1 + j) % 2 ^ 32) ≡ name.Arena word → IsUsable s word place i b
    → (b.owner ≡ Caller caller) × ((p ≡ place) × (j ≡ i))
word-own g s caller p j word place i n b sound owned within there is usable =
    let (a, live, owner, serves) = owned.block in
    let same : p + 1 + j ≡ word = omega (arith, ap arena_place is, word-short g s p j sound there) in
    elim (cases_eq p place) [
      | inl one ↦ (
        sym (ap (λ (x : Live). x.owner) (one-live s p place a b live (sym one) usable.live)) ∙ owner,
        (one, omega (arith, one, same, usable.at)),
      )
      | inr differ ↦
          let at_a = place-found p (pool_of s.history) a live in
          let at_b = place-found place (pool_of s.history) b usable.live in
          let words : usable_words a.need ≡ usable_words n = ap usable_words serves in
          elim (live-apart g s sound p place a b live usable.live differ) [
            | inl before ↦ absurd (omega (arith, before, at_a, at_b, same, words, within, usable.at, usable.within))
            | inr behind ↦ absurd (omega (arith, behind, at_a, at_b, same, words, within, usable.at, usable.within))
          ]
    ]

-- who links the blocks of a frame keeps no superblock that waits
links-waits : (at : Site) (i d : ℕ) (o : Continuation) → kept_among waiting d (holds_of (Block (block.LinkBlock at i) o)).kept ≡ 0
unfolding holds_of
links-waits at i d o = grind (arith)

pub point-owned :
    (g : Geometry) (s : State) (caller word place k : ℕ) (b : Live) (p : Point) → IsSoundWithoutCounts g s → caller < g.callers
    → (s.errand caller).point ≡ p → name_of (plan_point_of p) ≡ name.Arena word → IsUsable s word place k b
    → (b.owner ≡ Caller caller) × AccessesWord p place k
unfolding plan_point_of holds_of recalls_of
point-owned g s caller word place k b (Block (block.LoadLink at share a) o) sound has stands is usable =
    let l = sound.parts.0 in
    let fit = fits-at g s l caller (Block (block.LoadLink at share a) o) sound.parts.1 has stands in
    let so = recalled-at g s l caller (Block (block.LoadLink at share a) o) sound.parts.1 has stands in
    absurd (site-off g s a.avail word place k b at b.need sound fit.point.site.desc fit.point.site.frame fit.point.anchor.avail so.1.0.0 so.1.0.1 is usable refl)
point-owned g s caller word place k b (Block (block.StorePrefix at i) o) sound has stands is usable =
    let l = sound.parts.0 in
    let fit = fits-at g s l caller (Block (block.StorePrefix at i) o) sound.parts.1 has stands in
    let so = recalled-at g s l caller (Block (block.StorePrefix at i) o) sound.parts.1 has stands in
    absurd (site-off g s i word place k b at b.need sound fit.point.site.desc fit.point.site.frame fit.point.index so.0.0 so.0.1 is usable refl)
point-owned g s caller word place k b (Block (block.StoreLink at i a stored heap) o) sound has stands is usable =
    let l = sound.parts.0 in
    let fit = fits-at g s l caller (Block (block.StoreLink at i a stored heap) o) sound.parts.1 has stands in
    let so = recalled-at g s l caller (Block (block.StoreLink at i a stored heap) o) sound.parts.1 has stands in
    absurd
    (site-off g s i word place k b at b.need sound fit.point.block.site.desc fit.point.block.site.frame fit.point.block.index so.0.0 so.0.1 is usable refl)
point-owned g s caller word place k b (Block (block.LinkBlock at i) o) sound has stands is usable =
    let fit = fits-at g s sound.parts.0 caller (Block (block.LinkBlock at i) o) sound.parts.1 has stands in
    let here : occurs at.frame (at.frame ∷ []) ≡ 1 = occurs-here at.frame [] in
    let held : 1 ≤ errand_frames at.frame (s.errand caller) = subst (λ q. 1 ≤ occurs at.frame (holds_of q).frames) (sym stands) (omega (arith, here)) in
    let bare = λ (d : ℕ). subst (λ q. kept_among waiting d (holds_of q).kept ≡ 0) (sym stands) (links-waits at i d o) in
    absurd (hand-off g s caller i word place k at.frame at.seat.class b b.need sound has fit.point.site.frame fit.point.index held bare is usable refl)
point-owned g s caller word place k b (Block (block.LoadPrefix seat frame i) o) sound has stands is usable =
    let frees = frees-at g s sound.parts.0 caller (Block (block.LoadPrefix seat frame i) o) sound.parts.1 has stands in
    let first : ℕ = block_place frame seat.class i in
    let owned = All-head (λ x. IsOwned s caller x.place x.need) (record { place = first; need = need.Small seat.class; overwritten = false }) [] frees in
    absurd (first-off g s caller first word place k (need.Small seat.class) b sound owned is usable)
point-owned g s caller word place k b (Large (large.StoreRunPrefix p run) o) sound has stands is usable =
    let hands = hands-at g s sound.parts.0 caller (Large (large.StoreRunPrefix p run) o) sound.parts.1 has stands in
    let owned = All-head (λ x. IsOwned s caller x.place x.need) (record { place = p; need = need.Large run.units }) [] hands in
    absurd (first-off g s caller p word place k (need.Large run.units) b sound owned is usable)
point-owned g s caller word place k b (Large (large.LoadRunPrefix p run) o) sound has stands is usable =
    let frees = frees-at g s sound.parts.0 caller (Large (large.LoadRunPrefix p run) o) sound.parts.1 has stands in
    let owned = All-head (λ x. IsOwned s caller x.place x.need) (record { place = p; need = need.Large run.units; overwritten = false }) [] frees in
    absurd (first-off g s caller p word place k (need.Large run.units) b sound owned is usable)
point-owned g s caller word place k b (Large (large.StoreWord p i value) o) sound has stands is usable =
    let fit = fits-at g s sound.parts.0 caller (Large (large.StoreWord p i value) o) sound.parts.1 has stands in
    let so = recalled-at g s sound.parts.0 caller (Large (large.StoreWord p i value) o) sound.parts.1 has stands in
    word-own g s caller p i word place k so.0.0 b sound so.0.1 so.0.2 fit.point.0 is usable
point-owned g s caller word place k b (Large (large.LoadWord p i) o) sound has stands is usable =
    let fit = fits-at g s sound.parts.0 caller (Large (large.LoadWord p i) o) sound.parts.1 has stands in
    let so = recalled-at g s sound.parts.0 caller (Large (large.LoadWord p i) o) sound.parts.1 has stands in
    word-own g s caller p i word place k so.0.0 b sound so.0.1 so.0.2 fit.point is usable
point-owned g s caller word place k b (Stack p o) sound has stands is usable = absurd (not-arena _ word (stack-elsewhere p) is)
point-owned g s caller word place k b (Desc p o) sound has stands is usable = absurd (not-arena _ word (desc-elsewhere p) is)
point-owned g s caller word place k b (Partial p o) sound has stands is usable = absurd (not-arena _ word (partial-elsewhere p) is)
point-owned g s caller word place k b p sound has stands is usable = absurd (not-arena _ word refl is)

-- the caller's point is on the usable word i of a block that it owns at the place
record IsAtOwn (s : State) (caller place i : ℕ) (p : Point) : Type 0 where
  pub named : name_of (plan_point_of p) ≡ name.Arena (place + 1 + i)
  pub owned : (n : Need) × IsOwned s caller place n × (i < usable_words n)

at-own :
    (g : Geometry) (s : State) (caller p j place i : ℕ) (q : Point) → IsSoundWithoutCounts g s → p + 1 + j < arena_words g
    → name_of (plan_point_of q) ≡ name.Arena ((p + 1 + j) % 2 ^ 32) → (n : Need) × IsOwned s caller p n × (j < usable_words n)
    → (p ≡ place) × (j ≡ i) → IsAtOwn s caller place i q
at-own g s caller p j place i q sound there is own (one, same) =
    let whole : (p + 1 + j) % 2 ^ 32 ≡ place + 1 + i = omega (arith, one, same, word-short g s p j sound there) in
    record {
      named = is ∙ ap name.Arena whole;
      owned = subst (λ x. (n : Need) × IsOwned s caller x n × (i < usable_words n)) one
          (subst (λ x. (n : Need) × IsOwned s caller p n × (x < usable_words n)) same own);
    }

accessed-at :
    (g : Geometry) (s : State) (caller place i : ℕ) (p : Point) → IsSoundWithoutCounts g s → caller < g.callers → (s.errand caller).point ≡ p
    → AccessesWord p place i → IsAtOwn s caller place i p
unfolding plan_point_of recalls_of
accessed-at g s caller place i (Large (large.StoreWord p j value) o) sound has stands accesses =
    let fit = fits-at g s sound.parts.0 caller (Large (large.StoreWord p j value) o) sound.parts.1 has stands in
    let so = recalled-at g s sound.parts.0 caller (Large (large.StoreWord p j value) o) sound.parts.1 has stands in
    at-own g s caller p j place i (Large (large.StoreWord p j value) o) sound fit.point.0 refl so.0 accesses
accessed-at g s caller place i (Large (large.LoadWord p j) o) sound has stands accesses =
    let fit = fits-at g s sound.parts.0 caller (Large (large.LoadWord p j) o) sound.parts.1 has stands in
    let so = recalled-at g s sound.parts.0 caller (Large (large.LoadWord p j) o) sound.parts.1 has stands in
    at-own g s caller p j place i (Large (large.LoadWord p j) o) sound fit.point refl so.0 accesses
accessed-at g s caller place i p sound has stands accesses = absurd accesses

pub accessed-own :
    (g : Geometry) (s : State) (caller place i : ℕ) (p : Point) → IsSoundWithoutCounts g s → caller < g.callers → (s.errand caller).point ≡ p
    → AccessesWord p place i → (name_of (plan_point_of p) ≡ name.Arena (place + 1 + i)) × ((n : Need) × IsOwned s caller place n × (i < usable_words n))
accessed-own g s caller place i p sound has stands accesses =
    let own = accessed-at g s caller place i p sound has stands accesses in (own.named, own.owned)
