-- Reserved blocks are returned, and blocks of a partial superblock are granted.
use Rattle.std.proofs.Common.{ℕ, Bool, true, false, ◌≡◌, ◌≢◌, ◌<◌, ◌≤◌, ◌+◌, ◌^◌, List, [], refl, arith, ap, sym, subst, inl, inr, ◌∙◌, ◌==◌, IsTrue, if◌then◌else◌, nat_lt}
use Rattle.std.proofs.Common.{All, eq-eqb, lt-ltb, mod-eq_of_lt}
use Rattle.std.proofs.lemmas.Bool.{cases_lt, cond-true}
use Rattle.std.proofs.lemmas.List.Elements.{All-nil, All-cons, All-head}
use Rattle.sound_state.proofs.Common.{Geometry, Need, block_count_of, block_place, AnchorFields, anchor_of, anchor_word, info_of, is_empty, Site, occurs, Grant}
use Rattle.sound_state.proofs.Common.{Continuation, Point, Block, Partial, event_of, next_of, asked, plan_point_of, State, Step, Kept, reserving, waiting, partly_used}
use Rattle.sound_state.proofs.Common.{on_its_way, holds_before_pop, holds_of, Status, IsPartlyUsed, IsKeptAs, full_keeps, Lists, IsOwned, recalls_of, IsSoundWith}
use Rattle.sound_state.proofs.Common.{turn_stage_of, stock_among, sum_below, callers_sum, Superblock, IsChained, anchor_for, info_for, info_or_zero, superblock_of, live_at}
use Rattle.sound_state.proofs.Common.{is_there, is_bound, away_of, reserved_among, errand_reserves, errand_keeps, kept_among, IsAnchor, COUNT_BITS, anchor_of-anchor_word}
use Rattle.sound_state.proofs.Common.{Cas, heap_of, block_count_of-most, Handed, keep, holds_after_pop, IsActive, lacks_partial, same_status}
use Rattle.heap_geometry.specs.declared.need.Need.TheVariants as need
use Rattle.packed_words.specs.declared.anchor.AnchorState.{AnchorState as Phase}
use Rattle.packed_words.specs.declared.anchor.AnchorState.TheVariants as phase
use Rattle.step_parts.specs.declared.partial.point.PartialPoint.TheVariants as partial
use Rattle.step_parts.specs.partial.Grants.{grant_more, granted, granted_state}
use Rattle.word_table.specs.declared.name.WordName.TheVariants as name
use Rattle.step_parts.specs.superblock.Anchors.{returned}
use Rattle.step_parts.specs.declared.superblock.point.BlockPoint.TheVariants as block
use Rattle.errand_steps.specs.declared.continuation.Continuation.TheVariants as continuation
use Rattle.sound_state.proofs.quiet.QuietExchanges.{return_credits-lost}
use Rattle.sound_state.proofs.quiet.QuietPartials.{grant_lost-sound}
use Rattle.sound_state.proofs.shared.HasLemmas.{keeps-near, kept-itself}
use Rattle.sound_state.proofs.shared.PointLemmas.{fits-at, kept-at, hands-at, the-alloc, kept_places, recalled-at}
use Rattle.sound_state.proofs.shared.TurnEffects.{StandsIn}
use Rattle.sound_state.proofs.shifts.ShiftEffects.{Shifts}
use Rattle.sound_state.proofs.shared.StepLemmas.{at_point, keeps-counts}
use Rattle.sound_state.proofs.shared.SumLemmas.{term-sum}
use Rattle.sound_state.proofs.shared.CreditLemmas.{won_with}
use Rattle.sound_state.proofs.shared.TallyLemmas.{tally}
use Rattle.sound_state.proofs.shared.SuperblockEffects.{located-live}
use Rattle.sound_state.proofs.shared.WonEffects.{AnchorWon, anchor-won}
use Rattle.sound_state.proofs.shared.KeepsSound.{KeepsSound, KeepsSoundWhere, silent-sound, either-sound}
use Rattle.sound_state.proofs.SoundAfter.{shifted-sound}

-- a superblock with a live block has fewer free blocks than blocks
live-fewer : (b : Superblock) (i : ℕ) → IsChained b → i < b.size → b.live i ≡ 1 → b.anchor.count + b.reserved < b.size
live-fewer b i chained within live = omega (arith, tally b chained, term-sum b.size b.live i within, live)

-- a block that a caller owns is live, and counts as one
hand-live : (s : State) (caller place : ℕ) (n : Need) → IsOwned s caller place n → live_at s place ≡ 1
hand-live s caller place n owned = ap is_there owned.block.1

-- what a caller holds weighs before and after a return the same, with what is FULL; and what it has reserved goes
return-places :
    (at : Site) (i more : ℕ) (state : Phase) (d : ℕ) → full_keeps state ≡ 0
    → kept_places d (keep at.desc at.seat.class partly_used) + (if at.desc == d then full_keeps phase.Partial else 0)
    ≡ kept_places d (holds_after_pop at i more).kept + (if at.desc == d then full_keeps state else 0)
return-places at i more state d none = grind (arith, none)

return-stock :
    (at : Site) (i more : ℕ) (state : Phase) (c : ℕ) → full_keeps state ≡ 0
    → stock_among c (keep at.desc at.seat.class partly_used) + (if at.seat.class == c then full_keeps phase.Partial else 0)
    ≡ stock_among c (holds_after_pop at i more).kept + (if at.seat.class == c then full_keeps state else 0)
return-stock at i more state c none = grind (arith, none)

return-reserves : (at : Site) (i more : ℕ) → reserved_among at.desc (holds_after_pop at i more).credits ≡ more
return-reserves at i more = grind (arith)

return-elsewhere : (at : Site) (i more d : ℕ) → d ≢ at.desc → 0 ≡ reserved_among d (holds_after_pop at i more).credits
return-elsewhere at i more d ne = grind (arith, ne)

return-has : (at : Site) (i more : ℕ) → 1 ≤ kept_places at.desc (holds_after_pop at i more).kept
return-has at i more = grind (arith)

-- what is kept neither reserving nor partly used stays at a return
return-others :
    (status : Status) (at : Site) (i more d : ℕ) → same_status reserving status ≡ false → same_status partly_used status ≡ false
    → kept_among status d (keep at.desc at.seat.class partly_used) ≡ kept_among status d (holds_after_pop at i more).kept
return-others status at i more d reserves partly = grind (arith, reserves, partly)

return-stands : (at : Site) (i more : ℕ) (a : AnchorFields) (o : Continuation) → StandsIn false (Block (block.ReturnCredits at i more a) o)
return-stands at i more a o = grind (arith)

put-stands : (at : Site) (heap i words : ℕ) → StandsIn false (Partial (partial.PutSlot at.seat at.desc heap) (continuation.GiveBlock words at.desc at.frame i))
put-stands at heap i words = grind (arith)

-- the anchor of a partial superblock with the returned blocks
abbrev pub with_returned : ℕ → AnchorFields → AnchorFields
with_returned more a = record { avail = a.avail; count = a.count + more; state = phase.Partial; tag = a.tag }

-- the point to which a won return leads
abbrev pub puts_away : Site → ℕ → Continuation → Point
puts_away at i o = Partial (partial.PutSlot at.seat at.desc (heap_of at.seat)) (continuation.GiveBlock (asked o) at.desc at.frame i)

-- a return leaves fewer free blocks than all, since one is at hand
return-fewer :
    (g : Geometry) (s : State) (l : Lists) (caller : ℕ) (site : Site) (i more : ℕ) (a : AnchorFields) (o : Continuation) → IsSoundWith g s l
    → caller < g.callers → (s.errand caller).point ≡ Block (block.ReturnCredits site i more a) o
    → (anchor_for s site.desc).count + more < block_count_of site.seat.class
unfolding holds_of recalls_of callers_sum
return-fewer g s l caller site i more a o old has here =
    let p : Point = Block (block.ReturnCredits site i more a) o in
    let fit = fits-at g s l caller p old has here in
    let (so, none) = recalled-at g s l caller p old has here in
    let owned : IsOwned s caller (block_place site.frame site.seat.class i) (need.Small site.seat.class) =
    All-head (λ (x : Handed). IsOwned s caller x.place x.need)
    (record { place = block_place site.frame site.seat.class i; need = need.Small site.seat.class }) [] (hands-at g s l caller p old has here) in
    let sup : Superblock = superblock_of g s site.desc in
    let size : sup.size ≡ block_count_of site.seat.class = ap block_count_of so.1.class in
    let live : sup.live i ≡ 1 =
    located-live g s site.desc site.frame site.seat.class so.1 i
    ∙ hand-live s caller (block_place site.frame site.seat.class i) (need.Small site.seat.class) owned in
    let chained : IsChained sup = old.chained.chained site.desc fit.point.0.site.desc so.0 in
    let fewer = live-fewer sup i chained (omega (arith, size, fit.point.0.index)) live in
    let mine : errand_reserves site.desc (s.errand caller) ≡ more =
    ap (λ q. reserved_among site.desc (holds_of q).credits) here ∙ return-reserves site i more in
    let some : errand_reserves site.desc (s.errand caller) ≤ sum_below g.callers (λ j. errand_reserves site.desc (s.errand j)) =
    term-sum g.callers (λ j. errand_reserves site.desc (s.errand j)) caller has in
    omega (arith, fewer, size, mine, some)

returned-uncut : (more : ℕ) (a : AnchorFields) → a.count + more < 2 ^ COUNT_BITS → returned more a ≡ with_returned more a
returned-uncut more a room = ap (λ n. record (with_returned more a) { count = n }) (mod-eq_of_lt {n = a.count + more} {m = 2 ^ COUNT_BITS} room)

pub return-shifts :
    (g : Geometry) (s : State) (l : Lists) (caller : ℕ) (s' : State) (site : Site) (i more : ℕ) (a : AnchorFields) (o : Continuation)
    → IsSoundWith g s l → caller < g.callers → (s.errand caller).point ≡ Block (block.ReturnCredits site i more a) o
    → s.word (name.Anchor site.desc) ≡ anchor_word a → Step s caller s'
    → Shifts g s l caller site a (with_returned more a) (at_point (s.errand caller) (won_with (anchor_word a)) (puts_away site i o)) s'
unfolding event_of next_of plan_point_of holds_of recalls_of
return-shifts g s l caller s' site i more a o old has here word step =
    let p : Point = Block (block.ReturnCredits site i more a) o in
    let q : Point = puts_away site i o in
    let b : AnchorFields = with_returned more a in
    let fit = fits-at g s l caller p old has here in
    let (so, none) = recalled-at g s l caller p old has here in
    let active : IsActive s site.desc site.seat.class =
    All-head (λ k. IsKeptAs s k.status k.desc k.class) (record { desc = site.desc; class = site.seat.class; status = reserving }) []
    (kept-at g s l caller p old has here) in
    let fits : IsAnchor a = fit.point.2.fits in
    let was : anchor_for s site.desc ≡ a = ap anchor_of word ∙ anchor_of-anchor_word a fits in
    let fewer : a.count + more < block_count_of site.seat.class =
    subst (λ x. x.count + more < block_count_of site.seat.class) was (return-fewer g s l caller site i more a o old has here) in
    let room : a.count + more < 2 ^ COUNT_BITS = omega (arith, fewer, block_count_of-most site.seat.class) in
    let new : IsAnchor b = record { avail = fits.avail; count = room; tag = fits.tag } in
    let won : AnchorWon s caller p site.desc a b q s' =
    anchor-won s caller s' p site.desc a b q here word fits new
    (ap (λ x. Cas (name.Anchor site.desc) (anchor_word a) (anchor_word x)) (returned-uncut more a room)) (inl refl) step in
    let none : full_keeps a.state ≡ 0 = ap (λ x. full_keeps x.state) (sym was) ∙ ap full_keeps active.state in
    let some : 1 ≤ a.count + more = omega (arith, fit.point.1.0) in
    let info : info_for s' site.desc ≡ info_for s site.desc =
    ap (λ w. info_or_zero (info_of w)) (won.elsewhere (name.Info site.desc) (λ same. cc)) in
    record {
      in_heap = has;
      moves = won.step.moves;
      site = fit.point.0.site;
      bound = so.0;
      located = so.1;
      before = won.before;
      after = won.after;
      avail = refl;
      tag = refl;
      some = fewer;
      in_use = refl;
      full = λ is. cc;
      elsewhere = won.elsewhere;
      history = won.step.history;
      own = keeps-counts (s.errand caller) p (won_with (anchor_word a)) q here refl refl;
      reserves =
          let mine : reserved_among site.desc (holds_of (s.errand caller).point).credits ≡ more =
          ap (λ r. reserved_among site.desc (holds_of r).credits) here ∙ return-reserves site i more in
          omega (arith, mine);
      reserves_elsewhere = λ d ne. return-elsewhere site i more d ne ∙ sym (ap (λ r. reserved_among d (holds_of r).credits) here);
      waits = λ d. return-others waiting site i more d refl refl ∙ sym (ap (λ r. kept_among waiting d (holds_of r).kept) here);
      ways = λ d. return-others on_its_way site i more d refl refl ∙ sym (ap (λ r. kept_among on_its_way d (holds_of r).kept) here);
      places = λ d.
          subst
          (λ r. kept_places d (holds_of q).kept + (if site.desc == d then full_keeps b.state else 0)
          ≡ kept_places d (holds_of r).kept + (if site.desc == d then full_keeps a.state else 0)) (sym here)
          (return-places site i more a.state d none);
      stock = λ c.
          subst
          (λ r. stock_among c (holds_of q).kept + (if site.seat.class == c then full_keeps b.state else 0)
          ≡ stock_among c (holds_of r).kept + (if site.seat.class == c then full_keeps a.state else 0)) (sym here)
          (return-stock site i more a.state c none);
      has = subst (λ r. 1 ≤ kept_places site.desc (holds_of r).kept) (sym here) (return-has site i more);
      frames = λ f. sym (ap (λ r. occurs f (holds_of r).frames) here);
      hands = sym (ap (λ r. (holds_of r).hands) here);
      frees = sym (ap (λ r. (holds_of r).frees) here);
      clear_before = ap (λ r. (holds_of r).hazard) here;
      clear_after = refl;
      kept_after =
          All-cons (λ k. IsKeptAs s' k.status k.desc k.class) (record { desc = site.desc; class = site.seat.class; status = partly_used }) []
          (record {
            class = ap (λ x. x.class) info ∙ so.1.class;
            state = inl (ap (λ x. x.state) won.after, subst (λ x. 1 ≤ x.count) (sym won.after) some);
          })
          (All-nil (λ (k : Kept). IsKeptAs s' k.status k.desc k.class));
      recalls_after = λ lies. (lies, tt);
      giving = false;
      stands_before = subst (StandsIn false) (sym here) (return-stands site i more a o);
      stands_after = put-stands site (heap_of site.seat) i (asked o);
      partials = sym (ap (λ p. lacks_partial (turn_stage_of p)) here);
    }

-- the won return of reserved blocks keeps the state sound
pub return_credits_won-sound :
    (site : Site) (i more : ℕ) (a : AnchorFields) (o : Continuation)
    → KeepsSoundWhere (Block (block.ReturnCredits site i more a) o) (λ s. s.word (name.Anchor site.desc) ≡ anchor_word a)
return_credits_won-sound site i more a o g s caller s' sound has here word step =
    let l : Lists = sound.parts.0 in
    let old : IsSoundWith g s l = sound.parts.1 in
    let h = return-shifts g s l caller s' site i more a o old has here word step in
    silent-sound g s caller s' l sound has step h.history (shifted-sound h old)

-- what a caller keeps after a grant, by whether more than one block is granted
abbrev grant_keeps : ℕ → ℕ → Bool → List Kept
grant_keeps d class t = if t then keep d class reserving else []

abbrev grant_state : Bool → Phase
grant_state t = if t then phase.Active else phase.Full

grant-places :
    (x class : ℕ) (t : Bool) (state : Phase) (d : ℕ) → full_keeps state ≡ 0
    → kept_places d (grant_keeps x class t) + (if x == d then full_keeps (grant_state t) else 0)
    ≡ kept_places d (keep x class partly_used) + (if x == d then full_keeps state else 0)
grant-places x class true state d none = grind (arith, none)
grant-places x class false state d none = grind (arith, none)

grant-stock :
    (x class : ℕ) (t : Bool) (state : Phase) (c : ℕ) → full_keeps state ≡ 0
    → stock_among c (grant_keeps x class t) + (if class == c then full_keeps (grant_state t) else 0)
    ≡ stock_among c (keep x class partly_used) + (if class == c then full_keeps state else 0)
grant-stock x class true state c none = grind (arith, none)
grant-stock x class false state c none = grind (arith, none)

grant-others :
    (status : Status) (x class : ℕ) (t : Bool) (d : ℕ) → same_status reserving status ≡ false → same_status partly_used status ≡ false
    → kept_among status d (grant_keeps x class t) ≡ kept_among status d (keep x class partly_used)
grant-others status x class true d reserves partly = grind (arith, reserves, partly)
grant-others status x class false d reserves partly = grind (arith, partly)

grant-has : (x class : ℕ) → 1 ≤ kept_places x (keep x class partly_used)
grant-has x class = grind (arith)

grant-reserves : (x class more : ℕ) → reserved_among x (holds_before_pop x class (Grant more)).credits ≡ more + 1
grant-reserves x class more = grind (arith)

grant-elsewhere : (x class more d : ℕ) → d ≢ x → reserved_among d (holds_before_pop x class (Grant more)).credits ≡ 0
grant-elsewhere x class more d ne = grind (arith, ne)

grant-in_use : (t : Bool) → is_empty (grant_state t) ≡ false
grant-in_use true = refl
grant-in_use false = refl

grant-stands : (at : Site) (a : AnchorFields) (words : ℕ) → StandsIn true (Partial (partial.Grant at a) (continuation.Alloc words))
grant-stands at a words = grind (arith)

loads-stands : (at : Site) (more words : ℕ) → StandsIn true (Block (block.LoadAnchor at (Grant more)) (continuation.Alloc words))
loads-stands at more words = grind (arith)

grant-kept :
    (s : State) (d class : ℕ) (t : Bool) → (info_for s d).class ≡ class → (anchor_for s d).state ≡ grant_state t
    → All (λ k. IsKeptAs s k.status k.desc k.class) (grant_keeps d class t)
grant-kept s d class true is state =
    All-cons (λ k. IsKeptAs s k.status k.desc k.class) (record { desc = d; class = class; status = reserving }) []
    (record { class = is; state = state }) (All-nil (λ (k : Kept). IsKeptAs s k.status k.desc k.class))
grant-kept s d class false is state = All-nil (λ (k : Kept). IsKeptAs s k.status k.desc k.class)

-- a superblock that a grant makes FULL has no free block left
granted-full : (a : AnchorFields) → (granted a).state ≡ phase.Full → (granted a).count ≡ 0
granted-full a is =
    elim (cases_lt 0 (grant_more a.count)) [
      | inl some ↦
          let active : granted_state (grant_more a.count) ≡ phase.Active =
          cond-true {A = Phase} (nat_lt 0 (grant_more a.count)) phase.Active phase.Full (lt-ltb 0 (grant_more a.count) some) in
          let bad : phase.Active ≡ phase.Full = sym active ∙ is in absurd (cc)
      | inr none ↦ omega (arith, none)
    ]

-- a partly used superblock that isn't EMPTY has free blocks
partial-some :
    (s : State) (d c : ℕ) → IsPartlyUsed s d c → is_empty (anchor_for s d).state ≡ false
    → ((anchor_for s d).state ≡ phase.Partial) × (1 ≤ (anchor_for s d).count)
partial-some s d c is used =
    elim is.state [
      | inl some ↦ some
      | inr empty ↦ let bad : true ≡ false = sym (ap is_empty empty) ∙ used in absurd (cc)
    ]

granted-less : (a : AnchorFields) → (granted a).count ≤ a.count
granted-less a = omega arith

granted-together : (a : AnchorFields) → 1 ≤ a.count → (granted a).count + (grant_more a.count + 1) ≡ a.count
granted-together a some = omega (arith, some)

pub grant-shifts :
    (g : Geometry) (s : State) (l : Lists) (caller : ℕ) (s' : State) (site : Site) (a : AnchorFields) (words : ℕ)
    → IsSoundWith g s l → caller < g.callers → (s.errand caller).point ≡ Partial (partial.Grant site a) (continuation.Alloc words)
    → s.word (name.Anchor site.desc) ≡ anchor_word a → Step s caller s'
    → Shifts g s l caller site a (granted a)
    (at_point (s.errand caller) (won_with (anchor_word a)) (Block (block.LoadAnchor site (Grant (grant_more a.count))) (continuation.Alloc words))) s'
unfolding event_of next_of plan_point_of holds_of recalls_of
grant-shifts g s l caller s' site a words old has here word step =
    let p : Point = Partial (partial.Grant site a) (continuation.Alloc words) in
    let more : ℕ = grant_more a.count in
    let q : Point = Block (block.LoadAnchor site (Grant more)) (continuation.Alloc words) in
    let b : AnchorFields = granted a in
    let t : Bool = nat_lt 0 more in
    let d : ℕ = site.desc in
    let c : ℕ = site.seat.class in
    let fit = fits-at g s l caller p old has here in
    let (used, (lies, none)) = recalled-at g s l caller p old has here in
    let partly : IsPartlyUsed s d c =
    All-head (λ k. IsKeptAs s k.status k.desc k.class) (record { desc = d; class = c; status = partly_used }) [] (kept-at g s l caller p old has here) in
    let fits : IsAnchor a = fit.point.1.fits in
    let was : anchor_for s d ≡ a = ap anchor_of word ∙ anchor_of-anchor_word a fits in
    let used_still : is_empty (anchor_for s d).state ≡ false = ap (λ x. is_empty x.state) was ∙ used in
    let some : ((anchor_for s d).state ≡ phase.Partial) × (1 ≤ (anchor_for s d).count) = partial-some s d c partly used_still in
    let count : 1 ≤ a.count = subst (λ x. 1 ≤ x.count) was some.1 in
    let keeps : 1 ≤ errand_keeps partly_used d (s.errand caller) =
    subst (λ r. 1 ≤ kept_among partly_used d (holds_of r).kept) (sym here) (kept-itself partly_used d c) in
    let away : away_of g s l d ≡ 0 = keeps-near g s l caller d old has fit.point.0.desc keeps in
    let bound : IsTrue (is_bound g s l d) = rw (eq-eqb (away_of g s l d) 0 away, used_still) refl in
    let chained : IsChained (superblock_of g s d) = old.chained.chained d fit.point.0.desc bound in
    let size : (superblock_of g s d).size ≡ block_count_of c = ap block_count_of lies.class in
    let new : IsAnchor b = record { avail = fits.avail; count = omega (arith, fits.count, granted-less a); tag = fits.tag } in
    let won : AnchorWon s caller p d a b q s' =
    anchor-won s caller s' p d a b q here word fits new refl (inl refl) step in
    let none : full_keeps a.state ≡ 0 = ap (λ x. full_keeps x.state) (sym was) ∙ ap full_keeps some.0 in
    let info : info_for s' d ≡ info_for s d = ap (λ w. info_or_zero (info_of w)) (won.elsewhere (name.Info d) (λ same. cc)) in
    record {
      in_heap = has;
      moves = won.step.moves;
      site = fit.point.0;
      bound = bound;
      located = lies;
      before = won.before;
      after = won.after;
      avail = refl;
      tag = refl;
      some = omega (arith, granted-less a, chained.some, size, ap (λ x. x.count) was);
      in_use = grant-in_use t;
      full = granted-full a;
      elsewhere = won.elsewhere;
      history = won.step.history;
      own = keeps-counts (s.errand caller) p (won_with (anchor_word a)) q here refl refl;
      reserves =
          let mine : reserved_among d (holds_of (s.errand caller).point).credits ≡ 0 = ap (λ r. reserved_among d (holds_of r).credits) here in
          omega (arith, mine, grant-reserves d c more, granted-together a count);
      reserves_elsewhere = λ e ne. grant-elsewhere d c more e ne ∙ sym (ap (λ r. reserved_among e (holds_of r).credits) here);
      waits = λ e. grant-others waiting d c t e refl refl ∙ sym (ap (λ r. kept_among waiting e (holds_of r).kept) here);
      ways = λ e. grant-others on_its_way d c t e refl refl ∙ sym (ap (λ r. kept_among on_its_way e (holds_of r).kept) here);
      places = λ e.
          subst
          (λ r. kept_places e (holds_of q).kept + (if d == e then full_keeps b.state else 0)
          ≡ kept_places e (holds_of r).kept + (if d == e then full_keeps a.state else 0)) (sym here)
          (grant-places d c t a.state e none);
      stock = λ e.
          subst
          (λ r. stock_among e (holds_of q).kept + (if c == e then full_keeps b.state else 0)
          ≡ stock_among e (holds_of r).kept + (if c == e then full_keeps a.state else 0)) (sym here)
          (grant-stock d c t a.state e none);
      has = subst (λ r. 1 ≤ kept_places d (holds_of r).kept) (sym here) (grant-has d c);
      frames = λ f. sym (ap (λ r. occurs f (holds_of r).frames) here);
      hands = sym (ap (λ r. (holds_of r).hands) here);
      frees = sym (ap (λ r. (holds_of r).frees) here);
      clear_before = ap (λ r. (holds_of r).hazard) here;
      clear_after = refl;
      kept_after = grant-kept s' d c t (ap (λ x. x.class) info ∙ lies.class) (ap (λ x. x.state) won.after);
      recalls_after = λ lies. (lies, tt);
      giving = true;
      stands_before = subst (StandsIn true) (sym here) (grant-stands site a words);
      stands_after = loads-stands site more words;
      partials = sym (ap (λ p. lacks_partial (turn_stage_of p)) here);
    }

-- the won grant of blocks of a partial superblock keeps the state sound
pub grant_won-sound :
    (site : Site) (a : AnchorFields) (o : Continuation)
    → KeepsSoundWhere (Partial (partial.Grant site a) o) (λ s. s.word (name.Anchor site.desc) ≡ anchor_word a)
grant_won-sound site a o g s caller s' sound has here word step =
    let l : Lists = sound.parts.0 in
    let old : IsSoundWith g s l = sound.parts.1 in
    let alloc : o ≡ continuation.Alloc (asked o) = the-alloc o (fits-at g s l caller (Partial (partial.Grant site a) o) old has here).goes in
    let stands : (s.errand caller).point ≡ Partial (partial.Grant site a) (continuation.Alloc (asked o)) =
    here ∙ ap (λ o. Partial (partial.Grant site a) o) alloc in
    let h = grant-shifts g s l caller s' site a (asked o) old has stands word step in
    silent-sound g s caller s' l sound has step h.history (shifted-sound h old)

-- a return keeps the state sound, won or lost
pub return_credits-sound : (site : Site) (i more : ℕ) (a : AnchorFields) (o : Continuation) → KeepsSound (Block (block.ReturnCredits site i more a) o)
return_credits-sound site i more a o =
    either-sound _ (name.Anchor site.desc) (anchor_word a) (return_credits_won-sound site i more a o)
    (return_credits-lost site i more a o)

pub grant-sound : (site : Site) (a : AnchorFields) (need : ℕ) → KeepsSound (Partial (partial.Grant site a) (continuation.Alloc need))
grant-sound site a need =
    either-sound _ (name.Anchor site.desc) (anchor_word a) (grant_won-sound site a (continuation.Alloc need))
    (grant_lost-sound site a need)
