-- What a caller expects after a step at a partial superblock it expected before, or its step saw it.
use Rattle.std.proofs.Common.{ℕ, ◌≢◌, ◌<◌, ◌+◌, ◌^◌, refl, arith, All, ◌==◌, eqb-true}
use Rattle.std.proofs.lemmas.Bool.{cond_both}
use Rattle.sound_state.proofs.Common.{Geometry, anchor_word, anchor_of, name_of, info_in, active_name, PartialPoint, is_empty, Continuation, Partial, next_of}
use Rattle.sound_state.proofs.Common.{plan_point_of, Onward, desc_named, anchor_in, slot_name, PartialExit, plan_partial_of, seat_of_partial, slot_of, FitsInPartial}
use Rattle.sound_state.proofs.Common.{enter_partial}
use Rattle.word_table.specs.declared.name.WordName.TheVariants as name
use Rattle.word_table.specs.declared.onward.Onward.TheVariants.{Stays, Leaves}
use Rattle.step_parts.specs.declared.partial.exit.PartialExit.TheVariants as exit
use Rattle.step_parts.specs.declared.partial.point.PartialPoint.TheVariants as partial
use Rattle.step_parts.specs.partial.Grants.{grant_more}
use Rattle.step_parts.specs.partial.Points.{after_kept, after_taken_info, after_live, after_owner, after_displaced}
use Rattle.sound_laws.specs.bounds.Expectations.{expects_of}
use Rattle.errand_steps.specs.tables.Expected.{continuation_expects}
use Rattle.sound_laws.proofs.bounds_lemmas.ExpectLemmas.{read-anchor, IsIn, MayOne, MayAll, all-in, all-in_rest, continuation-carried, load-seen, expects-none, option_both}
use Rattle.sound_laws.proofs.bounds_lemmas.ExpectLemmas.{named-desc, alloc-active}
use Rattle.sound_laws.proofs.bounds_lemmas.StackExpects.{put-leads}
use Rattle.sound_laws.proofs.bounds_lemmas.WinDefs.{ExpectsOn, next_expects}

-- what waits behind a part at a partial superblock is expected there
partial-holds : (p : PartialPoint) (o : Continuation) → All (IsIn (expects_of (Partial p o))) (continuation_expects (seat_of_partial p) o)
unfolding expects_of
partial-holds p o = grind (arith, all-in, all-in_rest)

-- no step at a partial superblock is on an active word
partial-apart : (p : PartialPoint) → active_name (seat_of_partial p) ≢ name_of (plan_partial_of p)
partial-apart p = grind (arith)

-- a step from p to the point q, or to n, carries or sees all that its caller expects after it
abbrev PartialCarries : PartialPoint → Continuation → ℕ → PartialPoint → Type 0
PartialCarries p o v q = MayAll (Partial p o) v (expects_of (Partial q o))

abbrev PartialLeads : PartialPoint → Continuation → ℕ → Onward PartialPoint PartialExit → Type 0
PartialLeads p o v n = MayAll (Partial p o) v (next_expects (enter_partial n o))

-- what waits behind a part at a partial superblock is carried by the step
partial-continuation-carried : (p : PartialPoint) (o : Continuation) (v : ℕ) → MayAll (Partial p o) v (continuation_expects (seat_of_partial p) o)
unfolding plan_point_of
partial-continuation-carried p o v = continuation-carried (Partial p o) v (seat_of_partial p) o (partial-holds p o) (partial-apart p)

-- a step at a partial superblock carries or sees all that its caller expects after it
pub partial-expects :
    (g : Geometry) (caller : ℕ) (p : PartialPoint) (o : Continuation) (v : ℕ) → FitsInPartial g caller p o → v < 2 ^ 64 → ExpectsOn (Partial p o) v
unfolding plan_point_of next_of expects_of
partial-expects g caller (partial.LoadSlot s) o v fits below =
    let p = partial.LoadSlot s in
    cond_both (v == 0) (Leaves (exit.SlotEmpty s)) (Stays (after_kept s (desc_named s.geometry v))) (PartialLeads p o v) (λ bare. partial-continuation-carried p o v)
    (λ some.
    option_both (after_kept s) (desc_named s.geometry v) (PartialCarries p o v) (partial-continuation-carried p o v)
    (λ d is. load-seen (Partial p o) v (slot_name s) (d + 1) (continuation_expects s o) refl (named-desc s.geometry v d is) (partial-continuation-carried p o v)))
partial-expects g caller (partial.LoadGrantAnchor at) o v fits below =
    let p = partial.LoadGrantAnchor at in
    cond_both (is_empty (anchor_of v).state) (Leaves (exit.TookEmpty at)) (Stays (after_live at (anchor_in at.seat.class v))) (PartialLeads p o v)
    (λ bare. alloc-active (MayOne (Partial p o) v) at.seat o fits.goes (partial-continuation-carried p o v))
    (λ live.
    option_both (after_live at) (anchor_in at.seat.class v) (PartialCarries p o v) (partial-continuation-carried p o v)
    (λ a is. load-seen (Partial p o) v (name.Anchor at.desc) (anchor_word a) (continuation_expects at.seat o) refl (read-anchor at.seat.class v a below is)
    (partial-continuation-carried p o v)))
partial-expects g caller (partial.Grant at a) o v fits below =
    let p = partial.Grant at a in
    cond_both (v == anchor_word a) (Leaves (exit.Granted at (grant_more a.count))) (Stays (partial.LoadGrantAnchor at)) (PartialLeads p o v)
    (λ won. alloc-active (MayOne (Partial p o) v) at.seat o fits.goes (partial-continuation-carried p o v)) (λ lost. partial-continuation-carried p o v)
partial-expects g caller (partial.PutSlot s d heap) o v fits below =
    let p = partial.PutSlot s d heap in
    cond_both (v == 0) (Leaves (exit.SlotFilled s)) (after_displaced s d heap (desc_named s.geometry v)) (PartialLeads p o v)
    (λ bare. put-leads (MayOne (Partial p o) v) s o)
    (λ some.
    option_both (after_displaced s d heap) (desc_named s.geometry v) (PartialLeads p o v) (partial-continuation-carried p o v)
    (λ other is. partial-continuation-carried p o v))
partial-expects g caller (partial.LoadHeldSlot s d heap) o v fits below =
    let p = partial.LoadHeldSlot s d heap in
    cond_both (v == d + 1) (Stays (partial.RemoveFromSlot s d heap)) (Leaves (exit.NotInSlot s)) (PartialLeads p o v)
    (λ same. load-seen (Partial p o) v (slot_of s heap) (d + 1) (continuation_expects s o) refl (eqb-true v (d + 1) same) (partial-continuation-carried p o v))
    (λ other. expects-none (Partial p o) v)
partial-expects g caller (partial.LoadTakenInfo s d) o v fits below =
    let p = partial.LoadTakenInfo s d in
    option_both (after_taken_info s d) (info_in s.geometry v) (PartialCarries p o v) (partial-continuation-carried p o v) (λ info is. partial-continuation-carried p o v)
partial-expects g caller (partial.LoadOwner s d) o v fits below =
    let p = partial.LoadOwner s d in
    option_both (after_owner s d) (info_in s.geometry v) (PartialCarries p o v) (partial-continuation-carried p o v) (λ info is. partial-continuation-carried p o v)
partial-expects g caller p o v fits below = grind (arith, partial-continuation-carried p o v, expects-none (Partial p o) v)
