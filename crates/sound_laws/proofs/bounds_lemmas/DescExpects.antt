-- What a caller expects after a step at the descriptors or the hazard words it expected before, or its step saw it.
use Rattle.std.proofs.Common.{ℕ, ◌≢◌, ◌+◌, List, refl, arith, All, ◌==◌}
use Rattle.std.proofs.lemmas.Bool.{cond_both, eqb-true}
use Rattle.std.proofs.lemmas.List.Elements.{All-nil}
use Rattle.sound_state.proofs.Common.{Geometry, name_of, SeatFields, active_name, DescPoint, Continuation, Desc, next_of, plan_point_of}
use Rattle.word_table.specs.declared.name.WordName.TheVariants as name
use Rattle.word_table.specs.Seats.{desc_named}
use Rattle.step_parts.specs.declared.hazard.point.DescPoint.TheVariants as desc
use Rattle.step_parts.specs.hazard.Points.{plan_desc_of, seat_of_desc, link_in, after_head, after_next, after_hazard, after_top}
use Rattle.errand_steps.specs.Fits.{FitsInDesc}
use Rattle.errand_steps.specs.Nexts.{enter_desc}
use Rattle.errand_steps.specs.tables.Expected.{Expected, continuation_expects}
use Rattle.errand_steps.specs.tables.Descs.{desc_expects}
use Rattle.sound_laws.specs.bounds.Expectations.{expects_of}
use Rattle.sound_state.proofs.shared.WordFacts.{link-some}
use Rattle.sound_laws.proofs.bounds_lemmas.ExpectLemmas.{AllApart, unmoved, unmoved-carried, IsIn, MayOne, MayAll, all-in, all-in_rest, continuation-carried, load-seen, option_both}
use Rattle.sound_laws.proofs.bounds_lemmas.ExpectLemmas.{named-desc}
use Rattle.sound_laws.proofs.bounds_lemmas.WinDefs.{ExpectsOn, next_expects}

-- what waits behind a part at the descriptors or the hazard words is expected there
desc-holds : (p : DescPoint) (o : Continuation) → All (IsIn (expects_of (Desc p o))) (continuation_expects (seat_of_desc p) o)
unfolding expects_of
desc-holds p o = grind (arith, all-in, all-in_rest)

-- no step at the descriptors or the hazard words is on an active word
desc-apart : (p : DescPoint) → active_name (seat_of_desc p) ≢ name_of (plan_desc_of p)
desc-apart p = grind (arith)

-- behind the read of a hazard word no more is expected than by what waits behind the part
hazard-leads :
    (P : Expected → Type 0) (s : SeatFields) (held : List ℕ) (at v : ℕ) (o : Continuation) → All P (continuation_expects s o)
    → All P (next_expects (enter_desc (after_hazard s held at v) o))
unfolding expects_of
hazard-leads P s held at v o rest = grind (arith, rest)

-- a step from p to q carries or sees all that its caller expects after it
abbrev DescCarries : DescPoint → Continuation → ℕ → DescPoint → Type 0
DescCarries p o v q = MayAll (Desc p o) v (expects_of (Desc q o))

-- what waits behind a part at the descriptors or the hazard words is carried by the step
desc-continuation-carried : (p : DescPoint) (o : Continuation) (v : ℕ) → MayAll (Desc p o) v (continuation_expects (seat_of_desc p) o)
unfolding plan_point_of
desc-continuation-carried p o v = continuation-carried (Desc p o) v (seat_of_desc p) o (desc-holds p o) (desc-apart p)

-- a step that neither exchanges nor reads the head is on none of the words of which its caller expects something
still-apart : (p : DescPoint) (o : Continuation) → AllApart (Desc p o) (unmoved (plan_desc_of p) (desc_expects p o))
unfolding plan_point_of
still-apart p o = grind (arith)

-- such a step carries what its caller expects
desc-carried : (p : DescPoint) (o : Continuation) (v : ℕ) → MayAll (Desc p o) v (unmoved (plan_desc_of p) (desc_expects p o))
unfolding plan_point_of expects_of
desc-carried p o v = unmoved-carried (Desc p o) v (desc_expects p o) refl (still-apart p o)

-- a step at the descriptors or the hazard words carries or sees all that its caller expects after it
pub desc-expects : (g : Geometry) (caller : ℕ) (p : DescPoint) (o : Continuation) (v : ℕ) → FitsInDesc g caller p o → ExpectsOn (Desc p o) v
unfolding plan_point_of next_of expects_of
desc-expects g caller (desc.LoadDescHead s) o v fits =
    let p = desc.LoadDescHead s in
    option_both (after_head s) (desc_named s.geometry v) (DescCarries p o v) (desc-continuation-carried p o v)
    (λ d is. load-seen (Desc p o) v name.DescHead (d + 1) (continuation_expects s o) refl (named-desc s.geometry v d is) (desc-continuation-carried p o v))
desc-expects g caller (desc.ReloadDescHead s d) o v fits =
    let p = desc.ReloadDescHead s d in
    cond_both (v == d + 1) (desc.LoadNextDesc s d) (desc.LoadDescHead s) (DescCarries p o v)
    (λ same. load-seen (Desc p o) v name.DescHead (d + 1) (continuation_expects s o) refl (eqb-true v (d + 1) same) (desc-continuation-carried p o v))
    (λ other. desc-continuation-carried p o v)
desc-expects g caller (desc.LoadHeadToPush s d) o v fits =
    let p = desc.LoadHeadToPush s d in
    option_both (after_top s d) (link_in s.geometry v) (DescCarries p o v) (desc-continuation-carried p o v)
    (λ top is. load-seen (Desc p o) v name.DescHead top (continuation_expects s o) refl (link-some s.geometry v top is) (desc-continuation-carried p o v))
desc-expects g caller (desc.LoadNextDesc s d) o v fits =
    let p = desc.LoadNextDesc s d in
    option_both (after_next s d) (link_in s.geometry v) (DescCarries p o v) (desc-carried p o v) (λ next is. desc-carried p o v)
desc-expects g caller (desc.ReadHazard s held at) o v fits =
    hazard-leads (MayOne (Desc (desc.ReadHazard s held at) o) v) s held at v o (desc-continuation-carried (desc.ReadHazard s held at) o v)
desc-expects g caller p o v fits =
    grind (arith, fits.goes, desc-continuation-carried p o v, desc-carried p o v, All-nil (MayOne (Desc p o) v))
