-- The won exchanges of the stack of available descriptors keep the state sound.
use Rattle.std.proofs.Common.{ℕ, true, false, None, ◌≡◌, ◌<◌, ◌+◌, List, [], ◌∷◌, refl, arith, ap, sym, subst, inl, ◌∙◌, ◌==◌, All, eq-eqb}
use Rattle.std.proofs.lemmas.Bool.{cond-true}
use Rattle.std.proofs.lemmas.List.Elements.{All-head, All-tail, All-from_recursion}
use Rattle.sound_state.proofs.Common.{Geometry, Found, name_of, after_action, descriptor_count, SeatFields, Writes, occurs, Partials, Stacked, next_in, Continuation, Desc}
use Rattle.sound_state.proofs.Common.{ErrandFields, counts_cleared, raised, event_of, next_of, plan_point_of, State, Moves, found_at, with_event, IsGuard, holds_of}
use Rattle.sound_state.proofs.Common.{IsWithout, Lists, IsSo, recalls_of}
use Rattle.word_table.specs.declared.name.WordName.TheVariants as name
use Rattle.step_parts.specs.declared.hazard.point.DescPoint.TheVariants as desc
use Rattle.sound_state.proofs.shared.HasLemmas.{ways-one}
use Rattle.sound_state.proofs.shared.ShownLemmas.{with_available}
use Rattle.sound_state.proofs.descriptors.DescRecalls.{recalls-popped}
use Rattle.sound_state.proofs.descriptors.DescWeighs.{ListWeighs, restocks-by}
use Rattle.sound_state.proofs.hazards.HazardLemmas.{plain-guards, leads-at}
use Rattle.sound_state.proofs.shared.PointLemmas.{exists-at, hazard-at, recalled-at}
use Rattle.sound_state.proofs.quiet.QuietDescs.{pop_desc_lost-sound}
use Rattle.sound_state.proofs.shared.StepLemmas.{PointStands, at_point, may-step, found_from}
use Rattle.sound_state.proofs.shared.KeepsSound.{KeepsSound, KeepsSoundWhere, silent-sound, either-sound}
use Rattle.sound_state.proofs.SoundAfter.{shown-sound, sound-but_one}

-- a stack whose top names a descriptor begins with it
pub first-of :
    (next : ℕ → ℕ) (d : ℕ) (xs : List ℕ) → Stacked next (d + 1) xs → (ys : List ℕ) × (xs ≡ d ∷ ys) × Stacked next (next d) ys
first-of next d [] stack = let bad : ⊥ = omega (arith, stack) in absurd bad
first-of next d (x ∷ xs) stack =
    let same : x ≡ d = omega (arith, stack.0) in
    (xs, ap (λ k. k ∷ xs) same, subst (λ k. Stacked next (next k) xs) same stack.1)

pop-weighs :
    (l : Lists) (seat : SeatFields) (d next : ℕ) (o : Continuation) (ys : List ℕ) (e : ErrandFields) (x : Found)
    → e.point ≡ Desc (desc.PopDesc seat d next) o → l.available ≡ d ∷ ys
    → ListWeighs l ys e (at_point e x (Desc (desc.ClearAfterPop seat d) o))
unfolding holds_of
pop-weighs l seat d next o ys e x stands is = grind (arith, stands, is, ways-one)

pop_desc-stands :
    (g : Geometry) (s : State) (l : Lists) (caller : ℕ) (seat : SeatFields) (d next : ℕ) (o : Continuation) → IsWithout s d
    → All (IsSo g s l caller) (recalls_of (Desc (desc.ClearAfterPop seat d) o))
    → PointStands g s l caller (Desc (desc.PopDesc seat d next) o) (Desc (desc.ClearAfterPop seat d) o)
unfolding holds_of recalls_of
pop_desc-stands g s l caller seat d next o without so = grind (arith, without, so)

-- the won pop of the first available descriptor keeps the state sound: the caller keeps it on its way
pub pop_desc_won-sound :
    (seat : SeatFields) (d next : ℕ) (o : Continuation) → KeepsSoundWhere (Desc (desc.PopDesc seat d next) o) (λ s. s.word name.DescHead ≡ d + 1)
unfolding plan_point_of next_of event_of holds_of recalls_of
pop_desc_won-sound seat d next o g s caller s' sound has at won step =
    let p = Desc (desc.PopDesc seat d next) o in
    let q = Desc (desc.ClearAfterPop seat d) o in
    let l = sound.parts.0 in
    let old = sound.parts.1 in
    let is_won : (s.word name.DescHead == d + 1) ≡ true = eq-eqb (s.word name.DescHead) (d + 1) won in
    let after = leads-at s caller p q at (rw is_won refl) in
    let e = at_point (s.errand caller) (found_at s caller) q in
    let writes : Writes s.word name.DescHead next s'.word =
    subst (λ v. Writes s.word name.DescHead v s'.word) (rw is_won refl)
    (subst (λ r. Writes s.word (name_of (plan_point_of r)) (after_action (plan_point_of r) (s.word (name_of (plan_point_of r)))) s'.word) at step.word) in
    let event : event_of caller p (found_from s p) ≡ None = rw is_won refl in
    let past : s'.history ≡ s.history =
    step.history ∙ ap (with_event s.history) (subst (λ r. event_of caller r (found_from s r) ≡ None) (sym at) event) in
    let (noticed, rest) = recalled-at g s l caller p old has at in
    let stack : Stacked (next_in s.word Partials) (d + 1) l.available =
    subst (λ top. Stacked (next_in s.word Partials) top l.available) won old.listed.available in
    let first = first-of (next_in s.word Partials) d l.available stack in
    let ys = first.0 in
    let is : l.available ≡ d ∷ ys = first.1 in
    let on : 0 < occurs d l.available = subst (λ zs. 0 < occurs d zs) (sym is) (omega (arith, cond-true {A = ℕ} (d == d) 1 0 (eq-eqb d d refl))) in
    let link : s.word (name.Next d) ≡ next = noticed on in
    let without : All (IsWithout s) (d ∷ ys) = subst (All (IsWithout s)) is old.kept.available in
    let exist : All (λ k. k < descriptor_count g) (d ∷ ys) = subst (All (λ k. k < descriptor_count g)) is old.listed.available_exist in
    let stands : PointStands g s l caller (s.errand caller).point q =
    subst (λ r. PointStands g s l caller r q) (sym at)
    (pop_desc-stands g s l caller seat d next o (All-head (IsWithout s) d ys without) (All-from_recursion (IsSo g s l caller) (recalls_of q) rest)) in
    let cleared : counts_cleared (s.errand caller).point (found_at s caller) ≡ false =
    subst (λ r. counts_cleared r (found_at s caller) ≡ false) (sym at) refl in
    let guards =
    plain-guards g s caller q (s.errand caller).retired (s.word (name.Hazard caller)) (hazard-at g s l caller p old has at)
    (λ k named guard. inl (record { word = named; guard = subst (λ r. IsGuard (holds_of r).hazard) (sym at) tt })) refl refl refl in
    let restocks =
    restocks-by g s l caller e s' ys next old has (exists-at g s caller p sound has at) writes (subst (λ f. Moves s.errand caller f s'.errand) after step.errand) past
    (ap (λ b. raised b (s.errand caller).cleared) cleared)
    (may-step g s l caller (found_at s caller) q old has cleared stands)
    guards (subst (λ top. Stacked (next_in s.word Partials) top ys) link first.2) (All-tail (λ k. k < descriptor_count g) d ys exist)
    (All-tail (IsWithout s) d ys without) (pop-weighs l seat d next o ys (s.errand caller) (found_at s caller) at is)
    (λ i has_i. recalls-popped l d ys is (s.errand i).point)
    (recalls-popped l d ys is q) in
    silent-sound g s caller s' (with_available l ys) sound has step past
    (shown-sound restocks (sound-but_one g s l caller old))

-- a pop of an available descriptor, won or lost, keeps the state sound
pub pop_desc-sound : (seat : SeatFields) (d next : ℕ) (o : Continuation) → KeepsSound (Desc (desc.PopDesc seat d next) o)
pop_desc-sound seat d next o = either-sound _ name.DescHead (d + 1) (pop_desc_won-sound seat d next o) (pop_desc_lost-sound seat d next o)
