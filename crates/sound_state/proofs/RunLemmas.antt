-- Whatever callers make steps in whatever order, the state stays sound.
use Rattle.std.proofs.Common.{ℕ, ◌<◌, List, [], ◌∷◌, sym, subst, inl, inr, All}
use Rattle.std.proofs.lemmas.List.Elements.{All-head, All-tail}
use Rattle.sound_state.proofs.Common.{Geometry, State, IsSound, Run}
use Rattle.errand_steps.specs.Steps.{ScheduleSlot}
use Rattle.sound_state.proofs.CountedLemmas.{steps-counted}

-- a turn of a schedule, in which a caller makes a step or none, keeps the state sound
turn-sound :
    (g : Geometry) (s : State) (caller n : ℕ) (s' : State) → IsSound g s → caller < g.callers → ScheduleSlot s caller n s'
    → IsSound g s'
turn-sound g s caller n s' sound has (inl idle) = subst (IsSound g) (sym idle.2) sound
turn-sound g s caller n s' sound has (inr one) = steps-counted g s caller s' sound has one.0

pub runs-sound :
    (g : Geometry) (s : State) (callers : List ℕ) (n : ℕ) (s' : State) → IsSound g s → All (λ caller. caller < g.callers) callers
    → Run s callers n s' → IsSound g s'
runs-sound g s [] n s' sound has run = subst (IsSound g) (sym run.1) sound
runs-sound g s (caller ∷ rest) n s' sound has run =
    let next : State = run.0 in
    let first : IsSound g next =
    turn-sound g s caller run.1 next sound (All-head (λ i. i < g.callers) caller rest has) run.3 in
    runs-sound g next rest run.2 s' first (All-tail (λ i. i < g.callers) caller rest has) run.4
