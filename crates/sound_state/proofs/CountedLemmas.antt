-- The counts of a legal history: a step whose event has its count keeps them.
use Rattle.std.proofs.Common.{ℕ, Option, Some, None, ◌≡◌, ◌<◌, List, sym, subst, refl}
use Rattle.sound_state.proofs.Common.{Geometry, Event, IsLegalWithoutCounts, pool_of, State, Step, with_event, IsSound, IsSoundWithoutCounts, IsLegalEvent}
use Rattle.sound_state.proofs.Common.{IsLegalEventWithoutCounts, EachAfter-push, event_at}
use Rattle.pool_model.specs.Legal.{IsLegal, IsCounted}
use Rattle.pool_model.proofs.HistoryLemmas.{EachAfter-last, legal-weaker}
use Rattle.sound_state.specs.Sound.{TellsCounted}
use Rattle.sound_state.proofs.counts.BareLemmas.{refusal-counted}
use Rattle.sound_state.proofs.counts.PartUsedLemmas.{look-counted}
use Rattle.sound_state.proofs.counts.TellCounts.{tells-counted}
use Rattle.sound_state.proofs.EveryStep.{steps-sound}

-- a sound state is one that is sound without counts, and whose history is legal
pub without-counts : (g : Geometry) (s : State) → IsSound g s → IsSoundWithoutCounts g s
without-counts g s sound = record { checked = sound.checked; legal = legal-weaker g s.history sound.legal; parts = sound.parts }

pub with-counts : (g : Geometry) (s : State) → IsSoundWithoutCounts g s → IsLegal g s.history → IsSound g s
with-counts g s sound legal = record { checked = sound.checked; legal = legal; parts = sound.parts }

-- a legal history stays legal with one more event that is legal but for its count, and has that
legal-with :
    (g : Geometry) (history : List Event) (event : Option Event) → ((e : Event) → event ≡ Some e → IsCounted g (pool_of history) e)
    → IsLegal g history → IsLegalWithoutCounts g (with_event history event) → IsLegal g (with_event history event)
legal-with g history None counted legal weaker = legal
legal-with g history (Some event) counted legal weaker =
    EachAfter-push (IsLegalEvent g) history event legal
    (EachAfter-last (IsLegalEventWithoutCounts g) history event weaker, counted event refl)

-- what a caller tells next has its number
pub tells-all : (g : Geometry) (s : State) (caller : ℕ) → IsSoundWithoutCounts g s → caller < g.callers → TellsCounted g s caller
tells-all g s caller sound has =
    let l = sound.parts.0 in
    let old = sound.parts.1 in
    tells-counted g s l caller old has
    (λ class is bare unkept unpaid. look-counted g s l caller class old has is bare unkept unpaid)
    (refusal-counted g s l caller old has)

-- every step keeps the counts of a legal history too
pub steps-counted : (g : Geometry) (s : State) (caller : ℕ) (s' : State) → IsSound g s → caller < g.callers → Step s caller s' → IsSound g s'
steps-counted g s caller s' sound has step =
    let before = without-counts g s sound in
    let after : IsSoundWithoutCounts g s' = steps-sound g s caller s' before has step in
    with-counts g s' after
    (subst (IsLegal g) (sym step.history)
    (legal-with g s.history (event_at s caller) (tells-all g s caller before has) sound.legal
    (subst (IsLegalWithoutCounts g) step.history after.legal)))
