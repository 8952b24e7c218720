-- A closed heap is a sound state, and bounds what its callers lost.
use Rattle.std.proofs.Common.{ℕ, ◌<◌, ◌≤◌, ◌+◌, ◌*◌, length, arith, subst}
use Rattle.std.specs.Prelude.{◌-◌, ◌^◌, count_by}
use Rattle.pool_model.specs.Legal.{IsLegal}
use Rattle.sound_laws.specs.bounds.Contention.{lost_of, won_of}
use Rattle.sound_state.specs.Sound.{IsSound}
use Rattle.sound_state.specs.Sums.{callers_sum}
use Rattle.sound_state.specs.Turns.{gives_small, refuses_small}
use Rattle.sound_laws.proofs.bounds_lemmas.LossLemmas.{losses-bounded}
use Rattle.step_machine.specs.Cores.{errand_at, state_of}
use Rattle.step_machine.proofs.CoreLemmas.{core-sound, run-won}
use Rattle.live_heap.specs.Endings.{ClosedFields, IsResting, machine_of}

-- a closed heap's state is sound, and so its history is legal
pub closed-sound : (c : ClosedFields) (rests : IsResting c) → IsSound c.geometry (state_of (machine_of c rests.steps))
closed-sound c rests = core-sound (machine_of c rests.steps) rests.core

pub closed-legal : (c : ClosedFields) → IsResting c → IsLegal c.geometry c.events
closed-legal c rests = (closed-sound c rests).legal

-- the lost exchanges of a closed heap are at most the wins, times the other callers
pub closed-losses :
    (c : ClosedFields) → IsResting c → callers_sum c.geometry lost_of (errand_at c.errands) ≤ (c.geometry.callers - 1) * length c.wins
closed-losses c rests =
    let most = (run-won c.geometry (state_of (machine_of c rests.steps)) rests.steps rests.core.run).contended.most in
    subst (λ l. callers_sum c.geometry lost_of (errand_at c.errands) ≤ (c.geometry.callers - 1) * length l) rests.wins (omega (arith, most))

-- the lost exchanges of a closed heap are at most the won ones, times the other callers, where no count stands at its end
pub closed-contended :
    (c : ClosedFields) → IsResting c
    → ((caller : ℕ) → caller < c.geometry.callers → (errand_at c.errands caller).won < 2 ^ 64 - 1)
    → callers_sum c.geometry lost_of (errand_at c.errands) ≤ (c.geometry.callers - 1) * callers_sum c.geometry won_of (errand_at c.errands)
closed-contended c rests below =
    losses-bounded c.geometry (state_of (machine_of c rests.steps)) rests.core.run.wins
    (run-won c.geometry (state_of (machine_of c rests.steps)) rests.steps rests.core.run) below

-- each caller of a closed heap took a turn for each answer
pub closed-answers :
    (c : ClosedFields) (caller : ℕ) → IsResting c → caller < c.geometry.callers
    → count_by (gives_small caller) c.events + count_by (refuses_small caller) c.events ≤ (errand_at c.errands caller).turns
closed-answers c caller rests has = omega (arith, (closed-sound c rests).parts.1.turned.own_answers caller has)
