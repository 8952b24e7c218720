-- Cleared counts are at most the turns.
use Rattle.std.proofs.Common.{ℕ, ◌<◌, ◌≤◌, ◌*◌, ◌^◌, arith}
use Rattle.sound_state.proofs.Common.{Geometry, State, Lists, IsSoundWith, IsSoundWithoutCounts, callers_sum, TAG_BITS, cleared_of, turns_of}
use Rattle.sound_state.proofs.shared.SumLemmas.{sum-most, term-sum}
use Rattle.sound_state.proofs.shared.TagLemmas.{small-freed, given-most, turns-most}

pub cleared-together : (g : Geometry) (s : State) → IsSoundWithoutCounts g s → callers_sum g cleared_of s.errand ≤ callers_sum g turns_of s.errand
cleared-together g s sound =
    let l : Lists = sound.parts.0 in
    let is : IsSoundWith g s l = sound.parts.1 in
    omega (arith, is.turned.emptied, small-freed g s.history sound.legal, given-most g s l sound.legal is)

-- a caller's cleared count is at most all callers' together
cleared-one : (g : Geometry) (s : State) (caller : ℕ) → caller < g.callers → (s.errand caller).cleared ≤ callers_sum g cleared_of s.errand
unfolding callers_sum
cleared-one g s caller has = term-sum g.callers (λ i. cleared_of (s.errand i)) caller has

-- all turns are at most the callers times the turn limit
turns-limited : (g : Geometry) (s : State) → IsSoundWithoutCounts g s → callers_sum g turns_of s.errand ≤ g.callers * g.turn_limit
unfolding callers_sum
turns-limited g s sound = grind (arith, sound, sum-most)

pub cleared-each : (g : Geometry) (s : State) (caller : ℕ) → IsSoundWithoutCounts g s → caller < g.callers → (s.errand caller).cleared ≤ g.callers * g.turn_limit
cleared-each g s caller sound has =
    omega (arith, cleared-one g s caller has, cleared-together g s sound, turns-limited g s sound)

pub cleared-far : (g : Geometry) (s : State) (caller : ℕ) → IsSoundWithoutCounts g s → caller < g.callers → (s.errand caller).cleared < 2 ^ TAG_BITS
cleared-far g s caller sound has =
    omega (arith, cleared-one g s caller has, cleared-together g s sound, turns-most g s sound.parts.0 sound.checked sound.parts.1)
