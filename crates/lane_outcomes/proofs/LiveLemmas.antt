-- What is live, by the outcomes of lanes.
use Rattle.std.proofs.Common.{ℕ, ◌≡◌, ◌-◌, ◌^◌, ◌≤◌, List, [], ◌∷◌, Vec, Global, map, length, arith}
use Rattle.heap_geometry.specs.declared.geometry.Geometry.{Geometry}
use Rattle.heap_geometry.specs.Geometry.{IsChecked}
use Rattle.pool_model.specs.declared.event.Event.{Event}
use Rattle.pool_model.specs.Legal.{IsLegalWithoutCounts}
use Rattle.pool_model.specs.Pool.{live_words, pool_of}
use Rattle.pool_model.proofs.CapacityLemmas.{live-fits}
use Rattle.trace_text.specs.declared.trace.Op.{Op}
use Rattle.lane_outcomes.specs.declared.outcome.Outcome.{Outcome}
use Rattle.lane_outcomes.specs.LaneCounts.{AreHeld, as_one, as_words, live_of}
use Rattle.lane_outcomes.proofs.CountLemmas.{IsBalanced}
use Rattle.lane_outcomes.proofs.MeasureLemmas.{measure, measure-blocks, measure-words}

-- a lane's outcomes in memory are no more than memory can hold
pub held-lists : (vecs : List (Vec Outcome Global)) → AreHeld (map (λ lane. lane.items) vecs)
held-lists [] = tt
held-lists (vec ∷ vecs) = (omega (arith, vec.ok, vec.small), held-lists vecs)

-- the outcomes of balanced lanes count what is live
live-of :
    (f : ℕ → ℕ) (most live : ℕ) (history : List Event) (lanes : List (List Op)) (outcomes : List (List Outcome)) → IsBalanced f history lanes outcomes
    → measure f (pool_of history) ≡ live → live ≤ most → live_of f most lanes outcomes ≡ live
live-of f most live history lanes outcomes balanced is fits = omega (arith, balanced.total, balanced.few)

pub live-balanced :
    (g : Geometry) (history : List Event) (lanes : List (List Op)) (outcomes : List (List Outcome)) → IsChecked g → IsLegalWithoutCounts g history
    → IsBalanced as_one history lanes outcomes → IsBalanced as_words history lanes outcomes
    → (live_of as_one (2 ^ 32 - 1) lanes outcomes ≡ length (pool_of history)) × (live_of as_words (2 ^ 64 - 1) lanes outcomes ≡ live_words (pool_of history))
live-balanced g history lanes outcomes checked legal blocks words =
    let fits = live-fits g history legal in (
      live-of as_one (2 ^ 32 - 1) (length (pool_of history)) history lanes outcomes blocks (measure-blocks (pool_of history))
          (omega (arith, fits, checked.frames.1, checked.units.1)),
      live-of as_words (2 ^ 64 - 1) (live_words (pool_of history)) history lanes outcomes words (measure-words (pool_of history))
          (omega (arith, fits, checked.frames.1, checked.units.1)),
    )
