use Rattle.std.proofs.Common.{ℕ, ◌≡◌, ◌<◌, length}
use Rattle.heap_geometry.specs.declared.limits.TheConstants.{MAX_UNITS}
use Rattle.plain_pool.specs.Search.{IsMarked, TakesUnit}
use Rattle.plain_pool.proofs.VisitLemmas.{AllBut}
use Rattle.plain_pool.proofs.PlacesLemmas.{MarksRun}
use Rattle.plain_pool.proofs.places.taken_units.Given as goal

-- the units of the runs so far are marked, and no others
abbrev pub invariant-loop-place : goal.invariant-loop-place
invariant-loop-place l =
    record {
      len : length l.taken ≡ MAX_UNITS;
      only : (unit : ℕ) → unit < MAX_UNITS → IsMarked l.taken unit → TakesUnit l.blocks l.frames unit;
      all : AllBut (MarksRun l.frames l.taken) l.blocks l.place-iterator;
    }
