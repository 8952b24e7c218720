use Rattle.heap_census.specs.Census.{closed_state}
use Rattle.heap_census.proofs.BitLemmas.{clear-uncovered}
use Rattle.heap_census.proofs.RestLemmas.{closed-rests}
use Rattle.heap_census.proofs.laws.clear_units_are_uncovered.Goals as goal

pub returns : goal.returns
returns c = λ closed unit resting has.
    let (l, rests) = closed-rests closed resting in
    clear-uncovered closed.geometry (closed_state closed) l unit rests has
