use Rattle.heap_census.proofs.CensusLemmas.{same-census}
use Rattle.heap_census.proofs.laws.closed_heaps_have_one_census.Goals as goal

pub returns : goal.returns
returns c = same-census
