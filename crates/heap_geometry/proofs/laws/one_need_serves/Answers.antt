use Rattle.heap_geometry.proofs.NeedLemmas.{need_of-is, need_of-usable}
use Rattle.heap_geometry.proofs.laws.one_need_serves.Goals as goal

pub returns-clause-one : goal.returns-clause-one
returns-clause-one c = need_of-is

pub returns-clause-each : goal.returns-clause-each
returns-clause-each c = need_of-usable
