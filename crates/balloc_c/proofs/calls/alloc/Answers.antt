use Rattle.std.proofs.Common.{refl, inl, inr}
use Rattle.balloc_c.proofs.Packing.{few-same}
use Rattle.balloc_c.proofs.calls.alloc.Goals as goal

pub returns-in-Some-clause-few : goal.returns-in-Some-clause-few
returns-in-Some-clause-few c = few-same c.args.table.now c.wake.new.table c.wake.ensures.count

pub returns-in-Some-clause-answers : goal.returns-in-Some-clause-answers
returns-in-Some-clause-answers c = inl (c.wake.result, refl, c.wake.ensures.woken)

pub returns-in-None-clause-answers : goal.returns-in-None-clause-answers
returns-in-None-clause-answers c = inr (c.in-None.ensures.none refl, c.alloc_new.ensures.answers)
