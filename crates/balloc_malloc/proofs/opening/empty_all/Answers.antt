use Rattle.std.proofs.Common.{arith, ◌<◌, length}
use Rattle.balloc_malloc.proofs.SeatLemmas.{all-empty, emptied-one}
use Rattle.balloc_malloc.proofs.opening.empty_all.Goals as goal

pub loop-number-preserved : goal.loop-number-preserved
loop-number-preserved c =
    let within : c.loop-number.number < length c.loop-number.seats = omega (arith, c.loop-number-test.true, c.loop-number.auto.seats) in
    emptied-one c.loop-number.seats c.loop-number.number c.take.new.self within c.take.ensures.empty c.loop-number.invariant

pub returns : goal.returns
returns c =
    all-empty c.loop-number.seats c.loop-number.number c.loop-number.invariant (omega (arith, c.loop-number-test.false, c.loop-number.auto.seats))
