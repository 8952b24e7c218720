use Rattle.std.proofs.Common.{◌≡◌}
use Rattle.region_tests.specs.Lock.{idle}
use Rattle.region_tests.proofs.lock.Lock.add_often.Given as goal

abbrev pub invariant-loop : goal.invariant-loop
invariant-loop l = (l.seat.region ≡ l.initial.seat.region) × (l.seat.me ≡ idle)
