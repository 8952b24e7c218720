use Rattle.std.proofs.Common.{length, arith}
use Rattle.std.specs.Prelude.{slice_index_or}
use Rattle.std.proofs.lemmas.List.FromFn.{fill_by_all}
use Rattle.live_heap.proofs.lending.copy_and_clear.Goals as goal

pub returns : goal.returns
returns c =
    fill_by_all (λ i. slice_index_or c.args.from.now i 0) c.loop-i.to (length c.args.to.now) 0 c.loop-i.auto.to
    (λ k has. c.loop-i.invariant k (omega (arith, has, c.loop-i.auto.to, c.loop-i-test.false)))
