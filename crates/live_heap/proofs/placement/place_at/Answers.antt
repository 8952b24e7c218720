use Rattle.std.proofs.Common.{arith}
use Rattle.live_heap.proofs.placement_lemmas.PlaceLemmas.{place-most, placed-is, two-fit}
use Rattle.live_heap.proofs.placement.place_at.Goals as goal

pub returns : goal.returns
returns c =
    placed-is c.args._layout.now c.args.stretches c.args.index c.passed.result c.passed-2.result c.passed-3.result
    c.requires.stretches c.passed.ensures c.passed-2.ensures c.passed-3.ensures

pub overflow_add-result-3 : goal.overflow_add-result-3
overflow_add-result-3 c = omega (arith, returns c, place-most c.args._layout.now c.args.index c.requires.checked c.requires.index)

pub overflow_mul-result : goal.overflow_mul-result
overflow_mul-result c = omega (arith, overflow_add-result-3 c)

pub overflow_add-result-2 : goal.overflow_add-result-2
overflow_add-result-2 c = omega (arith, overflow_add-result-3 c)

pub overflow_add-result : goal.overflow_add-result
overflow_add-result c =
    omega (arith, two-fit c.args._layout.now c.args.stretches c.args.index c.passed.result c.passed-2.result c.requires.checked c.requires.stretches c.passed.ensures c.passed-2.ensures)
