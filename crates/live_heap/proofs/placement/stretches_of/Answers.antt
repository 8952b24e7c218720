use Rattle.std.proofs.Common.{arith, subst}
use Rattle.heap_geometry.specs.Geometry.{IsChecked}
use Rattle.live_heap.proofs.placement_lemmas.PlaceLemmas.{some-before, some-descriptor}
use Rattle.live_heap.proofs.placement.stretches_of.Goals as goal

pub index-requires : goal.index-requires
index-requires c = some-descriptor c.args.layout.now (subst IsChecked c.geometry-geometry.ensures.value c.geometry-geometry.ensures.checked)

pub overflow_sub-result : goal.overflow_sub-result
overflow_sub-result c =
    let some = some-before c.args.layout.now (subst IsChecked c.geometry-geometry.ensures.value c.geometry-geometry.ensures.checked) in
    omega (arith, c.index.ensures.place, some.0)

pub overflow_sub-result-2 : goal.overflow_sub-result-2
overflow_sub-result-2 c =
    let some = some-before c.args.layout.now (subst IsChecked c.geometry-geometry.ensures.value c.geometry-geometry.ensures.checked) in
    omega (arith, c.index-2.ensures.place, some.1)

pub overflow_sub-result-3 : goal.overflow_sub-result-3
overflow_sub-result-3 c =
    let some = some-before c.args.layout.now (subst IsChecked c.geometry-geometry.ensures.value c.geometry-geometry.ensures.checked) in
    omega (arith, c.index-3.ensures.place, some.2)
