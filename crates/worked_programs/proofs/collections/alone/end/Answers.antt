-- The heap was closed with its one pass, which held nothing and had begun calls.
use Rattle.std.proofs.Common.{◌≡◌, length, ap, ◌∙◌, arith}
use Rattle.heap_geometry.specs.declared.geometry.Geometry.{Geometry}
use Rattle.worked_programs.proofs.collections_lemmas.Ends.{built-there, one-has-worked, one-owns-nothing, one-pass, only-caller}
use Rattle.worked_programs.proofs.collections.alone.end.Goals as goal

pub returns-in-Ok-clause-nothing : goal.returns-in-Ok-clause-nothing
returns-in-Ok-clause-nothing c =
    let h = c.in_ok-heap.heap in
    let callers : h.layout.callers ≡ 1 = ap (λ (g : Geometry). g.callers) c.in_ok-heap.ensures.heap ∙ c.one_caller.ensures.callers in
    let none : length c.remove.new.self.items ≡ 0 = omega (arith, c.remove.ensures.len, c.in_ok-heap.ensures.passes.1, c.one_caller.ensures.callers) in
    let is = one-pass c.remove.new.self.items c.push_reserved.new.self.items c.in-Some.pass none c.push_reserved.ensures.items in
    let first =
    only-caller h c.in_ok-heap.passes.items c.remove.result c.in_ok-heap.ensures.passes.0 (c.in_ok-heap.ensures.passes.1 ∙ c.one_caller.ensures.callers)
    c.remove.ensures.value in
    one-owns-nothing c.calls_change_their_block.ensures.closed h c.in-Ok.closed c.push_reserved.new.self.items c.in-Some.pass callers is c.in-Ok.ensures.closed
    c.in-Ok.ensures.rests c.in-Some.ensures.2.0 (c.in-Some.ensures.2.1 ∙ first)

pub returns-in-Ok-clause-worked : goal.returns-in-Ok-clause-worked
returns-in-Ok-clause-worked c =
    let h = c.in_ok-heap.heap in
    let callers : h.layout.callers ≡ 1 = ap (λ (g : Geometry). g.callers) c.in_ok-heap.ensures.heap ∙ c.one_caller.ensures.callers in
    let none : length c.remove.new.self.items ≡ 0 = omega (arith, c.remove.ensures.len, c.in_ok-heap.ensures.passes.1, c.one_caller.ensures.callers) in
    let is = one-pass c.remove.new.self.items c.push_reserved.new.self.items c.in-Some.pass none c.push_reserved.ensures.items in
    let first =
    only-caller h c.in_ok-heap.passes.items c.remove.result c.in_ok-heap.ensures.passes.0 (c.in_ok-heap.ensures.passes.1 ∙ c.one_caller.ensures.callers)
    c.remove.ensures.value in
    one-has-worked h c.in-Ok.closed c.push_reserved.new.self.items c.in-Some.pass callers is c.in-Ok.ensures.closed (omega (arith, c.in-Some.ensures.2.2))
    (c.in-Some.ensures.2.1 ∙ first)

pub returns-in-Ok-clause-there : goal.returns-in-Ok-clause-there
returns-in-Ok-clause-there c =
    built-there c.in_ok-heap.heap c.in-Ok.closed c.push_reserved.new.self.items c.in-Some.built c.in-Ok.ensures.closed c.in-Some.ensures.1
