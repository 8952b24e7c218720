-- The heap was closed with its two passes, which held nothing and had begun calls.
use Rattle.std.proofs.Common.{◌≡◌, ◌*◌, length, ap, ◌∙◌, arith}
use Rattle.heap_geometry.specs.declared.geometry.Geometry.{Geometry}
use Rattle.worked_programs.proofs.collections_lemmas.Ends.{both-callers, both-have-worked, both-idle, both-own-nothing, built-there, has-built, two-passes}
use Rattle.worked_programs.proofs.collections.shared.share.Goals as goal

pub close-requires : goal.close-requires
close-requires g c =
    let h = c.in_ok-heap.heap in
    let callers : h.layout.callers ≡ 2 = ap (λ (g : Geometry). g.callers) c.in_ok-heap.ensures.heap ∙ c.two_callers.ensures.callers in
    let none : length c.remove-first.new.self.items ≡ 0 =
    omega (arith, c.remove-first.ensures.len, c.remove-second.ensures.len, c.in_ok-heap.ensures.passes.1, c.two_callers.ensures.callers) in
    let both = c.in-Some-Some in
    let is =
    two-passes c.remove-first.new.self.items c.push_reserved.new.self.items c.push_reserved-2.new.self.items both.first both.second none
    c.push_reserved.ensures.items c.push_reserved-2.ensures.items in
    both-idle h c.push_reserved-2.new.self.items both.first both.second callers is
    (has-built h (3 * c.args.things) c.remove-first.result c.join-one.result.0 (both.one, both.first) both.is-0 c.join-one.ensures.first).2.0
    (has-built h (3 * c.args.things) c.remove-second.result c.join-one.result.1 (both.other, both.second) both.is-1 c.join-one.ensures.second).2.0

pub returns-in-Ok-clause-nothing : goal.returns-in-Ok-clause-nothing
returns-in-Ok-clause-nothing g c =
    let h = c.in_ok-heap.heap in
    let callers : h.layout.callers ≡ 2 = ap (λ (g : Geometry). g.callers) c.in_ok-heap.ensures.heap ∙ c.two_callers.ensures.callers in
    let none : length c.remove-first.new.self.items ≡ 0 =
    omega (arith, c.remove-first.ensures.len, c.remove-second.ensures.len, c.in_ok-heap.ensures.passes.1, c.two_callers.ensures.callers) in
    let both = c.in-Some-Some in
    let is =
    two-passes c.remove-first.new.self.items c.push_reserved.new.self.items c.push_reserved-2.new.self.items both.first both.second none
    c.push_reserved.ensures.items c.push_reserved-2.ensures.items in
    let first = (has-built h (3 * c.args.things) c.remove-first.result c.join-one.result.0 (both.one, both.first) both.is-0 c.join-one.ensures.first).2 in
    let second = (has-built h (3 * c.args.things) c.remove-second.result c.join-one.result.1 (both.other, both.second) both.is-1 c.join-one.ensures.second).2 in
    let numbers =
    both-callers h c.in_ok-heap.passes.items c.remove-second.new.self.items c.remove-first.result c.remove-second.result c.in_ok-heap.ensures.passes.0
    (c.in_ok-heap.ensures.passes.1 ∙ c.two_callers.ensures.callers) c.remove-second.ensures.value c.remove-second.ensures.by_index.2
    c.remove-first.ensures.value in
    both-own-nothing c.calls_change_their_block.ensures.closed h c.in-Ok.closed c.push_reserved-2.new.self.items both.first both.second callers is
    c.in-Ok.ensures.closed c.in-Ok.ensures.rests first.0 second.0 (first.1 ∙ numbers.0) (second.1 ∙ numbers.1)

pub returns-in-Ok-clause-worked : goal.returns-in-Ok-clause-worked
returns-in-Ok-clause-worked g c =
    let h = c.in_ok-heap.heap in
    let callers : h.layout.callers ≡ 2 = ap (λ (g : Geometry). g.callers) c.in_ok-heap.ensures.heap ∙ c.two_callers.ensures.callers in
    let none : length c.remove-first.new.self.items ≡ 0 =
    omega (arith, c.remove-first.ensures.len, c.remove-second.ensures.len, c.in_ok-heap.ensures.passes.1, c.two_callers.ensures.callers) in
    let both = c.in-Some-Some in
    let is =
    two-passes c.remove-first.new.self.items c.push_reserved.new.self.items c.push_reserved-2.new.self.items both.first both.second none
    c.push_reserved.ensures.items c.push_reserved-2.ensures.items in
    let first = (has-built h (3 * c.args.things) c.remove-first.result c.join-one.result.0 (both.one, both.first) both.is-0 c.join-one.ensures.first).2 in
    let second = (has-built h (3 * c.args.things) c.remove-second.result c.join-one.result.1 (both.other, both.second) both.is-1 c.join-one.ensures.second).2 in
    let numbers =
    both-callers h c.in_ok-heap.passes.items c.remove-second.new.self.items c.remove-first.result c.remove-second.result c.in_ok-heap.ensures.passes.0
    (c.in_ok-heap.ensures.passes.1 ∙ c.two_callers.ensures.callers) c.remove-second.ensures.value c.remove-second.ensures.by_index.2
    c.remove-first.ensures.value in
    both-have-worked h c.in-Ok.closed c.push_reserved-2.new.self.items both.first both.second callers is c.in-Ok.ensures.closed
    (omega (arith, first.2)) (omega (arith, second.2)) (first.1 ∙ numbers.0) (second.1 ∙ numbers.1)

pub returns-in-Ok-clause-counts : goal.returns-in-Ok-clause-counts
returns-in-Ok-clause-counts g c =
    let h = c.in_ok-heap.heap in
    let both = c.in-Some-Some in (
      (has-built h (3 * c.args.things) c.remove-first.result c.join-one.result.0 (both.one, both.first) both.is-0 c.join-one.ensures.first).0,
      (has-built h (3 * c.args.things) c.remove-second.result c.join-one.result.1 (both.other, both.second) both.is-1 c.join-one.ensures.second).0,
    )

pub returns-in-Ok-clause-there : goal.returns-in-Ok-clause-there
returns-in-Ok-clause-there g c =
    let h = c.in_ok-heap.heap in
    let both = c.in-Some-Some in
    let first = has-built h (3 * c.args.things) c.remove-first.result c.join-one.result.0 (both.one, both.first) both.is-0 c.join-one.ensures.first in
    let second = has-built h (3 * c.args.things) c.remove-second.result c.join-one.result.1 (both.other, both.second) both.is-1 c.join-one.ensures.second in (
      built-there h c.in-Ok.closed c.push_reserved-2.new.self.items both.one c.in-Ok.ensures.closed first.1,
      built-there h c.in-Ok.closed c.push_reserved-2.new.self.items both.other c.in-Ok.ensures.closed second.1,
    )
