use Rattle.std.proofs.Common.{◌≡◌, ℕ, ◌+◌, ◌-◌, List, length, sym, ap, ◌∙◌, subst, arith, rules, refl}
use Rattle.heap_geometry.specs.declared.geometry.Geometry.{Geometry}
use Rattle.errand_steps.specs.Errands.{ErrandFields, open_errand}
use Rattle.live_heap.specs.declared.pass.Pass.{Pass}
use Rattle.live_heap.specs.Passes.{AreFrom}
use Rattle.live_heap.proofs.Dealt.{fresh, AreFrom-push}
use Rattle.live_heap.proofs.heap.Heap.open_with_rule.Goals as goal

pub returns-clause-passes : goal.returns-clause-passes
returns-clause-passes g c =
    let h = c.in_ok-heap.heap in
    let d = c.deal-seat.ensures in
    let ps = c.deal-seat.new.passes.items in
    let laid : h.layout ≡ c.args.geometry = c.in_ok-heap.ensures.0 in
    let callers = ap (λ (g : Geometry). g.callers) laid in
    let same : c.args.geometry.callers - 1 ≡ length ps = omega (arith, callers, d.passes.1) in
    let p : Pass = record { seat = c.deal-seat.result; errand = c.open.result; out = 0 } in
    let errand : c.open.result ≡ open_errand (length ps) h.layout = c.open.ensures ∙ ap (λ (y : ℕ × Geometry). open_errand y.0 y.1) (λ i. (same i, sym laid i)) in
    let number : c.open.result.caller ≡ 0 + length ps = ap (λ (e : ErrandFields). e.caller) errand ∙ omega arith in (
      subst (λ (l : List Pass). AreFrom h 0 l) (sym c.push_reserved.ensures.items)
          (AreFrom-push h 0 ps p d.passes.0 (fresh h p (length ps) (omega (arith, d.passes.1)) d.seat.0 d.seat.1 refl errand) number),
      search rules,
    )
