use Rattle.std.proofs.Common.{◌∙◌, ap, subst, sym}
use Rattle.heap_geometry.specs.declared.geometry.Geometry.{Geometry}
use Rattle.live_heap.specs.declared.pass.Pass.{Pass}
use Rattle.live_heap.specs.Passes.{IsFresh}
use Rattle.errand_steps.specs.Begins.{IsIdle}
use Rattle.worked_programs.proofs.ReuseEnds.{only-pass}
use Rattle.worked_programs.proofs.reuse.open.Goals as goal

pub returns-in-Ok : goal.returns-in-Ok
returns-in-Ok c =
    let h = c.in_ok-heap.heap in
    let p = c.remove.result in
    let cache = c.in-Ok.cache in
    let callers = ap (λ (g : Geometry). g.callers) c.in_ok-heap.ensures.heap ∙ c.one_caller.ensures.callers in
    let only =
    only-pass h c.in_ok-heap.passes.items p c.in_ok-heap.ensures.passes.0 (c.in_ok-heap.ensures.passes.1 ∙ c.one_caller.ensures.callers)
    c.remove.ensures.value in
    let same = sym c.in-Ok.ensures.pass in
    record {
      alone = callers;
      fresh = subst (IsFresh h) same only.0;
      first = ap (λ (q : Pass). q.errand.caller) c.in-Ok.ensures.pass ∙ only.1;
      rests = (c.in-Ok.ensures.cache h only.0.of, subst (λ (q : Pass). IsIdle q.errand) same only.2);
      empty = c.in-Ok.ensures.empty;
      depth = c.in-Ok.ensures.depth;
      hits = c.in-Ok.ensures.hits;
    }
