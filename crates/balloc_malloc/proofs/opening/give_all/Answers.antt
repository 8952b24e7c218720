use Rattle.std.proofs.Common.{ℕ, arith, ◌≡◌, ◌+◌, ◌<◌, suc, List, ◌∷◌, length, sym, ap, ◌∙◌, subst, rules}
use Rattle.std.specs.Prelude.{slice_set}
use Rattle.std.proofs.lemmas.List.{length-set}
use Rattle.std.specs.Arc.{arc_value}
use Rattle.live_heap.specs.Heaps.{HeapFields}
use Rattle.live_heap.specs.declared.pass.Pass.{Pass}
use Rattle.live_heap.specs.Passes.{AreFrom, IsFresh}
use Rattle.memory_cache.specs.declared.paged.PagedCache.{PagedCache}
use Rattle.memory_cache.specs.Caches.{kept_in}
use Rattle.memory_cache.specs.Paged.{IsOut}
use Rattle.balloc_malloc.specs.Opened.{HoldNew, IsNew}
use Rattle.balloc_malloc.proofs.SeatLemmas.{given-one}
use Rattle.balloc_malloc.proofs.opening.give_all.Goals as goal

pub loop-pass-init : goal.loop-pass-init
loop-pass-init c =
    let rest : c.in_ok-heap.made.items ≡ c.into_iter-pass-iterator.result.rest.items = search rules in
    let same : arc_value c.in_ok-heap-2.heap ≡ c.in_ok-heap.heap = c.in_ok-heap-2.ensures.ok in
    record {
      can_next = tt;
      is_finite = tt;
      left =
          subst (λ (l : List Pass). AreFrom (arc_value c.in_ok-heap-2.heap) 0 l) rest
          (subst (λ (h : HeapFields). AreFrom h 0 c.in_ok-heap.made.items) (sym same) c.in_ok-heap.ensures.passes.0);
      count = omega (arith, ap length rest, c.in_ok-heap.ensures.passes.1, c.requires.callers);
      given = λ number low. absurd (omega (arith, low));
    }

pub cached-requires-clause-fresh : goal.cached-requires-clause-fresh
cached-requires-clause-fresh c =
    let h = arc_value c.in_ok-heap-2.heap in
    let i = c.loop-pass.invariant in
    let rest : c.loop-pass.pass-iterator.rest.items ≡ c.in-Some.pass ∷ c.next.new.self.rest.items = search rules in
    let left = subst (λ (l : List Pass). AreFrom h c.loop-pass.number l) rest i.left in
    subst (λ (k : HeapFields). IsFresh k c.in-Some.pass) (sym c.deref.ensures) left.0

pub loop-pass-preserved : goal.loop-pass-preserved
loop-pass-preserved c =
    let h = arc_value c.in_ok-heap-2.heap in
    let i = c.loop-pass.invariant in
    let rest : c.loop-pass.pass-iterator.rest.items ≡ c.in-Some.pass ∷ c.next.new.self.rest.items = search rules in
    let left = subst (λ (l : List Pass). AreFrom h c.loop-pass.number l) rest i.left in
    let made = c.new-in-loop-pass in
    let new = c.in_ok-cache.ensures.new in
    let pass : made.result.cache.cache.pass ≡ c.in-Some.pass = ap (λ (k : PagedCache). k.cache.pass) made.ensures.1 ∙ new.0 in
    let tenant : IsNew h c.loop-pass.number c.args.depth made.result = record {
      heap = made.ensures.0 ∙ c.in_ok-share.ensures;
      fresh = subst (IsFresh h) (sym pass) left.0;
      caller = ap (λ (p : Pass). p.errand.caller) pass ∙ left.1;
      none = subst (λ (k : PagedCache). (first size : ℕ) → ¬ IsOut k first size) (sym made.ensures.1) new.1;
      empty = ap (λ (k : PagedCache). kept_in k.cache) made.ensures.1 ∙ new.2;
      deep = ap (λ (k : PagedCache). k.cache.magazines.depth) made.ensures.1 ∙ new.3;
      hits = ap (λ (k : PagedCache). k.hits) made.ensures.1 ∙ new.4;
    } in
    let within : c.loop-pass.number < length c.loop-pass.seats = omega (arith, ap length rest, i.count, c.loop-pass.auto.seats) in
    let next : suc c.loop-pass.number ≡ c.loop-pass.number + 1 = omega arith in
    record {
      can_next = tt;
      is_finite = tt;
      left = subst (λ (n : ℕ). AreFrom h n c.next.new.self.rest.items) next left.2;
      count = omega (
        arith,
        ap length rest,
        i.count,
        length-set c.loop-pass.seats c.loop-pass.number c.take.new.self,
        length-set (slice_set c.loop-pass.seats c.loop-pass.number c.take.new.self) c.loop-pass.number c.give.new.self,
      );
      given = given-one h c.args.depth c.loop-pass.seats c.loop-pass.number c.take.new.self c.give.new.self c.in_ok-tenant.tenant.value within c.give.ensures
          (subst (IsNew h c.loop-pass.number c.args.depth) (sym c.in_ok-tenant.ensures.ok) tenant) i.given;
    }

pub returns : goal.returns
returns c =
    let h = arc_value c.in_ok-heap-2.heap in
    let i = c.loop-pass.invariant in
    let all : c.loop-pass.number ≡ c.args.geometry.callers =
    omega (arith, c.in-None.ensures.steps.0, c.loop-pass.pass-iterator.rest.ok.0, i.count, c.loop-pass.auto.seats, c.requires.callers) in (
      h,
      ap (λ (heap : HeapFields). heap.layout) c.in_ok-heap-2.ensures.ok ∙ c.in_ok-heap.ensures.heap,
      c.start.ensures ∙ ap (λ (heap : HeapFields). heap.region.at) c.deref-2.ensures,
      subst (λ (n : ℕ). HoldNew h c.args.depth n c.loop-pass.seats) all i.given,
    )
