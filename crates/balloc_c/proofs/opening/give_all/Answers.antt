use Rattle.std.proofs.Common.{ℕ, arith, ◌≡◌, ◌+◌, ◌<◌, suc, List, ◌∷◌, length, sym, ap, ◌∙◌, subst, rules}
use Rattle.std.specs.Prelude.{slice_set}
use Rattle.std.proofs.lemmas.List.{length-set}
use Rattle.std.specs.Arc.{arc_value}
use Rattle.live_heap.specs.Heaps.{HeapFields}
use Rattle.live_heap.specs.declared.pass.Pass.{Pass}
use Rattle.live_heap.specs.Passes.{AreFrom, IsFresh}
use Rattle.shared_heap.specs.declared.shared.SharedHeap.{SharedHeap}
use Rattle.shared_heap.specs.declared.shared.Ticket.{Ticket}
use Rattle.shared_heap.specs.Shares.{IsDealerOf, IsTicketOf}
use Rattle.block_cache.specs.declared.cache.Cache.{Cache}
use Rattle.block_cache.specs.Caches.{cached_in}
use Rattle.balloc_c.specs.Opened.{HoldNew, IsNew}
use Rattle.balloc_c.specs.Slots.{blocks_of}
use Rattle.balloc_c.proofs.OpenLemmas.{given-one}
use Rattle.balloc_c.proofs.opening.give_all.Goals as goal

pub loop-pass-init : goal.loop-pass-init
loop-pass-init c =
    let rest : c.in_ok-heap.made.items ≡ c.into_iter-pass-iterator.result.rest.items = search rules in
    let same : arc_value c.in_ok-heap-2.heap.heap ≡ c.in_ok-heap.heap = c.in_ok-heap-2.ensures.heap in
    record {
      can_next = tt;
      is_finite = tt;
      left =
          subst (λ (l : List Pass). AreFrom (arc_value c.in_ok-heap-2.heap.heap) 0 l) rest
          (subst (λ (h : HeapFields). AreFrom h 0 c.in_ok-heap.made.items) (sym same) c.in_ok-heap.ensures.passes.0);
      count = omega (arith, ap length rest, c.in_ok-heap.ensures.passes.1, c.requires.callers);
      dealer = c.in_ok-heap-2.ensures.dealer;
      given = λ number low. absurd (omega (arith, low));
    }

pub cached-requires-clause-fresh : goal.cached-requires-clause-fresh
cached-requires-clause-fresh c =
    let h = arc_value c.in_ok-heap-2.heap.heap in
    let i = c.loop-pass.invariant in
    let rest : c.loop-pass.pass-iterator.rest.items ≡ c.in-Some.pass ∷ c.next.new.self.rest.items = search rules in
    let left = subst (λ (l : List Pass). AreFrom h c.loop-pass.number l) rest i.left in
    subst (λ (k : HeapFields). IsFresh k c.in-Some.pass) (sym c.heap-own.ensures) left.0

pub new-requires-in-loop-pass-clause-ticket : goal.new-requires-in-loop-pass-clause-ticket
new-requires-in-loop-pass-clause-ticket c =
    let ticket = c.ticket-ticket.result in
    let it = c.in_ok-share.ensures.tickets c.loop-pass.dealer.next ticket c.ticket-ticket.ensures.ticket in
    subst (λ (n : ℕ). IsTicketOf c.in_ok-share.share n ticket) (sym it.caller_is) it

pub loop-pass-preserved : goal.loop-pass-preserved
loop-pass-preserved c =
    let h = arc_value c.in_ok-heap-2.heap.heap in
    let i = c.loop-pass.invariant in
    let rest : c.loop-pass.pass-iterator.rest.items ≡ c.in-Some.pass ∷ c.next.new.self.rest.items = search rules in
    let left = subst (λ (l : List Pass). AreFrom h c.loop-pass.number l) rest i.left in
    let made = c.new-in-loop-pass in
    let new = c.in_ok-cache.ensures.new in
    let pass : made.result.cache.pass ≡ c.in-Some.pass = ap (λ (k : Cache). k.pass) made.ensures.parts.1 ∙ new.0 in
    let hand : IsNew h c.loop-pass.number c.args.depth made.result = record {
      heap = ap (λ (shared : SharedHeap). arc_value shared.heap) made.ensures.parts.0 ∙ c.in_ok-share.ensures.heap;
      fresh = subst (IsFresh h) (sym pass) left.0;
      caller = ap (λ (p : Pass). p.errand.caller) pass ∙ left.1;
      ticket = ap (λ (t : Ticket). t.caller) made.ensures.parts.2 ∙ c.ticket-ticket.ensures.ticket.caller_is ∙ i.dealer.next_is;
      bare = made.ensures.bare;
      blocks = ap blocks_of made.ensures.bare;
      empty = ap cached_in made.ensures.parts.1 ∙ new.1;
      deep = ap (λ (k : Cache). k.magazines.depth) made.ensures.parts.1 ∙ new.2;
      rooms = made.ensures.rooms;
      hits = ap (λ (k : Cache). k.hits) made.ensures.parts.1 ∙ new.3;
    } in
    let within : c.loop-pass.number < length c.loop-pass.passes = omega (arith, ap length rest, i.count, c.loop-pass.auto.passes) in
    let next : suc c.loop-pass.number ≡ c.loop-pass.number + 1 = omega arith in
    record {
      can_next = tt;
      is_finite = tt;
      left = subst (λ (n : ℕ). AreFrom h n c.next.new.self.rest.items) next left.2;
      count = omega (
        arith,
        ap length rest,
        i.count,
        length-set c.loop-pass.passes c.loop-pass.number c.take.new.self,
        length-set (slice_set c.loop-pass.passes c.loop-pass.number c.take.new.self) c.loop-pass.number c.give.new.self,
      );
      dealer = subst (λ (n : ℕ). IsDealerOf c.in_ok-heap-2.heap (n + 1) c.ticket-ticket.new.dealer) i.dealer.next_is c.ticket-ticket.ensures.dealer;
      given = given-one h c.args.depth c.loop-pass.passes c.loop-pass.number c.take.new.self c.give.new.self c.in_ok-hand.hand.value within c.give.ensures
          (subst (IsNew h c.loop-pass.number c.args.depth) (sym c.in_ok-hand.ensures.ok) hand) i.given;
    }

pub returns : goal.returns
returns c =
    let h = arc_value c.in_ok-heap-2.heap.heap in
    let i = c.loop-pass.invariant in
    let all : c.loop-pass.number ≡ c.args.geometry.callers =
    omega (arith, c.in-None.ensures.steps.0, c.loop-pass.pass-iterator.rest.ok.0, i.count, c.loop-pass.auto.passes, c.requires.callers) in (
      h,
      ap (λ (heap : HeapFields). heap.layout) c.in_ok-heap-2.ensures.heap ∙ c.in_ok-heap.ensures.heap,
      subst (λ (n : ℕ). HoldNew h c.args.depth n c.loop-pass.passes) all i.given,
    )
