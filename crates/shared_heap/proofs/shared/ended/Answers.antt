use Rattle.std.proofs.Common.{◌≡◌, ◌<◌, List, Option, IfSome, sym, subst, ◌∙◌, arith}
use Rattle.std.specs.Prelude.{Any}
use Rattle.live_heap.specs.Endings.{AreAllIdle, HasAccesses, HasClosed}
use Rattle.live_heap.specs.Heaps.{HeapFields}
use Rattle.live_heap.specs.declared.pass.Pass.{Pass}
use Rattle.shared_heap.specs.Counted.{passes_of}
use Rattle.shared_heap.proofs.EndLemmas.{all-given, all-idle, all-shares, takes-all}
use Rattle.shared_heap.proofs.shared.ended.Goals as goal

pub take_out-requires-clause-taken : goal.take_out-requires-clause-taken
take_out-requires-clause-taken c =
    let h = c.args.places.now.shared.key in
    let own = c.requires.receipt.0 in
    let all = takes-all h own c.args.receipt.number c.args.receipt.seat.me.1 c.requires.receipt.2
    (λ less. omega (arith, less, c.if-number-callers.false, c.requires.callers)) in
    (all.1, all.2, all.3.many ∙ sym c.requires.callers, all-shares h own all.1 all.3)

pub close-requires : goal.close-requires
close-requires c =
    let h = c.args.places.now.shared.key in
    let own = c.requires.receipt.0 in
    let all = takes-all h own c.args.receipt.number c.args.receipt.seat.me.1 c.requires.receipt.2
    (λ less. omega (arith, less, c.if-number-callers.false, c.requires.callers)) in
    let got = c.in-Ok.ensures all.1 all.2 (all.3.many ∙ sym c.requires.callers) (all-shares h own all.1 all.3) in
    let same : c.in-Some.heap ≡ h = subst (λ (o : Option HeapFields). IfSome o (λ x. x ≡ h)) c.in-Some.is got.1 in
    subst (λ (k : HeapFields). AreAllIdle k c.in-Ok.passes.items) (sym same)
    (subst (AreAllIdle h) (sym got.0) (all-idle h own all.1 all.3))

pub returns-in-Ok-close : goal.returns-in-Ok-close
returns-in-Ok-close c own over =
    let h = c.args.places.now.shared.key in
    let all = takes-all h own c.args.receipt.number c.args.receipt.seat.me.1 over
    (λ less. omega (arith, less, c.if-number-callers.false, c.requires.callers)) in
    let got = c.in-Ok.ensures all.1 all.2 (all.3.many ∙ sym c.requires.callers) (all-shares h own all.1 all.3) in
    let same : c.in-Some.heap ≡ h = subst (λ (o : Option HeapFields). IfSome o (λ x. x ≡ h)) c.in-Some.is got.1 in
    let closed = c.in-Ok-close.closed in (
      all.0,
      record {
        given = all-given h own all.1 all.3;
        closed = subst (λ (k : HeapFields). HasClosed k (passes_of all.1) closed) same
            (subst (λ (l : List Pass). HasClosed c.in-Some.heap l closed) got.0 c.in-Ok-close.ensures.closed);
        rests = c.in-Ok-close.ensures.rests;
        accesses = subst (HasAccesses closed) got.0 c.in-Ok-close.ensures.accesses;
      },
    )

pub returns : goal.returns
returns c own over =
    let h = c.args.places.now.shared.key in
    let all = takes-all h own c.args.receipt.number c.args.receipt.seat.me.1 over
    (λ less. omega (arith, less, c.if-number-callers.false, c.requires.callers)) in
    let got = c.in-Ok.ensures all.1 all.2 (all.3.many ∙ sym c.requires.callers) (all-shares h own all.1 all.3) in
    (all.0, record { given = all-given h own all.1 all.3; out = subst (Any (λ p. 0 < p.out)) got.0 c.in-Err.ensures.kept.2 })
