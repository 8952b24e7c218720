use Rattle.std.proofs.Common.{subst, sym, ◌∙◌}
use Rattle.errand_steps.specs.declared.continuation.Continuation.TheVariants.{Alloc}
use Rattle.errand_steps.specs.Begins.{IsIdle}
use Rattle.errand_steps.specs.Calls.{Call, alloc}
use Rattle.errand_steps.proofs.BegunErrands.{alloc-errand}
use Rattle.live_heap.specs.declared.pass.Pass.{Pass}
use Rattle.live_heap.specs.Answers.{AllocTells}
use Rattle.live_heap.specs.Calls.{IsCalling}
use Rattle.live_heap.specs.Going.{LinksNone}
use Rattle.live_heap.proofs.AllocLemmas.{alloc-answers, alloc-call, allocs-from, answer-fits}
use Rattle.live_heap.proofs.Begun.{of-rule}
use Rattle.live_heap.proofs.WalkLemmas.{walk-begins, walk-goes}
use Rattle.live_heap.proofs.heap.Heap.alloc_small.Goals as goal

pub alloc_on-requires : goal.alloc_on-requires
alloc_on-requires g c =
    let r = c.requires in
    let p = c.args.pass.now in
    let call : Call = alloc c.args.need in
    let q : Pass = record { seat = p.seat; errand = c.take_turn.new.self; out = p.out } in
    let active = c.alloc_from-active.result in
    let same = allocs-from p c.args.need c.args.class active q.errand r.class r.left c.alloc_from-active.ensures c.take_turn.ensures in
    let rule = alloc-errand p.errand c.args.need (of-rule c.args.self.now p r.of) r.idle in
    λ κs within. (
      within,
      (
        walk-begins p call q active (Alloc c.args.need) same c.args.self.now c.args.tries r.of r.idle tt (λ place about. absurd about) (subst IsIdle (sym c.take_turn.ensures) r.idle) rule r.tries (subst LinksNone (sym c.alloc_from-active.ensures) tt),
        (p, subst (IsCalling p call 0) (sym same) (alloc-call p c.args.need c.args.class r.idle r.class r.left)),
      ),
    )

pub returns-clause-of : goal.returns-clause-of
returns-clause-of g c = c.alloc_on.ensures.1.of

pub returns-clause-fits : goal.returns-clause-fits
returns-clause-fits g c = let (told, gone, answers) = c.alloc_on.ensures in λ is. answer-fits told (sym answers ∙ is)

pub returns-clause-tells : goal.returns-clause-tells
returns-clause-tells g c =
    let r = c.requires in
    let p = c.args.pass.now in
    let call : Call = alloc c.args.need in
    let q : Pass = record { seat = p.seat; errand = c.take_turn.new.self; out = p.out } in
    let end = c.alloc_on.new.pass in
    let active = c.alloc_from-active.result in
    let same = allocs-from p c.args.need c.args.class active q.errand r.class r.left c.alloc_from-active.ensures c.take_turn.ensures in
    let (told, gone, answers) = c.alloc_on.ensures in
    subst (λ a. AllocTells p c.args.need c.args.tries a end) (sym answers)
    (alloc-answers c.args.self.now p c.args.need c.args.tries told end r.of gone.of
    (walk-goes p call q active (Alloc c.args.need) same c.args.self.now c.args.tries told end
    (alloc-call p c.args.need c.args.class r.idle r.class r.left) gone))
