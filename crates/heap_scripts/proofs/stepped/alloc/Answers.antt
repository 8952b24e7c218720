use Rattle.std.proofs.Common.{◌≡◌, List, sym, ◌∙◌, subst, rules}
use Rattle.errand_steps.specs.declared.reply.Begun.TheVariants as begun
use Rattle.errand_steps.specs.Begins.{IsIdle}
use Rattle.errand_steps.specs.Calls.{alloc}
use Rattle.live_heap.specs.declared.block.Block.{Block}
use Rattle.live_heap.specs.declared.pass.Pass.{Pass}
use Rattle.live_heap.specs.Hands.{IsHand}
use Rattle.live_heap.specs.Holdings.{Holds}
use Rattle.heap_scripts.proofs.stepped.alloc.Goals as goal

pub go_on-requires-clause-hand : goal.go_on-requires-clause-hand
go_on-requires-clause-hand c =
    let b = c.begin_alloc.ensures in
    let p = c.args.pass.now in
    let idle : IsIdle p.errand = search rules in
    let calling = c.calls_go_step_by_step.ensures.begins c.args.heap.now p c.begin_alloc.new.pass (alloc c.args.need) c.requires.of idle tt (sym b.answer ∙ c.in-Started.is) b.begun in
    subst (IsHand c.args.heap.now c.begin_alloc.new.pass) (sym c.reserve.ensures.items)
    (c.hands_go_through_steps.ensures.begun c.args.heap.now p c.begin_alloc.new.pass c.args.blocks.now.items (alloc c.args.need) c.requires.of
    (c.requires.holds idle) b.of (λ k d within. tt) tt calling)

pub go_on-requires-clause-busy : goal.go_on-requires-clause-busy
go_on-requires-clause-busy c =
    let b = c.begin_alloc.ensures in
    let p = c.args.pass.now in
    let idle : IsIdle p.errand = search rules in
    (c.calls_go_step_by_step.ensures.begins c.args.heap.now p c.begin_alloc.new.pass (alloc c.args.need) c.requires.of idle tt (sym b.answer ∙ c.in-Started.is) b.begun).busy

pub returns-in-TooLarge : goal.returns-in-TooLarge
returns-in-TooLarge c =
    let b = c.begin_alloc.ensures in
    let same : c.begin_alloc.new.pass ≡ c.args.pass.now =
    c.calls_go_step_by_step.ensures.unstarted c.args.pass.now c.begin_alloc.new.pass c.args.need b.begun
    (λ started. let e : begun.TooLarge ≡ begun.Started = sym c.in-TooLarge.is ∙ (b.answer ∙ started) in absurd cc) in
    subst (IsHand c.args.heap.now c.begin_alloc.new.pass) (sym c.reserve.ensures.items)
    (subst (λ (q : Pass). IsHand c.args.heap.now q c.args.blocks.now.items) (sym same) c.requires)

pub returns-in-Spent : goal.returns-in-Spent
returns-in-Spent c =
    let b = c.begin_alloc.ensures in
    let same : c.begin_alloc.new.pass ≡ c.args.pass.now =
    c.calls_go_step_by_step.ensures.unstarted c.args.pass.now c.begin_alloc.new.pass c.args.need b.begun
    (λ started. let e : begun.Spent ≡ begun.Started = sym c.in-Spent.is ∙ (b.answer ∙ started) in absurd cc) in
    subst (IsHand c.args.heap.now c.begin_alloc.new.pass) (sym c.reserve.ensures.items)
    (subst (λ (q : Pass). IsHand c.args.heap.now q c.args.blocks.now.items) (sym same) c.requires)
