use Rattle.std.proofs.Common.{Option, Some, None, sym, ◌∙◌, subst, refl, inl}
use Rattle.errand_steps.specs.declared.told.Ending.{Ending}
use Rattle.errand_steps.specs.Calls.{alloc}
use Rattle.live_heap.specs.declared.answers.AllocAnswer.{AllocAnswer}
use Rattle.live_heap.specs.declared.block.Block.{Block}
use Rattle.live_heap.specs.Answers.{AllocTells, reply_in}
use Rattle.live_heap.specs.Calls.{GoesOn}
use Rattle.live_heap.proofs.CallsGrow.{alloc-calling}
use Rattle.live_heap.proofs.CallsAnswers.{alloc-tells, begins-too_large, ended-not_too_large, ending-of_alloc, ends-since, interrupted-since, spent-at_once, spent-within, started-within, too_large-same}
use Rattle.live_heap.proofs.heap.Heap.alloc_begun.Goals as goal

pub go_on-requires-clause-busy : goal.go_on-requires-clause-busy
go_on-requires-clause-busy g c =
    let b = c.begin_alloc.ensures in
    (alloc-calling c.args.pass.now c.begin_alloc.new.pass c.args.need b.begun c.requires.idle (sym b.answer ∙ c.in-Started.is)).busy

pub alloc_ended-requires : goal.alloc_ended-requires
alloc_ended-requires g c =
    let b = c.begin_alloc.ensures in
    let calling = alloc-calling c.args.pass.now c.begin_alloc.new.pass c.args.need b.begun c.requires.idle (sym b.answer ∙ c.in-Started.is) in
    let G : Option (Ending Block) → Type 0 = λ o. GoesOn c.args.pass.now (alloc c.args.need) 0 c.begin_alloc.new.pass c.args.tries (reply_in o) c.go_on.new.pass in
    let ends : G (Some c.in-Some.ending) = subst G c.in-Some.is (c.go_on.ensures.goes c.args.pass.now (alloc c.args.need) 0 calling) in
    let all = ends.called.ended.ended in
    ending-of_alloc c.args.need c.in-Some.ending all.0 all.1

pub returns-in-TooLarge-clause-too_large : goal.returns-in-TooLarge-clause-too_large
returns-in-TooLarge-clause-too_large g c =
    let b = c.begin_alloc.ensures in
    (λ is. begins-too_large c.args.pass.now.errand c.args.need (sym b.answer ∙ c.in-TooLarge.is), λ more. refl)

pub returns-in-TooLarge-clause-tells : goal.returns-in-TooLarge-clause-tells
returns-in-TooLarge-clause-tells g c =
    let b = c.begin_alloc.ensures in
    too_large-same c.args.pass.now c.begin_alloc.new.pass c.args.need (sym b.answer ∙ c.in-TooLarge.is) b.begun

pub returns-in-Spent-clause-too_large : goal.returns-in-Spent-clause-too_large
returns-in-Spent-clause-too_large g c =
    let b = c.begin_alloc.ensures in
    (λ is. absurd (cc), λ more. absurd (spent-within c.args.pass.now.errand c.args.need (sym b.answer ∙ c.in-Spent.is) more))

pub returns-in-Spent-clause-tells : goal.returns-in-Spent-clause-tells
returns-in-Spent-clause-tells g c =
    let b = c.begin_alloc.ensures in
    inl (spent-at_once c.args.pass.now c.begin_alloc.new.pass c.args.need (sym b.answer ∙ c.in-Spent.is) b.begun)

pub returns-in-Some-clause-too_large : goal.returns-in-Some-clause-too_large
returns-in-Some-clause-too_large g c =
    let b = c.begin_alloc.ensures in (
      λ is. absurd (ended-not_too_large c.in-Some.ending (sym c.alloc_ended.ensures ∙ is)),
      λ more. absurd (started-within c.args.pass.now.errand c.args.need (sym b.answer ∙ c.in-Started.is) more),
    )

pub returns-in-Some-clause-tells : goal.returns-in-Some-clause-tells
returns-in-Some-clause-tells g c =
    let b = c.begin_alloc.ensures in
    let p = c.args.pass.now in
    let q = c.go_on.new.pass in
    let calling = alloc-calling p c.begin_alloc.new.pass c.args.need b.begun c.requires.idle (sym b.answer ∙ c.in-Started.is) in
    let G : Option (Ending Block) → Type 0 = λ o. GoesOn p (alloc c.args.need) 0 c.begin_alloc.new.pass c.args.tries (reply_in o) q in
    let ends : G (Some c.in-Some.ending) = subst G c.in-Some.is (c.go_on.ensures.goes p (alloc c.args.need) 0 calling) in
    let T : AllocAnswer Block → Type 0 = λ a. AllocTells p c.args.need c.args.tries a q in
    subst T (sym c.alloc_ended.ensures)
    (alloc-tells c.args.self.now p c.args.need c.args.tries c.in-Some.ending q c.requires.of c.go_on.ensures.of
    (ends-since p c.begin_alloc.new.pass (alloc c.args.need) c.args.tries q b.begun _ ends))

pub returns-in-None-clause-too_large : goal.returns-in-None-clause-too_large
returns-in-None-clause-too_large g c =
    let b = c.begin_alloc.ensures in
    (λ is. absurd (cc), λ more. absurd (started-within c.args.pass.now.errand c.args.need (sym b.answer ∙ c.in-Started.is) more))

pub returns-in-None-clause-tells : goal.returns-in-None-clause-tells
returns-in-None-clause-tells g c =
    let b = c.begin_alloc.ensures in
    let p = c.args.pass.now in
    let q = c.go_on.new.pass in
    let calling = alloc-calling p c.begin_alloc.new.pass c.args.need b.begun c.requires.idle (sym b.answer ∙ c.in-Started.is) in
    let G : Option (Ending Block) → Type 0 = λ o. GoesOn p (alloc c.args.need) 0 c.begin_alloc.new.pass c.args.tries (reply_in o) q in
    let over : G None = subst G c.in-None.is (c.go_on.ensures.goes p (alloc c.args.need) 0 calling) in
    interrupted-since p c.begin_alloc.new.pass (alloc c.args.need) c.args.tries q b.begun over
