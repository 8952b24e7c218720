use Rattle.std.proofs.Common.{ℕ, Option, Some, sym, subst}
use Rattle.errand_steps.specs.declared.told.Ending.{Ending}
use Rattle.errand_steps.specs.Calls.{Call}
use Rattle.live_heap.specs.declared.answers.Resumed.{Resumed}
use Rattle.live_heap.specs.declared.block.Block.{Block}
use Rattle.live_heap.specs.declared.pass.Pass.{Pass}
use Rattle.live_heap.specs.Answers.{ResumeTells, reply_in}
use Rattle.live_heap.specs.Calls.{GoesOn}
use Rattle.live_heap.proofs.CallsAnswers.{ending-of_tried, resume-tells}
use Rattle.live_heap.proofs.PutsNone.{calling-puts}
use Rattle.live_heap.proofs.heap.Heap.resume.Goals as goal

pub go_on-requires-clause-puts : goal.go_on-requires-clause-puts
go_on-requires-clause-puts g c =
    let r = c.requires.under_way in
    calling-puts g.R.ShelfRule.allows r.first c.args.pass.now r.call r.steps r.tried r.calling

pub resumed_ended-requires : goal.resumed_ended-requires
resumed_ended-requires g c =
    let r = c.requires.under_way in
    let G : Option (Ending Block) → Type 0 = λ o. GoesOn r.first r.call r.steps c.args.pass.now c.args.tries (reply_in o) c.go_on.new.pass in
    let ends : G (Some c.in-Some.ending) = subst G c.in-Some.is (c.go_on.ensures.goes r.first r.call r.steps r.calling) in
    let all = ends.called.ended.ended in
    ending-of_tried r.call c.in-Some.ending all.0 r.tried all.1

pub returns-in-Some-clause-tells : goal.returns-in-Some-clause-tells
returns-in-Some-clause-tells g c =
    let r = c.requires.under_way in
    let p = c.args.pass.now in
    let q = c.go_on.new.pass in
    let G : Pass → Call → ℕ → Option (Ending Block) → Type 0 = λ first call made o. GoesOn first call made p c.args.tries (reply_in o) q in
    let ends : G r.first r.call r.steps (Some c.in-Some.ending) =
    subst (G r.first r.call r.steps) c.in-Some.is (c.go_on.ensures.goes r.first r.call r.steps r.calling) in
    let all = ends.called.ended.ended in
    let tried = ending-of_tried r.call c.in-Some.ending all.0 r.tried all.1 in
    λ first call made was calling.
    let T : Resumed → Type 0 = λ a. ResumeTells first call made p c.args.tries a q in
    subst T (sym c.resumed_ended.ensures)
    (resume-tells c.args.self.now first call made p c.args.tries c.in-Some.ending q was c.go_on.ensures.of tried
    (subst (G first call made) c.in-Some.is (c.go_on.ensures.goes first call made calling)))
