use Rattle.std.proofs.Common.{Option, Some, None, subst}
use Rattle.errand_steps.specs.declared.told.Ending.{Ending}
use Rattle.errand_steps.specs.Calls.{Call, free}
use Rattle.live_heap.specs.declared.block.Block.{Block}
use Rattle.live_heap.specs.Answers.{reply_in}
use Rattle.live_heap.specs.Calls.{GoesOn}
use Rattle.live_heap.proofs.Begun.{heap-block}
use Rattle.live_heap.proofs.CallsGrow.{other-calling}
use Rattle.live_heap.proofs.CallsAnswers.{ends-since, free-tells, interrupted-since}
use Rattle.live_heap.proofs.heap.Heap.free_begun.Goals as goal

pub go_on-requires-clause-busy : goal.go_on-requires-clause-busy
go_on-requires-clause-busy g c =
    let p = c.args.pass.now in
    let call : Call = free c.args.block.place c.args.block.need in
    (other-calling p c.begin_free.new.pass call c.begin_free.ensures.begun c.requires.idle
    (heap-block c.args.self.now p c.args.block c.requires.of c.requires.owned) (λ words is. cc)).busy

pub returns-in-Some : goal.returns-in-Some
returns-in-Some g c =
    let p = c.args.pass.now in
    let q = c.go_on.new.pass in
    let call : Call = free c.args.block.place c.args.block.need in
    let begun = c.begin_free.ensures.begun in
    let calling = other-calling p c.begin_free.new.pass call begun c.requires.idle
    (heap-block c.args.self.now p c.args.block c.requires.of c.requires.owned) (λ words is. cc) in
    let G : Option (Ending Block) → Type 0 = λ o. GoesOn p call 0 c.begin_free.new.pass c.args.tries (reply_in o) q in
    let ends : G (Some c.in-Some.field-0) = subst G c.in-Some.is (c.go_on.ensures.goes p call 0 calling) in
    record {
      of = c.go_on.ensures.of;
      tells = free-tells p c.args.block c.args.tries c.in-Some.field-0 q (ends-since p c.begin_free.new.pass call c.args.tries q begun _ ends);
    }

pub returns-in-None : goal.returns-in-None
returns-in-None g c =
    let p = c.args.pass.now in
    let q = c.go_on.new.pass in
    let call : Call = free c.args.block.place c.args.block.need in
    let begun = c.begin_free.ensures.begun in
    let calling = other-calling p c.begin_free.new.pass call begun c.requires.idle
    (heap-block c.args.self.now p c.args.block c.requires.of c.requires.owned) (λ words is. cc) in
    let G : Option (Ending Block) → Type 0 = λ o. GoesOn p call 0 c.begin_free.new.pass c.args.tries (reply_in o) q in
    let over : G None = subst G c.in-None.is (c.go_on.ensures.goes p call 0 calling) in
    record { of = c.go_on.ensures.of; tells = interrupted-since p c.begin_free.new.pass call c.args.tries q begun over }
