use Rattle.std.proofs.Common.{◌≡◌, refl, sym, ◌∙◌}
use Rattle.word_table.specs.declared.action.Action.TheVariants.{Cas}
use Rattle.word_table.specs.declared.name.WordName.TheVariants.{Shelf}
use Rattle.step_parts.specs.declared.large.point.LargePoint.{LargePoint}
use Rattle.step_parts.specs.declared.large.point.LargePoint.TheVariants as large
use Rattle.errand_steps.specs.declared.continuation.Continuation.TheVariants.{Nothing}
use Rattle.errand_steps.specs.declared.reply.Reply.TheVariants as reply
use Rattle.errand_steps.specs.declared.told.Ending.TheVariants.{Put, Full}
use Rattle.errand_steps.specs.declared.told.Stepped.TheVariants.{Done}
use Rattle.errand_steps.specs.Calls.{Call, put}
use Rattle.live_heap.specs.declared.pass.Pass.{Pass}
use Rattle.live_heap.specs.Answers.{HasBegun}
use Rattle.live_heap.specs.Going.{stands_on}
use Rattle.live_heap.proofs.Begun.{heap-block, of-rule}
use Rattle.live_heap.proofs.CallsGrow.{other-calling}
use Rattle.live_heap.proofs.CallsOne.{ends-one, put-full, put-lost, put-won}
use Rattle.live_heap.proofs.PutsNone.{put-puts}
use Rattle.live_heap.proofs.ShelfSteps.{counted-as, ends-counted, put-at, put-opens, put-plan, putting, shelf-of, shelf-stepped}
use Rattle.live_heap.proofs.Stepped.{of-sight}
use Rattle.live_heap.proofs.heap.Heap.put.Goals as goal

pub step_on_shelf-found-requires-clause-table : goal.step_on_shelf-found-requires-clause-table
step_on_shelf-found-requires-clause-table g c = c.requires.of.table

pub step_on_shelf-found-requires-clause-planned : goal.step_on_shelf-found-requires-clause-planned
step_on_shelf-found-requires-clause-planned g c =
    put-plan c.args.shelf c.args.block.place c.args.block.need c.pack.result c.pack-2.result c.pack.ensures.word c.pack-2.ensures.word

pub pack-requires-2 : goal.pack-requires-2
pack-requires-2 g c =
    let r = c.requires in
    let h = c.args.self.now in
    let p = c.args.pass.now in
    let block = c.args.block in
    let rule = of-rule h (stands_on p (large.PutBlock c.args.shelf block.place block.need)) (putting h p block c.args.shelf r.of r.idle r.owned r.shelf) in
    rule.point.point.block

pub step_on_shelf-found-requires-clause-opens_none : goal.step_on_shelf-found-requires-clause-opens_none
step_on_shelf-found-requires-clause-opens_none g c = put-opens c.args.self.now.layout c.args.shelf c.args.block.place c.args.block.need

pub step_on_shelf-found-requires-clause-rule : goal.step_on_shelf-found-requires-clause-rule
step_on_shelf-found-requires-clause-rule g c =
    let r = c.requires in
    let h = c.args.self.now in
    let p = c.args.pass.now in
    let block = c.args.block in
    of-rule h (stands_on p (large.PutBlock c.args.shelf block.place block.need)) (putting h p block c.args.shelf r.of r.idle r.owned r.shelf)

pub step_on_shelf-found-requires-clause-sight : goal.step_on_shelf-found-requires-clause-sight
step_on_shelf-found-requires-clause-sight g c =
    let r = c.requires in
    let h = c.args.self.now in
    let p = c.args.pass.now in
    let block = c.args.block in
    of-sight h (stands_on p (large.PutBlock c.args.shelf block.place block.need)) (putting h p block c.args.shelf r.of r.idle r.owned r.shelf)

pub step_on_shelf-found-requires-clause-puts : goal.step_on_shelf-found-requires-clause-puts
step_on_shelf-found-requires-clause-puts g c =
    let p = c.args.pass.now in
    let block = c.args.block in
    put-puts g.R.ShelfRule.allows p (stands_on p (large.PutBlock c.args.shelf block.place block.need)) block.place block.need c.args.shelf
    (record { seat = refl; errand = sym (put-at p.errand block.place block.need c.args.shelf); out = refl }) c.requires.words

pub returns-then-found-clause-of : goal.returns-then-found-clause-of
returns-then-found-clause-of g c =
    let r = c.requires in
    let h = c.args.self.now in
    let p = c.args.pass.now in
    let block = c.args.block in
    let at : LargePoint = large.PutBlock c.args.shelf block.place block.need in
    let b : Pass = stands_on p at in
    let x = c.step_on_shelf-found.result in
    let q : Pass = record { seat = c.step_on_shelf-found.new.seat; errand = c.count.new.self; out = p.out } in
    let ends = put-won c.args.shelf block.place block.need Nothing x c.if-found.true in
    let settles = ends-counted p.errand q.errand at x reply.Put r.idle ends refl (counted-as p.errand q.errand at x (Cas (Shelf c.args.shelf) c.pack.result c.pack-2.result) (put-plan c.args.shelf block.place block.need c.pack.result c.pack-2.result c.pack.ensures.word c.pack-2.ensures.word) c.count.ensures) in
    shelf-of h b q x Put (putting h p block c.args.shelf r.of r.idle r.owned r.shelf) c.step_on_shelf-found.ensures.step settles ends
    c.step_on_shelf-found.ensures.seat.0 c.step_on_shelf-found.ensures.seat.1 refl

pub returns-then-found-clause-put : goal.returns-then-found-clause-put
returns-then-found-clause-put g c =
    let r = c.requires in
    let h = c.args.self.now in
    let p = c.args.pass.now in
    let block = c.args.block in
    let at : LargePoint = large.PutBlock c.args.shelf block.place block.need in
    let b : Pass = stands_on p at in
    let call : Call = put block.place block.need c.args.shelf in
    let x = c.step_on_shelf-found.result in
    let q : Pass = record { seat = c.step_on_shelf-found.new.seat; errand = c.count.new.self; out = p.out } in
    let ends = put-won c.args.shelf block.place block.need Nothing x c.if-found.true in
    let settles = ends-counted p.errand q.errand at x reply.Put r.idle ends refl (counted-as p.errand q.errand at x (Cas (Shelf c.args.shelf) c.pack.result c.pack-2.result) (put-plan c.args.shelf block.place block.need c.pack.result c.pack-2.result c.pack.ensures.word c.pack-2.ensures.word) c.count.ensures) in
    let stepped = shelf-stepped h b q x Put (putting h p block c.args.shelf r.of r.idle r.owned r.shelf) c.step_on_shelf-found.ensures.step settles ends tt in
    let begun : HasBegun p call b = record { seat = refl; errand = sym (put-at p.errand block.place block.need c.args.shelf); out = refl } in
    ends-one p call 0 b q (Done Put) Put refl stepped (other-calling p b call begun r.idle (heap-block h p block r.of r.owned) (λ words is. cc))

pub returns-else-found-clause-of : goal.returns-else-found-clause-of
returns-else-found-clause-of g c =
    let r = c.requires in
    let h = c.args.self.now in
    let p = c.args.pass.now in
    let block = c.args.block in
    let at : LargePoint = large.PutBlock c.args.shelf block.place block.need in
    let b : Pass = stands_on p at in
    let x = c.step_on_shelf-found.result in
    let q : Pass = record { seat = c.step_on_shelf-found.new.seat; errand = c.count.new.self; out = p.out } in
    let ends = put-lost c.args.shelf block.place block.need Nothing x c.if-found.false in
    let settles = ends-counted p.errand q.errand at x (reply.Full x.value) r.idle ends refl (counted-as p.errand q.errand at x (Cas (Shelf c.args.shelf) c.pack.result c.pack-2.result) (put-plan c.args.shelf block.place block.need c.pack.result c.pack-2.result c.pack.ensures.word c.pack-2.ensures.word) c.count.ensures) in
    shelf-of h b q x (Full block x.value) (putting h p block c.args.shelf r.of r.idle r.owned r.shelf) c.step_on_shelf-found.ensures.step settles ends
    c.step_on_shelf-found.ensures.seat.0 c.step_on_shelf-found.ensures.seat.1 refl

pub returns-else-found-clause-full : goal.returns-else-found-clause-full
returns-else-found-clause-full g c =
    let r = c.requires in
    let h = c.args.self.now in
    let p = c.args.pass.now in
    let block = c.args.block in
    let at : LargePoint = large.PutBlock c.args.shelf block.place block.need in
    let b : Pass = stands_on p at in
    let call : Call = put block.place block.need c.args.shelf in
    let x = c.step_on_shelf-found.result in
    let q : Pass = record { seat = c.step_on_shelf-found.new.seat; errand = c.count.new.self; out = p.out } in
    let ends = put-lost c.args.shelf block.place block.need Nothing x c.if-found.false in
    let settles = ends-counted p.errand q.errand at x (reply.Full x.value) r.idle ends refl (counted-as p.errand q.errand at x (Cas (Shelf c.args.shelf) c.pack.result c.pack-2.result) (put-plan c.args.shelf block.place block.need c.pack.result c.pack-2.result c.pack.ensures.word c.pack-2.ensures.word) c.count.ensures) in
    let stepped = shelf-stepped h b q x (Full block x.value) (putting h p block c.args.shelf r.of r.idle r.owned r.shelf) c.step_on_shelf-found.ensures.step settles ends refl in
    let begun : HasBegun p call b = record { seat = refl; errand = sym (put-at p.errand block.place block.need c.args.shelf); out = refl } in
    put-full p b q block c.args.shelf (Done (Full block x.value)) (record { block = block; found = x.value }) refl stepped
    (other-calling p b call begun r.idle (heap-block h p block r.of r.owned) (λ words is. cc)) r.owned.1
