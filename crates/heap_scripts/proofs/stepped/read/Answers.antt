use Rattle.std.proofs.Common.{◌<◌, ◌++◌, List, length, append-nil, refl, subst, rules}
use Rattle.errand_steps.specs.Begins.{IsIdle}
use Rattle.errand_steps.specs.Calls.{Call, read}
use Rattle.live_heap.specs.declared.block.Block.{Block}
use Rattle.live_heap.specs.Answers.{HasStepped}
use Rattle.live_heap.specs.Hands.{IsHand}
use Rattle.heap_scripts.proofs.SteppedLemmas.{read-brings_none}
use Rattle.heap_scripts.proofs.stepped.read.Goals as goal

pub begin_read-requires-clause-owned : goal.begin_read-requires-clause-owned
begin_read-requires-clause-owned c =
    let idle : IsIdle c.args.pass.now.errand = search rules in
    let within : c.args.number < length c.args.blocks.now = search rules in
    c.hands_give_out_blocks.ensures.owned c.args.pass.now c.args.blocks.now c.args.number c.index-blocks-number-2.result within c.index-blocks-number-2.is (c.requires.holds idle)

pub returns : goal.returns
returns c =
    let idle : IsIdle c.args.pass.now.errand = search rules in
    let within : c.args.number < length c.args.blocks.now = search rules in
    let held = c.requires.holds idle in
    let block = c.index-blocks-number-2.result in
    let owned =
    c.hands_give_out_blocks.ensures.owned c.args.pass.now c.args.blocks.now c.args.number block within c.index-blocks-number-2.is held in
    let p = c.args.pass.now in
    let b = c.begin_read.new.pass in
    let q = c.step.new.pass in
    let call : Call = read block.place block.need c.args.i in
    let law = c.calls_go_step_by_step.ensures in
    let calling = law.begins c.args.heap.now p b call c.requires.of idle owned tt c.begin_read.ensures.begun in
    let done = law.last p call 0 b q c.step.result calling refl (c.step.ensures.busy calling.busy) in
    let stepped = subst (HasStepped b q) done.1 (c.step.ensures.busy calling.busy) in
    let called = law.ends p call 0 b q done.0 calling stepped in
    let none = read-brings_none block.place block.need c.args.i done.0 called.ended.ended.0 called.ended.ended.1 in
    subst (IsHand c.args.heap.now q) (append-nil c.args.blocks.now)
    (subst (λ (l : List Block). IsHand c.args.heap.now q (c.args.blocks.now ++ l)) none
    (c.hands_go_through_calls.ensures.ended c.args.heap.now p q c.args.blocks.now call 0 done.0 c.requires.of held c.step.ensures.of
    (λ k d within. tt) called (law.tells c.args.heap.now p call 0 b q done.0 c.requires.of c.begin_read.ensures.of c.step.ensures.of calling stepped)))
