use Rattle.std.proofs.Common.{◌<◌, length, append-nil, subst, rules}
use Rattle.errand_steps.specs.declared.told.Ending.TheVariants as ending
use Rattle.errand_steps.specs.Begins.{IsIdle}
use Rattle.live_heap.specs.Hands.{IsHand}
use Rattle.heap_scripts.proofs.whole.read.Goals as goal

pub read-requires-clause-owned : goal.read-requires-clause-owned
read-requires-clause-owned c =
    let idle : IsIdle c.args.pass.now.errand = search rules in
    let within : c.args.number < length c.args.blocks.now = search rules in
    c.hands_give_out_blocks.ensures.owned c.args.pass.now c.args.blocks.now c.args.number c.index-blocks-number-2.result within
    c.index-blocks-number-2.is (c.requires.hand.holds idle)

pub returns : goal.returns
returns c =
    let idle : IsIdle c.args.pass.now.errand = search rules in
    subst (IsHand c.args.heap.now c.read.new.pass) (append-nil c.args.blocks.now)
    (c.hands_go_through_calls.ensures.ended c.args.heap.now c.args.pass.now c.read.new.pass c.args.blocks.now _ 0 (ending.Word c.read.result) c.requires.hand.of
    (c.requires.hand.holds idle) c.read.ensures.of (λ k d within. tt) c.read.ensures.called c.read.ensures.contents)
