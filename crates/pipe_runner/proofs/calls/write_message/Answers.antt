use Rattle.std.proofs.Common.{◌≡◌, ◌+◌, ◌%◌, ◌^◌, Some, refl, sym, subst}
use Rattle.pool_model.specs.Pool.{Block as PoolBlock}
use Rattle.live_heap.specs.Contents.{owned_in}
use Rattle.live_heap.specs.Whole.{by_steps}
use Rattle.live_heap.specs.declared.pass.Pass.{Pass}
use Rattle.pipe_runner.specs.Messages.{three_from}
use Rattle.pipe_runner.specs.Moves.{KeepsBlocks}
use Rattle.pipe_runner.proofs.CallSteps.{keeps-trans, three-written, wrote-keeps}
use Rattle.pipe_runner.proofs.calls.write_message.Goals as goal

pub returns-clause-keeps : goal.returns-clause-keeps
returns-clause-keeps c =
    let h = c.args.heap.now in
    let b = c.args.block.now in
    let p = c.args.pass.now in
    let on = c.write_slice.ensures.wrote in
    let one = wrote-keeps h p on.0 b 0 c.args.first c.requires.rest.0 on.1.of c.requires.owned on.1.called in
    let two = wrote-keeps h on.0 on.2.0 b 1 ((c.args.first + 1) % 2 ^ 64) on.1.of on.2.1.of on.2.1.owned on.2.1.called in
    let three = wrote-keeps h on.2.0 on.2.2.0 b 2 ((c.args.first + 2) % 2 ^ 64) on.2.1.of on.2.2.1.of on.2.2.1.owned on.2.2.1.called in
    subst (KeepsBlocks h p) (sym on.2.2.2) (keeps-trans h p on.2.0 on.2.2.0 (keeps-trans h p on.0 on.2.0 one two) three)

pub returns-clause-written : goal.returns-clause-written
returns-clause-written c = λ there.
    let b = c.args.block.now in
    let on = c.write_slice.ensures.wrote in
    subst (λ (r : Pass). (x : PoolBlock) × (owned_in r b.place ≡ Some x) × (x.contents ≡ three_from c.args.first)) (sym on.2.2.2)
    (three-written c.args.heap.now c.args.pass.now on.0 on.2.0 on.2.2.0 b c.args.first ((c.args.first + 1) % 2 ^ 64) ((c.args.first + 2) % 2 ^ 64)
    on.1.of on.2.1.of on.2.2.1.of on.1.called on.2.1.called on.2.2.1.called refl refl there)

pub returns-clause-wrote : goal.returns-clause-wrote
returns-clause-wrote c =
    let on = c.write_slice.ensures.wrote in (
      on.0,
      by_steps (0, on.1.called),
      (on.2.0, by_steps (0, on.2.1.called), (on.2.2.0, by_steps (0, on.2.2.1.called), on.2.2.2)),
    )
