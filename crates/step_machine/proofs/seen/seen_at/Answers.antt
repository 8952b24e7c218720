use Rattle.step_machine.proofs.SeenLemmas.{told-known, told-further}
use Rattle.step_machine.proofs.seen.seen_at.Goals as goal

pub returns-in-Known : goal.returns-in-Known
returns-in-Known c =
    told-known c.requires.0 c.args.events.now c.loop-back.back c.args.place _ c.loop-back.last c.look_at.result c.in-Known.live _
    c.requires.1 c.loop-back-test.true c.loop-back.invariant c.look_at.ensures c.in-Known.is

pub loop-back-preserved : goal.loop-back-preserved
loop-back-preserved c =
    told-further c.requires.0 c.args.events.now c.loop-back.back c.args.place _ c.loop-back.last c.in-Further.owner c.look_at.result _
    c.requires.1 c.loop-back-test.true c.loop-back.invariant c.look_at.ensures c.in-Further.is
