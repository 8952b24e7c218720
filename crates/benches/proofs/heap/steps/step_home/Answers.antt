use Rattle.std.proofs.Common.{◌∙◌}
use Rattle.benches.proofs.MadeLemmas.{given-owned, step-out}
use Rattle.benches.proofs.heap.steps.step_home.Goals as goal

pub returns-clause-home : goal.returns-clause-home
returns-clause-home c =
    let s = c.step.ensures in
    step-out c.args.heap.now c.args.pass.now c.step.new.pass c.step.result c.requires.of s.of s.idle s.busy ∙ c.requires.home

pub returns-clause-given : goal.returns-clause-given
returns-clause-given c = λ block is.
    let s = c.step.ensures in
    let home = step-out c.args.heap.now c.args.pass.now c.step.new.pass c.step.result c.requires.of s.of s.idle s.busy ∙ c.requires.home in
    given-owned c.args.heap.now c.args.pass.now c.step.new.pass c.step.result block s.of home s.caller s.idle s.busy is
