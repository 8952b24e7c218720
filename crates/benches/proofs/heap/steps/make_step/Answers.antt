use Rattle.std.proofs.Common.{ap, ◌∙◌}
use Rattle.errand_steps.specs.declared.told.Stepped.TheVariants.{Done}
use Rattle.benches.proofs.heap.steps.make_step.Goals as goal

pub begin_free-requires-clause-idle : goal.begin_free-requires-clause-idle
begin_free-requires-clause-idle c =
    let end = c.in-Done-Given in
    (c.step_home.ensures.given end.block (end.is ∙ ap Done end.field-0-is)).0

pub begin_free-requires-clause-owned : goal.begin_free-requires-clause-owned
begin_free-requires-clause-owned c =
    let end = c.in-Done-Given in
    (c.step_home.ensures.given end.block (end.is ∙ ap Done end.field-0-is)).1
