use Rattle.std.proofs.Common.{map, ◌∙◌}
use Rattle.trace_commands.specs.Closings.{IsDrivenIn, steps_of}
use Rattle.trace_commands.specs.declared.closing.Closing.TheVariants.{Stepped}
use Rattle.trace_commands.proofs.DrivenLemmas.{told-behind}
use Rattle.trace_commands.proofs.told.schedule.Goals as goal

pub returns : goal.returns
returns g c =
    told-behind (g.G.Gate.passed c.args.gate.now) c.args.trace.now (IsDrivenIn c.args.trace.now c.args.trace.now.orders)
    (Stepped c.in_ok-core.field-0.core) (map (λ lane. lane.items) c.in_ok-core.field-0.outcomes.items) steps_of c.in_ok-text.text.items
    c.as_slice-2.result.now c.extend_from_slice.new.self.items c.requires c.in_ok-core.ensures
    (rw c.as_slice.ensures.value at c.in_ok-text.ensures.alone) (c.as_slice-2.ensures.value ∙ c.in_ok-steps.ensures)
    c.in_ok-extend_from_slice.ensures.items
