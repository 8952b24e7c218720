use Rattle.std.proofs.Common.{map, ◌∙◌}
use Rattle.trace_commands.specs.Censuses.{census_text}
use Rattle.trace_commands.specs.Closings.{IsSharedIn}
use Rattle.trace_commands.specs.declared.closing.Closing.TheVariants.{Ran}
use Rattle.trace_commands.proofs.DrivenLemmas.{told-behind}
use Rattle.trace_commands.proofs.told.counted.Goals as goal

pub returns : goal.returns
returns g c = (
  c.census.result,
  c.census.ensures,
  told-behind (g.G.Gate.passed c.args.gate.now) c.args.trace.now (IsSharedIn c.args.trace.now) (Ran c.in_ok-closed.field-0.closed)
      (map (λ lane. lane.items) c.in_ok-closed.field-0.outcomes.items) (λ closing. census_text c.census.result) c.in_ok-text.text.items
      c.as_slice-2.result.now c.extend_from_slice.new.self.items c.requires c.in_ok-closed.ensures
      (rw c.as_slice.ensures.value at c.in_ok-text.ensures.alone) (c.as_slice-2.ensures.value ∙ c.in_ok-counts.ensures)
      c.in_ok-extend_from_slice.ensures.items,
)
