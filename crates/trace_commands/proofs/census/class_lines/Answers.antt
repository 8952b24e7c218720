use Rattle.std.proofs.Common.{◌∙◌}
use Rattle.trace_commands.proofs.CensusLemmas.{lines-more}
use Rattle.trace_commands.specs.Censuses.{line_of}
use Rattle.trace_commands.proofs.census.class_lines.Goals as goal

pub loop-class-preserved : goal.loop-class-preserved
loop-class-preserved c =
    lines-more (line_of c.args.census.now) c.loop-class.class c.loop-class.lines.items c.as_slice.result.now c.extend_from_slice.new.self.items
    c.loop-class.invariant (c.as_slice.ensures.value ∙ c.in_ok-line.ensures) c.in_ok-extend_from_slice.ensures.items
