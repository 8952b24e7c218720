use Rattle.std.proofs.Common.{◌≡◌, ◌+◌, ◌≤◌, length}
use Rattle.trace_text.specs.declared.limits.TheConstants.{MAX_INPUT}
use Rattle.trace_text.specs.declared.trace.Version.TheVariants.{Two}
use Rattle.trace_text.specs.Lines.{lines_of}
use Rattle.trace_text.specs.Reading.{reading_from, reading_of}
use Rattle.trace_text.specs.Stages.{HasTrace}
use Rattle.trace_text.proofs.reading.read_trace.Given as goal

abbrev pub invariant-loop-line : goal.invariant-loop-line
invariant-loop-line l = record {
  reads : reading_from Two (lines_of l.rest) l.number l.stage ≡ reading_of l.text;
  named : HasTrace l.stage;
  few : l.number + length l.rest ≤ MAX_INPUT + 1;
}

abbrev pub decreases-loop-line : goal.decreases-loop-line
decreases-loop-line l = length l.rest
