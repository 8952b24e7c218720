use Rattle.std.proofs.Common.{sym, ◌∙◌}
use Rattle.trace_text.proofs.CanonicalReading.{lane_named, lane_read}
use Rattle.trace_text.proofs.stage.lane_ops.Goals as goal

pub returns-clause-reads : goal.returns-clause-reads
returns-clause-reads c =
    let read = c.in_ok-ops.ensures.ops in
    lane_read c.args.trace.now c.args.text.now _ read.0 c.read_ops.new.self c.in_ok-ops.ops
    (sym c.is_in_lane.ensures ∙ c.if-not-is_in_lane.false) read.1 read.2 read.3

pub returns-clause-named : goal.returns-clause-named
returns-clause-named c =
    let read = c.in_ok-ops.ensures.ops in
    lane_named c.args.trace.now c.args.text.now _ read.0 c.read_ops.new.self c.requires.named read.1 read.3
