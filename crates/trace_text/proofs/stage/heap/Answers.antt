use Rattle.std.proofs.Common.{rules}
use Rattle.trace_text.specs.Said.{heap_in}
use Rattle.trace_text.proofs.stage.heap.Goals as goal

pub returns : goal.returns
unfolding heap_in
returns c = search rules
