use Rattle.std.proofs.Common.{◌+◌, arith}
use Rattle.heap_geometry.specs.declared.limits.TheConstants.{MAX_CALLERS}
use Rattle.shared_heap.proofs.OpenLemmas.{opens}
use Rattle.shared_heap.proofs.shared.SharedHeap.new.Goals as goal

pub vacant-requires : goal.vacant-requires
vacant-requires c = opens c.args.heap (MAX_CALLERS + 1) (omega arith)
