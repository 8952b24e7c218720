use Rattle.std.proofs.Common.{subst}
use Rattle.errand_steps.specs.Begins.{IsHeapBlock}
use Rattle.live_heap.proofs.Begun.{heap-block}
use Rattle.live_heap.proofs.heap.Heap.free.Goals as goal

pub free_small-requires-clause-block : goal.free_small-requires-clause-block
free_small-requires-clause-block g c =
    let p = c.args.pass.now in
    subst (IsHeapBlock p.errand.geometry c.args.block.place) c.in-Small.is (heap-block c.args.self.now p c.args.block c.requires.of c.requires.owned)
