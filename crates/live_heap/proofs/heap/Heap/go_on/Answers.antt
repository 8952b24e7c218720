use Rattle.live_heap.proofs.CallsCounts.{going-first}
use Rattle.live_heap.proofs.heap.Heap.go_on.Goals as goal

pub drive-requires : goal.drive-requires
drive-requires g c =
    λ κs within. (within, (c.requires.of, (going-first c.args.self.now c.args.pass.now c.args.tries c.requires.of c.requires.busy c.requires.tries, c.requires.puts)))
