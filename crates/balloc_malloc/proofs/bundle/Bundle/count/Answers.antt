use Rattle.std.proofs.Common.{sym, arith, ◌≤◌, length}
use Rattle.std.proofs.lemmas.List.{length-take-le}
use Rattle.balloc_malloc.proofs.bundle.Bundle.count.Goals as goal

pub returns : goal.returns
returns c =
    let b = c.args.self.now in
    let within : b.count ≤ length b.entries = omega (arith, b.few, b.room) in sym (length-take-le b.count b.entries within)
