-- A cache that can't be closed has out what was out.
use Rattle.std.proofs.Common.{◌≡◌, Some}
use Rattle.heap_allocator.proofs.DeskLemmas.{out-of_cache}
use Rattle.heap_allocator.proofs.desk.Desk.close.Goals as goal

pub returns-in-Err-clause-keeps : goal.returns-in-Err-clause-keeps
returns-in-Err-clause-keeps c =
    let was : c.args.self.now.cache ≡ Some c.in_ok-take.field-0 = cc (c.take.ensures.value, c.in_ok-take.was) in
    λ _ first size out. c.in-Err.ensures.keeps first size (out-of_cache c.args.self.now c.in_ok-take.field-0 was first size out)
