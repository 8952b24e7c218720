use Rattle.memory_cache.proofs.PagedLemmas.{out-by}
use Rattle.memory_cache.proofs.paged.PagedCache.take_back.Goals as goal

pub returns-clause-out : goal.returns-clause-out
returns-clause-out c =
    let x = c.args.piece in
    out-by c.args.heap.now c.args.self.now c.in-Some.number x.first x.size c.requires.paged c.in-Some.ensures.out
