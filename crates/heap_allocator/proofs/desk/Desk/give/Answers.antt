-- What is out stays out.
use Rattle.heap_allocator.proofs.DeskLemmas.{out-of_cache}
use Rattle.heap_allocator.proofs.desk.Desk.give.Goals as goal

pub returns-in-Some-clause-keeps : goal.returns-in-Some-clause-keeps
returns-in-Some-clause-keeps c = λ first size out ne.
    c.take_back.ensures.keeps first size (out-of_cache c.args.self.now c.in-Some.cache c.in-Some.is first size out) ne
