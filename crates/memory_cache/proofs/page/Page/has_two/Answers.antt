use Rattle.std.proofs.Common.{arith}
use Rattle.memory_cache.proofs.ChainLemmas.{two-home}
use Rattle.memory_cache.proofs.page.Page.has_two.Goals as goal

pub returns-clause-no : goal.returns-clause-no
returns-clause-no c = λ told two.
    let p = c.args.self.now in
    let more = two-home p.home p.head p.slots.items p.chained two.0 two.1 two.2 two.3 two.4 in
    grind (arith, more, told)
