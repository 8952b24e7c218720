use Rattle.std.proofs.Common.{◌≡◌, length, arith}
use Rattle.memory_cache.proofs.ChainLemmas.{all-home, one-out}
use Rattle.memory_cache.proofs.page.Page.is_whole.Goals as goal

pub returns-clause-yes : goal.returns-clause-yes
returns-clause-yes c = λ told number within.
    let p = c.args.self.now in
    let all : p.home ≡ length p.slots.items = grind (arith, told, c.len.ensures) in
    all-home p.home p.head p.slots.items p.chained all number within

pub returns-clause-no : goal.returns-clause-no
returns-clause-no c = λ told.
    let p = c.args.self.now in
    one-out p.home p.head p.slots.items p.chained (λ all. grind (arith, told, all, c.len.ensures))
