use Rattle.block_cache.proofs.LendLemmas.{home-cache}
use Rattle.block_cache.proofs.cache.Cache.bring_home.Goals as goal

pub returns-clause-cache : goal.returns-clause-cache
returns-clause-cache c =
    home-cache c.args.heap.now c.args.self.now c.bring_home.new.pass c.requires.cache c.requires.idle c.bring_home.ensures.of c.bring_home.ensures.idle
    c.bring_home.ensures.keeps
