use Rattle.block_cache.proofs.LendLemmas.{out-cache}
use Rattle.block_cache.proofs.cache.Cache.take_out.Goals as goal

pub returns-clause-cache : goal.returns-clause-cache
returns-clause-cache c =
    out-cache c.args.heap.now c.args.self.now c.take_out.new.pass c.args.block c.requires.cache c.requires.idle c.requires.held c.take_out.ensures.of
    c.take_out.ensures.idle c.take_out.ensures.keeps
