use Rattle.std.proofs.Common.{◌<◌, length, rules}
use Rattle.errand_steps.specs.Begins.{IsIdle}
use Rattle.embedding_tests.proofs.CachedHands.{held-at}
use Rattle.embedding_tests.proofs.cached.write.Goals as goal

pub write-requires-clause-held : goal.write-requires-clause-held
write-requires-clause-held c =
    let idle : IsIdle c.args.cache.now.pass.errand = search rules in
    let within : c.args.number < length c.args.held.now = search rules in
    held-at c.args.heap.now c.args.cache.now c.args.held.now c.args.number c.index-held-number-2.result within c.index-held-number-2.is c.requires.cache
    idle c.requires.holds
