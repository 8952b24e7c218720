use Rattle.std.proofs.Common.{◌<◌, length, rules}
use Rattle.errand_steps.specs.Begins.{IsIdle}
use Rattle.embedding_tests.proofs.CachedHands.{held-block, held-out}
use Rattle.embedding_tests.proofs.cached.free.Goals as goal

pub free-requires-clause-held : goal.free-requires-clause-held
free-requires-clause-held c =
    let idle : IsIdle c.args.cache.now.pass.errand = search rules in
    let within : c.args.number < length c.args.held.now.items = search rules in
    let rest = c.remove-block.new.self.items in
    let out =
    held-out c.args.cache.now c.args.held.now.items rest c.args.number c.remove-block.result within c.remove-block.ensures.value
    c.remove-block.ensures.by_index.2 c.requires.holds in
    held-block c.args.heap.now c.args.cache.now rest c.remove-block.result c.requires.cache idle out

pub returns-in-Freed-clause-holds : goal.returns-in-Freed-clause-holds
returns-in-Freed-clause-holds c =
    let within : c.args.number < length c.args.held.now.items = search rules in
    let rest = c.remove-block.new.self.items in
    let out =
    held-out c.args.cache.now c.args.held.now.items rest c.args.number c.remove-block.result within c.remove-block.ensures.value
    c.remove-block.ensures.by_index.2 c.requires.holds in
    c.free.ensures.holds rest out

pub returns-in-Busy-clause-holds : goal.returns-in-Busy-clause-holds
returns-in-Busy-clause-holds c =
    let within : c.args.number < length c.args.held.now.items = search rules in
    let rest = c.remove-block.new.self.items in
    let out =
    held-out c.args.cache.now c.args.held.now.items rest c.args.number c.remove-block.result within c.remove-block.ensures.value
    c.remove-block.ensures.by_index.2 c.requires.holds in
    c.free.ensures.holds rest out
