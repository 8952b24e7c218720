use Rattle.std.proofs.Common.{◌<◌, length, rules}
use Rattle.errand_steps.specs.Begins.{IsIdle}
use Rattle.embedding_tests.proofs.CachedHands.{held-block, held-more, held-out}
use Rattle.embedding_tests.proofs.cached.put.Goals as goal

pub put-requires-clause-held : goal.put-requires-clause-held
put-requires-clause-held c =
    let idle : IsIdle c.args.cache.now.pass.errand = search rules in
    let within : c.args.number < length c.args.held.now.items = search rules in
    let rest = c.remove-block.new.self.items in
    let out =
    held-out c.args.cache.now c.args.held.now.items rest c.args.number c.remove-block.result within c.remove-block.ensures.value
    c.remove-block.ensures.by_index.2 c.requires.holds in
    held-block c.args.heap.now c.args.cache.now rest c.remove-block.result c.requires.cache idle out

pub returns-in-Ok-clause-holds : goal.returns-in-Ok-clause-holds
returns-in-Ok-clause-holds c =
    let within : c.args.number < length c.args.held.now.items = search rules in
    let rest = c.remove-block.new.self.items in
    let out =
    held-out c.args.cache.now c.args.held.now.items rest c.args.number c.remove-block.result within c.remove-block.ensures.value
    c.remove-block.ensures.by_index.2 c.requires.holds in
    c.in-Ok.ensures.holds rest out

pub returns-in-Err-clause-holds : goal.returns-in-Err-clause-holds
returns-in-Err-clause-holds c =
    let within : c.args.number < length c.args.held.now.items = search rules in
    let rest = c.remove-block.new.self.items in
    let out =
    held-out c.args.cache.now c.args.held.now.items rest c.args.number c.remove-block.result within c.remove-block.ensures.value
    c.remove-block.ensures.by_index.2 c.requires.holds in
    held-more c.put.new.self rest c.push_reserved.new.self.items c.in-Err.field-0.block c.push_reserved.ensures.items (c.in-Err.ensures.holds rest out)
