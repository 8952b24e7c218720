use Rattle.std.proofs.Common.{◌∷◌, [], refl}
use Rattle.benches.proofs.CacheLemmas.{called-home}
use Rattle.benches.proofs.heap.cached.CacheFront.read.Goals as goal

pub read-requires-clause-held : goal.read-requires-clause-held
read-requires-clause-held c =
    let block = c.args.block.now in
    let held = c.requires.held in
    (c.caches_account_for_all_blocks.ensures.held c.args.heap.now c.args.self.now (block ∷ held.0) block c.requires.rests.0.0 c.requires.rests.0.1 held.1).1
    ([], held.0, refl)

pub returns-clause-rests : goal.returns-clause-rests
returns-clause-rests c =
    let was = c.requires.rests in
    let is = c.read.ensures.cache in
    let called = c.read.ensures.called in
    ((is, called.idle), called-home c.args.heap.now c.args.self.now.pass c.read.new.self.pass _ _ _ was.0.0.hand.of was.1 is.hand.of called)
