use Rattle.std.proofs.Common.{◌∷◌, [], refl}
use Rattle.benches.proofs.CacheLemmas.{on-words-home}
use Rattle.benches.proofs.heap.cached.CacheFront.fill.Goals as goal

pub fill-requires-clause-held : goal.fill-requires-clause-held
fill-requires-clause-held c =
    let block = c.args.block.now in
    let held = c.requires.held in
    (c.caches_account_for_all_blocks.ensures.held c.args.heap.now c.args.self.now (block ∷ held.0) block c.requires.rests.0.0 c.requires.rests.0.1 held.1).1
    ([], held.0, refl)

pub returns-clause-rests : goal.returns-clause-rests
returns-clause-rests c =
    let was = c.requires.rests in
    let is = c.fill.ensures in
    ((is.cache, is.idle), on-words-home c.args.heap.now c.args.self.now.pass c.fill.new.self.pass _ was.0.0.hand.of was.1 c.fill.ensures.wrote)
