use Rattle.std.proofs.Common.{◌∷◌, [], refl}
use Rattle.benches.proofs.CacheLemmas.{called-home}
use Rattle.benches.proofs.heap.cached.CacheFront.shelve.Goals as goal

pub put-requires-clause-held : goal.put-requires-clause-held
put-requires-clause-held g c =
    let block = c.args.block in
    let held = c.requires.held in
    (c.caches_account_for_all_blocks.ensures.held c.args.heap.now c.args.self.now (block ∷ held.0) block c.requires.rests.0.0 c.requires.rests.0.1 held.1).1
    ([], held.0, refl)

pub returns-in-Ok : goal.returns-in-Ok
returns-in-Ok g c =
    let was = c.requires.rests in
    let is = c.put.ensures.cache in
    let called = c.in-Ok.ensures.put in
    record {
      rests = ((is, called.idle), called-home c.args.heap.now c.args.self.now.pass c.put.new.self.pass _ _ _ was.0.0.hand.of was.1 is.hand.of called);
      holds = c.in-Ok.ensures.holds;
    }

pub release-requires-clause-rests : goal.release-requires-clause-rests
release-requires-clause-rests g c =
    let was = c.requires.rests in
    let is = c.put.ensures.cache in
    let called = c.in-Err.ensures.full.called in
    ((is, called.idle), called-home c.args.heap.now c.args.self.now.pass c.put.new.self.pass _ _ _ was.0.0.hand.of was.1 is.hand.of called)

pub release-requires-clause-held : goal.release-requires-clause-held
release-requires-clause-held g c =
    let held = c.requires.held in
    (held.0, c.in-Err.ensures.holds held.0 held.1)

pub returns-in-Err : goal.returns-in-Err
returns-in-Err g c = record { rests = c.release.ensures.rests; holds = λ held h. c.release.ensures.holds held (c.in-Err.ensures.holds held h) }
