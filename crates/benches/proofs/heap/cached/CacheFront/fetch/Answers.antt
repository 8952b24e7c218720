use Rattle.benches.proofs.CacheLemmas.{called-home}
use Rattle.benches.proofs.heap.cached.CacheFront.fetch.Goals as goal

pub returns-in-Got : goal.returns-in-Got
returns-in-Got c =
    let was = c.requires.rests in
    let is = c.take.ensures.cache in
    let called = c.in-Got.ensures.tells.0 in
    record {
      rests = ((is, called.idle), called-home c.args.heap.now c.args.self.now.pass c.take.new.self.pass _ _ _ was.0.0.hand.of was.1 is.hand.of called);
      holds = c.in-Got.ensures.holds;
    }

pub returns-in-Empty : goal.returns-in-Empty
returns-in-Empty c =
    let was = c.requires.rests in
    let is = c.take.ensures.cache in
    let called = c.in-Empty.ensures.tells in
    record {
      rests = ((is, called.idle), called-home c.args.heap.now c.args.self.now.pass c.take.new.self.pass _ _ _ was.0.0.hand.of was.1 is.hand.of called);
      holds = c.in-Empty.ensures.holds;
    }

pub returns-in-Missed : goal.returns-in-Missed
returns-in-Missed c =
    let was = c.requires.rests in
    let is = c.take.ensures.cache in
    let called = c.in-Missed.ensures.tells.0 in
    record {
      rests = ((is, called.idle), called-home c.args.heap.now c.args.self.now.pass c.take.new.self.pass _ _ _ was.0.0.hand.of was.1 is.hand.of called);
      holds = c.in-Missed.ensures.holds;
    }
