use Rattle.pipe_runner.specs.EndCalls.{GotNone}
use Rattle.pipe_runner.proofs.CallSteps.{empty-keeps, keeps-here, keeps-trans, missed-keeps}
use Rattle.pipe_runner.proofs.EndLemmas.{empty-tried, missed-tried, tried-none, tried-on}
use Rattle.pipe_runner.proofs.receiver.take_until.Goals as goal

pub loop-init : goal.loop-init
loop-init g c = record {
  can_next = tt;
  is_finite = tt;
  keeps = keeps-here c.args.heap.now c.args.pass.now c.requires.rest;
  missed = tried-none (GotNone c.args.shelf) c.args.pass.now;
}

pub take-requires-clause-of : goal.take-requires-clause-of
take-requires-clause-of g c = c.loop.invariant.keeps.moves.rest.0

pub take-requires-clause-idle : goal.take-requires-clause-idle
take-requires-clause-idle g c = c.loop.invariant.keeps.moves.rest.1

pub returns-in-Got : goal.returns-in-Got
returns-in-Got g c =
    let tells = c.in-Got.ensures.tells in
    record {
      last = c.loop.pass;
      missed = c.loop.invariant.missed;
      keeps = c.loop.invariant.keeps;
      called = tells.0;
      owned = tells.1;
      rest = (c.take.ensures.of, tells.0.idle);
    }

pub loop-preserved-in-Empty : goal.loop-preserved-in-Empty
loop-preserved-in-Empty g c = record {
  can_next = tt;
  is_finite = tt;
  keeps = keeps-trans c.args.heap.now c.args.pass.now c.loop.pass c.take.new.pass c.loop.invariant.keeps
      (empty-keeps c.args.heap.now c.loop.pass c.take.new.pass c.args.shelf c.loop.invariant.keeps.moves.rest.0 c.take.ensures.of c.in-Empty.ensures.tells);
  missed = tried-on (GotNone c.args.shelf) c.args.pass.now c.loop.pass c.take.new.pass c.loop.invariant.missed
      (empty-tried c.loop.pass c.take.new.pass c.args.shelf c.in-Empty.ensures.tells);
}

pub loop-preserved : goal.loop-preserved
loop-preserved g c = record {
  can_next = tt;
  is_finite = tt;
  keeps = keeps-trans c.args.heap.now c.args.pass.now c.loop.pass c.take.new.pass c.loop.invariant.keeps
      (missed-keeps c.args.heap.now c.loop.pass c.take.new.pass c.args.shelf c.in-Missed.expected c.in-Missed.found c.loop.invariant.keeps.moves.rest.0
      c.take.ensures.of c.in-Missed.ensures.tells);
  missed = tried-on (GotNone c.args.shelf) c.args.pass.now c.loop.pass c.take.new.pass c.loop.invariant.missed
      (missed-tried c.loop.pass c.take.new.pass c.args.shelf c.in-Missed.expected c.in-Missed.found c.in-Missed.ensures.tells);
}
