use Rattle.std.proofs.Common.{refl}
use Rattle.pipe_runner.proofs.CallSteps.{has-allocated, keeps-here, keeps-trans}
use Rattle.pipe_runner.specs.EndCalls.{GaveNone}
use Rattle.pipe_runner.proofs.EndLemmas.{tried-none, tried-on}
use Rattle.pipe_runner.proofs.calls.allocate.Goals as goal

pub loop-init : goal.loop-init
loop-init g c = record {
  can_next = tt;
  is_finite = tt;
  keeps = keeps-here c.args.heap.now c.args.pass.now c.requires.rest;
  refused = tried-none (GaveNone 3) c.args.pass.now;
}

pub returns-in-Some-try_allocate : goal.returns-in-Some-try_allocate
returns-in-Some-try_allocate g c =
    has-allocated c.args.heap.now c.args.pass.now c.loop.pass c.try_allocate.new.pass c.in-Some-try_allocate.block c.loop.invariant.keeps
    c.loop.invariant.refused c.in-Some-try_allocate.ensures.given

pub loop-preserved : goal.loop-preserved
loop-preserved g c = record {
  can_next = tt;
  is_finite = tt;
  keeps = keeps-trans c.args.heap.now c.args.pass.now c.loop.pass c.try_allocate.new.pass c.loop.invariant.keeps (c.in-None-try_allocate.ensures.none refl).0;
  refused = tried-on (GaveNone 3) c.args.pass.now c.loop.pass c.try_allocate.new.pass c.loop.invariant.refused (c.in-None-try_allocate.ensures.none refl).1;
}
