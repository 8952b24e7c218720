use Rattle.std.proofs.Common.{suc}
use Rattle.errand_steps.specs.Calls.{Call, free}
use Rattle.lane_engine.proofs.FlushLemmas.{empties-all, empties-none, empties-stopped, frees-rest}
use Rattle.block_cache.specs.Caches.{stacks_in}
use Rattle.block_cache.specs.Magazines.{leaving}
use Rattle.lane_engine.proofs.over_cache.empty.Goals as goal

pub loop-init : goal.loop-init
loop-init g c = record {
  can_next = tt;
  is_finite = tt;
  rests = c.requires.rests;
  so_far = empties-none c.args.heap.now c.args.cache.now;
}

pub go_on-requires-clause-under_way : goal.go_on-requires-clause-under_way
go_on-requires-clause-under_way g c =
    let stopped = c.in-Busy.ensures.tells in record {
      first = stopped.next;
      call = free stopped.block.place stopped.block.need;
      steps = suc stopped.busy.steps;
      calling = stopped.busy.calling;
      tried = tt;
    }

pub loop-preserved : goal.loop-preserved
loop-preserved g c =
    let stopped = c.in-Busy.ensures.tells in
    let call : Call = free stopped.block.place stopped.block.need in
    record {
      can_next = tt;
      is_finite = tt;
      rests = c.go_on.ensures.rests;
      so_far =
          empties-stopped c.args.heap.now c.args.cache.now c.loop.cache c.flush.new.self c.go_on.new.cache c.tries-tries.result c.go_on.result
          c.loop.invariant.so_far stopped c.flush.ensures.hits c.go_on.ensures.keeps c.go_on.ensures.rests
          (c.go_on.ensures.ended stopped.next call (suc stopped.busy.steps)
          (frees-rest c.args.heap.now c.loop.cache.pass stopped.next stopped.freed c.tries-tries.result
          (c.loop.invariant.rests.0.hand.of, c.loop.invariant.rests.1) stopped.frees).0
          stopped.busy.calling);
    }

pub returns-in-Freed : goal.returns-in-Freed
returns-in-Freed g c =
    let tells = c.in-Freed.ensures.tells in
    record {
      rests = (
        c.flush.ensures.cache,
        (frees-rest c.args.heap.now c.loop.cache.pass c.flush.new.self.pass (leaving (stacks_in c.loop.cache)) c.tries-tries.result
            (c.loop.invariant.rests.0.hand.of, c.loop.invariant.rests.1) tells.1).1,
      );
      emptied =
          empties-all c.args.heap.now c.args.cache.now c.loop.cache c.flush.new.self c.tries-tries.result c.loop.invariant.so_far tells.1
          c.flush.ensures.hits (c.flush.ensures.empty c.in-Freed.is);
    }
