use Rattle.std.proofs.Common.{map}
use Rattle.lane_runner.specs.Shared.{IsSharedThrough}
use Rattle.trace_commands.proofs.CachedLemmas.{cached-run}
use Rattle.trace_commands.proofs.threaded.run_through_caches.Goals as goal

pub returns-in-Ok-close : goal.returns-in-Ok-close
returns-in-Ok-close g c =
    let trace = c.args.trace.now in
    let closed = c.in-Ok-close.closed in
    let run = c.in-Ok.run' in
    let outcomes = map (λ lane. lane.items) run.outcomes.items in
    let hits = run.hits.items in
    let shared : IsSharedThrough trace c.args.depth closed outcomes hits =
    record {
      rests = c.in-Ok-close.ensures.rests;
      heap = c.in_ok-heap.heap;
      laid = c.in_ok-heap.ensures.heap;
      passes = run.passes.items;
      ran = c.in-Ok.ensures.ran;
      closed = c.in-Ok-close.ensures.closed;
      accesses = c.in-Ok-close.ensures.accesses;
    }
    in
    cached-run (g.G.Gate.passed c.args.gate.now) trace c.args.depth closed outcomes hits shared
    (c.closed_lanes_fit_through_caches.ensures trace shared.heap c.args.depth shared.passes outcomes hits closed c.requires.trace shared.laid shared.ran
    shared.closed shared.rests)
    (λ lane lt told. c.spent_lanes_took_their_turns.ensures.through_caches trace c.args.depth closed outcomes hits lane c.requires.trace shared lt told)
    c.in-Ok.ensures.passed
