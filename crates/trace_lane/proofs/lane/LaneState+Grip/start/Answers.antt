use Rattle.std.proofs.Common.{[], sym, subst}
use Rattle.trace_lane.proofs.Common.{ServesCaller, machine_at}
use Rattle.trace_lane.proofs.StandLemmas.{begins-coming}
use Rattle.trace_lane.proofs.lane.LaneState+Grip.start.Goals as goal

pub begin_call-requires-clause-serves : goal.begin_call-requires-clause-serves
begin_call-requires-clause-serves c = subst (ServesCaller c.args.core.now) (sym c.begin-next.ensures.begun.keeps.caller) c.requires.serves

pub begin_call-requires-clause-ready : goal.begin_call-requires-clause-ready
begin_call-requires-clause-ready c =
    let lane = c.args.self.now in
    let engine = machine_at c.args.core.now lane.caller in
    ([], engine.errand, c.requires.ready.0, c.requires.ready.1, lane, begins-coming engine [] engine.errand c.requires.ready.2 c.begin-next.ensures.begun)

pub returns : goal.returns
returns c =
    let lane = c.args.self.now in
    let goes = c.begin_call.ensures.begun lane c.begin-next.ensures.begun.keeps.caller in
    record {
      begun = record {
        begun = goes.begun;
        called = goes.called;
        same_caller = goes.same_caller;
        gone_on = λ seen e operations calls b.
            goes.gone_on seen e operations calls (begins-coming (machine_at c.args.core.now lane.caller) seen e b c.begin-next.ensures.begun);
      };
    }
