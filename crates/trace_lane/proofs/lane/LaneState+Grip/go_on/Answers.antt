use Rattle.std.proofs.Common.{None, refl, sym, subst}
use Rattle.trace_lane.proofs.Common.{ServesCaller, machine_at}
use Rattle.trace_lane.proofs.StandLemmas.{told-coming, told-may, told-stays}
use Rattle.trace_lane.proofs.lane.LaneState+Grip.go_on.Goals as goal

pub returns-in_default : goal.returns-in_default
returns-in_default c = record {
  answered = record {
    begun = None;
    called = refl;
    same_caller = refl;
    gone_on = λ seen e operations calls t. told-stays (machine_at c.args.core.now c.args.self.now.caller) t c.in_default.not-Done;
  };
}

pub answer-next-requires-clause-ready : goal.answer-next-requires-clause-ready
answer-next-requires-clause-ready c =
    told-may (machine_at c.args.core.now c.args.self.now.caller) c.requires.ready.4 c.in-Done.ended c.in-Done.is c.requires.operation

pub begin_call-requires-clause-serves : goal.begin_call-requires-clause-serves
begin_call-requires-clause-serves c = subst (ServesCaller c.args.core.now) (sym c.answer-next.ensures.answered.keeps.caller) c.requires.serves

pub begin_call-requires-clause-ready : goal.begin_call-requires-clause-ready
begin_call-requires-clause-ready c =
    let (seen, e, operations, calls, told) = c.requires.ready in
    let lane = c.args.self.now in (
      seen,
      e,
      operations,
      calls,
      lane,
      told-coming (machine_at c.args.core.now lane.caller) told c.in-Done.ended c.in-Done.is c.answer-next.result c.answer-next.new.self c.requires.operation
          c.answer-next.ensures.answered,
    )

pub returns : goal.returns
returns c =
    let lane = c.args.self.now in
    let goes = c.begin_call.ensures.begun lane c.answer-next.ensures.answered.keeps.caller in
    record {
      answered = record {
        begun = goes.begun;
        called = goes.called;
        same_caller = goes.same_caller;
        gone_on = λ seen e operations calls t.
            goes.gone_on seen e operations calls
            (told-coming (machine_at c.args.core.now lane.caller) t c.in-Done.ended c.in-Done.is c.answer-next.result c.answer-next.new.self c.requires.operation
            c.answer-next.ensures.answered);
      };
    }
