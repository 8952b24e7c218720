use Rattle.std.proofs.Common.{rules, ◌≡◌, ◌∙◌, None, refl}
use Rattle.trace_lane.proofs.LaneNext.{begun-more, next-ready, onward-next, onward-none}
use Rattle.trace_lane.proofs.lane.LaneState+Grip.begin_next.Goals as goal

pub returns-then-not-is_between-clause-advanced : goal.returns-then-not-is_between-clause-advanced
returns-then-not-is_between-clause-advanced g c = onward-none c.requires.stands

pub loop-op-init : goal.loop-op-init
loop-op-init g c = record {
  so = onward-none c.requires.stands;
  same = refl;
  between = search rules;
  here = search rules;
}

pub start-requires-clause-serves : goal.start-requires-clause-serves
start-requires-clause-serves g c = (c.loop-op.invariant.so.stands.core, c.loop-op.invariant.so.stands.has)

pub start-requires-clause-ready : goal.start-requires-clause-ready
start-requires-clause-ready g c = (
  c.args.operations.now,
  c.loop-op.invariant.so.stands.calls,
  next-ready c.loop-op.core c.args.operations.now c.loop-op.self c.loop-op.op _ c.loop-op.invariant.so.stands c.loop-op.invariant.between
      c.loop-op.invariant.here c.loop-op-test.true,
)

pub returns-then-not-is_between-2-clause-events : goal.returns-then-not-is_between-2-clause-events
returns-then-not-is_between-2-clause-events g c =
    (onward-next c.loop-op.invariant.so c.loop-op.op c.number_of.result _ c.steps.ensures.rule c.loop-op.invariant.between
    c.loop-op.invariant.here c.loop-op-test.true c.start.ensures.begun c.number_of.ensures c.pass.ensures).no_event
    ∙ c.loop-op.invariant.same

pub returns-then-not-is_between-2-clause-advanced : goal.returns-then-not-is_between-2-clause-advanced
returns-then-not-is_between-2-clause-advanced g c =
    (onward-next c.loop-op.invariant.so c.loop-op.op c.number_of.result _ c.steps.ensures.rule c.loop-op.invariant.between
    c.loop-op.invariant.here c.loop-op-test.true c.start.ensures.begun c.number_of.ensures c.pass.ensures).advanced

pub loop-op-preserved : goal.loop-op-preserved
loop-op-preserved g c =
    let between : c.start.new.self.work ≡ None = search rules in
    let next =
    onward-next c.loop-op.invariant.so c.loop-op.op c.number_of.result _ c.steps.ensures.rule c.loop-op.invariant.between
    c.loop-op.invariant.here c.loop-op-test.true c.start.ensures.begun c.number_of.ensures c.pass.ensures in
    record {
      so = next.advanced;
      same = next.no_event ∙ c.loop-op.invariant.same;
      between = between;
      here = begun-more c.loop-op.self.outcomes.items c.start.new.self.outcomes.items c.start.new.self.work c.loop-op.op between next.count
          c.loop-op.invariant.here;
    }
