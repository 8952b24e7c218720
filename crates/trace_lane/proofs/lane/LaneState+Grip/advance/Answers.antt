use Rattle.std.proofs.Common.{rules, ◌≡◌, true}
use Rattle.trace_lane.proofs.LaneNext.{onward-steps, step-told}
use Rattle.trace_lane.proofs.lane.LaneState+Grip.advance.Goals as goal

pub step-requires : goal.step-requires
step-requires g c = record { serves = (c.begin_next.ensures.advanced.stands.core, c.begin_next.ensures.advanced.stands.has) }

pub go_on-requires-clause-ready : goal.go_on-requires-clause-ready
go_on-requires-clause-ready g c = (
  c.begin_next.new.core.events,
  _,
  c.args.operations.now,
  c.begin_next.ensures.advanced.stands.calls,
  step-told {mid = c.begin_next.new.self} c.begin_next.ensures.advanced c.len-op.result _
      (λ e. let yes : c.is_between.result ≡ true = c.is_between.ensures.1 e in cc)
      (record {
        rule = c.in_ok-told.ensures.rule;
        geometry = c.in_ok-told.ensures.geometry;
        busy = c.in_ok-told.ensures.busy;
        moves = c.in_ok-told.ensures.moved;
        others = c.in_ok-told.ensures.others;
      }) (search rules) c.begin_next.ensures.advanced.stands.calls c.begin_next.ensures.advanced.stands.stands,
)

pub returns-clause-advanced : goal.returns-clause-advanced
returns-clause-advanced g c =
    onward-steps {mid = c.begin_next.new.self} c.begin_next.ensures.advanced c.len-op.result _ c.begin_next.ensures.events
    (λ e. let yes : c.is_between.result ≡ true = c.is_between.ensures.1 e in cc)
    (record {
      rule = c.in_ok-told.ensures.rule;
      geometry = c.in_ok-told.ensures.geometry;
      busy = c.in_ok-told.ensures.busy;
      moves = c.in_ok-told.ensures.moved;
      others = c.in_ok-told.ensures.others;
    }) (search rules) c.go_on.ensures.answered c.steps.ensures.rule
