use Rattle.std.proofs.Common.{◌≡◌, ◌<◌, ◌∙◌, List, [], Vec, Global, ap, length, get_or, sym, subst, arith}
use Rattle.std.proofs.lemmas.List.{length-map}
use Rattle.trace_text.specs.declared.trace.Op.{Op}
use Rattle.trace_text.specs.Traces.{IsOp}
use Rattle.lane_outcomes.proofs.LanesLemmas.{lane-each}
use Rattle.trace_lane.specs.States.{IsNew}
use Rattle.lane_runner.proofs.DrivenLemmas.{lane-is, new-more, new-none}
use Rattle.lane_runner.proofs.lanes.open_lanes.Goals as goal

pub loop-lane-init : goal.loop-lane-init
loop-lane-init g c = new-none c.args.trace.now.lanes c.in_ok-lanes.lanes.items c.in_ok-lanes.ensures.items

pub open-requires : goal.open-requires
open-requires g c =
    lane-each IsOp (λ lane. lane.items) c.as_slice-operations-items.result.now c.args.trace.now.lanes c.loop-lane.lane c.operations-item.result
    c.as_slice.result.now c.as_slice-operations-items.ensures c.requires.ops c.loop-lane-test.true c.operations-item.is c.as_slice.ensures.value

pub loop-lane-preserved : goal.loop-lane-preserved
loop-lane-preserved g c =
    let lanes = c.args.trace.now.lanes in
    let lane = c.loop-lane.lane in
    let mine : get_or lanes lane [] ≡ c.as_slice.result.now =
    lane-is (λ lane. lane.items) c.as_slice-operations-items.result.now lanes lane c.operations-item.result c.as_slice-operations-items.ensures
    c.loop-lane-test.true c.operations-item.is
    ∙ sym c.as_slice.ensures.value in
    let lt : lane < length lanes =
    omega (arith, c.loop-lane-test.true, length-map c.as_slice-operations-items.result.now (λ (lane : Vec Op Global). lane.items), ap length c.as_slice-operations-items.ensures) in
    new-more lanes lane c.loop-lane.lanes.items c.push.new.self.items c.in_ok-opened.opened lt c.loop-lane.invariant
    (subst (λ (operations : List Op). IsNew lane (length operations) c.in_ok-opened.opened) (sym mine) c.in_ok-opened.ensures)
    c.in_ok-push.ensures.items

pub returns : goal.returns
returns g c = record {
  all =
      c.loop-lane.invariant.all
      ∙ omega (
        arith,
        c.loop-lane-test.false,
        length-map c.as_slice-operations-items.result.now (λ (lane : Vec Op Global). lane.items),
        ap length c.as_slice-operations-items.ensures,
      );
  each = c.loop-lane.invariant.each;
}
