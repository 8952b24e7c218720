use Rattle.std.proofs.Common.{refl}
use Rattle.trace_lane.proofs.StepLemmas.{takes-up}
use Rattle.trace_lane.proofs.lane.LaneState.take_up.Goals as goal

pub returns-in-Ask : goal.returns-in-Ask
returns-in-Ask g c =
    takes-up g.B.Token.place_of g.B.Token.need_of c.args.self.now _ c.args.next c.in-Ask.request c.new-work.result c.call-call.result c.in-Ask.is
    c.new-work.ensures c.call-call.ensures refl
