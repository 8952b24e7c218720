use Rattle.std.proofs.Common.{refl, sym, ◌∙◌}
use Rattle.trace_lane.proofs.StepLemmas.{answer-ends, answer-goes}
use Rattle.trace_lane.proofs.lane.LaneState.answer.Goals as goal

pub returns-in-Going : goal.returns-in-Going
returns-in-Going g c =
    let place_of = g.B.Token.place_of in
    let need_of = g.B.Token.need_of in
    record {
      answered =
          answer-goes place_of need_of c.args.operation c.args.ended c.args.self.now c.in-Some.work (sym c.take.ensures.value ∙ c.in-Some.is) c.requires.ready _
          c.in-Going.work c.call-call.result c.in-Going.ensures.worked c.call-call.ensures refl;
    }

pub returns-in-Answered : goal.returns-in-Answered
returns-in-Answered g c =
    let place_of = g.B.Token.place_of in
    let need_of = g.B.Token.need_of in
    record {
      answered =
          answer-ends place_of need_of c.args.operation c.args.ended c.args.self.now c.in-Some.work (sym c.take.ensures.value ∙ c.in-Some.is) c.requires.ready _ _
          c.in-Answered.answer c.go_on-next.result c.take_up.result c.in-Answered.ensures.worked c.go_on-next.ensures.gone c.take_up.ensures
          (c.go_on-next.ensures.size ∙ sym c.requires.size) refl refl;
    }
