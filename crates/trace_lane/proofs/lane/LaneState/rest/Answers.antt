use Rattle.std.proofs.Common.{subst}
use Rattle.trace_lane.specs.declared.request.Next.TheVariants as onward
use Rattle.trace_lane.specs.Made.{GoesFurther}
use Rattle.trace_lane.proofs.FurtherLemmas.{further-then, may-further}
use Rattle.trace_lane.proofs.lane.LaneState.rest.Goals as goal

pub further-third-requires-clause-ready : goal.further-third-requires-clause-ready
further-third-requires-clause-ready g c =
    may-further c.args.operation (onward.Ask c.args.request) c.further-second.result c.requires.ready c.further-second.ensures.gone

pub further-requires-clause-ready : goal.further-requires-clause-ready
further-requires-clause-ready g c =
    may-further c.args.operation c.further-second.result c.further-third.result
    (may-further c.args.operation (onward.Ask c.args.request) c.further-second.result c.requires.ready c.further-second.ensures.gone) c.further-third.ensures.gone

pub returns-clause-ended : goal.returns-clause-ended
returns-clause-ended g c =
    let first = onward.Ask c.args.request in
    subst
    (λ n. GoesFurther g.B.Token.place_of g.B.Token.need_of g.C.Calls.maker.called c.args.operation first c.args.calls.now c.further.new.calls c.args.self.now c.further.new.self n)
    c.in-Told.is
    (further-then c.args.operation first c.further-third.result c.further.result
    (further-then c.args.operation first c.further-second.result c.further-third.result c.further-second.ensures.gone c.further-third.ensures.gone) c.further.ensures.gone)
