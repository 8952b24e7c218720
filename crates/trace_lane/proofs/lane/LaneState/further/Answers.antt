use Rattle.std.proofs.Common.{refl, subst}
use Rattle.trace_lane.specs.declared.request.Next.TheVariants as onward
use Rattle.trace_lane.specs.Made.{GoesFurther, MayGoFurther}
use Rattle.trace_lane.proofs.FurtherLemmas.{may-serve, served-further, told-further}
use Rattle.trace_lane.proofs.lane.LaneState.further.Goals as goal

pub serve-answer-requires-clause-owned : goal.serve-answer-requires-clause-owned
serve-answer-requires-clause-owned g c =
    may-serve c.args.operation c.in-Ask.request c.calls_keep_blocks.ensures
    (subst (λ n. MayGoFurther g.B.Token.place_of g.B.Token.need_of g.C.Calls.maker c.args.operation n c.args.calls.now c.args.self.now) c.in-Ask.is c.requires.ready)

pub returns-in-Told-clause-gone : goal.returns-in-Told-clause-gone
returns-in-Told-clause-gone g c = rw c.in-Told.is (told-further c.args.operation c.in-Told.outcome)

pub returns-in-Ask-clause-gone : goal.returns-in-Ask-clause-gone
returns-in-Ask-clause-gone g c =
    let ready = subst (λ n. MayGoFurther g.B.Token.place_of g.B.Token.need_of g.C.Calls.maker c.args.operation n c.args.calls.now c.args.self.now) c.in-Ask.is c.requires.ready in
    rw c.in-Ask.is
    (served-further c.args.operation {maker = g.C.Calls.maker} {old = c.args.self.now} c.in-Ask.request c.serve-answer.result c.go_on.result ready c.serve-answer.ensures.served
    c.go_on.ensures.gone refl)
