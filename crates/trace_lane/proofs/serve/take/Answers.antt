use Rattle.std.proofs.Common.{◌++◌, ◌∷◌, [], refl, ◌∙◌}
use Rattle.errand_steps.specs.declared.reply.Reply.TheVariants as reply
use Rattle.trace_lane.proofs.Common.{take, answered, leads-more}
use Rattle.trace_lane.proofs.MadeLemmas.{misses-more}
use Rattle.trace_lane.proofs.serve.take.Goals as goal

pub returns-in-Got-clause-served : goal.returns-in-Got-clause-served
returns-in-Got-clause-served g c =
    let m = c.loop.invariant.missed in
    let answer = reply.Got (g.B.Token.place_of c.in-Got.block) (g.B.Token.need_of c.in-Got.block) in (
      m.0 ++ answered (take c.args.shelf) answer ∷ [],
      (refl, m.0, m.1, refl),
      leads-more g.C.Calls.maker.called c.args.calls.now c.loop.calls c.take.new.self m.0 (take c.args.shelf) answer m.2 c.in-Got.ensures.called,
    )

pub returns-in-Empty-clause-served : goal.returns-in-Empty-clause-served
returns-in-Empty-clause-served g c =
    let m = c.loop.invariant.missed in (
      m.0 ++ answered (take c.args.shelf) reply.Empty ∷ [],
      (m.0, m.1, refl),
      leads-more g.C.Calls.maker.called c.args.calls.now c.loop.calls c.take.new.self m.0 (take c.args.shelf) reply.Empty m.2 c.in-Empty.ensures.called,
    )

pub loop-preserved : goal.loop-preserved
loop-preserved g c =
    let m = c.loop.invariant.missed in
    record {
      can_next = tt;
      is_finite = tt;
      stands = c.take.ensures.stands;
      base = c.take.ensures.base ∙ c.loop.invariant.base;
      missed = (
        m.0 ++ answered (take c.args.shelf) (reply.Missed c.in-Missed.expected c.in-Missed.found) ∷ [],
        misses-more c.args.shelf m.0 c.in-Missed.expected c.in-Missed.found m.1,
        leads-more g.C.Calls.maker.called c.args.calls.now c.loop.calls c.take.new.self m.0 (take c.args.shelf)
            (reply.Missed c.in-Missed.expected c.in-Missed.found) m.2 c.in-Missed.ensures.called,
      );
    }
