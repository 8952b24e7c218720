use Rattle.std.proofs.Common.{suc, refl}
use Rattle.errand_steps.specs.Calls.{free}
use Rattle.lane_engine.proofs.ThroughLemmas.{free-resumes}
use Rattle.live_heap.specs.Whole.{by_steps}
use Rattle.pipe_runner.proofs.whole.release.Goals as goal

pub go_on-requires-clause-under_way : goal.go_on-requires-clause-under_way
go_on-requires-clause-under_way g c =
    let over = c.in-Busy.ensures.tells in
    let p = c.args.pass.now in
    let b = c.args.block in
    (record { first = p; call = free b.place b.need; steps = suc over.steps; calling = over.calling; tried = tt }, c.requires.rest.0)

pub returns-in-Busy : goal.returns-in-Busy
returns-in-Busy g c =
    let over = c.in-Busy.ensures.tells in
    let p = c.args.pass.now in
    let b = c.args.block in (
      by_steps (free-resumes p b.place b.need c.go_on.result c.go_on.new.pass
          (c.go_on.ensures.ended p (free b.place b.need) (suc over.steps) c.requires.rest.0 over.calling)),
      c.requires.owned,
      refl,
      c.go_on.ensures.rests,
    )
