use Rattle.std.proofs.Common.{subst, sym}
use Rattle.errand_steps.specs.Begins.{IsHeapBlock, IsIdle, put_begun}
use Rattle.errand_steps.specs.Errands.{ErrandFields}
use Rattle.errand_steps.proofs.BegunErrands.{put-errand}
use Rattle.errand_steps.proofs.errand.Errand.begin_put.Goals as goal

pub invariant_of-self : goal.invariant_of-self
unfolding put_begun
invariant_of-self c =
    let e : ErrandFields =
    record {
      caller = c.self.inside.seat.caller;
      geometry = c.self.inside.seat.geometry;
      point = c.self.inside.point;
      retired = c.self.inside.retired;
      turns = c.self.inside.turns;
      won = c.self.inside.won;
      lost = c.self.inside.lost;
      cleared = c.self.inside.cleared;
    } in
    let block = subst (λ (e : ErrandFields). IsHeapBlock e.geometry c.args.place c.args.need) (sym c.self.view_is) c.requires.block in
    let idle = subst IsIdle (sym c.self.view_is) c.requires.idle in
    rw (c.last-self-inside.ensures) (put-errand e c.args.place c.args.need c.args.shelf block c.requires.shelf c.self.invariant idle)
