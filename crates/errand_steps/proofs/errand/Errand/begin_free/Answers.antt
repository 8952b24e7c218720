use Rattle.errand_steps.specs.Errands.{ErrandFields}
use Rattle.errand_steps.proofs.BeginLemmas.{free_small}
use Rattle.errand_steps.proofs.errand.Errand.begin_free.Goals as goal

pub returns-in-Small : goal.returns-in-Small
returns-in-Small c =
    let e : ErrandFields =
    record {
      caller = c.self.inside.seat.caller;
      geometry = c.self.inside.seat.geometry;
      point = c.self.inside.point;
      retired = c.self.inside.retired;
      turns = c.self.inside.turns;
      won = c.self.inside.won;
      lost = c.self.inside.lost;
      cleared = c.self.inside.cleared;
    } in
    rw (c.in-Small.is, c.seat.ensures, ← c.self.view_is)
    (free_small e c.args.place c.in-Small.class c.split_place-frame.result.0 c.split_place-frame.result.1 c.split_place-frame.ensures.index c.split_place-frame.ensures.place)
