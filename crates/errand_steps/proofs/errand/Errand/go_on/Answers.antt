use Rattle.std.proofs.Common.{rules, ap, ◌∙◌, sym}
use Rattle.errand_steps.specs.Errands.{EndsUncounted, ErrandFields, settle_of, answer_of}
use Rattle.errand_steps.proofs.ErrandLemmas.{settled_errand}
use Rattle.errand_steps.proofs.StayLemmas.{ended_answer, uncounted_errand}
use Rattle.errand_steps.proofs.errand.Errand.go_on.Goals as goal

pub invariant_of-self : goal.invariant_of-self
invariant_of-self c =
    let before : ErrandFields =
    record {
      caller = c.self.inside.seat.caller;
      geometry = c.self.inside.seat.geometry;
      point = c.self.inside.point;
      retired = c.self.inside.retired;
      turns = c.self.inside.turns;
      won = c.self.inside.won;
      lost = c.self.inside.lost;
      cleared = c.self.inside.cleared;
    } in
    let uncounted : EndsUncounted before.point c.args.found c.in-Some.reply = search rules in
    settled_errand before _ c.args.found c.self.invariant (search rules)
    (uncounted_errand before c.args.found c.in-Some.reply uncounted)

pub returns-in-Some-clause-errand : goal.returns-in-Some-clause-errand
returns-in-Some-clause-errand c =
    let before : ErrandFields =
    record {
      caller = c.self.inside.seat.caller;
      geometry = c.self.inside.seat.geometry;
      point = c.self.inside.point;
      retired = c.self.inside.retired;
      turns = c.self.inside.turns;
      won = c.self.inside.won;
      lost = c.self.inside.lost;
      cleared = c.self.inside.cleared;
    } in
    let uncounted : EndsUncounted before.point c.args.found c.in-Some.reply = search rules in
    uncounted_errand before c.args.found c.in-Some.reply uncounted ∙ ap (λ e. settle_of e c.args.found) c.self.view_is

pub returns-in-Some-clause-answer : goal.returns-in-Some-clause-answer
returns-in-Some-clause-answer c =
    let before : ErrandFields =
    record {
      caller = c.self.inside.seat.caller;
      geometry = c.self.inside.seat.geometry;
      point = c.self.inside.point;
      retired = c.self.inside.retired;
      turns = c.self.inside.turns;
      won = c.self.inside.won;
      lost = c.self.inside.lost;
      cleared = c.self.inside.cleared;
    } in
    let uncounted : EndsUncounted before.point c.args.found c.in-Some.reply = search rules in
    sym (ended_answer before c.args.found c.in-Some.reply uncounted.ends) ∙ ap (λ e. answer_of e c.args.found) c.self.view_is
