use Rattle.std.proofs.Common.{rules, ap, ◌∙◌, subst, sym}
use Rattle.errand_steps.specs.Errands.{ErrandFields, IsListable, plan_of, settle_of, answer_of, raised, going_on}
use Rattle.errand_steps.proofs.ErrandLemmas.{listable, settled_errand}
use Rattle.errand_steps.proofs.LedLemmas.{led_ends, led_goes, led_rule, led_settles}
use Rattle.errand_steps.proofs.StayLemmas.{stayed_answer, stayed_errand}
use Rattle.errand_steps.proofs.errand.Errand.move_on.Goals as goal

pub invariant_of-self : goal.invariant_of-self
invariant_of-self c =
    let before : ErrandFields =
    record {
      caller = c.self.inside.seat.caller;
      geometry = c.self.inside.seat.geometry;
      point = c.self.inside.point;
      retired = c.self.inside.retired;
      turns = c.self.inside.turns;
      won = c.self.inside.won;
      lost = c.self.inside.lost;
      cleared = c.self.inside.cleared;
    } in
    settled_errand before _ c.args.found c.self.invariant (search rules)
    (stayed_errand before c.args.found c.settle_point.new.point c.args.action _ _ _ (c.settle_point.ensures.stays c.in-None.is)
    (c.requires.planned ∙ ap plan_of (sym c.self.view_is))
    (c.raised-self-inside.ensures ∙ ap (λ b. raised b c.self.inside.won) c.counts_won.ensures)
    (c.raised-self-inside-2.ensures ∙ ap (λ b. raised b c.self.inside.lost) c.counts_lost-lost.ensures)
    (c.raised-self-inside-3.ensures ∙ ap (λ b. raised b c.self.inside.cleared) c.counts_cleared-cleared.ensures))

pub returns-in-None-clause-errand : goal.returns-in-None-clause-errand
returns-in-None-clause-errand c =
    let before : ErrandFields =
    record {
      caller = c.self.inside.seat.caller;
      geometry = c.self.inside.seat.geometry;
      point = c.self.inside.point;
      retired = c.self.inside.retired;
      turns = c.self.inside.turns;
      won = c.self.inside.won;
      lost = c.self.inside.lost;
      cleared = c.self.inside.cleared;
    } in
    stayed_errand before c.args.found c.settle_point.new.point c.args.action _ _ _ (c.settle_point.ensures.stays c.in-None.is)
    (c.requires.planned ∙ ap plan_of (sym c.self.view_is))
    (c.raised-self-inside.ensures ∙ ap (λ b. raised b c.self.inside.won) c.counts_won.ensures)
    (c.raised-self-inside-2.ensures ∙ ap (λ b. raised b c.self.inside.lost) c.counts_lost-lost.ensures)
    (c.raised-self-inside-3.ensures ∙ ap (λ b. raised b c.self.inside.cleared) c.counts_cleared-cleared.ensures)
    ∙ ap (λ e. settle_of e c.args.found) c.self.view_is

pub returns-in-None-clause-answer : goal.returns-in-None-clause-answer
returns-in-None-clause-answer c =
    let before : ErrandFields =
    record {
      caller = c.self.inside.seat.caller;
      geometry = c.self.inside.seat.geometry;
      point = c.self.inside.point;
      retired = c.self.inside.retired;
      turns = c.self.inside.turns;
      won = c.self.inside.won;
      lost = c.self.inside.lost;
      cleared = c.self.inside.cleared;
    } in
    c.going_on.ensures
    ∙ (ap (λ b. going_on b c.counts_cleared-cleared.result) c.counts_lost-lost.ensures
    ∙ (ap (going_on _) c.counts_cleared-cleared.ensures
    ∙ (sym (stayed_answer before c.args.found c.settle_point.new.point (c.settle_point.ensures.stays c.in-None.is))
    ∙ ap (λ e. answer_of e c.args.found) c.self.view_is)))

pub lead_on-requires-clause-listable : goal.lead_on-requires-clause-listable
lead_on-requires-clause-listable c =
    let before : ErrandFields =
    record {
      caller = c.self.inside.seat.caller;
      geometry = c.self.inside.seat.geometry;
      point = c.self.inside.point;
      retired = c.self.inside.retired;
      turns = c.self.inside.turns;
      won = c.self.inside.won;
      lost = c.self.inside.lost;
      cleared = c.self.inside.cleared;
    } in
    subst (IsListable before.retired) (sym c.in-Some.ensures.leaves.0) (listable before c.args.found c.self.invariant (search rules))

pub lead_on-requires-clause-rule : goal.lead_on-requires-clause-rule
lead_on-requires-clause-rule c =
    let before : ErrandFields =
    record {
      caller = c.self.inside.seat.caller;
      geometry = c.self.inside.seat.geometry;
      point = c.self.inside.point;
      retired = c.self.inside.retired;
      turns = c.self.inside.turns;
      won = c.self.inside.won;
      lost = c.self.inside.lost;
      cleared = c.self.inside.cleared;
    } in
    led_rule before c.args.found c.in-Some.next c.settle_point.new.point _ _ _ c.self.invariant (search rules) c.in-Some.ensures.leaves.0
    c.in-Some.ensures.leaves.1

pub returns-in-Some-lead_on-clause-errand : goal.returns-in-Some-lead_on-clause-errand
returns-in-Some-lead_on-clause-errand c =
    let before : ErrandFields =
    record {
      caller = c.self.inside.seat.caller;
      geometry = c.self.inside.seat.geometry;
      point = c.self.inside.point;
      retired = c.self.inside.retired;
      turns = c.self.inside.turns;
      won = c.self.inside.won;
      lost = c.self.inside.lost;
      cleared = c.self.inside.cleared;
    } in
    c.lead_on.ensures.errand
    ∙ (led_settles before c.args.found c.in-Some.next c.settle_point.new.point c.args.action _ _ _ c.in-Some.ensures.leaves.0 c.in-Some.ensures.leaves.1
    (c.requires.planned ∙ ap plan_of (sym c.self.view_is))
    (c.raised-self-inside.ensures ∙ ap (λ b. raised b c.self.inside.won) c.counts_won.ensures)
    (c.raised-self-inside-2.ensures ∙ ap (λ b. raised b c.self.inside.lost) c.counts_lost-lost.ensures)
    (c.raised-self-inside-3.ensures ∙ ap (λ b. raised b c.self.inside.cleared) c.counts_cleared-cleared.ensures)
    ∙ ap (λ e. settle_of e c.args.found) c.self.view_is)

pub returns-in-None-lead_on-clause-errand : goal.returns-in-None-lead_on-clause-errand
returns-in-None-lead_on-clause-errand c =
    let before : ErrandFields =
    record {
      caller = c.self.inside.seat.caller;
      geometry = c.self.inside.seat.geometry;
      point = c.self.inside.point;
      retired = c.self.inside.retired;
      turns = c.self.inside.turns;
      won = c.self.inside.won;
      lost = c.self.inside.lost;
      cleared = c.self.inside.cleared;
    } in
    c.lead_on.ensures.errand
    ∙ (led_settles before c.args.found c.in-Some.next c.settle_point.new.point c.args.action _ _ _ c.in-Some.ensures.leaves.0 c.in-Some.ensures.leaves.1
    (c.requires.planned ∙ ap plan_of (sym c.self.view_is))
    (c.raised-self-inside.ensures ∙ ap (λ b. raised b c.self.inside.won) c.counts_won.ensures)
    (c.raised-self-inside-2.ensures ∙ ap (λ b. raised b c.self.inside.lost) c.counts_lost-lost.ensures)
    (c.raised-self-inside-3.ensures ∙ ap (λ b. raised b c.self.inside.cleared) c.counts_cleared-cleared.ensures)
    ∙ ap (λ e. settle_of e c.args.found) c.self.view_is)

pub returns-in-Some-lead_on-clause-answer : goal.returns-in-Some-lead_on-clause-answer
returns-in-Some-lead_on-clause-answer c =
    let before : ErrandFields =
    record {
      caller = c.self.inside.seat.caller;
      geometry = c.self.inside.seat.geometry;
      point = c.self.inside.point;
      retired = c.self.inside.retired;
      turns = c.self.inside.turns;
      won = c.self.inside.won;
      lost = c.self.inside.lost;
      cleared = c.self.inside.cleared;
    } in
    sym (led_ends before c.args.found c.in-Some.next c.settle_point.new.point c.in-Some-lead_on.reply c.raised-self-inside.result
    c.raised-self-inside-2.result c.raised-self-inside-3.result c.in-Some.ensures.leaves.0 c.in-Some.ensures.leaves.1
    (sym c.lead_on.ensures.reply ∙ c.in-Some-lead_on.is))
    ∙ ap (λ e. answer_of e c.args.found) c.self.view_is

pub returns-in-None-lead_on-clause-answer : goal.returns-in-None-lead_on-clause-answer
returns-in-None-lead_on-clause-answer c =
    let before : ErrandFields =
    record {
      caller = c.self.inside.seat.caller;
      geometry = c.self.inside.seat.geometry;
      point = c.self.inside.point;
      retired = c.self.inside.retired;
      turns = c.self.inside.turns;
      won = c.self.inside.won;
      lost = c.self.inside.lost;
      cleared = c.self.inside.cleared;
    } in
    c.going_on-in-None-lead_on.ensures
    ∙ (ap (λ b. going_on b c.counts_cleared-cleared.result) c.counts_lost-lost.ensures
    ∙ (ap (going_on _) c.counts_cleared-cleared.ensures
    ∙ (sym (led_goes before c.args.found c.in-Some.next c.settle_point.new.point c.raised-self-inside.result
    c.raised-self-inside-2.result c.raised-self-inside-3.result c.in-Some.ensures.leaves.0 c.in-Some.ensures.leaves.1
    (sym c.lead_on.ensures.reply ∙ c.in-None-lead_on.is))
    ∙ ap (λ e. answer_of e c.args.found) c.self.view_is)))
