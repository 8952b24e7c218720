use Rattle.std.proofs.Common.{◌≡◌, Some, None, refl, sym, ap, ◌∙◌, subst}
use Rattle.trace_lane.proofs.Common.{IsIdle, OwnsFor, MovesCore, errand_at, begin_answer, call_of, machine_at, begins}
use Rattle.errand_steps.specs.declared.reply.Begun.TheVariants as begun
use Rattle.trace_lane.proofs.AdvanceLemmas.{begins-on, large-need}
use Rattle.trace_lane.proofs.StandLemmas.{coming-call, coming-may, coming-none, coming-room, coming-spent, spent-may}
use Rattle.trace_lane.proofs.lane.LaneState+Grip.begin_call.Goals as goal

pub returns-in_default : goal.returns-in_default
returns-in_default c = record {
  begun = λ lane same. record {
    begun = None;
    called = refl;
    same_caller = same;
    gone_on = λ seen e operations calls k. coming-none (machine_at c.args.core.now lane.caller) k c.in_default.is;
  };
}

pub begin-requires : goal.begin-requires
begin-requires c =
    let core = c.args.core.now in
    let (seen, e, operations, calls, lane, k) = c.requires.ready in
    let may = coming-may (machine_at core lane.caller) k c.in-Some.call c.in-Some.is c.requires.operation in
    let same = sym k.keeps.caller in
    record {
      serves = c.requires.serves;
      idle = subst (λ n. IsIdle (errand_at core.errands n)) same may.idle;
      owned = subst (λ n. OwnsFor core.events n (call_of c.in-Some.call)) same may.owned;
      fits = may.fits;
    }

pub unreachable-requires : goal.unreachable-requires
unreachable-requires c =
    let (seen, e, operations, calls, lane, k) = c.requires.ready in
    large-need (errand_at c.args.core.now.errands c.args.self.now.caller) (call_of c.in-Some.call)
    (coming-may (machine_at c.args.core.now lane.caller) k c.in-Some.call c.in-Some.is c.requires.operation).fits
    (sym c.begin.ensures.answer ∙ c.in-TooLarge.is)

pub returns-in-Started : goal.returns-in-Started
returns-in-Started c = record {
  begun = λ lane same.
      let core = c.args.core.now in
      let call = call_of c.in-Some.call in
      let called = subst (λ n. MovesCore core (begins n call) c.begin.new.core) same c.begin.ensures.called in
      let started : begin_answer (errand_at core.errands lane.caller) call ≡ begun.Started =
      ap (λ n. begin_answer (errand_at core.errands n) call) (sym same) ∙ sym c.begin.ensures.answer ∙ c.in-Started.is in
      record {
        begun = Some call;
        called = called;
        same_caller = same;
        gone_on = λ seen e operations calls k.
            begins-on lane.caller call core c.begin.new.core called seen e operations calls lane c.args.self.now
            (coming-call (machine_at core lane.caller) k c.in-Some.call c.in-Some.is
            (coming-may (machine_at core lane.caller) k c.in-Some.call c.in-Some.is c.requires.operation) started);
      };
}

pub answer-requires-clause-ready : goal.answer-requires-clause-ready
answer-requires-clause-ready c =
    let core = c.args.core.now in
    let (seen, e, operations, calls, lane, k) = c.requires.ready in
    spent-may (machine_at core lane.caller) k c.in-Some.call c.in-Some.is
    (ap (λ n. begin_answer (errand_at core.errands n) (call_of c.in-Some.call)) (sym k.keeps.caller) ∙ sym c.begin.ensures.answer ∙ c.in-Spent.is)

pub answer-requires-clause-size : goal.answer-requires-clause-size
answer-requires-clause-size c = let (seen, e, operations, calls, lane, k) = c.requires.ready in k.keeps.size ∙ k.size

pub answer-requires-clause-room : goal.answer-requires-clause-room
answer-requires-clause-room c =
    let core = c.args.core.now in
    let (seen, e, operations, calls, lane, k) = c.requires.ready in
    coming-room (machine_at core lane.caller) k c.in-Some.call c.in-Some.is
    (ap (λ n. begin_answer (errand_at core.errands n) (call_of c.in-Some.call)) (sym k.keeps.caller) ∙ sym c.begin.ensures.answer ∙ c.in-Spent.is)

pub returns-in-Spent : goal.returns-in-Spent
returns-in-Spent c = record {
  begun = λ lane same.
      let core = c.args.core.now in
      let call = call_of c.in-Some.call in
      let called = subst (λ n. MovesCore core (begins n call) c.begin.new.core) same c.begin.ensures.called in
      let spent : begin_answer (errand_at core.errands lane.caller) call ≡ begun.Spent =
      ap (λ n. begin_answer (errand_at core.errands n) call) (sym same) ∙ sym c.begin.ensures.answer ∙ c.in-Spent.is in
      let answers = c.answer.ensures.answered in
      record {
        begun = Some call;
        called = called;
        same_caller = answers.keeps.caller ∙ same;
        gone_on = λ seen e operations calls k.
            begins-on lane.caller call core c.begin.new.core called seen e operations calls lane c.answer.new.self
            (coming-spent (machine_at core lane.caller) k c.in-Some.call c.in-Some.is spent c.answer.new.self c.answer.result
            (coming-may (machine_at core lane.caller) k c.in-Some.call c.in-Some.is c.requires.operation) answers);
      };
}
