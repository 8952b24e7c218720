use Rattle.std.proofs.Common.{◌≡◌, ◌+◌, ◌%◌, ◌^◌, refl, sym, ap, ◌∙◌, subst, inl, arith}
use Rattle.errand_steps.specs.declared.reply.Reply.TheVariants as reply
use Rattle.trace_lane.proofs.Common.{AnswersCall, HeldBlock, Work, call_in, held_by}
use Rattle.trace_lane.specs.declared.request.Answer.TheVariants as answer
use Rattle.trace_lane.specs.declared.work.Work.TheVariants as work
use Rattle.trace_lane.specs.declared.work.Worked.TheVariants as worked
use Rattle.trace_lane.specs.Works.{behind, work_held}
use Rattle.trace_lane.proofs.WorkLemmas as lemma
use Rattle.trace_lane.proofs.work.Work.answer.Goals as goal

pub returns-in-Some : goal.returns-in-Some
returns-in-Some g c =
    let place_of = g.B.Token.place_of in
    let need_of = g.B.Token.need_of in
    let ended = c.args.ended in
    let held = held_by place_of need_of c.in-Filling.block in
    let at : Work HeldBlock = work.Filling held c.in-Filling.from c.in-Filling.next in
    let at_is : work_held place_of need_of c.args.self ≡ at = ap (work_held place_of need_of) c.in-Filling.is in
    let answers = subst (λ w. AnswersCall place_of need_of (call_in w) ended) at_is c.requires.answers in
    let i = c.in-Filling.next in
    let told = lemma.wrote-so place_of need_of held.place held.need i ((c.in-Filling.from + i) % 2 ^ 64) ended answers in
    let goes =
    lemma.fill-goes held c.in-Filling.from i c.in-Some.next
    (sym c.in-Some.is ∙ c.word_behind.ensures ∙ ap (behind i) c.words.ensures) in
    record {
      worked =
          lemma.works-so place_of need_of c.args.self at ended reply.Wrote (worked.Going (work.Filling held c.in-Filling.from c.in-Some.next)) at_is told.0
          (refl, inl goes.0, goes.1);
    }

pub returns-in-Filling : goal.returns-in-Filling
returns-in-Filling g c =
    let place_of = g.B.Token.place_of in
    let need_of = g.B.Token.need_of in
    let ended = c.args.ended in
    let held = held_by place_of need_of c.in-Filling.block in
    let at : Work HeldBlock = work.Filling held c.in-Filling.from c.in-Filling.next in
    let at_is : work_held place_of need_of c.args.self ≡ at = ap (work_held place_of need_of) c.in-Filling.is in
    let answers = subst (λ w. AnswersCall place_of need_of (call_in w) ended) at_is c.requires.answers in
    let i = c.in-Filling.next in
    let told = lemma.wrote-so place_of need_of held.place held.need i ((c.in-Filling.from + i) % 2 ^ 64) ended answers in
    record {
      worked = lemma.works-so place_of need_of c.args.self at ended reply.Wrote (worked.Answered (answer.Filled held)) at_is told.0
          (lemma.fill-ends held c.in-Filling.from i
          (sym c.in-None.is ∙ c.word_behind.ensures ∙ ap (behind i) c.words.ensures) told.1);
    }

pub returns-in-Some-word_behind : goal.returns-in-Some-word_behind
returns-in-Some-word_behind g c =
    let place_of = g.B.Token.place_of in
    let need_of = g.B.Token.need_of in
    let ended = c.args.ended in
    let held = held_by place_of need_of c.in-Summing.block in
    let at : Work HeldBlock = work.Summing held c.in-Summing.next c.in-Summing.total in
    let at_is : work_held place_of need_of c.args.self ≡ at = ap (work_held place_of need_of) c.in-Summing.is in
    let answers = subst (λ w. AnswersCall place_of need_of (call_in w) ended) at_is c.requires.answers in
    let i = c.in-Summing.next in
    let told = lemma.word-so place_of need_of held.place held.need i ended answers in
    let goes =
    lemma.sum-goes held i c.in-Summing.total c.word_of.result c.in-Some-word_behind.next
    (sym c.in-Some-word_behind.is ∙ c.word_behind-in-Summing.ensures ∙ ap (behind i) c.words-in-Summing.ensures) in
    record {
      worked =
          lemma.works-so place_of need_of c.args.self at ended (reply.Word c.word_of.result)
          (worked.Going (work.Summing held c.in-Some-word_behind.next ((c.in-Summing.total + c.word_of.result) % 2 ^ 64))) at_is
          (told.0 ∙ ap reply.Word (sym c.word_of.ensures)) (refl, inl goes.0, goes.1);
    }

pub returns-in-Summing : goal.returns-in-Summing
returns-in-Summing g c =
    let place_of = g.B.Token.place_of in
    let need_of = g.B.Token.need_of in
    let ended = c.args.ended in
    let held = held_by place_of need_of c.in-Summing.block in
    let at : Work HeldBlock = work.Summing held c.in-Summing.next c.in-Summing.total in
    let at_is : work_held place_of need_of c.args.self ≡ at = ap (work_held place_of need_of) c.in-Summing.is in
    let answers = subst (λ w. AnswersCall place_of need_of (call_in w) ended) at_is c.requires.answers in
    let i = c.in-Summing.next in
    let told = lemma.word-so place_of need_of held.place held.need i ended answers in
    record {
      worked = lemma.works-so place_of need_of c.args.self at ended (reply.Word c.word_of.result)
          (worked.Answered (answer.Summed held ((c.in-Summing.total + c.word_of.result) % 2 ^ 64))) at_is
          (told.0 ∙ ap reply.Word (sym c.word_of.ensures))
          (lemma.sum-ends held i c.in-Summing.total c.word_of.result
          (sym c.in-None-word_behind.is ∙ c.word_behind-in-Summing.ensures ∙ ap (behind i) c.words-in-Summing.ensures) told.1);
    }

pub returns-in-Some-word_behind-2 : goal.returns-in-Some-word_behind-2
returns-in-Some-word_behind-2 g c =
    let place_of = g.B.Token.place_of in
    let need_of = g.B.Token.need_of in
    let ended = c.args.ended in
    let from = held_by place_of need_of c.in-Writing.from in
    let to = held_by place_of need_of c.in-Writing.to in
    let at : Work HeldBlock = work.Writing from to c.in-Writing.next c.in-Writing.word in
    let at_is : work_held place_of need_of c.args.self ≡ at = ap (work_held place_of need_of) c.in-Writing.is in
    let answers = subst (λ w. AnswersCall place_of need_of (call_in w) ended) at_is c.requires.answers in
    let i = c.in-Writing.next in
    let told = lemma.wrote-so place_of need_of to.place to.need i c.in-Writing.word ended answers in
    let goes =
    lemma.copy-reads from to i c.in-Some-word_behind-2.next
    (sym c.in-Some-word_behind-2.is ∙ c.word_behind-in-Writing.ensures ∙ ap (behind i) c.words-in-Writing.ensures)
    (let m = c.words-many.ensures in omega (arith, c.if-next-many.true, m)) in
    record {
      worked = lemma.works-so place_of need_of c.args.self at ended reply.Wrote (worked.Going (work.Reading from to c.in-Some-word_behind-2.next)) at_is told.0
          (refl, inl (omega (arith, goes.0)), λ made serving. goes.1 (lemma.with_answer made (call_in at) reply.Wrote) (lemma.copy-wrote from to i c.in-Writing.word made serving));
    }

pub returns-in-Some-2 : goal.returns-in-Some-2
returns-in-Some-2 g c =
    let place_of = g.B.Token.place_of in
    let need_of = g.B.Token.need_of in
    let ended = c.args.ended in
    let from = held_by place_of need_of c.in-Writing.from in
    let to = held_by place_of need_of c.in-Writing.to in
    let at : Work HeldBlock = work.Writing from to c.in-Writing.next c.in-Writing.word in
    let at_is : work_held place_of need_of c.args.self ≡ at = ap (work_held place_of need_of) c.in-Writing.is in
    let answers = subst (λ w. AnswersCall place_of need_of (call_in w) ended) at_is c.requires.answers in
    let i = c.in-Writing.next in
    let told = lemma.wrote-so place_of need_of to.place to.need i c.in-Writing.word ended answers in
    let goes =
    lemma.copy-clears from to i c.in-Some-word_behind-2.next
    (sym c.in-Some-word_behind-2.is ∙ c.word_behind-in-Writing.ensures ∙ ap (behind i) c.words-in-Writing.ensures)
    (let m = c.words-many.ensures in omega (arith, c.if-next-many.false, m)) in
    record {
      worked = lemma.works-so place_of need_of c.args.self at ended reply.Wrote (worked.Going (work.Writing from to c.in-Some-word_behind-2.next 0)) at_is told.0
          (refl, inl (omega (arith, goes.0)), λ made serving. goes.1 (lemma.with_answer made (call_in at) reply.Wrote) (lemma.copy-wrote from to i c.in-Writing.word made serving));
    }

pub returns-in-Writing : goal.returns-in-Writing
returns-in-Writing g c =
    let place_of = g.B.Token.place_of in
    let need_of = g.B.Token.need_of in
    let ended = c.args.ended in
    let from = held_by place_of need_of c.in-Writing.from in
    let to = held_by place_of need_of c.in-Writing.to in
    let at : Work HeldBlock = work.Writing from to c.in-Writing.next c.in-Writing.word in
    let at_is : work_held place_of need_of c.args.self ≡ at = ap (work_held place_of need_of) c.in-Writing.is in
    let answers = subst (λ w. AnswersCall place_of need_of (call_in w) ended) at_is c.requires.answers in
    let i = c.in-Writing.next in
    let told = lemma.wrote-so place_of need_of to.place to.need i c.in-Writing.word ended answers in
    let found = sym c.in-None-word_behind-2.is ∙ c.word_behind-in-Writing.ensures ∙ ap (behind i) c.words-in-Writing.ensures in
    record {
      worked = lemma.works-so place_of need_of c.args.self at ended reply.Wrote (worked.Answered (answer.Copied from to)) at_is told.0
          (λ made serving. lemma.copy-ends from to i found told.1 (lemma.with_answer made (call_in at) reply.Wrote) (lemma.copy-wrote from to i c.in-Writing.word made serving));
    }

pub laid-requires : goal.laid-requires
laid-requires g c =
    let place_of = g.B.Token.place_of in
    let need_of = g.B.Token.need_of in
    let ended = c.args.ended in
    let at_is = ap (work_held place_of need_of) c.in-Putting.is in
    let answers = subst (λ w. AnswersCall place_of need_of (call_in w) ended) at_is c.requires.answers in
    record { answers = (_, _, c.in-Putting.shelf, answers) }
