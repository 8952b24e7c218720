-- How the operation at hand goes on: by its first call, or as the call of its request ends.
use Rattle.std.proofs.Common.{ℕ, ◌≡◌, ◌<◌, ◌+◌, ◌*◌, ◌∷◌, ◌++◌, List, [], Option, Some, None, length, refl, sym, ap, ◌∙◌, subst, inl, inr, arith, append_assoc, append-nil, vec_capacity}
use Rattle.trace_lane.proofs.Common.{Need, Ending, Made, Op, NextCall, HeldBlock, LaneState, Work, ComesTo, HasAnswered, AnswersCall, DoingOf, option_map, answered, alloc, call_in, call_of}
use Rattle.trace_lane.proofs.Common.{ended_as, work_begun}
use Rattle.errand_steps.specs.declared.reply.Reply.TheVariants as reply
use Rattle.errand_steps.specs.declared.told.Ending.TheVariants as ending
use Rattle.trace_lane.specs.Advances.{IsFurther, MayAnswer, TakesUp, blocks_of, work_of}
use Rattle.trace_lane.specs.Made.{Asks, GoesOn, IsLater, IsNext}
use Rattle.trace_lane.specs.Requests.{next_held, request_held}
use Rattle.trace_lane.specs.Works.{HasBegunWork, IsServing, WorksTo, calls_bound, calls_ended, rank, request_in, work_held}
use Rattle.trace_lane.specs.declared.request.Answer.{Answer}
use Rattle.trace_lane.specs.declared.request.Next.{Next}
use Rattle.trace_lane.specs.declared.request.Next.TheVariants as onward
use Rattle.trace_lane.specs.declared.request.Request.{Request}
use Rattle.trace_lane.specs.declared.request.Request.TheVariants as request
use Rattle.trace_lane.specs.declared.work.Work.TheVariants as serving
use Rattle.trace_lane.specs.declared.work.Worked.TheVariants as worked
use Rattle.trace_lane.specs.Requests.{answer_held}
use Rattle.trace_lane.proofs.OperationLemmas.{spent-ends}
use Rattle.trace_lane.proofs.WorkLemmas.{begun-held}

-- no call of an allocation has ended before it
alloc-none : (at : Work HeldBlock) (need : ℕ) → request_in at ≡ request.Allocate need → calls_ended at ≡ 0
alloc-none (serving.Filling held v next) need is = absurd (cc)
alloc-none (serving.Summing held next total) need is = absurd (cc)
alloc-none (serving.Reading from to next) need is = absurd (cc)
alloc-none (serving.Writing from to next word) need is = absurd (cc)
alloc-none at need is = refl

module _ {B : Type 0} (place_of : B → ℕ) (block_need : B → Need) where
  abbrev Held : Work B → Work HeldBlock
  Held at = work_held place_of block_need at

  held-taking : (at : Work B) (shelf : ℕ) → Held at ≡ serving.Taking shelf → at ≡ serving.Taking shelf
  held-taking (serving.Taking off) shelf is = let same : off ≡ shelf = cc in ap serving.Taking same
  held-taking at shelf is = absurd (cc)

  -- where no turn is left the request is answered
  spent-answers : (at : Work HeldBlock) (ended : Ending B) → AnswersCall place_of block_need (call_in at) ended → ended ≡ ending.Spent
      → (need : ℕ) × (at ≡ serving.Allocating need)
  spent-answers (serving.Allocating need) ended answers is = (need, refl)
  spent-answers at ended answers is = absurd (subst (λ e. AnswersCall place_of block_need (call_in at) e) is answers)

  going-on :
      (at to : Work HeldBlock) (ended : Ending B) → AnswersCall place_of block_need (call_in at) ended
      → WorksTo at (ended_as place_of block_need ended) (worked.Going to) → ended ≡ ending.Spent → ⊥
  going-on at to ended answers (same, rises, serves) is =
      let (need, alloc_is) = spent-answers at ended answers is in
      let none = alloc-none to need (same ∙ ap request_in alloc_is) in
      elim rises [
        | inl less ↦ omega (arith, less, none)
        | inr again ↦ let both : serving.Allocating need ≡ serving.Taking again.0 = sym alloc_is ∙ again.1 in cc
      ]

  -- it asks for something
  pub takes-up :
      (old new : LaneState B) (next : Next B) (asked : Request B) (at : Work B) (call : NextCall) → next ≡ onward.Ask asked
      → HasBegunWork (request_held place_of block_need asked) (Held at) → call_of call ≡ call_in (Held at) → new ≡ record old { work = Some at }
      → TakesUp place_of block_need next old (Some call) new
  takes-up old new next asked at call is begun call_is new_is =
      let held = request_held place_of block_need asked in
      let next_is : next_held place_of block_need next ≡ onward.Ask held = ap (next_held place_of block_need) is in
      subst (TakesUp place_of block_need next old (Some call)) (sym new_is)
      (record {
        caller = refl;
        registers = refl;
        room = refl;
        comes = λ operation before made so. (
          refl,
          Held at,
          refl,
          (
            made,
            [],
            sym (append-nil made),
            subst (λ q. Asks before (blocks_of place_of block_need old) operation q made) (sym begun.0)
                (subst (λ n. IsNext before operation n made (blocks_of place_of block_need old)) next_is so),
            begun.1,
          ),
          call_is,
        );
        later = λ before some is_some later.
            let rises : rank before < rank held = subst (λ n. IsLater before n) next_is later in
            let same : rank (request_in (Held at)) ≡ rank held = ap rank begun.0 in
            subst (λ n. rank before * calls_bound + calls_bound < n) (begun-held place_of block_need (Some at)) (omega (arith, rises, same));
        asks = λ some is_some. (held, next_is);
      })

  module _ (operation : Op) (ended : Ending B) (old : LaneState B) (at : Work B) (under : old.work ≡ Some at) (ready : MayAnswer place_of block_need operation ended old) where
    held-is : (w : Work HeldBlock) → work_of place_of block_need old ≡ Some w → w ≡ Held at
    held-is w is = let both : Some w ≡ Some (Held at) = sym is ∙ ap (option_map (work_held place_of block_need)) under in cc

    at-is : ready.at ≡ Held at
    at-is = held-is ready.at ready.at_is

    pub answers-at : AnswersCall place_of block_need (call_in (Held at)) ended
    answers-at = subst (λ w. AnswersCall place_of block_need (call_in w) ended) at-is ready.answers

    begun-at : work_begun old.work ≡ work_begun (Some (Held at))
    begun-at = ap work_begun under ∙ sym (begun-held place_of block_need (Some at))

    -- the request goes on with its next call
    pub answer-goes :
        (new : LaneState B) (to : Work B) (call : NextCall)
        → WorksTo (Held at) (ended_as place_of block_need ended) (worked.Going (Held to)) → call_of call ≡ call_in (Held to)
        → new ≡ record old { work = Some to } → HasAnswered place_of block_need operation ended old (Some call) new
    answer-goes new to call (same, rises, serves) call_is new_is =
        subst (λ (l : LaneState B). HasAnswered place_of block_need operation ended old (Some call) l) (sym new_is)
        (record {
          keeps = record { caller = refl; size = refl; room = refl };
          further = elim rises [
            | inl less ↦
                let one : rank (request_in (Held to)) ≡ rank (request_in (Held at)) = ap rank same in
                let more : work_begun (Some (Held at)) < work_begun (Some (Held to)) = omega (arith, less, one) in
                inl
                (subst (λ n. n < work_begun (Some to)) (sym begun-at)
                (subst (λ n. work_begun (Some (Held at)) < n) (begun-held place_of block_need (Some to)) more))
            | inr (shelf, was, now, expected, found, missed) ↦
                inr (shelf, call_is ∙ ap call_in now, under ∙ ap Some (held-taking at shelf was), ap Some (held-taking to shelf now), expected, found, missed)
          ];
          over = λ is. absurd (going-on (Held at) (Held to) ended answers-at (same, rises, serves) is);
          comes = λ before made w w_is (asked, done, is, asks, served).
              let here = held-is w w_is in
              let one : List Made = answered (call_in w) (ended_as place_of block_need ended) ∷ [] in (
                refl,
                Held to,
                refl,
                (
                  asked,
                  done ++ one,
                  ap (λ ms. ms ++ one) is ∙ append_assoc asked done one,
                  subst (λ q. Asks before (blocks_of place_of block_need old) operation q asked) (ap request_in here ∙ sym same) asks,
                  subst (λ c. IsServing (Held to) (done ++ answered c (ended_as place_of block_need ended) ∷ [])) (sym (ap call_in here))
                      (serves done (subst (λ x. IsServing x done) here served)),
                ),
                call_is,
              );
        })

    abbrev One : List Made
    One = answered (call_in (Held at)) (ended_as place_of block_need ended) ∷ []

    doing-at : DoingOf ready.before (blocks_of place_of block_need old) operation (Some (Held at)) ready.made
    doing-at = subst (λ w. DoingOf ready.before (blocks_of place_of block_need old) operation (Some w) ready.made) at-is ready.doing

    -- the request is answered, and the operation goes on by that
    module _ (mid new : LaneState B) (told : Answer B) (next : Next B) (call : Option NextCall)
        (works : WorksTo (Held at) (ended_as place_of block_need ended) (worked.Answered (answer_held place_of block_need told)))
        (goes : GoesOn place_of block_need operation old.registers.items told next mid.registers.items)
        (takes : TakesUp place_of block_need next mid call new) where
      next-so :
          (before : List (Option HeldBlock)) (made : List Made) → DoingOf before (blocks_of place_of block_need old) operation (Some (Held at)) made
          → IsNext before operation (next_held place_of block_need next) (made ++ One) (blocks_of place_of block_need mid)
          × IsLater (request_in (Held at)) (next_held place_of block_need next)
      next-so before made (asked, done, is, asks, served) =
          let so = goes before (request_in (Held at)) asked (done ++ One) asks (works done served) in (
            subst (λ ms. IsNext before operation (next_held place_of block_need next) ms (blocks_of place_of block_need mid))
                (sym (ap (λ ms. ms ++ One) is ∙ append_assoc asked done One)) so.0,
            so.1,
          )

      further-so : (some : Option NextCall) → call ≡ some → IsFurther place_of block_need old (ended_as place_of block_need ended) some new
      further-so None is = tt
      further-so (Some some) is =
          let few : calls_ended (Held at) < calls_bound = subst (λ w. calls_ended w < calls_bound) at-is ready.few in
          let later = takes.later (request_in (Held at)) some is (next-so ready.before ready.made doing-at).1 in
          inl (subst (λ n. n < work_begun new.work) (sym begun-at) (omega (arith, later, few)))

      over-so : (some : Option NextCall) → call ≡ some → ended ≡ ending.Spent → some ≡ None
      over-so None is spent = refl
      over-so (Some some) is spent =
          let (asked, next_is) = takes.asks some is in
          let (need, alloc_is) = spent-answers (Held at) ended answers-at spent in
          let (before_it, done, made_is, asks, none) =
          subst (λ w. DoingOf ready.before (blocks_of place_of block_need old) operation (Some w) ready.made) alloc_is doing-at in
          let first = subst (λ ms. Asks ready.before (blocks_of place_of block_need old) operation (request.Allocate need) ms)
          (sym (made_is ∙ ap (λ ms. before_it ++ ms) none ∙ append-nil before_it)) asks in
          let more = subst (λ n. IsNext ready.before operation n (ready.made ++ One) (blocks_of place_of block_need mid)) next_is
          (next-so ready.before ready.made doing-at).0 in
          let one_is : One ≡ answered (alloc need) reply.Spent ∷ [] =
          ap (λ w. answered (call_in w) (ended_as place_of block_need ended) ∷ []) alloc_is
          ∙ ap (λ e. answered (alloc need) (ended_as place_of block_need e) ∷ []) spent in
          absurd
          (spent-ends ready.before (blocks_of place_of block_need old) (blocks_of place_of block_need mid) operation need ready.made asked first
          (subst (λ ms. Asks ready.before (blocks_of place_of block_need mid) operation asked (ready.made ++ ms)) one_is more))

      pub answer-ends :
          length mid.registers.items ≡ length old.registers.items → mid.caller ≡ old.caller → mid.outcomes ≡ old.outcomes
          → HasAnswered place_of block_need operation ended old call new
      answer-ends size caller outcomes = record {
        keeps = record {
          caller = takes.caller ∙ caller;
          size = ap (λ v. length v.items) takes.registers ∙ size;
          room = takes.room ∙ ap (λ v. vec_capacity v) outcomes;
        };
        further = further-so call refl;
        over = over-so call refl;
        comes = λ before made w w_is doing.
            let here = held-is w w_is in
            let so = next-so before made (subst (λ x. DoingOf before (blocks_of place_of block_need old) operation (Some x) made) here doing) in
            subst
            (λ x. ComesTo place_of block_need operation before old.outcomes.items (made ++ answered (call_in x) (ended_as place_of block_need ended) ∷ []) call new)
            (sym here)
            (subst (λ os. ComesTo place_of block_need operation before os (made ++ One) call new) (ap (λ v. v.items) outcomes)
            (takes.comes operation before (made ++ One) so.0));
      }
