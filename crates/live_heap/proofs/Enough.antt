-- A block that is given has as many usable words as were asked for.
use Rattle.std.proofs.Common.{ℕ, zero, suc, Bool, true, ◌≡◌, ◌-◌, ◌<◌, ◌≤◌, List, Some, refl, sym, ◌∙◌, subst, inl, inr, arith}
use Rattle.std.specs.Prelude.{nat_le}
use Rattle.std.proofs.lemmas.Bool.{cases_Bool, cases_lt, le-leb, leb-true, lt-leb}
use Rattle.heap_geometry.specs.declared.limits.TheConstants.{CLASSES, SMALL_MOST, LARGE_MOST, MAX_UNITS}
use Rattle.heap_geometry.specs.declared.need.Need.{Need}
use Rattle.heap_geometry.specs.declared.need.Need.TheVariants.{TooLarge}
use Rattle.heap_geometry.specs.Need.{class_words, least, need_of, run_words, usable_words}
use Rattle.heap_geometry.proofs.NeedLemmas.{need_of-is}
use Rattle.pool_model.specs.declared.event.Event.{Event}
use Rattle.pool_model.specs.Calls.{Ended, EventsOf, IsGiving}
use Rattle.pool_model.specs.Calls as ended
use Rattle.errand_steps.specs.declared.reply.Reply.TheVariants as reply
use Rattle.errand_steps.specs.Calls.{alloc}
use Rattle.live_heap.specs.declared.pass.Pass.{Pass}
use Rattle.live_heap.specs.Calls.{HasCalled}

-- the least number that passes a test passes it, where one does
least-passes : (bound k : ℕ) (test : ℕ → Bool) → k < bound → test k ≡ true → test (least bound test) ≡ true
unfolding least
least-passes zero k test below passes = absurd (omega (arith, below))
least-passes (suc bound) zero test below passes = rw passes passes
least-passes (suc bound) (suc k) test below passes =
    elim (cases_Bool (test 0)) [
      | inl first ↦ rw first first
      | inr later ↦ rw later (least-passes bound k (λ j. test (suc j)) (omega (arith, below)) passes)
    ]

-- the blocks that serve so many words have as many
need-enough : (words : ℕ) → words ≤ LARGE_MOST → words ≤ usable_words (need_of words)
unfolding need_of
need-enough words within =
    elim (cases_lt SMALL_MOST words) [
      | inr small ↦
          let test : ℕ → Bool = λ class. nat_le words (class_words class) in
          rw (le-leb words SMALL_MOST small)
          (leb-true words (class_words (least CLASSES test))
          (least-passes CLASSES (CLASSES - 1) test (omega arith) (le-leb words (class_words (CLASSES - 1)) small)))
      | inl above ↦
          let test : ℕ → Bool = λ units. nat_le words (run_words units) in
          rw (lt-leb words SMALL_MOST above, le-leb words LARGE_MOST within)
          (leb-true words (run_words (least (suc MAX_UNITS) test))
          (least-passes (suc MAX_UNITS) MAX_UNITS test (omega arith) (le-leb words (run_words MAX_UNITS) within)))
    ]

giving-within : (caller words place : ℕ) (n : Need) (events : List Event) → n ≡ need_of words → IsGiving caller words place n events → words ≤ LARGE_MOST
giving-within caller words place n events is giving =
    elim (cases_lt LARGE_MOST words) [
      | inr within ↦ within
      | inl more ↦
          absurd
          (let large : n ≡ TooLarge = is ∙ sym (need_of-is words TooLarge more) in
          subst (λ (m : Need). IsGiving caller words place m events) large giving)
    ]

pub given-enough :
    (p q : Pass) (words steps place : ℕ) (need : Need) → HasCalled p (alloc words) steps (reply.Given place need) q → words ≤ usable_words need
given-enough p q words steps place need called =
    let caller = p.errand.caller in
    let is : Some (ended.alloc_given words place) ≡ Some called.ended.ended.0 = called.ended.ended.1 in
    let end : ended.alloc_given words place ≡ called.ended.ended.0 = cc in
    let giving : IsGiving caller words place (need_of words) called.added =
    subst (λ (x : Ended). EventsOf caller x called.added) (sym end) called.ended.ended.2 in
    subst (λ (n : Need). words ≤ usable_words n) (sym called.ended.serves)
    (need-enough words (giving-within caller words place (need_of words) called.added refl giving))
