-- What a call that has ended leaves a pass with.
use Rattle.std.proofs.Common.{ℕ, ◌≡◌, ◌≢◌, List, [], length, inl, inr, Option, Some, None, refl, sym, ap, ◌∙◌, subst}
use Rattle.std.proofs.lemmas.Bool.{cases_Bool}
use Rattle.std.proofs.lemmas.List.{nil_from_length}
use mathlib.Core.Option.{some, some-ne-none}
use lib.ListN.{get_elem?}
use Rattle.heap_geometry.specs.declared.need.Need.{Need}
use Rattle.errand_steps.specs.declared.reply.Progress.TheVariants as progress
use Rattle.errand_steps.specs.declared.reply.Reply.{Reply}
use Rattle.errand_steps.specs.declared.reply.Reply.TheVariants as reply
use Rattle.errand_steps.specs.declared.told.Ending.TheVariants as ending
use Rattle.errand_steps.specs.declared.told.Stepped.{Stepped}
use Rattle.errand_steps.specs.declared.told.Stepped.TheVariants as step
use Rattle.errand_steps.specs.Begins.{IsBusy, IsIdle}
use Rattle.errand_steps.specs.Calls.{Call, free, put}
use Rattle.errand_steps.specs.Errands.{settle_of}
use Rattle.errand_steps.specs.Points.{is_idle}
use Rattle.errand_steps.proofs.AnswerLemmas.{done-told}
use Rattle.step_machine.specs.Keeping.{LeavesPlace}
use Rattle.step_machine.specs.Moments.{IsMoment}
use Rattle.step_machine.proofs.MomentAnswers.{found, moment-given, moment-settles}
use Rattle.live_heap.specs.declared.answers.Full.{Full}
use Rattle.live_heap.specs.declared.block.Block.{Block}
use Rattle.live_heap.specs.Heaps.{HeapFields}
use Rattle.live_heap.specs.declared.pass.Pass.{Pass}
use Rattle.live_heap.specs.declared.view.Lent.{Lent}
use Rattle.live_heap.specs.Answers.{HasStepped, PutTellsFull, progress_of}
use Rattle.live_heap.specs.Calls.{HasCalled}
use Rattle.live_heap.specs.Passes.{IsHome, IsOf, Owns, seen, view}
use Rattle.benches.specs.Hands.{HasMade, Rests}

-- the laws of `passes_keep_their_blocks`: a call keeps the other blocks, and a block that it brings is none of those
abbrev pub KeepsOthers : Type 0
KeepsOthers =
    (h : HeapFields) (p q : Pass) (call : Call) (steps : ℕ) (answer : Reply) (block : Block) → IsOf h p → IsOf h q → HasCalled p call steps answer q
    → LeavesPlace call block.place → Owns p block → Owns q block

abbrev pub GivesAnother : Type 0
GivesAnother =
    (h : HeapFields) (p q : Pass) (call : Call) (steps place : ℕ) (need : Need) (block : Block) → IsOf h p → IsOf h q
    → HasCalled p call steps (reply.Given place need) q → Owns p block → block.place ≢ place

abbrev pub GetsAnother : Type 0
GetsAnother =
    (h : HeapFields) (p q : Pass) (call : Call) (steps place : ℕ) (need : Need) (block : Block) → IsOf h p → IsOf h q
    → HasCalled p call steps (reply.Got place need) q → Owns p block → block.place ≢ place

-- as many blocks' words are out with a pass behind a call as before
pub same-out : (h : HeapFields) (p q : Pass) → IsOf h p → IsOf h q → (view q).lent ≡ (view p).lent → q.out ≡ p.out
same-out h p q was is same = sym is.counted ∙ (ap (λ (l : List Lent). length l) same ∙ was.counted)

-- where nothing is out the words of each block are home
home-where : (h : HeapFields) (p : Pass) (place : ℕ) → IsOf h p → p.out ≡ 0 → IsHome p place
home-where h p place of out = λ n b found.
    let none : (view p).lent ≡ [] = nil_from_length (view p).lent (of.counted ∙ out) in
    absurd (some-ne-none b (sym (subst (λ (l : List Lent). get_elem? l n ≡ some b) none found)))

rests-still : (h : HeapFields) (p q : Pass) (call : Call) (steps : ℕ) (answer : Reply) → Rests h p → IsOf h q → HasCalled p call steps answer q → Rests h q
rests-still h p q call steps answer rests still called = (still, called.idle, same-out h p q rests.0 still called.lent ∙ rests.2)

module _ (keep : KeepsOthers) (h : HeapFields) (p q : Pass) (call : Call) (steps : ℕ) (was : Rests h p) (still : IsOf h q) where
  -- a call brought no block
  pub made-none : (answer : Reply) → HasCalled p call steps answer q → HasMade h p call None q
  made-none answer called = record {
    rests = rests-still h p q call steps answer was still called;
    keeps = λ block leaves owned. keep h p q call steps answer block was.0 still called leaves owned;
    new = tt;
  }

  -- a call was given a block
  pub made-given :
      GivesAnother → (block : Block) → HasCalled p call steps (reply.Given block.place block.need) q → Owns q block → HasMade h p call (Some block) q
  made-given another block called owned = record {
    rests = rests-still h p q call steps (reply.Given block.place block.need) was still called;
    keeps = λ other leaves had. keep h p q call steps (reply.Given block.place block.need) other was.0 still called leaves had;
    new = (owned, λ other had. another h p q call steps block.place block.need other was.0 still called had);
  }

  -- a call took a block
  pub made-got :
      GetsAnother → (block : Block) → HasCalled p call steps (reply.Got block.place block.need) q → Owns q block → HasMade h p call (Some block) q
  made-got another block called owned = record {
    rests = rests-still h p q call steps (reply.Got block.place block.need) was still called;
    keeps = λ other leaves had. keep h p q call steps (reply.Got block.place block.need) other was.0 still called leaves had;
    new = (owned, λ other had. another h p q call steps block.place block.need other was.0 still called had);
  }

-- a call was made, and nothing has happened
pub made-nothing : (h : HeapFields) (p q : Pass) (call : Call) → Rests h p → q ≡ p → HasMade h p call None q
made-nothing h p q call rests same =
    subst (λ (x : Pass). HasMade h p call None x) (sym same) (record { rests = rests; keeps = λ block leaves owned. owned; new = tt })

-- a call that brought a block or none, where that is not asked for
pub made-without : (h : HeapFields) (p q : Pass) (call : Call) (got : Option Block) → HasMade h p call got q → HasMade h p call None q
made-without h p q call got made = record { rests = made.rests; keeps = made.keeps; new = tt }

-- a put that found a full shelf, and the free of the block that came back
pub made-freed :
    KeepsOthers → (h : HeapFields) (p q r : Pass) (block : Block) (shelf : ℕ) (full : Full) → IsOf h p → IsOf h q → PutTellsFull p block shelf full q
    → HasMade h q (free full.block.place full.block.need) None r → HasMade h p (put block.place block.need shelf) None r
made-freed keep h p q r block shelf full of still tells freed =
    let same : full.block.place ≡ block.place = ap (λ (b : Block). b.place) tells.same in
    record {
      rests = freed.rests;
      keeps = λ other leaves owned. freed.keeps other (λ e. leaves (e ∙ same)) (keep h p q (put block.place block.need shelf) 0 (reply.Full full.found) other of still tells.called leaves owned);
      new = tt;
    }

-- as many blocks' words are out behind a step as before
pub step-out :
    (h : HeapFields) (p q : Pass) (told : Stepped Block) → IsOf h p → IsOf h q → (IsIdle p.errand → (told ≡ step.Idle) × (q ≡ p))
    → (IsBusy p.errand → HasStepped p q told) → q.out ≡ p.out
step-out h p q told was is idle busy =
    elim (cases_Bool (is_idle p.errand.point)) [
      | inl rests ↦ ap (λ (r : Pass). r.out) (idle rests).1
      | inr moves ↦ same-out h p q was is (busy moves).lent
    ]

-- a step that is told has given a block ends its call, and the block is the pass's
abbrev IsIdleStep : Stepped Block → Type 0
IsIdleStep step.Idle = Unit {0}
IsIdleStep told = ⊥

pub given-owned :
    (h : HeapFields) (p q : Pass) (told : Stepped Block) (block : Block) → IsOf h q → q.out ≡ 0 → q.errand.caller ≡ p.errand.caller → (IsIdle p.errand → (told ≡ step.Idle) × (q ≡ p))
    → (IsBusy p.errand → HasStepped p q told) → told ≡ step.Done (ending.Given block) → IsIdle q.errand × Owns q block
given-owned h p q told block of out caller idle busy is =
    elim (cases_Bool (is_idle p.errand.point)) [
      | inl rests ↦ absurd (subst IsIdleStep (sym (idle rests).0 ∙ is) tt)
      | inr moves ↦
          let r : Reply = reply.Given block.place block.need in
          let m : IsMoment p.errand q.errand (seen p) (seen q) (progress.Done r) =
          subst (λ (t : Stepped Block). IsMoment p.errand q.errand (seen p) (seen q) (progress_of t)) is (busy moves).moment in
          let settled = moment-settles p.errand q.errand (seen p) (seen q) (progress.Done r) m in
          let rests : IsIdle (settle_of p.errand (found p.errand q.errand (seen p) (seen q) (progress.Done r) m)) =
          (done-told p.errand (found p.errand q.errand (seen p) (seen q) (progress.Done r) m) moves).1 (r, sym m.answers) in (
            subst IsIdle (sym settled) rests,
            (moment-given p.errand q.errand (seen p) (seen q) (progress.Done r) m block.place block.need refl, home-where h q block.place of out),
          )
    ]
