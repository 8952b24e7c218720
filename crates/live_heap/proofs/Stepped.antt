-- A pass after a step.
use Rattle.std.proofs.Common.{ℕ, suc, ◌≡◌, inl, List, length, sym, ap, ◌∙◌, subst}
use Rattle.std.specs.Prelude.{Contains}
use mathlib.Core.Option.{some}
use lib.ListN.{get_elem?}
use Rattle.heap_geometry.specs.declared.geometry.Geometry.{Geometry}
use Rattle.errand_steps.specs.declared.reply.Progress.{Progress}
use Rattle.errand_steps.specs.declared.told.Stepped.{Stepped}
use Rattle.errand_steps.specs.Errands.{ErrandFields, settle_of, answer_of}
use Rattle.errand_steps.specs.Offers.{offered_at}
use Rattle.errand_steps.specs.Told.{GivesBack}
use Rattle.step_machine.specs.Moments.{IsMoment, IsServed}
use Rattle.step_machine.proofs.MomentAnswers.{settle-caller}
use Rattle.live_heap.specs.declared.block.Block.{Block}
use Rattle.live_heap.specs.Heaps.{HeapFields}
use Rattle.live_heap.specs.declared.pass.Pass.{Pass}
use Rattle.live_heap.specs.Answers.{HasStepped, block_need, block_place, progress_of}
use Rattle.live_heap.specs.Passes.{IsOf, IsOneStep, accesses_of, seen, view}
use Rattle.owned_words.specs.Leaving.{concerned}
use Rattle.owned_words.proofs.Concerned.{settles-concerned}
use Rattle.live_heap.specs.declared.view.Lent.{Lent}
use Rattle.live_heap.specs.Sights.{AreOwned, IsSightOf, TakesStep, found_in}
use Rattle.live_heap.proofs.Begun.{of-laid}

-- the pass may make a step of its errand
pub of-sight : (h : HeapFields) (p : Pass) → IsOf h p → IsSightOf h.layout (view p) p.errand
of-sight h p of = record { before = of.before; one = of.one; begun = of.begun; laid = of-laid h p of; apart = of.apart }

-- the pass stays one of its heap behind a step
pub still-of :
    (h : HeapFields) (p q : Pass) (n : ℕ) → IsOf h p → q.seat.region ≡ p.seat.region → q.seat.me.1 ≡ p.seat.me.1 → q.out ≡ p.out
    → q.errand ≡ settle_of p.errand (found_in p.errand n) → TakesStep p.errand n (view p) (view q) → IsOf h q
still-of h p q n of table empty out is s =
    let x = found_in p.errand n in
    let laid = of-laid h p of in
    let number : settle_of p.errand x ≡ s.after.errand = sym s.errand in
    let S : ErrandFields → Type 0 = λ f. IsServed h.layout f.caller f (seen q) in
    let served : IsServed h.layout p.errand.caller (settle_of p.errand x) (seen q) =
    subst (λ g. IsServed g p.errand.caller (settle_of p.errand x) (seen q)) laid s.served in
    record {
      table = table ∙ of.table;
      empty = empty ∙ of.empty;
      before = s.after;
      one = s.now;
      sight = s.seen;
      begun = inl (is ∙ number);
      served = subst S (sym is) (subst (λ c. IsServed h.layout c (settle_of p.errand x) (seen q)) (sym (settle-caller p.errand x)) served);
      alone = λ one. subst (λ (f : ErrandFields). f.lost ≡ 0) (sym is) (s.alone (ap (λ (g : Geometry). g.callers) laid ∙ one));
      settled = s.lays ∙ of.settled;
      counted = ap length s.lent ∙ of.counted ∙ sym out;
      mine = subst (λ c. AreOwned (view q) c) (sym (ap (λ (e : ErrandFields). e.caller) is ∙ settle-caller p.errand x)) s.mine;
      apart = λ n b found concerns.
          of.apart n b (ap (λ (l : List Lent). get_elem? l n) (sym s.lent) ∙ found)
          (settles-concerned p.errand x b.place (subst (λ (f : ErrandFields). Contains (concerned f.point) b.place) is concerns));
      once = subst (λ (l : List Lent). (m n : ℕ) (a b : Lent) → get_elem? l m ≡ some a → get_elem? l n ≡ some b → a.place ≡ b.place → m ≡ n) (sym s.lent) of.once;
    }

-- the moment of the step, as the code made it
pub took-step :
    (p q : Pass) (n : ℕ) (answer : Progress) → q.errand ≡ settle_of p.errand (found_in p.errand n) → answer ≡ answer_of p.errand (found_in p.errand n)
    → TakesStep p.errand n (view p) (view q) → IsMoment p.errand q.errand (seen p) (seen q) answer
took-step p q n answer is told s =
    subst (λ f. IsMoment p.errand f (seen p) (seen q) answer) (sym is)
    (subst (IsMoment p.errand (settle_of p.errand (found_in p.errand n)) (seen p) (seen q)) (sym told) s.moment)

-- a step of a pass is one access more
pub took-access : (e : ErrandFields) (p q : Pass) (n : ℕ) → TakesStep e n (view p) (view q) → IsOneStep p q
took-access e p q n s = (ap accesses_of s.now ∙ (s.accesses ∙ ap suc (sym (ap accesses_of s.was))), s.lent)

pub has-stepped :
    (p q : Pass) (answer : Progress) (told : Stepped Block) → IsMoment p.errand q.errand (seen p) (seen q) answer → IsOneStep p q
    → progress_of told ≡ answer
    → GivesBack block_place block_need (offered_at p.errand.point) told → HasStepped p q told
has-stepped p q answer told moment one is back =
    record { moment = subst (IsMoment p.errand q.errand (seen p) (seen q)) (sym is) moment; accesses = one.0; back = back; lent = one.1 }
