-- What whole calls of a pass leave and hand out.
use Rattle.std.proofs.Common.{ℕ, ◌≡◌, ◌≢◌, refl, sym, subst}
use Rattle.heap_geometry.specs.declared.need.Need.{Need}
use Rattle.heap_geometry.specs.Need.{need_of}
use Rattle.errand_steps.specs.declared.reply.Progress.TheVariants as progress
use Rattle.errand_steps.specs.declared.reply.Reply.{Reply}
use Rattle.errand_steps.specs.declared.reply.Reply.TheVariants as reply
use Rattle.errand_steps.specs.Calls.{Call, alloc}
use Rattle.step_machine.specs.Cores.{OwnsAfter}
use Rattle.step_machine.specs.Keeping.{Hands, LeavesPlace}
use Rattle.step_machine.proofs.MomentAnswers.{moment-meant, moment-owns}
use Rattle.live_heap.specs.Heaps.{HeapFields}
use Rattle.live_heap.specs.declared.pass.Pass.{Pass}
use Rattle.live_heap.specs.Passes.{OwnsAt, seen}
use Rattle.step_machine.proofs.ApartLemmas.{ended-spares, given-apart, got-apart, owns-on}
use Rattle.live_heap.proofs.LawsKept.{called-adds, stays-home}
use Rattle.live_heap.specs.Whole.{IsWhole, by_steps, at_once}

abbrev HasAt : Pass → ℕ → Need → Type 0
HasAt p place need = OwnsAfter (seen p) p.errand.caller place need

pub pass-keeps :
    (h k : HeapFields) (p q : Pass) (call : Call) (answer : Reply) (place : ℕ) (need : Need)
    → IsWhole h p call answer k q → LeavesPlace call place → HasAt p place need → HasAt q place need
pass-keeps h k p q call answer place need (by_steps ended, may, same, is) leaves owns =
    let called = ended.1 in
    subst (λ c. OwnsAfter (seen q) c place need) (sym called.caller)
    (owns-on k.layout p.errand.caller place need (seen p) (seen q) called.added is.0.served.legal (called-adds p q call ended.0 answer called)
    (ended-spares p.errand.caller place call answer called.added leaves called.ended) owns)
pass-keeps h k p q call answer place need (at_once words is_alloc spent once, may, same, is) leaves owns =
    subst (λ (r : Pass). HasAt r place need) (sym once.same) owns

-- and its words stay home
pub whole-keeps :
    (h k : HeapFields) (p q : Pass) (call : Call) (answer : Reply) (place : ℕ) (need : Need)
    → IsWhole h p call answer k q → LeavesPlace call place → OwnsAt p place need → OwnsAt q place need
whole-keeps h k p q call answer place need (by_steps ended, may, same, is) leaves owns =
    (pass-keeps h k p q call answer place need (by_steps ended, may, same, is) leaves owns.0, stays-home p q place ended.1.lent owns.1)
whole-keeps h k p q call answer place need (at_once words is_alloc spent once, may, same, is) leaves owns =
    subst (λ (r : Pass). OwnsAt r place need) (sym once.same) owns

pub pass-hands :
    (h k : HeapFields) (p q : Pass) (call : Call) (answer : Reply) (place : ℕ) (need : Need)
    → IsWhole h p call answer k q → Hands answer place need → HasAt q place need
pass-hands h k p q call (reply.Given at n) place need (by_steps ended, may, same, is) hands =
    let called = ended.1 in
    let r : Reply = reply.Given at n in
    subst (λ m. HasAt q place m) hands.1 (subst (λ k. HasAt q k n) hands.0
    (moment-owns called.last q.errand called.sight (seen q) (progress.Done r) called.moment at n
    (moment-meant called.last q.errand called.sight (seen q) (progress.Done r) called.moment r refl).3))
pass-hands h k p q call (reply.Got at n) place need (by_steps ended, may, same, is) hands =
    let called = ended.1 in
    let r : Reply = reply.Got at n in
    subst (λ m. HasAt q place m) hands.1 (subst (λ k. HasAt q k n) hands.0
    (moment-owns called.last q.errand called.sight (seen q) (progress.Done r) called.moment at n
    (moment-meant called.last q.errand called.sight (seen q) (progress.Done r) called.moment r refl).2))
pass-hands h k p q call answer place need (by_steps ended, may, same, is) hands = absurd hands
pass-hands h k p q call (reply.Given at n) place need (at_once words is_alloc spent once, may, same, is) hands = absurd (cc)
pass-hands h k p q call (reply.Got at n) place need (at_once words is_alloc spent once, may, same, is) hands = absurd (cc)
pass-hands h k p q call answer place need (at_once words is_alloc spent once, may, same, is) hands = absurd hands

pub pass-apart :
    (h k : HeapFields) (p q : Pass) (call : Call) (answer : Reply) (place other : ℕ) (need had : Need)
    → IsWhole h p call answer k q → Hands answer place need → HasAt p other had → other ≢ place
pass-apart h k p q call (reply.Given at n) place other need had (by_steps ended, may, same, is) hands owns =
    subst (λ k. other ≢ k) hands.0 (given-apart k.layout p.errand.caller at other had n call (seen p) (seen q) ended.1.added is.0.served.legal
    (called-adds p q call ended.0 (reply.Given at n) ended.1) ended.1.ended owns)
pass-apart h k p q call (reply.Got at n) place other need had (by_steps ended, may, same, is) hands owns =
    subst (λ k. other ≢ k) hands.0 (got-apart k.layout p.errand.caller at other had n call (seen p) (seen q) ended.1.added is.0.served.legal
    (called-adds p q call ended.0 (reply.Got at n) ended.1) ended.1.ended owns)
pass-apart h k p q call answer place other need had (by_steps ended, may, same, is) hands owns = absurd hands
pass-apart h k p q call (reply.Given at n) place other need had (at_once words is_alloc spent once, may, same, is) hands owns = absurd (cc)
pass-apart h k p q call (reply.Got at n) place other need had (at_once words is_alloc spent once, may, same, is) hands owns = absurd (cc)
pass-apart h k p q call answer place other need had (at_once words is_alloc spent once, may, same, is) hands owns = absurd hands

pub pass-serves :
    (h k : HeapFields) (p q : Pass) (words place : ℕ) (need : Need) → IsWhole h p (alloc words) (reply.Given place need) k q → need ≡ need_of words
pass-serves h k p q words place need (by_steps ended, may, same, is) = ended.1.ended.serves
pass-serves h k p q words place need (at_once other is_alloc spent once, may, same, is) = absurd (cc)
