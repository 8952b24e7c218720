-- What the calls of the script count.
use Rattle.std.proofs.Common.{ℕ, true, false, Option, Some, None, length, eqb, ◌≡◌, ◌≢◌, ◌<◌, ◌+◌, List, [], ◌∷◌, ◌++◌, refl, ◌∙◌, ap, inl, inr, arith}
use Rattle.heap_geometry.specs.declared.need.Need.{Need}
use Rattle.pool_model.specs.Counts.{is_alloc, is_free}
use Rattle.errand_steps.specs.declared.reply.Reply.TheVariants as reply
use Rattle.errand_steps.specs.Calls.{alloc, free}
use Rattle.live_heap.specs.Heaps.{HeapFields}
use Rattle.live_heap.specs.declared.pass.Pass.{Pass}
use Rattle.live_heap.specs.declared.answers.AllocAnswer.TheVariants as alloc_answer
use Rattle.live_heap.specs.declared.answers.FreeAnswer.TheVariants as free_answer
use Rattle.live_heap.specs.declared.block.Block.{Block}
use Rattle.live_heap.specs.Answers.{AllocTells, FreeTells, IsSpentAtOnce}
use Rattle.live_heap.specs.Whole.{MadeByPass, at_once, by_steps}
use Rattle.sound_laws.specs.events.Made.{LeadsBy, Made, answered}
use Rattle.live_heap.specs.Passes.{seen}
use Rattle.pool_model.specs.Histories.{Begins}
use Rattle.live_heap.proofs.laws_for_builders.Events.{called-grows}
use Rattle.errand_steps.specs.declared.reply.Reply.{Reply}
use Rattle.errand_steps.specs.Calls.{Call}
use Rattle.live_heap.specs.Calls.{HasCalled}
use Rattle.live_heap.specs.Passes.{IsOf}
use Rattle.live_heap.specs.declared.answers.Resumed.TheVariants as resumed
use Rattle.live_heap.specs.Calls.{IsCalling}
use Rattle.std.proofs.lemmas.Bool.{cases_Bool}
use Rattle.typed_store.specs.declared.store.Pending.{Pending}
use Rattle.typed_store.specs.declared.store.Pending.TheVariants as pending
use Rattle.typed_store.specs.declared.store.Popped.{Popped}
use Rattle.typed_store.specs.declared.store.Popped.TheVariants as popped
use Rattle.typed_store.specs.declared.store.Store.{Store}
use Rattle.typed_store.specs.declared.store.Stored.{Stored}
use Rattle.typed_store.specs.declared.store.Stored.TheVariants as stored
use Rattle.typed_store.specs.Causes.{GoesOnTo, IsAnswerOf, IsFreed, IsResumedAnswer}
use Rattle.typed_store.specs.Nodes.{first_with, without_first}
use Rattle.typed_store.specs.Stores.{IsReady, LeavesPopped, TellsPopped, pairs_after, records_after, with_pair, with_record}
use Rattle.typed_store.proofs.WalkLemmas.{first-kept}
use Rattle.typed_store.specs.Passings.{Rests, freed_in, given_in}
use Rattle.typed_store.proofs.LedLemmas.{begins-on, begins-self, led-made}
use Rattle.typed_store.proofs.PassLemmas.{leads-on}
use Rattle.typed_store.proofs.CountLemmas.{allocs-blind, counts-on, freed-one, frees-blind, given-one, refused-none, spent-none}
use Rattle.store_runner.specs.Counts.{CountsBlocks}
use Rattle.store_runner.specs.Scripts.{HasComeTo}

-- whole calls leave what was seen in front
once-grows : (p q : Pass) (call : Call) (answer : Reply) → MadeByPass p call answer q → Begins (seen p) (seen q)
once-grows p q call answer (by_steps (steps, called)) = called-grows p q call steps answer called
once-grows p q call answer (at_once words call_is answer_is once) = begins-self p q once.same

pub made-grows : (p q : Pass) (made : List Made) → LeadsBy MadeByPass p made q → Begins (seen p) (seen q)
made-grows p q [] led = begins-self p q led
made-grows p q (m ∷ made) (next, one, rest) =
    begins-on (seen p) (seen next) (seen q) (once-grows p next m.call m.answer one) (made-grows next q made rest)

-- whole calls that led to a pass lead on by those that are counted
pub come-on : (h : HeapFields) (given freed : ℕ) (p q : Pass) → HasComeTo h p → CountsBlocks given freed p q → HasComeTo h q
come-on h given freed p q come counts = record {
  first = come.first;
  fresh = come.fresh;
  made = come.made ++ counts.made;
  led = leads-on MadeByPass come.first p q come.made counts.made come.led counts.led;
}

pub counts-then : (a b c d : ℕ) (p q r : Pass) → CountsBlocks a b p q → CountsBlocks c d q r → CountsBlocks (a + c) (b + d) p r
counts-then a b c d p q r x y = record {
  caller = y.caller ∙ x.caller;
  given_is = omega (arith, x.given_is, y.given_is);
  freed_is = omega (arith, x.freed_is, y.freed_is);
  made = x.made ++ y.made;
  led = leads-on MadeByPass p q r x.made y.made x.led y.led;
}

-- no call at all
pub counts-self : (p : Pass) → CountsBlocks 0 0 p p
counts-self p = record { caller = refl; given_is = omega arith; freed_is = omega arith; made = []; led = refl }

pub rests-count : (h : HeapFields) (p q : Pass) → Rests h p q → CountsBlocks 0 0 p q
rests-count h p q r =
    record { caller = r.caller; given_is = omega (arith, r.given); freed_is = omega (arith, r.freed); made = r.made; led = led-made h p q r.made r.led }

pub given-counts :
    (p q : Pass) (words steps place : ℕ) (need : Need) → HasCalled p (alloc words) steps (reply.Given place need) q → CountsBlocks 1 0 p q
given-counts p q words steps place need called =
    let k = p.errand.caller in
    let answer = reply.Given place need in
    record {
      caller = called.caller;
      given_is = counts-on is_alloc 1 p q (alloc words) steps answer (λ added has. given-one is_alloc k words place need added allocs-blind has) called;
      freed_is = counts-on is_free 0 p q (alloc words) steps answer (λ added has. given-one is_free k words place need added frees-blind has) called;
      made = answered (alloc words) answer ∷ [];
      led = (q, by_steps (steps, called), refl);
    }

pub refused-counts : (p q : Pass) (words steps : ℕ) → HasCalled p (alloc words) steps reply.Refused q → CountsBlocks 0 0 p q
refused-counts p q words steps called =
    let k = p.errand.caller in
    record {
      caller = called.caller;
      given_is = counts-on is_alloc 0 p q (alloc words) steps reply.Refused (λ added has. refused-none is_alloc k words added allocs-blind has) called;
      freed_is = counts-on is_free 0 p q (alloc words) steps reply.Refused (λ added has. refused-none is_free k words added frees-blind has) called;
      made = answered (alloc words) reply.Refused ∷ [];
      led = (q, by_steps (steps, called), refl);
    }

pub spent-counts : (p q : Pass) (words steps : ℕ) → HasCalled p (alloc words) steps reply.Spent q → CountsBlocks 0 0 p q
spent-counts p q words steps called =
    let k = p.errand.caller in
    record {
      caller = called.caller;
      given_is = counts-on is_alloc 0 p q (alloc words) steps reply.Spent (λ added has. spent-none is_alloc k words added allocs-blind has) called;
      freed_is = counts-on is_free 0 p q (alloc words) steps reply.Spent (λ added has. spent-none is_free k words added frees-blind has) called;
      made = answered (alloc words) reply.Spent ∷ [];
      led = (q, by_steps (steps, called), refl);
    }

-- an allocation that found no turn left
at-once-counts : (p q : Pass) (words : ℕ) → IsSpentAtOnce p words q → CountsBlocks 0 0 p q
at-once-counts p q words once = record {
  caller = ap (λ (r : Pass). r.errand.caller) once.same;
  given_is = omega (arith, ap given_in once.same);
  freed_is = omega (arith, ap freed_in once.same);
  made = answered (alloc words) reply.Spent ∷ [];
  led = (q, at_once words refl refl once, refl);
}

pub spent-tells : (p q : Pass) (words tries : ℕ) → AllocTells p words tries alloc_answer.Spent q → CountsBlocks 0 0 p q
spent-tells p q words tries (inl once) = at-once-counts p q words once
spent-tells p q words tries (inr ended) = spent-counts p q words ended.0.steps ended.0.called

pub freed-counts : (p q : Pass) (block : Block) (tries : ℕ) → FreeTells p block tries free_answer.Freed q → CountsBlocks 0 1 p q
freed-counts p q block tries tells =
    let k = p.errand.caller in
    let called = tells.called in
    let call = free block.place block.need in
    record {
      caller = called.caller;
      given_is = counts-on is_alloc 0 p q call tells.steps reply.Freed (λ added has. freed-one is_alloc k block.place block.need added has) called;
      freed_is = counts-on is_free 1 p q call tells.steps reply.Freed (λ added has. freed-one is_free k block.place block.need added has) called;
      made = answered call reply.Freed ∷ [];
      led = (q, by_steps (tells.steps, called), refl);
    }

-- an addition that is done, refused or spent
pub answer-counts :
    (h : HeapFields) (p q : Pass) (words tries : ℕ) → IsAnswerOf h p words tries stored.Done q → CountsBlocks 1 0 p q
answer-counts h p q words tries (block, given, tells, rests) =
    counts-then 1 0 0 0 p given q (given-counts p given words tells.0.steps block.place block.need tells.0.called) (rests-count h given q rests)

-- a store's call that waited goes on, whatever it waited for
pub busy-goes :
    (h : HeapFields) (waits : Pending) (p q : Pass) (tries : ℕ) → IsResumedAnswer h waits p tries stored.Busy q → GoesOnTo h p tries resumed.Busy q
busy-goes h pending.Nothing p q tries is = is
busy-goes h (pending.Pair key value) p q tries is = is
busy-goes h (pending.Record words) p q tries is = is
busy-goes h pending.Free p q tries is = is

refused-goes :
    (h : HeapFields) (waits : Pending) (p q : Pass) (tries : ℕ) → IsResumedAnswer h waits p tries stored.Refused q → GoesOnTo h p tries resumed.Refused q
refused-goes h pending.Nothing p q tries is = is
refused-goes h (pending.Pair key value) p q tries is = is
refused-goes h (pending.Record words) p q tries is = is
refused-goes h pending.Free p q tries is = is

spent-goes :
    (h : HeapFields) (waits : Pending) (p q : Pass) (tries : ℕ) → IsResumedAnswer h waits p tries stored.Spent q → GoesOnTo h p tries resumed.Spent q
spent-goes h pending.Nothing p q tries is = is
spent-goes h (pending.Pair key value) p q tries is = is
spent-goes h (pending.Record words) p q tries is = is
spent-goes h pending.Free p q tries is = is

abbrev IsGivenThen : HeapFields → Pass → ℕ → Pass → Type 0
IsGivenThen h p tries q = (block : Block) × (given : Pass) × GoesOnTo h p tries (resumed.Given block) given × Rests h given q

done-goes :
    (h : HeapFields) (waits : Pending) (p q : Pass) (tries : ℕ) → waits ≢ pending.Free → IsResumedAnswer h waits p tries stored.Done q → IsGivenThen h p tries q
done-goes h pending.Nothing p q tries adds is = is
done-goes h (pending.Pair key value) p q tries adds is = is
done-goes h (pending.Record words) p q tries adds is = is
done-goes h pending.Free p q tries adds is = absurd (adds refl)

pub resumed-done :
    (h : HeapFields) (waits : Pending) (first p q : Pass) (tries asked made : ℕ) → waits ≢ pending.Free → IsResumedAnswer h waits p tries stored.Done q
    → IsOf h first → IsCalling first (alloc asked) made p → CountsBlocks 1 0 first q
resumed-done h waits first p q tries asked made adds is was calling =
    let g = done-goes h waits p q tries adds is in
    let tells = g.2 first (alloc asked) made was calling in
    counts-then 1 0 0 0 first g.1 q (given-counts first g.1 asked tells.0.steps g.0.place g.0.need tells.0.called) (rests-count h g.1 q g.3)

pub resumed-refused :
    (h : HeapFields) (waits : Pending) (first p q : Pass) (tries asked made : ℕ) → IsResumedAnswer h waits p tries stored.Refused q
    → IsOf h first → IsCalling first (alloc asked) made p → CountsBlocks 0 0 first q
resumed-refused h waits first p q tries asked made is was calling =
    let tells = refused-goes h waits p q tries is first (alloc asked) made was calling in
    refused-counts first q asked tells.steps tells.called

pub resumed-spent :
    (h : HeapFields) (waits : Pending) (first p q : Pass) (tries asked made : ℕ) → IsResumedAnswer h waits p tries stored.Spent q
    → IsOf h first → IsCalling first (alloc asked) made p → CountsBlocks 0 0 first q
resumed-spent h waits first p q tries asked made is was calling =
    let tells = spent-goes h waits p q tries is first (alloc asked) made was calling in
    spent-counts first q asked tells.0.steps tells.0.called

-- the pairs that a store holds stay while its call waits
pub busy-pairs : (waits : Pending) (pairs : List (ℕ × ℕ)) → pairs_after waits stored.Busy pairs ≡ pairs
busy-pairs pending.Nothing pairs = refl
busy-pairs (pending.Pair key value) pairs = refl
busy-pairs (pending.Record words) pairs = refl
busy-pairs pending.Free pairs = refl

pub busy-records : (waits : Pending) (words : List ℕ) (records : List (List ℕ)) → records_after waits words stored.Busy records ≡ records
busy-records pending.Nothing words records = refl
busy-records (pending.Pair key value) words records = refl
busy-records (pending.Record many) words records = refl
busy-records pending.Free words records = refl

pub pairs-with :
    (come : Stored) (key value : ℕ) (pairs : List (ℕ × ℕ)) → pairs_after (pending.Pair key value) come pairs ≡ with_pair come (key, value) pairs
pairs-with stored.Done key value pairs = refl
pairs-with stored.Refused key value pairs = refl
pairs-with stored.Spent key value pairs = refl
pairs-with stored.Busy key value pairs = refl

pub records-with :
    (come : Stored) (many : ℕ) (words : List ℕ) (records : List (List ℕ))
    → records_after (pending.Record many) words come records ≡ with_record come words records
records-with stored.Done many words records = refl
records-with stored.Refused many words records = refl
records-with stored.Spent many words records = refl
records-with stored.Busy many words records = refl

pub pairs-kept : (come : Stored) (many : ℕ) (pairs : List (ℕ × ℕ)) → pairs_after (pending.Record many) come pairs ≡ pairs
pairs-kept stored.Done many pairs = refl
pairs-kept stored.Refused many pairs = refl
pairs-kept stored.Spent many pairs = refl
pairs-kept stored.Busy many pairs = refl

pub records-kept :
    (come : Stored) (key value : ℕ) (words : List ℕ) (records : List (List ℕ)) → records_after (pending.Pair key value) words come records ≡ records
records-kept stored.Done key value words records = refl
records-kept stored.Refused key value words records = refl
records-kept stored.Spent key value words records = refl
records-kept stored.Busy key value words records = refl

-- a pair that is taken out
without-length :
    (key : ℕ) (pairs : List (ℕ × ℕ)) (pair : ℕ × ℕ) → first_with key pairs ≡ Some pair → length (without_first key pairs) + 1 ≡ length pairs
without-length key [] pair found = absurd (Rattle.std.proofs.lemmas.Option.none-some pair found)
without-length key (x ∷ xs) pair found =
    elim (cases_Bool (eqb x.0 key)) [
      | inl on ↦ rw on (omega arith)
      | inr off ↦ let rest : first_with key xs ≡ Some pair = rw off at found in (rw off (omega (arith, without-length key xs pair rest)))
    ]

abbrev pub Frees : Store → Store → ℕ → List (ℕ × ℕ) → Type 0
Frees s t key pairs = (freed : ℕ) × CountsBlocks 0 freed s.pass t.pass × (length (without_first key pairs) + freed ≡ length pairs)

pub freed-of :
    (h : HeapFields) (s t : Store) (key tries : ℕ) (pairs : List (ℕ × ℕ)) (found : Option (ℕ × ℕ)) (came : Popped) → first_with key pairs ≡ found
    → TellsPopped found came → ((k v : ℕ) → came ≢ popped.Got k v false) → IsFreed h s tries came t → Frees s t key pairs
freed-of h s t key tries pairs None popped.Empty is tells never freed =
    (0, rests-count h s.pass t.pass freed, omega (arith, ap (λ (l : List (ℕ × ℕ)). length l) (first-kept key pairs is)))
freed-of h s t key tries pairs None (popped.Got k v over) is tells never freed = absurd cc
freed-of h s t key tries pairs (Some pair) popped.Empty is (over, e) never freed = absurd cc
freed-of h s t key tries pairs (Some pair) (popped.Got k v false) is tells never freed = absurd (never k v refl)
freed-of h s t key tries pairs (Some pair) (popped.Got k v true) is tells never (slot, block, between, there, rests, told) = (
  1,
  counts-then 0 0 0 1 s.pass between t.pass (rests-count h s.pass between rests) (freed-counts between t.pass block tries told),
  without-length key pairs pair is,
)

abbrev pub FreesAtOnce : Type 0
FreesAtOnce =
    (h : HeapFields) (p q : Pass) (block : Block) (tries : ℕ) → IsOf h q → h.layout.callers ≡ 1 → 0 < tries
    → ¬ FreeTells p block tries free_answer.Busy q

-- a free of the only caller has always ended
pub taken-ready :
    (h : HeapFields) (s t : Store) (tries : ℕ) (came : Popped) → FreesAtOnce → h.layout.callers ≡ 1 → 0 < tries → LeavesPopped h came t
    → IsFreed h s tries came t → IsReady h t × ((k v : ℕ) → came ≢ popped.Got k v false)
taken-ready h s t tries popped.Empty law one some left freed = (left, λ k v (e : popped.Empty ≡ popped.Got k v false). cc)
taken-ready h s t tries (popped.Got a b true) law one some left freed = (left, λ k v (e : popped.Got a b true ≡ popped.Got k v false). cc)
taken-ready h s t tries (popped.Got a b false) law one some left (slot, block, between, there, rests, told) =
    absurd (law h between t.pass block tries left.0.of one some told)
