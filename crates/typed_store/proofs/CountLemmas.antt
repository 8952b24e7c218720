-- How many allocations and frees the calls of a store's pass add.
use Rattle.std.proofs.Common.{ℕ, zero, suc, Bool, false, cond, ◌≡◌, ◌+◌, List, [], ◌∷◌, ◌++◌, Some, count_by, refl, sym, ◌∙◌, ap, subst, arith}
use Rattle.std.proofs.lemmas.List.Sums.{sum_by-append}
use Rattle.heap_geometry.specs.declared.need.Need.{Need}
use Rattle.heap_geometry.specs.declared.need.Need.TheVariants.{Small, Large, TooLarge}
use Rattle.heap_geometry.specs.Need.{need_of}
use Rattle.pool_model.specs.declared.event.Event.{Event}
use Rattle.pool_model.specs.declared.event.Event.TheVariants.{Alloc, Looked, Refuse, Free}
use Rattle.pool_model.specs.Calls.{Ended, EventsOf, IsGiving, IsRefusing, IsSpending, alloc_given, alloc_refused, alloc_spent, looks, wrote}
use Rattle.pool_model.specs.Calls as ended
use Rattle.pool_model.specs.Counts.{is_alloc, is_free}
use Rattle.pool_model.specs.Histories.{own}
use Rattle.errand_steps.specs.declared.reply.Reply.{Reply}
use Rattle.errand_steps.specs.declared.reply.Reply.TheVariants as reply
use Rattle.errand_steps.specs.Calls.{Call, alloc, free, read, write}
use Rattle.sound_laws.specs.events.Ends.{HasEnded, end_of}
use Rattle.live_heap.specs.declared.pass.Pass.{Pass}
use Rattle.live_heap.specs.Calls.{HasCalled}
use Rattle.live_heap.specs.Passes.{seen}

pub count-append : (P : Event → Bool) (xs ys : List Event) → count_by P (xs ++ ys) ≡ count_by P xs + count_by P ys
count-append P xs ys = sum_by-append (λ x. cond (P x) 1 0) xs ys

-- a call adds as many as are among its events
pub counts-on :
    (P : Event → Bool) (m : ℕ) (p q : Pass) (call : Call) (steps : ℕ) (answer : Reply)
    → ((added : List Event) → HasEnded p.errand.caller call answer added → count_by P added ≡ m) → HasCalled p call steps answer q
    → count_by P (own q.errand.caller (seen q)) ≡ count_by P (own p.errand.caller (seen p)) + m
counts-on P m p q call steps answer tells called =
    let mine = own p.errand.caller (seen p) in
    ap (λ k. count_by P (own k (seen q))) called.caller
    ∙ (ap (count_by P) called.events
    ∙ (count-append P mine called.added ∙ ap (λ n. count_by P mine + n) (tells called.added called.ended)))

-- the end of a call is the one of its answer
ended-as :
    (k : ℕ) (call : Call) (answer : Reply) (end : Ended) (added : List Event) → end_of call answer ≡ Some end → HasEnded k call answer added
    → EventsOf k end added
ended-as k call answer end added is ended =
    let same : Some end ≡ Some ended.ended.0 = sym is ∙ ended.ended.1 in
    let ends : end ≡ ended.ended.0 = cc in
    subst (λ (x : Ended). EventsOf k x added) (sym ends) ended.ended.2

-- looks, refusals and writes are not counted
pub record IsBlind (P : Event → Bool) : Type 0 where
  pub looks : (k class : ℕ) → P (Looked k class) ≡ false
  pub refuses : (k words : ℕ) → P (Refuse k words) ≡ false
  pub writes : (k place i v : ℕ) → P (Rattle.pool_model.specs.declared.event.Event.TheVariants.Write k place i v) ≡ false

pub allocs-blind : IsBlind is_alloc
allocs-blind = record { looks = λ k class. refl; refuses = λ k words. refl; writes = λ k place i v. refl }

pub frees-blind : IsBlind is_free
frees-blind = record { looks = λ k class. refl; refuses = λ k words. refl; writes = λ k place i v. refl }

one-off : (P : Event → Bool) (event : Event) → P event ≡ false → count_by P (event ∷ []) ≡ 0
one-off P event is = rw is (omega arith)

count-looks : (P : Event → Bool) (k class n : ℕ) → P (Looked k class) ≡ false → count_by P (looks k class n) ≡ 0
count-looks P k class zero off = refl
count-looks P k class (suc n) off =
    omega (arith, count-append P (Looked k class ∷ []) (looks k class n), one-off P (Looked k class) off, count-looks P k class n off)

giving :
    (P : Event → Bool) (k words place : ℕ) (need : Need) (events : List Event) → IsBlind P → IsGiving k words place need events
    → count_by P events ≡ count_by P (Alloc k words place ∷ [])
giving P k words place (Small class) events blind is =
    omega (
      arith,
      ap (count_by P) is.1,
      count-append P (looks k class is.0) (Alloc k words place ∷ []),
      count-looks P k class is.0 (blind.looks k class),
    )
giving P k words place (Large units) events blind is = ap (count_by P) is
giving P k words place TooLarge events blind is = absurd is

refusing :
    (P : Event → Bool) (k words : ℕ) (need : Need) (events : List Event) → IsBlind P → IsRefusing k words need events → count_by P events ≡ 0
refusing P k words (Small class) events blind is =
    omega (
      arith,
      ap (count_by P) is.1,
      count-append P (looks k class (suc is.0)) (Refuse k words ∷ []),
      count-looks P k class (suc is.0) (blind.looks k class),
      one-off P (Refuse k words) (blind.refuses k words),
    )
refusing P k words (Large units) events blind is = ap (count_by P) is ∙ one-off P (Refuse k words) (blind.refuses k words)
refusing P k words TooLarge events blind is = absurd is

spending : (P : Event → Bool) (k : ℕ) (need : Need) (events : List Event) → IsBlind P → IsSpending k need events → count_by P events ≡ 0
spending P k (Small class) events blind is = ap (count_by P) is.1 ∙ count-looks P k class is.0 (blind.looks k class)
spending P k (Large units) events blind is = absurd is
spending P k TooLarge events blind is = absurd is

-- a read has no event, and a write its own
pub read-adds :
    (k place i word : ℕ) (need : Need) (added : List Event) → HasEnded k (read place need i) (reply.Word word) added → added ≡ []
read-adds k place i word need added has = ended-as k (read place need i) (reply.Word word) ended.read added refl has

pub write-adds :
    (k place i v : ℕ) (need : Need) (added : List Event) → HasEnded k (write place need i v) reply.Wrote added
    → added ≡ Rattle.pool_model.specs.declared.event.Event.TheVariants.Write k place i v ∷ []
write-adds k place i v need added has = ended-as k (write place need i v) reply.Wrote (wrote place i v) added refl has

-- how many events of a kind the calls of a store add
pub reads-none :
    (P : Event → Bool) (k place i word : ℕ) (need : Need) (added : List Event) → HasEnded k (read place need i) (reply.Word word) added
    → count_by P added ≡ 0
reads-none P k place i word need added has =
    ap (count_by P) (ended-as k (read place need i) (reply.Word word) ended.read added refl has)

pub writes-none :
    (P : Event → Bool) (k place i v : ℕ) (need : Need) (added : List Event) → IsBlind P → HasEnded k (write place need i v) reply.Wrote added
    → count_by P added ≡ 0
writes-none P k place i v need added blind has =
    ap (count_by P) (ended-as k (write place need i v) reply.Wrote (wrote place i v) added refl has)
    ∙ one-off P (Rattle.pool_model.specs.declared.event.Event.TheVariants.Write k place i v) (blind.writes k place i v)

pub refused-none :
    (P : Event → Bool) (k words : ℕ) (added : List Event) → IsBlind P → HasEnded k (alloc words) reply.Refused added → count_by P added ≡ 0
refused-none P k words added blind has =
    refusing P k words (need_of words) added blind (ended-as k (alloc words) reply.Refused (alloc_refused words) added refl has)

pub spent-none :
    (P : Event → Bool) (k words : ℕ) (added : List Event) → IsBlind P → HasEnded k (alloc words) reply.Spent added → count_by P added ≡ 0
spent-none P k words added blind has =
    spending P k (need_of words) added blind (ended-as k (alloc words) reply.Spent (alloc_spent words) added refl has)

pub given-one :
    (P : Event → Bool) (k words place : ℕ) (need : Need) (added : List Event) → IsBlind P → HasEnded k (alloc words) (reply.Given place need) added
    → count_by P added ≡ count_by P (Alloc k words place ∷ [])
given-one P k words place need added blind has =
    giving P k words place (need_of words) added blind (ended-as k (alloc words) (reply.Given place need) (alloc_given words place) added refl has)

pub freed-one :
    (P : Event → Bool) (k place : ℕ) (need : Need) (added : List Event) → HasEnded k (free place need) reply.Freed added
    → count_by P added ≡ count_by P (Free k place ∷ [])
freed-one P k place need added has = ap (count_by P) (ended-as k (free place need) reply.Freed (ended.freed place) added refl has)
