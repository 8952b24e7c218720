-- Calls on words of blocks that are held, one after the other, are whole calls through the cache.
use Rattle.std.proofs.Common.{ℕ, zero, suc, ◌≡◌, ◌+◌, ◌%◌, ◌^◌, ◌++◌, List, [], ◌∷◌, length, refl, sym, subst, inl, inr}
use Rattle.std.specs.Prelude.{All, map}
use Rattle.std.specs.List.{flat_map, range_with_len}
use Rattle.std.proofs.lemmas.Bool.{cases_lt}
use Rattle.std.proofs.lemmas.List.Elements.{All-nil, All-cons}
use Rattle.heap_geometry.specs.declared.need.Need.{Need}
use Rattle.errand_steps.specs.declared.reply.Reply.{Reply}
use Rattle.errand_steps.specs.declared.reply.Reply.TheVariants as reply
use Rattle.errand_steps.specs.Calls.{Call, read, write}
use Rattle.sound_laws.specs.events.Made.{LeadsBy, Made, answered, copied, copied_word, found_from, wrote}
use Rattle.sound_laws.proofs.events_lemmas.CopyLemmas.{copied-past, copied-read}
use Rattle.step_machine.specs.Keeping.{LeavesPlace}
use Rattle.live_heap.specs.declared.block.Block.{Block}
use Rattle.live_heap.specs.Heaps.{HeapFields}
use Rattle.live_heap.specs.declared.pass.Pass.{Pass}
use Rattle.live_heap.specs.Holdings.{ChangesHand}
use Rattle.live_heap.specs.Memory.{writes_from}
use Rattle.live_heap.specs.Words.{CallsOnWord}
use Rattle.live_heap.proofs.laws_for_builders.Hands.{ended-hand}
use Rattle.block_cache.specs.declared.cache.Cache.{Cache}
use Rattle.block_cache.specs.Caches.{Holds, IsCache, KeepsMagazines, cached_in}
use Rattle.block_cache.specs.Whole.{Asks, HoldsAt, IsWholeCall, IsWholeOnWord, RestsAt}
use Rattle.block_cache.proofs.AccountLemmas.{ended-all}
use Rattle.block_cache.proofs.CacheLemmas.{passed}
use Rattle.block_cache.proofs.WholeLemmas.{asked-whole, whole-keeps}

-- the call writes or reads a word of a block that the cache's caller holds
abbrev pub IsOnHeld : Cache → Call → Type 0
IsOnHeld c (write place need i value) = HoldsAt c place need
IsOnHeld c (read place need i) = HoldsAt c place need
IsOnHeld c call = ⊥

abbrev pub AreOnHeld : Cache → List Made → Type 0
AreOnHeld c [] = Unit {0}
AreOnHeld c (made ∷ rest) = IsOnHeld c made.call × AreOnHeld c rest

on-asks : (c : Cache) (call : Call) → IsOnHeld c call → Asks c call
on-asks c (write place need i value) held = held
on-asks c (read place need i) held = held
on-asks c call held = absurd held

on-leaves : (c : Cache) (call : Call) (place : ℕ) → IsOnHeld c call → LeavesPlace call place
on-leaves c (write at n i value) place held = tt
on-leaves c (read at n i) place held = tt
on-leaves c call place held = absurd held

on-same : (c : Cache) (call : Call) (answer : Reply) (blocks : List Block) → IsOnHeld c call → ChangesHand call answer blocks blocks
on-same c (write at n i value) answer blocks held = refl
on-same c (read at n i) answer blocks held = refl
on-same c call answer blocks held = absurd held

all-left : (c : Cache) (call : Call) (blocks : List Block) → IsOnHeld c call → All (λ (block : Block). LeavesPlace call block.place) blocks
all-left c call [] held = All-nil (λ (block : Block). LeavesPlace call block.place)
all-left c call (b ∷ bs) held =
    All-cons (λ (block : Block). LeavesPlace call block.place) b bs (on-leaves c call b.place held) (all-left c call bs held)

-- what is held is held behind such a call
held-still :
    (h : HeapFields) (c d : Cache) (call : Call) (answer : Reply) (next : Call) → IsWholeCall h c call answer d → IsOnHeld c call → IsOnHeld c next
    → IsOnHeld d next
held-still h c d call answer (write at n i value) whole on held = whole-keeps h c d call answer at n whole (on-leaves c call at on) held
held-still h c d call answer (read at n i) whole on held = whole-keeps h c d call answer at n whole (on-leaves c call at on) held
held-still h c d call answer next whole on held = absurd held

all-still :
    (h : HeapFields) (c d : Cache) (call : Call) (answer : Reply) (made : List Made) → IsWholeCall h c call answer d → IsOnHeld c call → AreOnHeld c made
    → AreOnHeld d made
all-still h c d call answer [] whole on all = tt
all-still h c d call answer (next ∷ rest) whole on (first, more) =
    (held-still h c d call answer next.call whole on first, all-still h c d call answer rest whole on more)

-- the cache whose pass has gone on
abbrev pub cache_at : Cache → Pass → Cache
cache_at c p = record { pass = p; magazines = c.magazines; hits = c.hits }

-- a cache whose pass made such calls, and its caller's blocks
pub record HasGoneOn (h : HeapFields) (c : Cache) (made : List Made) (d : Cache) : Type 0 where
  pub rests : RestsAt h d
  pub leads : LeadsBy (IsWholeOnWord h) c made d
  pub holds : (held : List Block) → Holds c held → Holds d held

pub goes-on :
    (h : HeapFields) (c : Cache) (made : List Made) (q : Pass) → RestsAt h c → AreOnHeld c made → LeadsBy (CallsOnWord h) c.pass made q
    → HasGoneOn h c made (cache_at c q)
goes-on h c [] q rests on same =
    subst (λ p. HasGoneOn h c [] (cache_at c p)) (sym same) (record { rests = rests; leads = refl; holds = λ blocks all. all })
goes-on h c (one ∷ rest) q rests (first, others) (p, called, leads) =
    let d : Cache = cache_at c p in
    let is : IsCache h d =
    passed h c p rests.0
    (ended-hand h c.pass p (cached_in c) one.call 0 one.answer rests.0.hand.of called.of called.called (all-left c one.call (cached_in c) first)
    (rests.0.hand.holds rests.1)) in
    let keeps : KeepsMagazines c d = record { magazines = refl; hits = refl } in
    let whole : IsWholeCall h c one.call one.answer d =
    asked-whole h c d one.call one.answer rests is (on-asks c one.call first) (0, called.called) keeps in
    let more = goes-on h d rest q whole.after (all-still h c d one.call one.answer rest whole first others) leads in
    record {
      rests = more.rests;
      leads = (d, (whole, keeps), more.leads);
      holds = λ blocks all.
          let every = blocks ++ cached_in c in
          more.holds blocks
          (ended-all h c.pass p one.call 0 one.answer every every rests.0.hand.of called.of called.called (on-same c one.call one.answer every first)
          (all.at_rest rests.1));
    }

-- a cache whose magazines are as they were is the one whose pass has gone on
kept-at : (c d : Cache) → KeepsMagazines c d → d ≡ cache_at c d.pass
kept-at c d keeps = λ i. record { pass = d.pass; magazines = keeps.magazines i; hits = keeps.hits i }

pub went-on :
    (h : HeapFields) (c : Cache) (d : Cache) (made : List Made) → RestsAt h c → AreOnHeld c made → LeadsBy (CallsOnWord h) c.pass made d.pass
    → KeepsMagazines c d → HasGoneOn h c made d
went-on h c d made rests on leads keeps = subst (HasGoneOn h c made) (sym (kept-at c d keeps)) (goes-on h c made d.pass rests on leads)

-- the writes of a fill are such calls, and so are the reads of a sum, and both in a copy
writes-on :
    (c : Cache) (place : ℕ) (need : Need) (f : ℕ → ℕ) (i count : ℕ) → HoldsAt c place need
    → AreOnHeld c (map (λ k. answered (write place need k (f k)) reply.Wrote) (range_with_len i count))
writes-on c place need f i zero held = tt
writes-on c place need f i (suc count) held = (held, writes-on c place need f (i + 1) count held)

pub wrote-on : (c : Cache) (place : ℕ) (need : Need) (from count : ℕ) → HoldsAt c place need → AreOnHeld c (wrote place need from count)
wrote-on c place need from count held = writes-on c place need (λ i. (from + i) % 2 ^ 64) 0 count held

pub found-on : (c : Cache) (place : ℕ) (need : Need) (i : ℕ) (words : List ℕ) → HoldsAt c place need → AreOnHeld c (found_from place need i words)
found-on c place need i [] held = tt
found-on c place need i (word ∷ words) held = (held, found-on c place need (suc i) words held)

-- and so are those of slices
pub written-on : (c : Cache) (place : ℕ) (need : Need) (i : ℕ) (words : List ℕ) → HoldsAt c place need → AreOnHeld c (writes_from place need i words)
written-on c place need i [] held = tt
written-on c place need i (word ∷ words) held = (held, written-on c place need (suc i) words held)

module _ (c : Cache) (from : ℕ) (from_need : Need) (to : ℕ) (to_need : Need) (held : HoldsAt c from from_need) (held_too : HoldsAt c to to_need)
    (words : List ℕ) where
  one-on : (i : ℕ) (more : List Made) → AreOnHeld c more → AreOnHeld c (copied_word from from_need to to_need words i ++ more)
  one-on i more on = elim (cases_lt i (length words)) [
    | inl inside ↦ subst (λ (ms : List Made). AreOnHeld c (ms ++ more)) (sym (copied-read from from_need to to_need words i inside)) (held, (held_too, on))
    | inr past ↦ subst (λ (ms : List Made). AreOnHeld c (ms ++ more)) (sym (copied-past from from_need to to_need words i past)) (held_too, on)
  ]

  copied-from : (i n : ℕ) → AreOnHeld c (flat_map (copied_word from from_need to to_need words) (range_with_len i n))
  copied-from i zero = tt
  copied-from i (suc n) = one-on i (flat_map (copied_word from from_need to to_need words) (range_with_len (i + 1) n)) (copied-from (i + 1) n)

  pub copied-on : (count : ℕ) → AreOnHeld c (copied from from_need to to_need words count)
  copied-on count = copied-from 0 count
