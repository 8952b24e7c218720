-- A word that was written is in its block until it is written again, or the block is given away.
use Rattle.std.proofs.Common.{ℕ, ◌≡◌, ◌≢◌, ◌<◌, ◌++◌, ◌⊎◌, List, [], ◌∷◌, Option, Some, None, length, refl, sym, ◌∙◌, ap, subst, inl, inr, slice_index_or}
use Rattle.std.specs.Prelude.{option_map}
use Rattle.std.proofs.lemmas.Bool.{cases_eq}
use Rattle.std.proofs.lemmas.List.{get_or-set_other, get_or-set_same}
use Rattle.std.proofs.lemmas.Option.{none-some}
use Rattle.heap_geometry.specs.declared.need.Need.{Need}
use Rattle.pool_model.specs.declared.event.Event.{Event}
use Rattle.pool_model.specs.declared.event.Event.TheVariants.{Write}
use Rattle.pool_model.specs.declared.owner.Owner.TheVariants.{Caller}
use Rattle.pool_model.specs.Legal.{IsAllowed, IsLegalEventWithoutCounts, IsLegalWithoutCounts}
use Rattle.pool_model.specs.Owned.{if_of}
use Rattle.pool_model.specs.Pool.{Block, block_at, pool_of, written}
use Rattle.pool_model.specs.WellFormed.{IsWellFormed}
use Rattle.pool_model.proofs.HistoryLemmas.{EachAfter-cut, EachAfter-last, legal-weaker, pool_of-push}
use Rattle.pool_model.proofs.OwnedLemmas.{of-self, owned-found}
use Rattle.pool_model.proofs.PoolLemmas.{block_at-changed_same, every-each}
use Rattle.pool_model.proofs.WellFormedLemmas.{sound-of}
use Rattle.errand_steps.specs.declared.reply.Reply.{Reply}
use Rattle.errand_steps.specs.declared.reply.Reply.TheVariants as reply
use Rattle.errand_steps.specs.Calls.{Call, alloc, free, put, read, take, write}
use Rattle.errand_steps.specs.tables.CallStage.{StageOfCall, freed, given}
use Rattle.sound_laws.specs.events.Stages.{stage_of}
use Rattle.live_heap.specs.Heaps.{HeapFields}
use Rattle.live_heap.specs.declared.pass.Pass.{Pass}
use Rattle.live_heap.specs.Answers.{IsContents}
use Rattle.live_heap.specs.Calls.{HasCalled, IsCalling}
use Rattle.live_heap.specs.Contents.{HasChanged, HasChangedSoFar, LeavesWord, OwnsBut, owned_in, word_in, word_of}
use Rattle.live_heap.specs.Passes.{IsOf, seen}
use Rattle.live_heap.proofs.Changes.{called-changes, calling-changes}
use Rattle.live_heap.proofs.Last.{called-last}

word-found : (o : Option Block) (i v : ℕ) → word_of o i ≡ Some v → (block : Block) × (o ≡ Some block) × (slice_index_or block.contents i None ≡ Some v)
word-found None i v is = absurd (none-some v is)
word-found (Some block) i v is = (block, refl, is)

-- nothing is written where nothing is owned
nowhere : {A : Type 0} → (p : Pass) (place at i v : ℕ) → place ≡ at → owned_in p at ≡ None → word_in p place i ≡ Some v → A
nowhere p place at i v here nothing is =
    absurd (none-some v (sym (ap (λ (o : Option Block). word_of o i) (ap (owned_in p) here ∙ nothing)) ∙ is))

-- a word stays where the block at its place does
same-word : (p q : Pass) (place i v : ℕ) → owned_in q place ≡ owned_in p place → word_in p place i ≡ Some v → word_in q place i ≡ Some v
same-word p q place i v same is = ap (λ (o : Option Block). word_of o i) same ∙ is

-- a word stays where a block comes elsewhere, and where a word of another block or another word of its block is written
come-word :
    (p q : Pass) (at : ℕ) (now : Option Block) (place i v : ℕ) → owned_in p at ≡ None → OwnsBut p q at now → word_in p place i ≡ Some v
    → word_in q place i ≡ Some v
come-word p q at now place i v nothing but is =
    elim (cases_eq place at) [
      | inl here ↦ nowhere p place at i v here nothing is
      | inr other ↦ same-word p q place i v (but.others place other) is
    ]

other-word : (o : Option Block) (i j w : ℕ) → i ≢ j → word_of (option_map (written j w) o) i ≡ word_of o i
other-word None i j w other = refl
other-word (Some block) i j w other = get_or-set_other block.contents j i (Some w) None other

write-word :
    (p q : Pass) (at j w place i v : ℕ) → OwnsBut p q at (option_map (written j w) (owned_in p at)) → (place ≢ at) ⊎ (i ≢ j)
    → word_in p place i ≡ Some v → word_in q place i ≡ Some v
write-word p q at j w place i v but (inl other) is = same-word p q place i v (but.others place other) is
write-word p q at j w place i v but (inr other) is =
    elim (cases_eq place at) [
      | inr away ↦ same-word p q place i v (but.others place away) is
      | inl here ↦
          ap (λ (o : Option Block). word_of o i) (ap (owned_in q) here ∙ but.here) ∙ other-word (owned_in p at) i j w other
          ∙ ap (λ k. word_in p k i) (sym here) ∙ is
    ]

changed-word :
    (p q : Pass) (call : Call) (answer : Reply) (place i v : ℕ) → HasChanged p call answer q → LeavesWord call place i
    → word_in p place i ≡ Some v → word_in q place i ≡ Some v
changed-word p q (alloc words) (reply.Given at need) place i v changes leaves is = come-word p q at _ place i v changes.nothing changes.given is
changed-word p q (free at need) reply.Freed place i v changes leaves is = same-word p q place i v (changes.others place leaves) is
changed-word p q (write at need j w) reply.Wrote place i v changes leaves is = write-word p q at j w place i v changes leaves is
changed-word p q (put at need shelf) reply.Put place i v changes leaves is = same-word p q place i v (changes.gone.others place leaves) is
changed-word p q (take shelf) (reply.Got at need) place i v changes leaves is = come-word p q at _ place i v changes.nothing changes.got is
changed-word p q call answer place i v changes leaves is = same-word p q place i v (changes place) is

pub called-word :
    (h : HeapFields) (p q : Pass) (call : Call) (steps : ℕ) (answer : Reply) (place i v : ℕ) → IsOf h q → HasCalled p call steps answer q
    → LeavesWord call place i → word_in p place i ≡ Some v → word_in q place i ≡ Some v
called-word h p q call steps answer place i v of called =
    changed-word p q call answer place i v (called-changes h p q call steps answer of called)

so_far-word :
    (p q : Pass) (call : Call) (at : StageOfCall) (place i v : ℕ) → HasChangedSoFar p call at q → LeavesWord call place i
    → word_in p place i ≡ Some v → word_in q place i ≡ Some v
so_far-word p q (alloc words) (given at need) place i v changes leaves is = come-word p q at _ place i v changes.nothing changes.given is
so_far-word p q (free at need) freed place i v changes leaves is = same-word p q place i v (changes.others place leaves) is
so_far-word p q call at place i v changes leaves is = same-word p q place i v (changes place) is

pub calling-word :
    (h : HeapFields) (p q : Pass) (call : Call) (steps place i v : ℕ) → IsOf h q → IsCalling p call steps q → LeavesWord call place i
    → word_in p place i ≡ Some v → word_in q place i ≡ Some v
calling-word h p q call steps place i v of calling =
    so_far-word p q call (stage_of q.errand.point) place i v (calling-changes h p q call steps of calling)

-- a word that is written is there
pub wrote-word :
    (h : HeapFields) (p q : Pass) (place : ℕ) (need : Need) (i v steps : ℕ) → IsOf h q → HasCalled p (write place need i v) steps reply.Wrote q
    → word_in q place i ≡ Some v
wrote-word h p q place need i v steps of called =
    let caller = p.errand.caller in
    let event : Event = Write caller place i v in
    let last = called-last p q (write place need i v) steps reply.Wrote event called refl in
    let legal : IsLegalWithoutCounts h.layout (last.0 ++ event ∷ []) =
    subst (IsLegalWithoutCounts h.layout) last.1 (legal-weaker h.layout (seen q) of.served.legal) in
    let before : IsLegalWithoutCounts h.layout last.0 = EachAfter-cut (IsLegalEventWithoutCounts h.layout) last.0 (event ∷ []) legal in
    let allowed : IsAllowed h.layout last.0 event = (EachAfter-last (IsLegalEventWithoutCounts h.layout) last.0 event legal).1 in
    let block = allowed.0 in
    let formed = every-each (IsWellFormed h.layout) (pool_of last.0) (sound-of h.layout last.0 before).each place block allowed.1 in
    let within : i < length block.contents = subst (λ n. i < n) (sym formed.full) allowed.3 in
    let now : block_at place (pool_of (seen q)) ≡ Some (written i v block) =
    ap (λ (l : List Event). block_at place (pool_of l)) last.1 ∙ ap (block_at place) (pool_of-push last.0 event)
    ∙ block_at-changed_same place (written i v) (pool_of last.0) block (λ b. refl) allowed.1 in
    let owned : owned_in q place ≡ Some (written i v block) =
    ap (if_of q.errand.caller) now ∙ of-self q.errand.caller (written i v block) (subst (λ c. block.owner ≡ Caller c) (sym called.caller) allowed.2) in
    ap (λ (o : Option Block). word_of o i) owned ∙ get_or-set_same block.contents i (Some v) None within

-- a read finds the word that was written
pub read-word :
    (h : HeapFields) (p q : Pass) (place : ℕ) (need : Need) (i steps word v : ℕ) → IsOf h q → HasCalled p (read place need i) steps (reply.Word word) q
    → IsContents q place i word → word_in p place i ≡ Some v → word ≡ v
read-word h p q place need i steps word v of called contents is =
    let there = word-found (owned_in q place) i v (called-word h p q (read place need i) steps (reply.Word word) place i v of called tt is) in
    contents there.0 v (owned-found q.errand.caller (block_at place (pool_of (seen q))) there.0 there.1).0 there.2
