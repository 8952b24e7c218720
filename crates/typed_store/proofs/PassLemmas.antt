-- What reads and writes of a store's pass leave, and what a node's block contains.
use Rattle.std.proofs.Common.{ℕ, zero, suc, ◌≡◌, ◌<◌, List, [], ◌∷◌, ◌++◌, Option, Some, None, count_by, length, refl, sym, ◌∙◌, ap, subst, arith, inl, inr, slice_index_or}
use Rattle.std.specs.Prelude.{option_map}
use Rattle.std.proofs.lemmas.List.Elements.{All-append, All-cons, All-nil}
use Rattle.std.proofs.lemmas.Option.{none-some, some_pair_parts}
use Rattle.heap_geometry.specs.Need.{least, need_of, usable_words}
use Rattle.heap_geometry.specs.declared.need.Need.{Need}
use Rattle.pool_model.specs.Owned.{if_of}
use Rattle.pool_model.specs.Pool.{Block as PoolBlock, block_at, fresh_block, pool_of, written}
use Rattle.pool_model.specs.WellFormed.{IsWellFormed}
use Rattle.pool_model.proofs.HistoryLemmas.{legal-weaker}
use Rattle.pool_model.proofs.OwnedLemmas.{of-self, owned-found}
use Rattle.pool_model.proofs.PoolLemmas.{every-each}
use Rattle.pool_model.proofs.WellFormedLemmas.{sound-of}
use Rattle.errand_steps.specs.declared.reply.Reply.{Reply}
use Rattle.errand_steps.specs.declared.reply.Reply.TheVariants as reply
use Rattle.errand_steps.specs.Begins.{IsIdle}
use Rattle.errand_steps.specs.Calls.{Call, read, write}
use Rattle.sound_laws.specs.events.Made.{LeadsBy, Made, answered}
use Rattle.live_heap.specs.declared.block.Block.{Block}
use Rattle.live_heap.specs.Heaps.{HeapFields}
use Rattle.live_heap.specs.declared.pass.Pass.{Pass}
use Rattle.live_heap.specs.Calls.{HasCalled}
use Rattle.live_heap.specs.Contents.{OwnsBut, OwnsSame, owned_in, word_in, word_of}
use Rattle.live_heap.specs.Holdings.{ChangesHand, HoldsExactly}
use Rattle.live_heap.specs.Passes.{IsOf, Owns, seen, view}
use Rattle.live_heap.specs.Whole.{OwnsFor}
use Rattle.live_heap.proofs.laws_for_builders.AllBlocks.{called-exact}
use Rattle.live_heap.proofs.laws_for_builders.Changing.{called-changes}
use Rattle.live_heap.proofs.laws_for_builders.Keeping.{stays-home}
use Rattle.typed_store.specs.Nodes.{node_at, node_of}
use Rattle.sound_laws.specs.events.Ends.{HasEnded}
use Rattle.pool_model.specs.declared.event.Event.{Event}
use Rattle.pool_model.specs.Counts.{is_alloc, is_free}
use Rattle.typed_store.specs.Passings.{KeepsWords, Rests}
use Rattle.typed_store.specs.Walks.{CallsOnce, IsOnWord, IsRead, LedBy}
use Rattle.typed_store.proofs.CountLemmas.{allocs-blind, counts-on, frees-blind, reads-none, writes-none}

-- a pass that calls have left with what it owned
pub record StaysSame (h : HeapFields) (p q : Pass) : Type 0 where
  pub of : IsOf h q
  pub idle : IsIdle q.errand
  pub hand : (blocks : List Block) → HoldsExactly p blocks → HoldsExactly q blocks
  pub same : OwnsSame p q

pub reads-stay : (h : HeapFields) (p q : Pass) → KeepsWords h p q → StaysSame h p q
reads-stay h p q reads = record { of = reads.rests.of; idle = reads.rests.idle; hand = reads.rests.hand; same = reads.same }

-- a call that leaves the hand and what is owned leaves the pass at rest
pub called-stays :
    (h : HeapFields) (p q : Pass) (call : Call) (steps : ℕ) (answer : Reply) → IsOf h p → IsOf h q → HasCalled p call steps answer q
    → ((blocks : List Block) → ChangesHand call answer blocks blocks) → OwnsSame p q → StaysSame h p q
called-stays h p q call steps answer was of called same owned = record {
  of = of;
  idle = called.idle;
  hand = λ blocks holds. called-exact h p q call steps answer blocks blocks was of called (same blocks) holds;
  same = owned;
}

-- calls that lead from one state to another lead on by further ones
pub leads-on :
    {S : Type 0} (called : S → Call → Reply → S → Type 0) (s t u : S) (made more : List Made) → LeadsBy called s made t → LeadsBy called t more u
    → LeadsBy called s (made ++ more) u
leads-on called s t u [] more first rest = subst (λ x. LeadsBy called x more u) first rest
leads-on called s t u (m ∷ made) more first rest = (first.0, first.1, leads-on called first.0 t u made more first.2 rest)

-- one call of one access
pub led-once :
    (h : HeapFields) (p q : Pass) (call : Call) (answer : Reply) → OwnsFor p call → IsOf h q → HasCalled p call 0 answer q
    → LedBy h p (answered call answer ∷ []) q
led-once h p q call answer owns of called = (q, (called, owns, (of, called.idle)), refl)

-- a call neither gives a block nor frees one
abbrev pub IsCalm : ℕ → Call → Reply → Type 0
IsCalm k call answer = (added : List Event) → HasEnded k call answer added → (count_by is_alloc added ≡ 0) × (count_by is_free added ≡ 0)

-- a read or a write of a word leaves the pass at rest
called-rests :
    (h : HeapFields) (p q : Pass) (call : Call) (answer : Reply) → IsOf h p → OwnsFor p call → IsOf h q → HasCalled p call 0 answer q
    → ((blocks : List Block) → ChangesHand call answer blocks blocks) → IsCalm p.errand.caller call answer → IsOnWord (answered call answer) → Rests h p q
called-rests h p q call answer was owns of called same calm on = record {
  of = of;
  idle = called.idle;
  caller = called.caller;
  hand = λ blocks holds. called-exact h p q call 0 answer blocks blocks was of called (same blocks) holds;
  lent = called.lent;
  given = omega (arith, counts-on is_alloc 0 p q call 0 answer (λ added has. (calm added has).0) called);
  freed = omega (arith, counts-on is_free 0 p q call 0 answer (λ added has. (calm added has).1) called);
  made = answered call answer ∷ [];
  on_words = All-cons IsOnWord (answered call answer) [] on (All-nil IsOnWord);
  led = led-once h p q call answer owns of called;
}

pub read-reads :
    (h : HeapFields) (p q : Pass) (place i word : ℕ) (need : Need) → IsOf h p → OwnsFor p (read place need i) → IsOf h q
    → HasCalled p (read place need i) 0 (reply.Word word) q → KeepsWords h p q
unfolding called-rests
read-reads h p q place i word need was owns of called = record {
  rests =
      called-rests h p q (read place need i) (reply.Word word) was owns of called (λ blocks. refl)
      (λ added has. (reads-none is_alloc p.errand.caller place i word need added has, reads-none is_free p.errand.caller place i word need added has))
      (inl (place, need, i, word, refl));
  same = called-changes h p q (read place need i) 0 (reply.Word word) of called;
  reads =
      All-cons IsRead (answered (read place need i) (reply.Word word)) [] (place, need, i, word, refl) (All-nil IsRead);
}

pub write-rests :
    (h : HeapFields) (p q : Pass) (place i v : ℕ) (need : Need) → IsOf h p → OwnsFor p (write place need i v) → IsOf h q
    → HasCalled p (write place need i v) 0 reply.Wrote q → Rests h p q
write-rests h p q place i v need was owns of called =
    called-rests h p q (write place need i v) reply.Wrote was owns of called (λ blocks. refl)
    (λ added has. (
      writes-none is_alloc p.errand.caller place i v need added allocs-blind has,
      writes-none is_free p.errand.caller place i v need added frees-blind has,
    ))
    (inr (place, need, i, v, refl))

pub write-changes :
    (h : HeapFields) (p q : Pass) (place i v : ℕ) (need : Need) → IsOf h q → HasCalled p (write place need i v) 0 reply.Wrote q
    → OwnsBut p q place (option_map (written i v) (owned_in p place))
write-changes h p q place i v need of called = called-changes h p q (write place need i v) 0 reply.Wrote of called

pub rests-on : (h : HeapFields) (p q r : Pass) → Rests h p q → Rests h q r → Rests h p r
rests-on h p q r a b = record {
  of = b.of;
  idle = b.idle;
  caller = b.caller ∙ a.caller;
  hand = λ blocks holds. b.hand blocks (a.hand blocks holds);
  lent = b.lent ∙ a.lent;
  given = b.given ∙ a.given;
  freed = b.freed ∙ a.freed;
  made = a.made ++ b.made;
  on_words = All-append IsOnWord a.made b.made a.on_words b.on_words;
  led = leads-on (CallsOnce h) p q r a.made b.made a.led b.led;
}

pub reads-on : (h : HeapFields) (p q r : Pass) → KeepsWords h p q → KeepsWords h q r → KeepsWords h p r
unfolding rests-on
reads-on h p q r a b = record {
  rests = rests-on h p q r a.rests b.rests;
  same = λ place. b.same place ∙ a.same place;
  reads = All-append IsRead a.rests.made b.rests.made a.reads b.reads;
}

pub reads-self : (h : HeapFields) (p : Pass) → IsOf h p → IsIdle p.errand → KeepsWords h p p
reads-self h p of idle = record {
  rests = record {
    of = of;
    idle = idle;
    caller = refl;
    hand = λ blocks holds. holds;
    lent = refl;
    given = refl;
    freed = refl;
    made = [];
    on_words = All-nil IsOnWord;
    led = refl;
  };
  same = λ place. refl;
  reads = All-nil IsRead;
}

-- a token that is owned has its block at its place
pub owned-token : (p : Pass) (token : Block) → (owns : Owns p token) → owned_in p token.place ≡ Some owns.0.0
owned-token p token (owns, home) = ap (if_of p.errand.caller) owns.1 ∙ of-self p.errand.caller owns.0 owns.2

-- a block of the hand serves the need for which it was given, while no word of it is written
pub blank-need :
    (p : Pass) (token : Block) (caller words : ℕ) → Owns p token → owned_in p token.place ≡ Some (fresh_block caller words token.place)
    → token.need ≡ need_of words
blank-need p token caller words owns blank =
    let same : Some owns.0.0 ≡ Some (fresh_block caller words token.place) = sym (owned-token p token owns) ∙ blank in
    let is : owns.0.0 ≡ fresh_block caller words token.place = cc in
    sym owns.0.3 ∙ ap (λ (b : PoolBlock). b.need) is

-- what is owned after a write or a read is owned still
pub owned-owns :
    (p q : Pass) (token : Block) (now : PoolBlock) → q.errand.caller ≡ p.errand.caller → owned_in q token.place ≡ Some now
    → now.need ≡ token.need → (view q).lent ≡ (view p).lent → Owns p token → Owns q token
owned-owns p q token now caller owned need lent owns =
    let found = owned-found q.errand.caller (block_at token.place (pool_of (seen q))) now owned in
    ((now, found.0, found.1, need), stays-home p q token.place lent owns.1)

pub same-owns :
    (p q : Pass) (token : Block) → OwnsSame p q → q.errand.caller ≡ p.errand.caller → (view q).lent ≡ (view p).lent → Owns p token → Owns q token
same-owns p q token same caller lent owns = owned-owns p q token owns.0.0 caller (same token.place ∙ owned-token p token owns) owns.0.3 lent owns

pub wrote-owns :
    (p q : Pass) (token : Block) (i v : ℕ) → OwnsBut p q token.place (option_map (written i v) (owned_in p token.place))
    → q.errand.caller ≡ p.errand.caller → (view q).lent ≡ (view p).lent → Owns p token → Owns q token
wrote-owns p q token i v changes caller lent owns =
    owned-owns p q token (written i v owns.0.0) caller (changes.here ∙ ap (option_map (written i v)) (owned-token p token owns)) owns.0.3 lent owns

-- a word that is written is one of the block's
index-within : (words : List (Option ℕ)) (i v : ℕ) → slice_index_or words i None ≡ Some v → i < length words
index-within [] i v is = absurd (none-some v is)
index-within (w ∷ ws) zero v is = omega arith
index-within (w ∷ ws) (suc i) v is = omega (arith, index-within ws i v is)

pub word-within :
    (h : HeapFields) (p : Pass) (token : Block) (i v : ℕ) → IsOf h p → Owns p token → word_in p token.place i ≡ Some v → i < usable_words token.need
word-within h p token i v of owns is =
    let formed =
    every-each (IsWellFormed h.layout) (pool_of (seen p)) (sound-of h.layout (seen p) (legal-weaker h.layout (seen p) of.served.legal)).each
    token.place owns.0.0 owns.0.1 in
    let written_there : slice_index_or owns.0.0.contents i None ≡ Some v =
    sym (ap (λ (o : Option PoolBlock). word_of o i) (owned-token p token owns)) ∙ is in
    let within : i < length owns.0.0.contents = index-within owns.0.0.contents i v written_there in
    subst (λ n. i < n) (formed.full ∙ ap usable_words owns.0.3) within

-- the three words of a node
node-of-words :
    (words : List (Option ℕ)) (next : ℕ) (pair : ℕ × ℕ) → node_of words ≡ Some (next, pair)
    → words ≡ Some next ∷ Some pair.0 ∷ Some pair.1 ∷ []
node-of-words [] next pair is = absurd (none-some (next, pair) is)
node-of-words (None ∷ ws) next pair is = absurd (none-some (next, pair) is)
node-of-words (Some a ∷ []) next pair is = absurd (none-some (next, pair) is)
node-of-words (Some a ∷ None ∷ ws) next pair is = absurd (none-some (next, pair) is)
node-of-words (Some a ∷ Some b ∷ []) next pair is = absurd (none-some (next, pair) is)
node-of-words (Some a ∷ Some b ∷ None ∷ ws) next pair is = absurd (none-some (next, pair) is)
node-of-words (Some a ∷ Some b ∷ Some c ∷ []) next pair is =
    let parts = some_pair_parts a next (b, c) pair is in
    ap (λ (n : ℕ). Some n ∷ Some b ∷ Some c ∷ []) parts.0 ∙ ap (λ (p : ℕ × ℕ). Some next ∷ Some p.0 ∷ Some p.1 ∷ []) parts.1
node-of-words (Some a ∷ Some b ∷ Some c ∷ w ∷ ws) next pair is = absurd (none-some (next, pair) is)

pub node-is :
    (o : Option PoolBlock) (next : ℕ) (pair : ℕ × ℕ) → node_at o ≡ Some (next, pair)
    → (block : PoolBlock) × (o ≡ Some block) × (block.contents ≡ Some next ∷ Some pair.0 ∷ Some pair.1 ∷ [])
node-is None next pair is = absurd (none-some (next, pair) is)
node-is (Some block) next pair is = (block, refl, node-of-words block.contents next pair is)

pub node-words :
    (o : Option PoolBlock) (next : ℕ) (pair : ℕ × ℕ) → node_at o ≡ Some (next, pair)
    → (word_of o 0 ≡ Some next) × (word_of o 1 ≡ Some pair.0) × (word_of o 2 ≡ Some pair.1)
node-words o next pair is =
    let n = node-is o next pair is in
    let word : (i : ℕ) → word_of o i ≡ slice_index_or (Some next ∷ Some pair.0 ∷ Some pair.1 ∷ []) i None =
    λ i. ap (λ (x : Option PoolBlock). word_of x i) n.1 ∙ ap (λ (l : List (Option ℕ)). slice_index_or l i None) n.2 in
    (word 0, word 1, word 2)

-- a node whose first word is written leads elsewhere
pub node-led :
    (o : Option PoolBlock) (was next : ℕ) (pair : ℕ × ℕ) → node_at o ≡ Some (was, pair) → node_at (option_map (written 0 next) o) ≡ Some (next, pair)
node-led o was next pair is =
    let n = node-is o was pair is in
    ap (λ (x : Option PoolBlock). node_at (option_map (written 0 next) x)) n.1
    ∙ ap (λ (l : List (Option ℕ)). node_of (Rattle.std.specs.List.slice_set l 0 (Some next))) n.2

-- a block of a node's need has three words
three-words : usable_words (need_of 3) ≡ 3
unfolding need_of least
three-words = refl

-- a new block holds the node when its three words are written
pub node-made :
    (caller place next key value : ℕ)
    → node_at (Some (written 2 value (written 1 key (written 0 next (fresh_block caller 3 place))))) ≡ Some (next, (key, value))
node-made caller place next key value =
    ap (λ (n : ℕ). node_of (Rattle.std.specs.List.slice_set (Rattle.std.specs.List.slice_set (Rattle.std.specs.List.slice_set (Rattle.std.specs.Prelude.replicate n None) 0 (Some next)) 1 (Some key)) 2 (Some value)))
    three-words
