-- What single calls make of a pass and of what it owns.
use Rattle.std.proofs.Common.{ℕ, ◌≡◌, ◌≤◌, ◌%◌, ◌^◌, ◌+◌, List, [], ◌∷◌, Option, Some, None, refl, sym, ap, ◌∙◌, subst, inl, inr, arith}
use Rattle.std.specs.Prelude.{length, option_map, slice_index, slice_index_or}
use Rattle.heap_geometry.specs.Need.{need_of, usable_words}
use Rattle.heap_geometry.specs.Need as needs
use Rattle.pool_model.specs.Calls.{Ended}
use Rattle.pool_model.specs.Calls as ended
use Rattle.pool_model.specs.Pool.{Block as PoolBlock, block_at, fresh_block, pool_of, written}
use Rattle.pool_model.specs.Owned.{if_of}
use Rattle.pool_model.proofs.HistoryLemmas.{legal-weaker}
use Rattle.pool_model.specs.WellFormed.{IsWellFormed}
use Rattle.pool_model.proofs.PoolLemmas.{every-each}
use Rattle.pool_model.proofs.WellFormedLemmas.{sound-of}
use Rattle.pool_model.proofs.OwnedLemmas.{of-self, owned-found}
use Rattle.shelf_laws.specs.Quiet.{HandsNothingOver}
use Rattle.errand_steps.specs.declared.reply.Reply.{Reply}
use Rattle.errand_steps.specs.declared.reply.Reply.TheVariants as reply
use Rattle.errand_steps.specs.Begins.{IsIdle}
use Rattle.errand_steps.specs.Calls.{Call, alloc, put, read, take, write}
use Rattle.sound_laws.specs.events.Ends.{end_of}
use Rattle.sound_laws.specs.events.Made.{LeadsBy, found_from}
use Rattle.step_machine.specs.Keeping.{LeavesPlace}
use Rattle.lane_engine.specs.declared.calls.Allocated.{Allocated}
use Rattle.lane_engine.specs.declared.calls.Allocated.TheVariants as allocated
use Rattle.lane_engine.specs.Whole.{allocated_as}
use Rattle.live_heap.specs.declared.block.Block.{Block}
use Rattle.live_heap.specs.Heaps.{HeapFields}
use Rattle.live_heap.specs.declared.pass.Pass.{Pass}
use Rattle.live_heap.specs.declared.answers.AllocAnswer.TheVariants as answer
use Rattle.live_heap.specs.Answers.{AllocTells, IsContents, PutTellsFull, TakeTells}
use Rattle.live_heap.specs.declared.answers.Full.{Full}
use Rattle.live_heap.specs.declared.answers.Taken.TheVariants as taken
use Rattle.live_heap.specs.Calls.{HasCalled}
use Rattle.live_heap.specs.Contents.{OwnsSame, owned_in}
use Rattle.live_heap.specs.Holdings.{ChangesHand}
use Rattle.live_heap.specs.Passes.{IsHome, IsOf, Owns, seen, view}
use Rattle.live_heap.specs.Whole.{IsAtRest, IsWhole, MadeByPass, OwnsFor, at_once, by_steps}
use Rattle.live_heap.specs.Words.{CallsOnWord}
use Rattle.live_heap.proofs.laws_for_builders.AllBlocks.{whole-exact}
use Rattle.live_heap.proofs.laws_for_builders.Changing.{called-changes, whole-changes}
use Rattle.live_heap.proofs.laws_for_builders.Giving.{given-home, pass-hands, pass-serves}
use Rattle.live_heap.proofs.laws_for_builders.Keeping.{stays-home, whole-keeps}
use Rattle.pipe_runner.specs.Messages.{HasThreeWords, three_from, with_word, with_words}
use Rattle.block_pipe.specs.declared.pipe.Pipe.{Pipe}
use Rattle.block_pipe.specs.declared.sender.Sender.{Sender}
use Rattle.block_pipe.specs.Answers.{HasPutNext}
use Rattle.block_pipe.specs.Notes.{shelf_for}
use Rattle.pipe_runner.specs.EndCalls.{FoundFull, GaveNone, HasTried}
use Rattle.pipe_runner.specs.Moves.{HasAllocated, HasHandedOver, KeepsBlocks}
use Rattle.pipe_runner.proofs.MoveLemmas.{goes-here, goes-trans, whole-goes}

-- a block that a pass owns is there, with its words
pub owned-there : (p : Pass) (block : Block) → Owns p block → (b : PoolBlock) × (owned_in p block.place ≡ Some b) × (b.need ≡ block.need)
owned-there p block owns =
    let after = owns.0 in (after.0, ap (if_of p.errand.caller) after.1 ∙ of-self p.errand.caller after.0 after.2, after.3)

pub same-owns : (p q : Pass) → (view q).lent ≡ (view p).lent → OwnsSame p q → (block : Block) → Owns p block → Owns q block
same-owns p q lent same block owns =
    let there = owned-there p block owns in
    let found = owned-found q.errand.caller (block_at block.place (pool_of (seen q))) there.0 (same block.place ∙ there.1) in
    ((there.0, found.0, found.1, there.2), stays-home p q block.place lent owns.1)

pub keeps-here : (h : HeapFields) (p : Pass) → IsAtRest h p → KeepsBlocks h p p
keeps-here h p rest = record {
  moves = record { goes = goes-here p p refl; rest = rest };
  owns = λ block owned. owned;
  holds = λ blocks held. held;
}

pub keeps-trans : (h : HeapFields) (p q r : Pass) → KeepsBlocks h p q → KeepsBlocks h q r → KeepsBlocks h p r
keeps-trans h p q r a b = record {
  moves = record { goes = goes-trans p q r a.moves.goes b.moves.goes; rest = b.moves.rest };
  owns = λ block owned. b.owns block (a.owns block owned);
  holds = λ blocks held. b.holds blocks (a.holds blocks held);
}

pub keeps-whole :
    (h : HeapFields) (p q : Pass) (call : Call) (answer : Reply) (end : Ended) → IsOf h p → IsWhole h p call answer h q → end_of call answer ≡ Some end
    → HandsNothingOver end → ((place : ℕ) → LeavesPlace call place) → ((blocks : List Block) → ChangesHand call answer blocks blocks)
    → KeepsBlocks h p q
keeps-whole h p q call answer end was whole is home leaves hand =
    let (made, may, same, rest) = whole in record {
      moves = record { goes = whole-goes h p q call answer end whole is home; rest = rest };
      owns = λ block owned. whole-keeps h h p q call answer block.place block.need whole (leaves block.place) owned;
      holds = λ blocks held. whole-exact h h p q call answer blocks blocks was whole (hand blocks) held;
    }

-- an allocation that was not given a block
pub not-given :
    (h : HeapFields) (p q : Pass) (told : Allocated Block) → IsOf h p → ((block : Block) → told ≡ allocated.Given block → ⊥)
    → IsWhole h p (alloc 3) (allocated_as (λ (block : Block). block.place) (λ (block : Block). block.need) told) h q → KeepsBlocks h p q
not-given h p q (allocated.Given block) was other whole = absurd (other block refl)
not-given h p q allocated.Refused was other whole =
    keeps-whole h p q (alloc 3) reply.Refused (ended.alloc_refused 3) was whole refl tt (λ place. tt) (λ blocks. refl)
not-given h p q allocated.Spent was other whole =
    keeps-whole h p q (alloc 3) reply.Spent (ended.alloc_spent 3) was whole refl tt (λ place. tt) (λ blocks. refl)

abbrev pub fresh : ℕ → Block → PoolBlock
fresh c block = fresh_block c 3 block.place

given-serves : (h : HeapFields) (p q : Pass) (block : Block) → IsWhole h p (alloc 3) (reply.Given block.place block.need) h q → block.need ≡ need_of 3
given-serves h p q block whole = pass-serves h h p q 3 block.place block.need whole

-- the words of a block that was given are home
given-words :
    (h : HeapFields) (p q : Pass) (block : Block) → IsOf h p → IsWhole h p (alloc 3) (reply.Given block.place block.need) h q → IsHome q block.place
given-words h p q block was (by_steps made, may, same, rest) = given-home h p q (alloc 3) made.0 block.place block.need was rest.0 made.1
given-words h p q block was (at_once words is_alloc spent once, may, same, rest) = absurd (cc)

-- an allocation that was given a block, behind others that were not
pub has-allocated :
    (h : HeapFields) (p q r : Pass) (block : Block) → KeepsBlocks h p q → HasTried (GaveNone 3) p q
    → IsWhole h q (alloc 3) (reply.Given block.place block.need) h r → HasAllocated h p 3 block r
has-allocated h p q r block before refused whole =
    let answer : Reply = reply.Given block.place block.need in
    let (made, may, same, rest) = whole in
    let changed = whole-changes h h q r (alloc 3) answer whole in
    record {
      moves = record {
        goes = goes-trans p q r before.moves.goes (whole-goes h q r (alloc 3) answer (ended.alloc_given 3 block.place) whole refl tt);
        rest = rest;
      };
      last = q;
      refused = refused;
      gives = made;
      given = subst (λ (c : ℕ). owned_in r block.place ≡ Some (fresh c block)) before.moves.goes.caller changed.given.here;
      owned = (pass-hands h h q r (alloc 3) answer block.place block.need whole (refl, refl), given-words h q r block before.moves.rest.0 whole);
      serves = given-serves h q r block whole;
      holds = λ none. whole-exact h h q r (alloc 3) answer [] (block ∷ []) before.moves.rest.0 whole (block, refl, refl, refl) (before.holds [] none);
    }

-- a call of one step on a word of a block that the pass owns
one-step :
    (h : HeapFields) (p q : Pass) (call : Call) (answer : Reply) → IsOf h q → HasCalled p call 0 answer q → OwnsFor p call → IsWhole h p call answer h q
one-step h p q call answer of called owned = (by_steps (0, called), owned, refl, (of, called.idle))

pub wrote-keeps :
    (h : HeapFields) (p q : Pass) (block : Block) (i v : ℕ) → IsOf h p → IsOf h q → Owns p block
    → HasCalled p (write block.place block.need i v) 0 reply.Wrote q → KeepsBlocks h p q
wrote-keeps h p q block i v was of owned called =
    keeps-whole h p q (write block.place block.need i v) reply.Wrote (ended.wrote block.place i v) was
    (one-step h p q (write block.place block.need i v) reply.Wrote of called owned) refl tt (λ place. tt) (λ blocks. refl)

pub read-keeps :
    (h : HeapFields) (p q : Pass) (block : Block) (i word : ℕ) → IsOf h p → IsOf h q → Owns p block
    → HasCalled p (read block.place block.need i) 0 (reply.Word word) q → KeepsBlocks h p q
read-keeps h p q block i word was of owned called =
    keeps-whole h p q (read block.place block.need i) (reply.Word word) ended.read was
    (one-step h p q (read block.place block.need i) (reply.Word word) of called owned) refl tt (λ place. tt) (λ blocks. refl)

-- the block has one word more behind a write
wrote-there :
    (h : HeapFields) (p q : Pass) (block : Block) (i v : ℕ) (b : PoolBlock) → IsOf h q
    → HasCalled p (write block.place block.need i v) 0 reply.Wrote q → owned_in p block.place ≡ Some b
    → owned_in q block.place ≡ Some (written i v b)
wrote-there h p q block i v b of called there =
    (called-changes h p q (write block.place block.need i v) 0 reply.Wrote of called).here ∙ ap (option_map (written i v)) there

pub three-written :
    (h : HeapFields) (p q r s : Pass) (block : Block) (v b c : ℕ) → IsOf h q → IsOf h r → IsOf h s
    → HasCalled p (write block.place block.need 0 v) 0 reply.Wrote q → HasCalled q (write block.place block.need 1 b) 0 reply.Wrote r
    → HasCalled r (write block.place block.need 2 c) 0 reply.Wrote s → b ≡ (v + 1) % 2 ^ 64 → c ≡ (v + 2) % 2 ^ 64
    → owned_in p block.place ≡ Some (fresh p.errand.caller block)
    → (x : PoolBlock) × (owned_in s block.place ≡ Some x) × (x.contents ≡ three_from v)
unfolding need_of needs.least
three-written h p q r s block v b c of_q of_r of_s first second third is_b is_c there =
    let whole =
    wrote-there h r s block 2 c (written 1 b (written 0 v (fresh p.errand.caller block))) of_s third
    (wrote-there h q r block 1 b (written 0 v (fresh p.errand.caller block)) of_r second
    (wrote-there h p q block 0 v (fresh p.errand.caller block) of_q first there)) in (
      written 2 c (written 1 b (written 0 v (fresh p.errand.caller block))),
      whole,
      ap (λ (x : ℕ). Some v ∷ Some x ∷ Some c ∷ []) is_b ∙ ap (λ (x : ℕ). Some v ∷ Some ((v + 1) % 2 ^ 64) ∷ Some x ∷ []) is_c,
    )

-- a read leaves all as it is, and finds what was written
read-there :
    (h : HeapFields) (p q : Pass) (block : Block) (i word : ℕ) (b : PoolBlock) → IsOf h q
    → HasCalled p (read block.place block.need i) 0 (reply.Word word) q → owned_in p block.place ≡ Some b → owned_in q block.place ≡ Some b
read-there h p q block i word b of called there =
    called-changes h p q (read block.place block.need i) 0 (reply.Word word) of called block.place ∙ there

read-finds :
    (q : Pass) (block : Block) (i word w : ℕ) (b : PoolBlock) → IsContents q block.place i word → owned_in q block.place ≡ Some b
    → slice_index_or b.contents i None ≡ Some w → word ≡ w
read-finds q block i word w b contents there is =
    contents b w (owned-found q.errand.caller (block_at block.place (pool_of (seen q))) b there).0 is

pub three-read :
    (h : HeapFields) (p q r s : Pass) (block : Block) (x y z : ℕ) (b : PoolBlock) (fold : ℕ) → IsOf h q → IsOf h r → IsOf h s
    → HasCalled p (read block.place block.need 0) 0 (reply.Word x) q → HasCalled q (read block.place block.need 1) 0 (reply.Word y) r
    → HasCalled r (read block.place block.need 2) 0 (reply.Word z) s → IsContents q block.place 0 x → IsContents r block.place 1 y
    → IsContents s block.place 2 z → owned_in p block.place ≡ Some b → HasThreeWords b.contents
    → with_word (with_word (with_word fold x) y) z ≡ with_words fold b.contents
three-read h p q r s block x y z b fold of_q of_r of_s first second third has_x has_y has_z there three =
    let (u, v, w, is) = three in
    let at_q = read-there h p q block 0 x b of_q first there in
    let at_r = read-there h q r block 1 y b of_r second at_q in
    let at_s = read-there h r s block 2 z b of_s third at_r in
    let one : x ≡ u = read-finds q block 0 x u b has_x at_q (ap (λ (l : List (Option ℕ)). slice_index_or l 0 None) is) in
    let two : y ≡ v = read-finds r block 1 y v b has_y at_r (ap (λ (l : List (Option ℕ)). slice_index_or l 1 None) is) in
    let tri : z ≡ w = read-finds s block 2 z w b has_z at_s (ap (λ (l : List (Option ℕ)). slice_index_or l 2 None) is) in
    ap (λ (k : ℕ). with_word (with_word (with_word fold k) y) z) one ∙ ap (λ (k : ℕ). with_word (with_word (with_word fold u) k) z) two
    ∙ ap (λ (k : ℕ). with_word (with_word (with_word fold u) v) k) tri ∙ ap (with_words fold) (sym is)

-- three words were read by a slice, one after the other
three-words : (words : List ℕ) → length words ≡ 3 → words ≡ slice_index words 0 ∷ slice_index words 1 ∷ slice_index words 2 ∷ []
three-words (x ∷ y ∷ z ∷ []) long = refl
three-words [] long = absurd (omega (arith, long))
three-words (x ∷ []) long = absurd (omega (arith, long))
three-words (x ∷ y ∷ []) long = absurd (omega (arith, long))
three-words (x ∷ y ∷ z ∷ w ∷ more) long = absurd (omega (arith, long))

pub three-found :
    (h : HeapFields) (p q : Pass) (block : Block) (words : List ℕ) → length words ≡ 3
    → LeadsBy (CallsOnWord h) p (found_from block.place block.need 0 words) q
    → LeadsBy (CallsOnWord h) p (found_from block.place block.need 0 (slice_index words 0 ∷ slice_index words 1 ∷ slice_index words 2 ∷ [])) q
three-found h p q block words long leads =
    subst (λ (l : List ℕ). LeadsBy (CallsOnWord h) p (found_from block.place block.need 0 l) q) (three-words words long) leads

-- a block of three words has three of them
pub three-long :
    (h : HeapFields) (p : Pass) (block : Block) (b : PoolBlock) → IsOf h p → Owns p block → owned_in p block.place ≡ Some b → HasThreeWords b.contents
    → usable_words block.need ≡ 3
unfolding owned-there
three-long h p block b of owned there (u, v, w, is) =
    let has = owned-there p block owned in
    let both : Some b ≡ Some has.0 = sym there ∙ has.1 in
    let same : b ≡ has.0 = cc in
    let sound = sound-of h.layout (seen p) (legal-weaker h.layout (seen p) of.served.legal) in
    let full = (every-each (IsWellFormed h.layout) (pool_of (seen p)) sound.each block.place has.0 owned.0.1).full in
    sym (ap usable_words has.2) ∙ sym full ∙ ap (λ (x : PoolBlock). length x.contents) (sym same) ∙ ap (λ (l : List (Option ℕ)). length l) is

-- a put that finds the shelf full
pub full-same : (h : HeapFields) (p q : Pass) (block : Block) (shelf : ℕ) (full : Full) → IsOf h q → PutTellsFull p block shelf full q → OwnsSame p q
full-same h p q block shelf full of tells =
    called-changes h p q (put block.place block.need shelf) 0 (reply.Full full.found) of tells.called

pub full-keeps :
    (h : HeapFields) (p q : Pass) (block : Block) (shelf : ℕ) (full : Full) → IsOf h p → IsOf h q → Owns p block → PutTellsFull p block shelf full q
    → KeepsBlocks h p q
full-keeps h p q block shelf full was of owned tells =
    let whole = one-step h p q (put block.place block.need shelf) (reply.Full full.found) of tells.called owned in record {
      moves = record {
        goes = whole-goes h p q (put block.place block.need shelf) (reply.Full full.found) ended.put_full whole refl tt;
        rest = (of, tells.called.idle);
      };
      owns = same-owns p q tells.called.lent (full-same h p q block shelf full of tells);
      holds = λ blocks held. whole-exact h h p q (put block.place block.need shelf) (reply.Full full.found) blocks blocks was whole refl held;
    }

-- a take that gets nothing
pub empty-keeps : (h : HeapFields) (p q : Pass) (shelf : ℕ) → IsOf h p → IsOf h q → TakeTells p shelf taken.Empty q → KeepsBlocks h p q
empty-keeps h p q shelf was of tells =
    keeps-whole h p q (take shelf) reply.Empty (ended.take_empty shelf) was (by_steps (1, tells), tt, refl, (of, tells.idle)) refl tt (λ place. tt)
    (λ blocks. refl)

pub missed-keeps :
    (h : HeapFields) (p q : Pass) (shelf expected found : ℕ) → IsOf h p → IsOf h q → TakeTells p shelf (taken.Missed expected found) q → KeepsBlocks h p q
missed-keeps h p q shelf expected found was of tells =
    keeps-whole h p q (take shelf) (reply.Missed expected found) ended.take_missed was (by_steps (1, tells.0), tt, refl, (of, tells.0.idle)) refl tt
    (λ place. tt) (λ blocks. refl)

-- a block that serves three words has them
pub three-usable : 3 ≤ usable_words (need_of 3)
unfolding need_of needs.least
three-usable = omega arith

-- a put on the shelf that a sender had come to as its next one
pub handed :
    (h : HeapFields) (pipe : Pipe) (p last q : Pass) (e f : Sender) (block left : Block) → KeepsBlocks h p last → OwnsSame p last → IsOf h q
    → HasPutNext pipe f last left q → f ≡ e → left ≡ block → HasTried (FoundFull block (shelf_for pipe.shelves e.number e.sent)) p last
    → HasHandedOver h p block (shelf_for pipe.shelves e.number e.sent) q
handed h pipe p last q e f block left keeps same of called end is full = record {
  last = last;
  full = full;
  keeps = keeps;
  same = same;
  called = subst (λ (b : Block). HasCalled last (put b.place b.need (shelf_for pipe.shelves e.number e.sent)) 0 reply.Put q) is
      (subst (λ (s : Sender). HasCalled last (put left.place left.need (shelf_for pipe.shelves s.number s.sent)) 0 reply.Put q) end called);
  rest = (of, called.idle);
}

-- an allocation that found no turn left; and what a whole call leaves the pass in: no call
pub spent-made :
    (p : Pass) (words tries : ℕ) (q : Pass) → AllocTells p words tries answer.Spent q → MadeByPass p (alloc words) reply.Spent q
spent-made p words tries q (inl once) = at_once words refl refl once
spent-made p words tries q (inr ended) = by_steps (ended.0.steps, ended.0.called)

pub made-idle : (p : Pass) (call : Call) (answer : Reply) (q : Pass) → IsIdle p.errand → MadeByPass p call answer q → IsIdle q.errand
made-idle p call answer q idle (by_steps ended) = ended.1.idle
made-idle p call answer q idle (at_once words is_alloc spent once) = subst (λ (r : Pass). IsIdle r.errand) (sym once.same) idle
