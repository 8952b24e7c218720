-- The calls of a round are whole calls through the cache, on a block that its caller holds.
use Rattle.std.proofs.Common.{ℕ, List, [], ◌∷◌, ◌≡◌, ◌<◌, ◌≤◌, Some, drop, refl, sym, ap, ◌∙◌, subst, arith}
use Rattle.heap_geometry.specs.declared.need.Need.{Need}
use Rattle.heap_geometry.specs.declared.need.Need.TheVariants.{Small}
use Rattle.heap_geometry.specs.Need.{need_of, usable_words}
use Rattle.heap_geometry.specs.Need as needs
use Rattle.errand_steps.specs.declared.reply.Reply.{Reply}
use Rattle.errand_steps.specs.declared.reply.Reply.TheVariants as reply
use Rattle.errand_steps.specs.Begins.{IsIdle}
use Rattle.errand_steps.specs.Calls.{Call, alloc, free, read, write}
use Rattle.sound_laws.specs.events.Made.{LeadsBy, Made, answered}
use Rattle.sound_laws.proofs.events_lemmas.MadeLemmas.{leads-more}
use Rattle.live_heap.specs.declared.answers.AllocAnswer.{AllocAnswer}
use Rattle.live_heap.specs.declared.answers.AllocAnswer.TheVariants as answer
use Rattle.live_heap.specs.declared.answers.FreeAnswer.{FreeAnswer}
use Rattle.live_heap.specs.declared.answers.FreeAnswer.TheVariants as free_answer
use Rattle.live_heap.specs.declared.block.Block.{Block}
use Rattle.live_heap.specs.Heaps.{HeapFields}
use Rattle.live_heap.specs.declared.pass.Pass.{Pass}
use Rattle.live_heap.specs.Answers.{IsContents}
use Rattle.live_heap.specs.Calls.{HasCalled}
use Rattle.live_heap.specs.Contents.{word_in}
use Rattle.live_heap.specs.Passes.{IsOf}
use Rattle.live_heap.specs.Whole.{HasEndedCall}
use Rattle.step_machine.specs.Keeping.{Hands, LeavesPlace}
use Rattle.block_cache.specs.declared.cache.Cache.{Cache}
use Rattle.block_cache.specs.declared.magazines.Magazines.{Magazines}
use Rattle.block_cache.specs.Caches.{HasFor, HasKept, HasRoom, HasServed, IsCache, KeepsMagazines}
use Rattle.block_cache.specs.Flushes.{Frees}
use Rattle.block_cache.specs.Whole.{Asks, HoldsAt, IsWholeCall, RestsAt}
use Rattle.worked_programs.specs.declared.embedded.Stop.{Stop}
use Rattle.worked_programs.specs.Reuse.{HasStopped, IsRound, Makes, Stops, round_calls}

-- a block that serves three words has them, and is small
pub three-usable : 3 ≤ usable_words (need_of 3)
unfolding need_of needs.least
three-usable = omega arith

pub three-small : (class : ℕ) × (need_of 3 ≡ Small class)
unfolding need_of
three-small = (_, refl)

-- the laws of whole calls through a cache on which these lemmas stand
abbrev pub AskedAreWhole : Type 0
AskedAreWhole =
    (h : HeapFields) (c d : Cache) (call : Call) (ended : Reply) → RestsAt h c → IsCache h d → Asks c call → HasEndedCall c.pass call ended d.pass
    → KeepsMagazines c d → IsWholeCall h c call ended d

abbrev pub KeepsHeld : Type 0
KeepsHeld =
    (h : HeapFields) (c d : Cache) (call : Call) (ended : Reply) (place : ℕ) (need : Need) → IsWholeCall h c call ended d → LeavesPlace call place
    → HoldsAt c place need → HoldsAt d place need

abbrev pub HandsHeld : Type 0
HandsHeld =
    (h : HeapFields) (c d : Cache) (call : Call) (ended : Reply) (place : ℕ) (need : Need) → IsWholeCall h c call ended d → Hands ended place need
    → HoldsAt d place need

abbrev pub ServesNeed : Type 0
ServesNeed =
    (h : HeapFields) (c d : Cache) (words place : ℕ) (need : Need) → IsWholeCall h c (alloc words) (reply.Given place need) d → need ≡ need_of words

-- the laws of written words on which they stand
abbrev pub StaysWritten : Type 0
StaysWritten =
    (h : HeapFields) (p q : Pass) (place : ℕ) (need : Need) (i v steps : ℕ) → IsOf h q → HasCalled p (write place need i v) steps reply.Wrote q
    → word_in q place i ≡ Some v

abbrev pub ReadsWritten : Type 0
ReadsWritten =
    (h : HeapFields) (p q : Pass) (place : ℕ) (need : Need) (i steps word v : ℕ) → IsOf h q → HasCalled p (read place need i) steps (reply.Word word) q
    → IsContents q place i word → word_in p place i ≡ Some v → word ≡ v

pub keeps-depth : (c d : Cache) → KeepsMagazines c d → d.magazines.depth ≡ c.magazines.depth
keeps-depth c d keeps = ap (λ (m : Magazines Block). m.depth) keeps.magazines

-- an allocation that was interrupted found no block in a magazine, and such a free no room in one
pub busy-asks :
    (c : Cache) (words : ℕ) (d : Cache) (told : AllocAnswer Block) → told ≡ answer.Busy
    → (HasFor c (need_of words) → (block : Block) × (told ≡ answer.Given block) × HasServed c words block d) → ¬ HasFor c (need_of words)
busy-asks c words d told is served has =
    let s = served has in
    let e : answer.Busy ≡ answer.Given s.0 = sym is ∙ s.1 in
    absurd (cc)

pub unkept-asks :
    (c : Cache) (block : Block) (d : Cache) (told : FreeAnswer) → told ≡ free_answer.Busy
    → (HasRoom c block.need → (told ≡ free_answer.Freed) × HasKept c block d) → ¬ HasRoom c block.need
unkept-asks c block d told is kept has =
    let k = kept has in
    let e : free_answer.Busy ≡ free_answer.Freed = sym is ∙ k.0 in
    absurd (cc)

-- a block of three words that was given is held, and has a word 1
pub given-held :
    (h : HeapFields) (c d : Cache) (place : ℕ) (need : Need) → HandsHeld → Makes h c (alloc 3) (reply.Given place need) d → HoldsAt d place need
given-held h c d place need hands makes = hands h c d (alloc 3) (reply.Given place need) place need makes.0 (refl, refl)

pub given-word : (h : HeapFields) (c d : Cache) (place : ℕ) (need : Need) → ServesNeed → Makes h c (alloc 3) (reply.Given place need) d → 1 < usable_words need
given-word h c d place need serves makes =
    subst (λ (n : Need). 1 < usable_words n) (sym (serves h c d 3 place need makes.0)) (omega (arith, three-usable))

-- a write of a held block, and a read of one
pub write-makes :
    (h : HeapFields) (c d : Cache) (place : ℕ) (need : Need) (i v : ℕ) → AskedAreWhole → RestsAt h c → HoldsAt c place need → IsCache h d
    → HasCalled c.pass (write place need i v) 0 reply.Wrote d.pass → KeepsMagazines c d → Makes h c (write place need i v) reply.Wrote d
write-makes h c d place need i v asked rests holds is called keeps =
    (asked h c d (write place need i v) reply.Wrote rests is holds (0, called) keeps, keeps-depth c d keeps)

pub read-makes :
    (h : HeapFields) (c d : Cache) (place : ℕ) (need : Need) (i word : ℕ) → AskedAreWhole → RestsAt h c → HoldsAt c place need → IsCache h d
    → HasCalled c.pass (read place need i) 0 (reply.Word word) d.pass → KeepsMagazines c d → Makes h c (read place need i) (reply.Word word) d
read-makes h c d place need i word asked rests holds is called keeps =
    (asked h c d (read place need i) (reply.Word word) rests is holds (0, called) keeps, keeps-depth c d keeps)

-- behind the write of a round its block is still held, and behind the read too; the word that is read is the one that was written
pub round-written :
    (h : HeapFields) (c c1 c2 : Cache) (place : ℕ) (need : Need) (word : ℕ) → AskedAreWhole → KeepsHeld → HandsHeld
    → Makes h c (alloc 3) (reply.Given place need) c1 → IsCache h c2 → HasCalled c1.pass (write place need 1 word) 0 reply.Wrote c2.pass
    → KeepsMagazines c1 c2 → Makes h c1 (write place need 1 word) reply.Wrote c2 × HoldsAt c2 place need
round-written h c c1 c2 place need word asked keeps hands given is called same =
    let held = given-held h c c1 place need hands given in
    let wrote = write-makes h c1 c2 place need 1 word asked given.0.after held is called same in
    (wrote, keeps h c1 c2 (write place need 1 word) reply.Wrote place need wrote.0 tt held)

pub round-read :
    (h : HeapFields) (c c1 c2 c3 : Cache) (place : ℕ) (need : Need) (word found : ℕ) → AskedAreWhole → KeepsHeld → HandsHeld → StaysWritten → ReadsWritten
    → Makes h c (alloc 3) (reply.Given place need) c1 → IsCache h c2 → HasCalled c1.pass (write place need 1 word) 0 reply.Wrote c2.pass
    → KeepsMagazines c1 c2 → IsCache h c3 → HasCalled c2.pass (read place need 1) 0 (reply.Word found) c3.pass → KeepsMagazines c2 c3
    → IsContents c3.pass place 1 found
    → Makes h c1 (write place need 1 word) reply.Wrote c2 × Makes h c2 (read place need 1) (reply.Word found) c3 × HoldsAt c3 place need × (found ≡ word)
round-read h c c1 c2 c3 place need word found asked keeps hands stays reads given is2 called2 same2 is3 called3 same3 contents =
    let wrote = round-written h c c1 c2 place need word asked keeps hands given is2 called2 same2 in
    let makes = read-makes h c2 c3 place need 1 found asked wrote.0.0.after wrote.1 is3 called3 same3 in (
      wrote.0,
      makes,
      keeps h c2 c3 (read place need 1) (reply.Word found) place need makes.0 tt wrote.1,
      reads h c2.pass c3.pass place need 1 0 found word is3.hand.of called3 contents
          (stays h c1.pass c2.pass place need 1 word 0 is2.hand.of called2),
    )

-- the calls of a round before its free
abbrev first_three : ℕ → ℕ → List Made
first_three place word =
    answered (alloc 3) (reply.Given place (need_of 3))
    ∷ answered (write place (need_of 3) 1 word) reply.Wrote
    ∷ answered (read place (need_of 3) 1) (reply.Word word)
    ∷ []

three-made :
    (h : HeapFields) (c c1 c2 c3 : Cache) (place : ℕ) (need : Need) (word found : ℕ) → need ≡ need_of 3 → found ≡ word
    → Makes h c (alloc 3) (reply.Given place need) c1 → Makes h c1 (write place need 1 word) reply.Wrote c2
    → Makes h c2 (read place need 1) (reply.Word found) c3 → LeadsBy (Makes h) c (first_three place word) c3
three-made h c c1 c2 c3 place need word found is same m1 m2 m3 =
    let m3 : Makes h c2 (read place need 1) (reply.Word word) c3 = subst (λ (w : ℕ). Makes h c2 (read place need 1) (reply.Word w) c3) same m3 in (
      c1,
      subst (λ (n : Need). Makes h c (alloc 3) (reply.Given place n) c1) is m1,
      (
        c2,
        subst (λ (n : Need). Makes h c1 (write place n 1 word) reply.Wrote c2) is m2,
        (c3, subst (λ (n : Need). Makes h c2 (read place n 1) (reply.Word word) c3) is m3, refl),
      ),
    )

-- the four calls of a round
pub round-made :
    (h : HeapFields) (c c1 c2 c3 d : Cache) (place : ℕ) (need : Need) (word found : ℕ) → ServesNeed → found ≡ word
    → Makes h c (alloc 3) (reply.Given place need) c1 → Makes h c1 (write place need 1 word) reply.Wrote c2
    → Makes h c2 (read place need 1) (reply.Word found) c3 → Makes h c3 (free place need) reply.Freed d → IsRound h c word d
round-made h c c1 c2 c3 d place need word found serves same m1 m2 m3 m4 =
    let is : need ≡ need_of 3 = serves h c c1 3 place need m1.0 in (
      place,
      leads-more (Makes h) c c3 d (first_three place word) (free place (need_of 3)) reply.Freed
          (three-made h c c1 c2 c3 place need word found is same m1 m2 m3)
          (subst (λ (n : Need). Makes h c3 (free place n) reply.Freed d) is m4),
    )

-- a round that its first call stopped, and one that its free did
pub alloc-stops : (h : HeapFields) (c d : Cache) (word : ℕ) (told : Stop) → Stops h c (alloc 3) told d → HasStopped h c word told d
alloc-stops h c d word told stops = record {
  calls = [];
  last = c;
  made = refl;
  call = alloc 3;
  next = (0, reply.Given 0 (need_of 3), drop 1 (round_calls 0 word), refl);
  stops = stops;
}

pub free-stops :
    (h : HeapFields) (c c1 c2 c3 d : Cache) (place : ℕ) (need : Need) (word found : ℕ) (told : Stop) → ServesNeed → found ≡ word
    → Makes h c (alloc 3) (reply.Given place need) c1 → Makes h c1 (write place need 1 word) reply.Wrote c2
    → Makes h c2 (read place need 1) (reply.Word found) c3 → Stops h c3 (free place need) told d → HasStopped h c word told d
free-stops h c c1 c2 c3 d place need word found told serves same m1 m2 m3 stops =
    let is : need ≡ need_of 3 = serves h c c1 3 place need m1.0 in
    record {
      calls = first_three place word;
      last = c3;
      made = three-made h c c1 c2 c3 place need word found is same m1 m2 m3;
      call = free place (need_of 3);
      next = (place, reply.Freed, [], refl);
      stops = subst (λ (n : Need). Stops h c3 (free place n) told d) is stops;
    }

-- behind a round the cache is in no call
pub round-rests : (h : HeapFields) (c d : Cache) (word : ℕ) → IsRound h c word d → RestsAt h d
round-rests h c d word (place, made) =
    let (c1, m1, r1) = made in
    let (c2, m2, r2) = r1 in
    let (c3, m3, r3) = r2 in
    let (c4, m4, last) = r3 in
    subst (RestsAt h) (sym last) m4.0.after

-- a pass that has freed the blocks of magazines is in no call, if it was in none
pub frees-idle : (h : HeapFields) (p q : Pass) (blocks : List Block) (tries : ℕ) → IsIdle p.errand → Frees h p blocks tries q → IsIdle q.errand
frees-idle h p q [] tries idle frees = subst (λ (r : Pass). IsIdle r.errand) (sym frees) idle
frees-idle h p q (block ∷ blocks) tries idle (next, of, tells, frees) = frees-idle h next q blocks tries tells.called.idle frees
