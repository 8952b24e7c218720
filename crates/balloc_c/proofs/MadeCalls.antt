-- What a call has come to that nothing bars.
use Rattle.std.proofs.Common.{ℕ, ◌≡◌, ◌≢◌, ◌<◌, ◌≤◌, ◌+◌, ◌%◌, ◌^◌, true, false, Some, None, Ok, Err, List, length, refl, sym, ap, ◌∙◌, subst}
use Rattle.heap_geometry.specs.declared.limits.TheConstants.{LARGE_MOST, SHELVES}
use Rattle.heap_geometry.specs.Need.{usable_words}
use Rattle.errand_steps.specs.declared.reply.Reply.TheVariants as reply
use Rattle.errand_steps.specs.Calls.{put, read, write}
use Rattle.errand_steps.specs.Points.{is_idle}
use Rattle.sound_laws.specs.events.Made.{LeadsBy, Sums, found_from, wrote}
use Rattle.live_heap.specs.declared.answers.FreeAnswer.TheVariants as free_answer
use Rattle.live_heap.specs.declared.answers.AllocAnswer.TheVariants as alloc_answer
use Rattle.live_heap.specs.declared.answers.Full.{Full}
use Rattle.live_heap.specs.declared.answers.Resumed.TheVariants as resumed
use Rattle.live_heap.specs.declared.answers.Taken.TheVariants as taken
use Rattle.live_heap.specs.declared.block.Block.{Block}
use Rattle.live_heap.specs.Heaps.{HeapFields}
use Rattle.live_heap.specs.Answers.{IsContents, PutTellsFull, TakeTells}
use Rattle.live_heap.specs.Calls.{HasCalled}
use Rattle.live_heap.specs.Memory.{writes_from}
use Rattle.live_heap.specs.Passes.{IsOf}
use Rattle.live_heap.specs.Words.{CallsOnWord}
use Rattle.block_cache.specs.declared.cache.Cache.{Cache}
use Rattle.block_cache.specs.Caches.{KeepsMagazines}
use Rattle.balloc_c.specs.declared.kept.Kept.TheVariants as kept
use Rattle.balloc_c.specs.declared.refusal.Refusal.TheVariants as refusal
use Rattle.balloc_c.specs.declared.table.Slot.{Slot}
use Rattle.balloc_c.specs.declared.table.Table.{Table}
use Rattle.balloc_c.specs.Numbers.{NamesOneMore, HasSlotReady, KeepsNumbers, NamesOneLess, named}
use Rattle.balloc_c.specs.Outcomes.{Allocs, Frees, GoesOnTo, HasAllocatedNew, HasFreed, HasPut, HasRead, HasResumed, HasTaken, HasWritten, Puts, Reads, Resumes, Takes, Writes, alloc_bar, free_bar, put_bar, resume_bar, take_bar, word_bar}
use Rattle.balloc_c.specs.Ranges.{Adds, Fills, HasFilled, HasReadRange, HasSummed, HasWrittenRange, ReadsRange, WritesRange, range_bar}
use Rattle.balloc_c.specs.Slots.{HasAged, block_at, set_block}
use Rattle.balloc_c.specs.Through.{Asked, IsAllocation, IsFree}
use Rattle.balloc_c.proofs.BarLemmas.{alloc-made, free-made, makes, put-made, range-made, resume-made, take-made, word-made}
use Rattle.balloc_c.proofs.Numbers.{keeps-set, loses-set}
use Rattle.balloc_c.proofs.Slots.{vacant-set}

pub read-answers :
    (c : Cache) (t : Table) (number i : ℕ) (block : Block) (word : ℕ) (d : Cache) → is_idle c.pass.errand.point ≡ true → named t number ≡ Some (kept.Home block)
    → i < usable_words block.need → HasCalled c.pass (read block.place block.need i) 0 (reply.Word word) d.pass → IsContents d.pass block.place i word
    → KeepsMagazines c d → HasRead c t number i (Ok word) d t
read-answers c t number i block word d idle names has called contents keeps =
    makes (word_bar c.pass t number i) (Reads c t number i) c t (Ok word) d t (word-made c.pass t number i block idle names has)
    ((block, names, ((called, contents), keeps)), refl)

pub write-answers :
    (c : Cache) (t : Table) (number i value : ℕ) (block : Block) (d : Cache) → is_idle c.pass.errand.point ≡ true → named t number ≡ Some (kept.Home block)
    → i < usable_words block.need → HasCalled c.pass (write block.place block.need i value) 0 reply.Wrote d.pass → KeepsMagazines c d
    → HasWritten c t number i value (Ok tt) d t
write-answers c t number i value block d idle names has called keeps =
    makes (word_bar c.pass t number i) (Writes c t number i value) c t (Ok tt) d t (word-made c.pass t number i block idle names has)
    ((block, names, (called, keeps)), refl)

-- what calls on words in a row answer
pub writes-answers :
    (h : HeapFields) (c : Cache) (t : Table) (number from : ℕ) (words : List ℕ) (block : Block) (d : Cache) → is_idle c.pass.errand.point ≡ true
    → named t number ≡ Some (kept.Home block) → from + length words ≤ usable_words block.need → IsOf h c.pass
    → Asked (λ p q. LeadsBy (CallsOnWord h) p (writes_from block.place block.need from words) q) c d → HasWrittenRange c t number from words (Ok tt) d t
writes-answers h c t number from words block d idle names has of leads =
    makes (range_bar c.pass t number from (length words)) (WritesRange c t number from words) c t (Ok tt) d t
    (range-made c.pass t number from (length words) block idle names has) ((block, names, (h, of, leads)), refl)

pub reads-answers :
    (h : HeapFields) (c : Cache) (t : Table) (number from : ℕ) (before after : List ℕ) (block : Block) (d : Cache) → is_idle c.pass.errand.point ≡ true
    → named t number ≡ Some (kept.Home block) → from + length before ≤ usable_words block.need → IsOf h c.pass
    → Asked (λ p q. LeadsBy (CallsOnWord h) p (found_from block.place block.need from after) q) c d
    → HasReadRange c t number from before after (Ok tt) d t
reads-answers h c t number from before after block d idle names has of leads =
    makes (range_bar c.pass t number from (length before)) (ReadsRange c t number from after) c t (Ok tt) d t
    (range-made c.pass t number from (length before) block idle names has) ((block, names, (h, of, leads)), refl)

pub fill-answers :
    (h : HeapFields) (c : Cache) (t : Table) (number from : ℕ) (block : Block) (d : Cache) → is_idle c.pass.errand.point ≡ true → named t number ≡ Some (kept.Home block)
    → IsOf h c.pass → Asked (λ p q. LeadsBy (CallsOnWord h) p (wrote block.place block.need from (usable_words block.need)) q) c d
    → HasFilled c t number from (Ok tt) d t
fill-answers h c t number from block d idle names of leads =
    makes (free_bar c.pass t number) (Fills c t number from) c t (Ok tt) d t (free-made c.pass t number block idle names)
    ((block, names, (h, of, leads)), refl)

pub sum-answers :
    (h : HeapFields) (c : Cache) (t : Table) (number total : ℕ) (block : Block) (d : Cache) → is_idle c.pass.errand.point ≡ true → named t number ≡ Some (kept.Home block)
    → IsOf h c.pass → Asked (λ p q. Sums (CallsOnWord h) p block.place block.need total q) c d → HasSummed c t number (Ok total) d t
sum-answers h c t number total block d idle names of sums =
    makes (free_bar c.pass t number) (Adds c t number) c t (Ok total) d t (free-made c.pass t number block idle names)
    ((block, names, (h, of, sums)), refl)

-- a block leaves its slot for good
pub loses-at :
    (t u : Table) (middle : List Slot) (i number : ℕ) → i ≡ number % 2 ^ 32 → named t number ≢ None → i < length t.slots.items
    → middle ≡ set_block t.slots.items i None → HasAged middle i u.slots.items → NamesOneLess t number u
loses-at t u middle i number is names within set aged =
    loses-set t u middle number names (subst (λ (k : ℕ). k < length t.slots.items) is within)
    (subst (λ (k : ℕ). middle ≡ set_block t.slots.items k None) is set) (subst (λ (k : ℕ). HasAged middle k u.slots.items) is aged)

pub free-answers :
    (c : Cache) (t : Table) (number : ℕ) (block : Block) (d : Cache) (u : Table) → is_idle c.pass.errand.point ≡ true → named t number ≡ Some (kept.Home block)
    → IsFree c block free_answer.Freed d → NamesOneLess t number u → HasFreed c t number (Ok tt) d u
free-answers c t number block d u idle names free loses =
    makes (free_bar c.pass t number) (Frees c t number) c t (Ok tt) d u (free-made c.pass t number block idle names) ((block, names, free), loses)

pub free-stops :
    (c : Cache) (t : Table) (number : ℕ) (block : Block) (d : Cache) (u : Table) → is_idle c.pass.errand.point ≡ true → named t number ≡ Some (kept.Home block)
    → IsFree c block free_answer.Busy d → NamesOneLess t number u → HasFreed c t number (Err refusal.Interrupted) d u
free-stops c t number block d u idle names free loses =
    makes (free_bar c.pass t number) (Frees c t number) c t (Err refusal.Interrupted) d u (free-made c.pass t number block idle names)
    ((block, names, free), loses)

-- what a put answers
pub put-answers :
    (c : Cache) (t : Table) (number shelf : ℕ) (block : Block) (d : Cache) (u : Table) → is_idle c.pass.errand.point ≡ true → named t number ≡ Some (kept.Home block)
    → shelf < SHELVES → HasCalled c.pass (put block.place block.need shelf) 0 reply.Put d.pass → KeepsMagazines c d → NamesOneLess t number u
    → HasPut c t number shelf (Ok tt) d u
put-answers c t number shelf block d u idle names has called keeps loses =
    makes (put_bar c.pass t number shelf) (Puts c t number shelf) c t (Ok tt) d u (put-made c.pass t number shelf block idle names has)
    ((block, names, (called, keeps)), loses)

put-full :
    (c : Cache) (t : Table) (number shelf found : ℕ) (block : Block) (d : Cache) (u : Table) → is_idle c.pass.errand.point ≡ true
    → named t number ≡ Some (kept.Home block) → shelf < SHELVES → PutTellsFull c.pass block shelf (record { block = block; found = found }) d.pass
    → KeepsMagazines c d → KeepsNumbers t u → HasPut c t number shelf (Err refusal.ShelfFull) d u
put-full c t number shelf found block d u idle names has tells keeps same =
    makes (put_bar c.pass t number shelf) (Puts c t number shelf) c t (Err refusal.ShelfFull) d u (put-made c.pass t number shelf block idle names has)
    ((block, names, (found, (tells, keeps))), same)

pub full-answers :
    (c : Cache) (t : Table) (number shelf : ℕ) (block back : Block) (full : Full) (d : Cache) (u : Table) (middle : List Slot) (i : ℕ)
    → is_idle c.pass.errand.point ≡ true → named t number ≡ Some (kept.Home block) → shelf < SHELVES → PutTellsFull c.pass block shelf full d.pass
    → KeepsMagazines c d → i < length t.slots.items → block_at t.slots.items i ≡ Some (kept.Home block) → middle ≡ set_block t.slots.items i None
    → u.slots.items ≡ set_block middle i (Some (kept.Home back)) → back ≡ full.block → HasPut c t number shelf (Err refusal.ShelfFull) d u
full-answers c t number shelf block back full d u middle i idle names has tells keeps within is out_is back_is same =
    let still : i < length middle = subst (λ (l : List Slot). i < length l) (sym out_is) (vacant-set t.slots.items i within).0 in
    put-full c t number shelf full.found block d u idle names has
    (subst (λ (b : Block). PutTellsFull c.pass block shelf (record { block = b; found = full.found }) d.pass) tells.same tells) keeps
    (keeps-set t u middle i (kept.Home block) within still is out_is
    (back_is ∙ ap (λ (b : Block). set_block middle i (Some (kept.Home b))) (same ∙ tells.same)))

-- what an allocation answers
pub given-answers :
    (c : Cache) (t : Table) (words number : ℕ) (block : Block) (d : Cache) (u : Table) → is_idle c.pass.errand.point ≡ true → words ≤ LARGE_MOST
    → NamesOneMore t number (kept.Home block) u → IsAllocation c words (alloc_answer.Given block) d → HasAllocatedNew c t words (Ok number) d u
given-answers c t words number block d u idle has gains told =
    makes (alloc_bar c.pass words) (Allocs c t words) c t (Ok number) d u (alloc-made c.pass words idle has) (block, gains, told)

pub refused-answers :
    (c : Cache) (t : Table) (words : ℕ) (d : Cache) (u : Table) → is_idle c.pass.errand.point ≡ true → words ≤ LARGE_MOST → HasSlotReady t u
    → IsAllocation c words alloc_answer.Refused d → HasAllocatedNew c t words (Err refusal.Exhausted) d u
refused-answers c t words d u idle has ready told =
    makes (alloc_bar c.pass words) (Allocs c t words) c t (Err refusal.Exhausted) d u (alloc-made c.pass words idle has) (ready, told)

pub spent-answers :
    (c : Cache) (t : Table) (words : ℕ) (d : Cache) (u : Table) → is_idle c.pass.errand.point ≡ true → words ≤ LARGE_MOST → HasSlotReady t u
    → IsAllocation c words alloc_answer.Spent d → HasAllocatedNew c t words (Err refusal.Spent) d u
spent-answers c t words d u idle has ready told =
    makes (alloc_bar c.pass words) (Allocs c t words) c t (Err refusal.Spent) d u (alloc-made c.pass words idle has) (ready, told)

pub busy-answers :
    (c : Cache) (t : Table) (words : ℕ) (d : Cache) (u : Table) → is_idle c.pass.errand.point ≡ true → words ≤ LARGE_MOST → HasSlotReady t u
    → IsAllocation c words alloc_answer.Busy d → HasAllocatedNew c t words (Err refusal.Interrupted) d u
busy-answers c t words d u idle has ready told =
    makes (alloc_bar c.pass words) (Allocs c t words) c t (Err refusal.Interrupted) d u (alloc-made c.pass words idle has) (ready, told)

-- what a call that is gone on with answers, and a take
pub resumed-answers :
    (h : HeapFields) (c : Cache) (t : Table) (number : ℕ) (block : Block) (d : Cache) (u : Table) → is_idle c.pass.errand.point ≡ false
    → NamesOneMore t number (kept.Home block) u → GoesOnTo h c (resumed.Given block) d → HasResumed h c t (Ok (Some number)) d u
resumed-answers h c t number block d u busy gains goes =
    makes (resume_bar c.pass) (Resumes h c t) c t (Ok (Some number)) d u (resume-made c.pass busy) (block, gains, goes)

pub taken-answers :
    (c : Cache) (t : Table) (shelf number : ℕ) (block : Block) (d : Cache) (u : Table) → is_idle c.pass.errand.point ≡ true → shelf < SHELVES
    → NamesOneMore t number (kept.Home block) u → TakeTells c.pass shelf (taken.Got block) d.pass → KeepsMagazines c d → HasTaken c t shelf (Ok number) d u
taken-answers c t shelf number block d u idle has gains tells keeps =
    makes (take_bar c.pass shelf) (Takes c t shelf) c t (Ok number) d u (take-made c.pass shelf idle has) (block, gains, (tells, keeps))
