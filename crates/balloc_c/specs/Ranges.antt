-- Calls on the words of a block in a row.
use Rattle.std.specs.Prelude.{ℕ, ◌≡◌, ◌+◌, Bool, false, nat_lt, Option, Some, None, Result, Ok, Err, List, length}
use Rattle.heap_geometry.specs.Need.{usable_words}
use Rattle.sound_laws.specs.events.Made.{LeadsBy, Made, Sums, found_from, wrote}
use Rattle.balloc_c.specs.declared.kept.Kept.{Kept}
use Rattle.balloc_c.specs.Kept.{block_of}
use Rattle.live_heap.specs.Heaps.{HeapFields}
use Rattle.live_heap.specs.declared.pass.Pass.{Pass}
use Rattle.live_heap.specs.Memory.{writes_from}
use Rattle.live_heap.specs.Passes.{IsOf}
use Rattle.live_heap.specs.Words.{CallsOnWord}
use Rattle.block_cache.specs.declared.cache.Cache.{Cache}
use Rattle.balloc_c.specs.declared.refusal.Refusal.{Refusal}
use Rattle.balloc_c.specs.declared.refusal.Refusal.TheVariants as refusal
use Rattle.balloc_c.specs.declared.table.Table.{Table}
use Rattle.balloc_c.specs.Numbers.{named}
use Rattle.balloc_c.specs.Outcomes.{Answers, Of, barred, free_bar, is_busy, names_none, names_out}
use Rattle.balloc_c.specs.Through.{Asked}

-- the block has not all words of the range
abbrev pub lacks_range : Option Kept → ℕ → ℕ → Bool
lacks_range None from count = false
lacks_range (Some block) from count = nat_lt (usable_words (block_of block).need) (from + count)

-- what bars a call on a range
abbrev pub range_bar : Pass → Table → ℕ → ℕ → ℕ → Option Refusal
range_bar pass table number from count =
    barred (is_busy pass) refusal.InCall (barred (names_none table number) refusal.NoBlock
    (barred (names_out table number) refusal.Out (barred (lacks_range (named table number) from count) refusal.NoWord None)))

-- a pass made these calls on words, one after the other, each of one step
abbrev pub MadeLead : Cache → List Made → Cache → Type 0
MadeLead c made d = (h : HeapFields) × IsOf h c.pass × Asked (λ p q. LeadsBy (CallsOnWord h) p made q) c d

-- each word of the range was written, in their order
abbrev pub WritesRange : Cache → Table → ℕ → ℕ → List ℕ → Result (Unit {0}) Refusal → Cache → Table → Type 0
WritesRange c t number from words (Ok done) d u = Of t number (λ block. MadeLead c (writes_from block.place block.need from words) d) × (u ≡ t)
WritesRange c t number from words (Err cause) d u = ⊥

-- each word of the range was read, and these words were found
abbrev pub ReadsRange : Cache → Table → ℕ → ℕ → List ℕ → Result (Unit {0}) Refusal → Cache → Table → Type 0
ReadsRange c t number from found (Ok done) d u = Of t number (λ block. MadeLead c (found_from block.place block.need from found) d) × (u ≡ t)
ReadsRange c t number from found (Err cause) d u = ⊥

-- each usable word of the block was written: word i with from + i, modulo 2^64
abbrev pub Fills : Cache → Table → ℕ → ℕ → Result (Unit {0}) Refusal → Cache → Table → Type 0
Fills c t number from (Ok done) d u =
    Of t number (λ block. MadeLead c (wrote block.place block.need from (usable_words block.need)) d) × (u ≡ t)
Fills c t number from (Err cause) d u = ⊥

-- each usable word of the block was read, and they add up to this, modulo 2^64
abbrev pub Adds : Cache → Table → ℕ → Result ℕ Refusal → Cache → Table → Type 0
Adds c t number (Ok total) d u =
    Of t number (λ block. (h : HeapFields) × IsOf h c.pass × Asked (λ p q. Sums (CallsOnWord h) p block.place block.need total q) c d) × (u ≡ t)
Adds c t number (Err cause) d u = ⊥

-- what lies where the words go: what was found, or what lay there before
abbrev pub IsFound : Result (Unit {0}) Refusal → List ℕ → List ℕ → Type 0
IsFound (Ok done) before after = length after ≡ length before
IsFound (Err cause) before after = after ≡ before

-- what each call on a range comes to, with what bars it
abbrev pub HasWrittenRange : Cache → Table → ℕ → ℕ → List ℕ → Result (Unit {0}) Refusal → Cache → Table → Type 0
HasWrittenRange c t number from words = Answers (range_bar c.pass t number from (length words)) (WritesRange c t number from words) c t

abbrev pub HasReadRange : Cache → Table → ℕ → ℕ → List ℕ → List ℕ → Result (Unit {0}) Refusal → Cache → Table → Type 0
HasReadRange c t number from before after = Answers (range_bar c.pass t number from (length before)) (ReadsRange c t number from after) c t

abbrev pub HasFilled : Cache → Table → ℕ → ℕ → Result (Unit {0}) Refusal → Cache → Table → Type 0
HasFilled c t number from = Answers (free_bar c.pass t number) (Fills c t number from) c t

abbrev pub HasSummed : Cache → Table → ℕ → Result ℕ Refusal → Cache → Table → Type 0
HasSummed c t number = Answers (free_bar c.pass t number) (Adds c t number) c t
