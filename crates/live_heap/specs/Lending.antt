-- A block whose usable words go out with the pass of its owner, and come back.
use Rattle.std.specs.Prelude.{ℕ, ◌≡◌, ◌≢◌, ◌<◌, ◌+◌, ◌%◌, ◌^◌, ◌++◌, ◌⊎◌, List, [], ◌∷◌, Some, None, length, map, slice_index, slice_index_or, slice_set}
use mathlib.Core.Option.{some}
use lib.ListN.{get_elem?}
use Rattle.std.specs.List.{range_with_len}
use Rattle.atomic_region.specs.Region.{Me}
use Rattle.heap_geometry.specs.declared.geometry.Geometry.{Geometry}
use Rattle.heap_geometry.specs.declared.need.Need.{Need}
use Rattle.heap_geometry.specs.declared.need.Need.TheVariants.{TooLarge}
use Rattle.heap_geometry.specs.Need.{usable_words}
use Rattle.plain_words.specs.Places.{laids}
use Rattle.pool_model.specs.declared.event.Event.{Event}
use Rattle.pool_model.specs.Pool.{Block, block_at, pool_of}
use Rattle.errand_steps.specs.Begins.{IsIdle}
use Rattle.errand_steps.specs.declared.reply.Reply.{Reply}
use Rattle.errand_steps.specs.declared.reply.Reply.TheVariants as reply
use Rattle.errand_steps.specs.Calls.{Call, begun_by, read, write}
use Rattle.errand_steps.specs.Errands.{ErrandFields}
use Rattle.sound_laws.specs.events.Made.{Made}
use Rattle.step_machine.specs.Cores.{OwnsAfter}
use Rattle.live_heap.specs.declared.view.Lent.{Lent}
use Rattle.live_heap.specs.declared.view.Standing.{Standing}
use Rattle.live_heap.specs.declared.view.View.{View}
use Rattle.live_heap.specs.Pieces.{caller_mark, mark_place}
use Rattle.live_heap.specs.Sights.{AreOwned, TakesStep}

-- a block at the place that serves the need, whose words count as these numbers
abbrev pub lent_block : ℕ → Need → List ℕ → Lent
lent_block place need numbers = record { place = place; need = need; numbers = numbers }

-- a pass that has the words of these blocks out
abbrev pub with_lent : View → List Lent → View
with_lent v blocks = record v { lent = blocks }

-- no block
abbrev pub no_block : Lent
no_block = lent_block 0 TooLarge []

-- a pass that stands for one caller, whose errand is e and which is in no call, owns this block and hasn't its words out
pub record MayLend (v : View) (e : ErrandFields) (place : ℕ) (need : Need) : Type 0 where
  pub before : Standing
  pub one : v.callers ≡ before ∷ []
  pub stands : before.errand ≡ e
  pub idle : IsIdle e
  pub owned : OwnsAfter v.seen e.caller place need
  pub home : (n : ℕ) (b : Lent) → get_elem? v.lent n ≡ some b → b.place ≢ place

-- so many numbers, counted from one on, modulo 2^64
abbrev pub numbers_from : ℕ → ℕ → List ℕ
numbers_from from count = map (λ i. (from + i) % 2 ^ 64) (range_with_len 0 count)

-- so many numbers: the first ones are these, and the others 0
abbrev pub copy_of : List ℕ → ℕ → List ℕ
copy_of numbers count = map (λ i. slice_index_or numbers i 0) (range_with_len 0 count)

-- what the caller wrote into the words of its block at the place counts among these numbers
abbrev pub TellsWritten : List Event → ℕ → List ℕ → Type 0
TellsWritten events place numbers =
    (block : Block) (i v : ℕ) → block_at place (pool_of events) ≡ Some block → slice_index_or block.contents i None ≡ Some v → slice_index numbers i ≡ v

-- the usable words of the block have gone out with the pass
abbrev pub HasLent : ℕ → Need → View → Me View → Type 0
HasLent place need v me =
    (numbers : List ℕ) × (length numbers ≡ usable_words need) × TellsWritten v.seen place numbers
    × (me ≡ (with_lent v (lent_block place need numbers ∷ v.lent), (place + 1, laids numbers) ∷ []))

-- what its caller's mark, which held this number, tells a pass that may lend: where it says that words may be out, these have gone out; where it doesn't, nothing has changed
abbrev pub LendsWhere : ℕ → Need → ℕ → Me View → Me View → Type 0
LendsWhere place need mark before after = (mark ≡ 1 → HasLent place need before.0 after) × (mark ≢ 1 → after ≡ before)

-- a pass that stands for one caller and has no block's words out may say so by that caller's mark, which lies here
pub record MayRest (g : Geometry) (me : Me View) (mark : ℕ) : Type 0 where
  pub before : Standing
  pub one : me.0.callers ≡ before ∷ []
  pub lies : mark ≡ mark_place g (caller_mark g before.errand.caller)
  pub home : me.0.lent ≡ []

-- all of the blocks lie at other places
abbrev pub AreElsewhere : ℕ → List Lent → Type 0
AreElsewhere place blocks = (n : ℕ) (b : Lent) → get_elem? blocks n ≡ some b → b.place ≢ place

-- each of the blocks is one of the others
abbrev pub AreAmong : List Lent → List Lent → Type 0
AreAmong blocks others = (n : ℕ) (b : Lent) → get_elem? blocks n ≡ some b → (m : ℕ) × (get_elem? others m ≡ some b)

-- the first block behind those in front is this one, and no other lies at its place
abbrev pub IsNext : Lent → List Lent → List Lent → Type 0
IsNext b front back = (front ≡ []) × (rest : List Lent) × (back ≡ b ∷ rest) × AreElsewhere b.place rest

-- a read of a word of the block at the place, which has these numbers
abbrev pub ReadsOwn : ℕ → Need → List ℕ → ℕ → Need → ℕ → ℕ → Type 0
ReadsOwn place need numbers at n i word = (at ≡ place) × (n ≡ need) × (i < usable_words need) × (slice_index numbers i ≡ word)

-- a read of the block that stands next to the one at the place, which is none of those that are shown
abbrev pub ReadsNext : ℕ → List Lent → List Lent → List Lent → ℕ → Need → ℕ → ℕ → Type 0
ReadsNext place front back shown at n i word =
    (b : Lent) × IsNext b front back × (b.place ≢ place) × AreElsewhere b.place shown × (at ≡ b.place) × (n ≡ b.need) × (i < usable_words b.need)
    × (slice_index b.numbers i ≡ word)

-- a call on words that are out with a pass: a write to the block at the place, which stands between others, or a read of it or of the one next to it. It leads from some numbers in the block to others
abbrev pub LeadsTo : ℕ → Need → List Lent → List Lent → List Lent → List ℕ → Call → Reply → List ℕ → Type 0
LeadsTo place need front back shown old (write at n i x) reply.Wrote new =
    (at ≡ place) × (n ≡ need) × (i < usable_words need) × (x < 2 ^ 64) × (new ≡ slice_set old i x)
LeadsTo place need front back shown old (read at n i) (reply.Word word) new =
    (ReadsOwn place need old at n i word ⊎ ReadsNext place front back shown at n i word) × (new ≡ old)
LeadsTo place need front back shown old call answer new = ⊥

abbrev pub LeadTo : ℕ → Need → List Lent → List Lent → List Lent → List ℕ → List Made → List ℕ → Type 0
LeadTo place need front back shown old [] new = new ≡ old
LeadTo place need front back shown old (made ∷ rest) new =
    (next : List ℕ) × LeadsTo place need front back shown old made.call made.answer next × LeadTo place need front back shown next rest new

-- the block, which now has these numbers, is one of those whose words are out, and the calls lead to these from what it went out with, which are as many; the blocks that are shown are some of the others
pub record ComesBy (lent : List Lent) (block : Lent) (made : List Made) (shown : List Lent) : Type 0 where
  pub front : List Lent
  pub back : List Lent
  pub old : List ℕ
  pub is : lent ≡ front ++ lent_block block.place block.need old ∷ back
  pub among : AreAmong shown (front ++ back)
  pub leads : length old ≡ usable_words block.need → LeadTo block.place block.need front back shown old made block.numbers

-- a pass that stands for one caller, whose errand is e and which is in no call, carries the words of one of the blocks that are out with it, with these numbers in them now, to which these calls lead
pub record MayReturn (me : Me View) (e : ErrandFields) (block : Lent) (made : List Made) (shown : List Lent) : Type 0 where
  pub before : Standing
  pub one : me.0.callers ≡ before ∷ []
  pub stands : before.errand ≡ e
  pub idle : IsIdle e
  pub mine : AreOwned me.0 e.caller
  pub comes : ComesBy me.0.lent block made shown
  pub others : AreElsewhere block.place (comes.front ++ comes.back)
  pub ranges : me.1 ≡ (block.place + 1, laids block.numbers) ∷ []
  pub long : length block.numbers ≡ usable_words block.need

-- a step found this number, where it was a call's with this answer
abbrev pub Finds : Call → Reply → ℕ → Type 0
Finds (write place need i x) reply.Wrote n = Unit {0}
Finds (read place need i) (reply.Word word) n = n ≡ word
Finds call answer n = ⊥

-- a pass in no call, whose errand is e, has made these calls on words, one after the other, each in one step
abbrev pub MakesOn : ErrandFields → View → List Made → View → Type 0
MakesOn e v [] w = w ≡ v
MakesOn e v (made ∷ rest) w =
    (u : View) × (n : ℕ) × Finds made.call made.answer n × TakesStep (begun_by e made.call) n v u × MakesOn e u rest w

-- the words of the block have come back, and these calls were made, by a pass that shows no other blocks as out than these; the blocks before and behind it are out still
abbrev pub HasReturned : ErrandFields → Lent → List Made → List Lent → View → Me View → Type 0
HasReturned e block made shown v me =
    (front : List Lent) × (old : List ℕ) × (back : List Lent) × (v.lent ≡ front ++ lent_block block.place block.need old ∷ back)
    × (w : View) × MakesOn e (with_lent v shown) made (with_lent w shown) × (me ≡ (with_lent w (front ++ back), []))
