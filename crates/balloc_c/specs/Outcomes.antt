-- What a call on a pass for C comes to: what bars it, and what it makes where nothing does.
use Rattle.std.specs.Prelude.{ℕ, ◌≡◌, ◌≤◌, ◌⊎◌, Bool, true, false, not, nat_lt, nat_le, Option, Some, None, is_none, Result, Ok, Err}
use Rattle.heap_geometry.specs.declared.limits.TheConstants.{LARGE_MOST, SHELVES}
use Rattle.heap_geometry.specs.Need.{need_of, usable_words}
use Rattle.errand_steps.specs.Begins.{IsIdle}
use Rattle.errand_steps.specs.declared.reply.Reply.TheVariants as reply
use Rattle.errand_steps.specs.Calls.{Call, put, read, write}
use Rattle.errand_steps.specs.Points.{is_idle}
use Rattle.live_heap.specs.declared.answers.AllocAnswer.TheVariants as alloc_answer
use Rattle.live_heap.specs.declared.answers.FreeAnswer.TheVariants as free_answer
use Rattle.live_heap.specs.declared.answers.Resumed.{Resumed}
use Rattle.live_heap.specs.declared.answers.Resumed.TheVariants as resumed
use Rattle.live_heap.specs.declared.answers.Taken.TheVariants as taken
use Rattle.live_heap.specs.declared.block.Block.{Block}
use Rattle.balloc_c.specs.declared.kept.Kept.{Kept}
use Rattle.balloc_c.specs.declared.kept.Kept.TheVariants as kept
use Rattle.balloc_c.specs.Kept.{block_of, is_out}
use Rattle.live_heap.specs.Heaps.{HeapFields}
use Rattle.live_heap.specs.declared.pass.Pass.{Pass}
use Rattle.live_heap.specs.Answers.{IsContents, PutTellsFull, ResumeTells, TakeTells}
use Rattle.live_heap.specs.Calls.{HasCalled, IsCalling}
use Rattle.live_heap.specs.Passes.{IsOf}
use Rattle.block_cache.specs.declared.cache.Cache.{Cache}
use Rattle.balloc_c.specs.declared.calls.TheConstants.{TRIES}
use Rattle.balloc_c.specs.declared.hand.Hand.{Hand}
use Rattle.balloc_c.specs.declared.refusal.Refusal.{Refusal}
use Rattle.balloc_c.specs.declared.refusal.Refusal.TheVariants as refusal
use Rattle.balloc_c.specs.declared.table.Table.{Table}
use Rattle.balloc_c.specs.Laid.{IsGivenAgain, IsReady}
use Rattle.balloc_c.specs.Numbers.{NamesOneMore, HasSlotReady, KeepsNumbers, NamesOneLess, named}
use Rattle.balloc_c.specs.Packed.{HasOneMoreAtMost}
use Rattle.balloc_c.specs.Through.{Asked, IsAllocation, IsFree}

-- the first cause that stands bars a call
abbrev pub barred : Bool → Refusal → Option Refusal → Option Refusal
barred true cause rest = Some cause
barred false cause rest = rest

-- a call is under way
abbrev pub is_busy : Pass → Bool
is_busy pass = not (is_idle pass.errand.point)

-- the number names no block
abbrev pub names_none : Table → ℕ → Bool
names_none table number = is_none (named table number)

-- the words of the block with this number are out
abbrev pub names_out : Table → ℕ → Bool
names_out table number = is_out (named table number)

-- the block has no word with this number
abbrev pub lacks_word : Option Kept → ℕ → Bool
lacks_word None i = false
lacks_word (Some block) i = nat_le (usable_words (block_of block).need) i

-- what bars each call
abbrev pub alloc_bar : Pass → ℕ → Option Refusal
alloc_bar pass words = barred (is_busy pass) refusal.InCall (barred (nat_lt LARGE_MOST words) refusal.TooLarge None)

abbrev pub free_bar : Pass → Table → ℕ → Option Refusal
free_bar pass table number =
    barred (is_busy pass) refusal.InCall (barred (names_none table number) refusal.NoBlock
    (barred (names_out table number) refusal.Out None))

abbrev pub word_bar : Pass → Table → ℕ → ℕ → Option Refusal
word_bar pass table number i =
    barred (is_busy pass) refusal.InCall (barred (names_none table number) refusal.NoBlock
    (barred (names_out table number) refusal.Out (barred (lacks_word (named table number) i) refusal.NoWord None)))

abbrev pub put_bar : Pass → Table → ℕ → ℕ → Option Refusal
put_bar pass table number shelf =
    barred (is_busy pass) refusal.InCall (barred (names_none table number) refusal.NoBlock
    (barred (names_out table number) refusal.Out (barred (nat_le SHELVES shelf) refusal.NoShelf None)))

abbrev pub take_bar : Pass → ℕ → Option Refusal
take_bar pass shelf = barred (is_busy pass) refusal.InCall (barred (nat_le SHELVES shelf) refusal.NoShelf None)

abbrev pub resume_bar : Pass → Option Refusal
resume_bar pass = barred (is_idle pass.errand.point) refusal.Idle None

-- a call that is barred has its cause's answer, and nothing has happened; a call that isn't has been made
abbrev pub Answers : {A : Type 0} → Option Refusal → (Result A Refusal → Cache → Table → Type 0) → Cache → Table → Result A Refusal → Cache → Table → Type 0
Answers (Some cause) Makes c t result d u = (result ≡ Err cause) × (d ≡ c) × (u ≡ t)
Answers None Makes c t result d u = Makes result d u

-- no block came or went, and the pass and its magazines stand as they stood
abbrev pub Stays : Cache → Table → Cache → Table → Type 0
Stays c t d u = (d ≡ c) × KeepsNumbers t u

-- the number names a block whose words are home, of which this holds
abbrev pub Of : Table → ℕ → (Block → Type 0) → Type 0
Of t number P = (block : Block) × (named t number ≡ Some (kept.Home block)) × P block

-- an allocation of so many words, and a block that it gives has the number that is told. Where it gives none a slot stands ready for the next
abbrev pub Allocs : Cache → Table → ℕ → Result ℕ Refusal → Cache → Table → Type 0
Allocs c t words (Ok number) d u = (block : Block) × NamesOneMore t number (kept.Home block) u × IsAllocation c words (alloc_answer.Given block) d
Allocs c t words (Err refusal.Exhausted) d u = HasSlotReady t u × IsAllocation c words alloc_answer.Refused d
Allocs c t words (Err refusal.Spent) d u = HasSlotReady t u × IsAllocation c words alloc_answer.Spent d
Allocs c t words (Err refusal.Interrupted) d u = HasSlotReady t u × IsAllocation c words alloc_answer.Busy d
Allocs c t words (Err refusal.NoMemory) d u = Stays c t d u
Allocs c t words (Err cause) d u = ⊥

-- a free of the block of this number, which names none from then on
abbrev pub Frees : Cache → Table → ℕ → Result (Unit {0}) Refusal → Cache → Table → Type 0
Frees c t number (Ok done) d u = Of t number (λ block. IsFree c block free_answer.Freed d) × NamesOneLess t number u
Frees c t number (Err refusal.Interrupted) d u = Of t number (λ block. IsFree c block free_answer.Busy d) × NamesOneLess t number u
Frees c t number (Err cause) d u = ⊥

-- a read of a word of the block of this number: it is what the block's owners last wrote there
abbrev pub Reads : Cache → Table → ℕ → ℕ → Result ℕ Refusal → Cache → Table → Type 0
Reads c t number i (Ok word) d u =
    Of t number (λ block. Asked (λ p q. HasCalled p (read block.place block.need i) 0 (reply.Word word) q × IsContents q block.place i word) c d) × (u ≡ t)
Reads c t number i (Err cause) d u = ⊥

abbrev pub Writes : Cache → Table → ℕ → ℕ → ℕ → Result (Unit {0}) Refusal → Cache → Table → Type 0
Writes c t number i value (Ok done) d u = Of t number (λ block. Asked (λ p q. HasCalled p (write block.place block.need i value) 0 reply.Wrote q) c d) × (u ≡ t)
Writes c t number i value (Err cause) d u = ⊥

-- a put of the block of this number on a shelf. From a full one it is back, under its number
abbrev pub Puts : Cache → Table → ℕ → ℕ → Result (Unit {0}) Refusal → Cache → Table → Type 0
Puts c t number shelf (Ok done) d u = Of t number (λ block. Asked (λ p q. HasCalled p (put block.place block.need shelf) 0 reply.Put q) c d) × NamesOneLess t number u
Puts c t number shelf (Err refusal.ShelfFull) d u =
    Of t number (λ block. (found : ℕ) × Asked (λ p q. PutTellsFull p block shelf (record { block = block; found = found }) q) c d) × KeepsNumbers t u
Puts c t number shelf (Err cause) d u = ⊥

-- a take from a shelf: a block that it gets has the number that is told
abbrev pub Takes : Cache → Table → ℕ → Result ℕ Refusal → Cache → Table → Type 0
Takes c t shelf (Ok number) d u = (block : Block) × NamesOneMore t number (kept.Home block) u × Asked (λ p q. TakeTells p shelf (taken.Got block) q) c d
Takes c t shelf (Err refusal.ShelfEmpty) d u = HasSlotReady t u × Asked (λ p q. TakeTells p shelf taken.Empty q) c d
Takes c t shelf (Err refusal.ShelfMissed) d u = HasSlotReady t u × (expected : ℕ) × (found : ℕ) × Asked (λ p q. TakeTells p shelf (taken.Missed expected found) q) c d
Takes c t shelf (Err refusal.NoMemory) d u = Stays c t d u
Takes c t shelf (Err cause) d u = ⊥

-- the call that is under way in this heap has come to this answer
abbrev pub GoesOnTo : HeapFields → Cache → Resumed → Cache → Type 0
GoesOnTo h c answer d =
    Asked (λ p q. (first : Pass) (call : Call) (made : ℕ) → IsOf h first → IsCalling first call made p → ResumeTells first call made p TRIES answer q) c d

-- a call is gone on with: a block that it gets has the number that is told
abbrev pub Resumes : HeapFields → Cache → Table → Result (Option ℕ) Refusal → Cache → Table → Type 0
Resumes h c t (Ok (Some number)) d u = (block : Block) × NamesOneMore t number (kept.Home block) u × GoesOnTo h c (resumed.Given block) d
Resumes h c t (Ok None) d u = HasSlotReady t u × GoesOnTo h c resumed.Freed d
Resumes h c t (Err refusal.Exhausted) d u = HasSlotReady t u × GoesOnTo h c resumed.Refused d
Resumes h c t (Err refusal.Spent) d u = HasSlotReady t u × GoesOnTo h c resumed.Spent d
Resumes h c t (Err refusal.Interrupted) d u = HasSlotReady t u × GoesOnTo h c resumed.Busy d
Resumes h c t (Err refusal.NoMemory) d u = Stays c t d u
Resumes h c t (Err cause) d u = ⊥

-- a block that rests is given again, which has as many words, all home. The pass and its magazines stand as they stood
pub record Wakes (c : Cache) (t : Table) (words number : ℕ) (d : Cache) (u : Table) : Type 0 where
  pub idle : IsIdle c.pass.errand
  pub block : Block
  pub ready : IsReady t (need_of words) (kept.Resting block)
  pub enough : words ≤ usable_words block.need
  pub again : IsGivenAgain t ready.class number (kept.Home block) u
  pub still : d ≡ c

-- no block rests for so many words, where no call is under way
abbrev pub NoneRests : Cache → Table → ℕ → Type 0
NoneRests c t words = IsIdle c.pass.errand → (block : Block) → ¬ IsReady t (need_of words) (kept.Resting block)

-- what each call comes to, with what bars it
abbrev pub HasAllocatedNew : Cache → Table → ℕ → Result ℕ Refusal → Cache → Table → Type 0
HasAllocatedNew c t words = Answers (alloc_bar c.pass words) (Allocs c t words) c t

-- an allocation of so many words: of a block that rests, and where none serves so many, of a magazine or the heap
abbrev pub HasAllocated : Cache → Table → ℕ → Result ℕ Refusal → Cache → Table → Type 0
HasAllocated c t words outcome d u =
    ((number : ℕ) × (outcome ≡ Ok number) × Wakes c t words number d u) ⊎ (NoneRests c t words × HasAllocatedNew c t words outcome d u)

abbrev pub HasFreed : Cache → Table → ℕ → Result (Unit {0}) Refusal → Cache → Table → Type 0
HasFreed c t number = Answers (free_bar c.pass t number) (Frees c t number) c t

abbrev pub HasRead : Cache → Table → ℕ → ℕ → Result ℕ Refusal → Cache → Table → Type 0
HasRead c t number i = Answers (word_bar c.pass t number i) (Reads c t number i) c t

abbrev pub HasWritten : Cache → Table → ℕ → ℕ → ℕ → Result (Unit {0}) Refusal → Cache → Table → Type 0
HasWritten c t number i value = Answers (word_bar c.pass t number i) (Writes c t number i value) c t

abbrev pub HasPut : Cache → Table → ℕ → ℕ → Result (Unit {0}) Refusal → Cache → Table → Type 0
HasPut c t number shelf = Answers (put_bar c.pass t number shelf) (Puts c t number shelf) c t

abbrev pub HasTaken : Cache → Table → ℕ → Result ℕ Refusal → Cache → Table → Type 0
HasTaken c t shelf = Answers (take_bar c.pass shelf) (Takes c t shelf) c t

abbrev pub HasResumed : HeapFields → Cache → Table → Result (Option ℕ) Refusal → Cache → Table → Type 0
HasResumed h c t = Answers (resume_bar c.pass) (Resumes h c t) c t

-- the usable words of the block of this number are told; nothing has happened, and a call may be under way
abbrev pub TellsWords : Table → ℕ → Result ℕ Refusal → Type 0
TellsWords t number (Ok words) = (block : Kept) × (named t number ≡ Some block) × (words ≡ usable_words (block_of block).need)
TellsWords t number (Err cause) = (cause ≡ refusal.NoBlock) × (named t number ≡ None)

abbrev pub HasCounted : Cache → Table → ℕ → Result ℕ Refusal → Cache → Table → Type 0
HasCounted c t number result d u = TellsWords t number result × (d ≡ c) × (u ≡ t)

-- a call on the cache and the table of a hand, whose heap and whose ticket stay; its table has no more slots than before, or at most one more than it had blocks
abbrev pub Makes : {A : Type 0} → (Cache → Table → Result A Refusal → Cache → Table → Type 0) → Hand → Result A Refusal → Hand → Type 0
Makes Call before result after =
    Call before.cache before.table result after.cache after.table × (after.heap ≡ before.heap) × (after.ticket ≡ before.ticket)
    × HasOneMoreAtMost before.table after.table

-- a call by a handle. What it shows of its outcome determines that outcome: its code, and where there is one its value
abbrev pub Told :
    {A : Type 0} → (Hand → Result A Refusal → Hand → Type 0) → Option Hand → (Result A Refusal → Type 0) → Option Hand → Type 0
Told Call None Shows after = Shows (Err refusal.Closed) × (after ≡ None)
Told Call (Some before) Shows after = (result : Result _ Refusal) × (next : Hand) × Shows result × (after ≡ Some next) × Call before result next

-- what a pass has counted: its turns, the exchanges that it won and lost, and the empty superblocks that it cleared
abbrev pub counts_of : Pass → ℕ × ℕ × ℕ × ℕ
counts_of p = (p.errand.turns, p.errand.won, p.errand.lost, p.errand.cleared)
