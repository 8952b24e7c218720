-- How the memory of a block goes out to C, and comes home.
use Rattle.std.specs.Prelude.{ℕ, ◌≡◌, ◌≢◌, ◌≤◌, ◌+◌, ◌*◌, ◌/◌, ◌%◌, ◌^◌, ◌⊎◌, true, Option, Some, None, Result, Ok, Err, List, [], length, min, replicate}
use Rattle.std.specs.Ptr.{ptr_add}
use Rattle.std.specs.Borrow.{u64}
use denote.RawPtr.{Ptr, null_ptr}
use Rattle.heap_geometry.specs.declared.limits.TheConstants.{LARGE_MOST}
use Rattle.heap_geometry.specs.Need.{need_of, usable_words}
use Rattle.errand_steps.specs.Begins.{IsIdle}
use Rattle.sound_laws.specs.events.Made.{LeadsBy}
use Rattle.plain_words.specs.Places.{laids, numbers}
use Rattle.plain_words.specs.declared.plain.PlainWords.{PlainWords}
use Rattle.live_heap.specs.declared.plain.Memory.{Memory}
use Rattle.live_heap.specs.Heaps.{HeapFields}
use Rattle.live_heap.specs.Memory.{HasTaken, IsMemoryOf, before_taking, writes_from}
use Rattle.live_heap.specs.Words.{CallsOnWord}
use Rattle.block_cache.specs.declared.cache.Cache.{Cache}
use Rattle.block_cache.specs.Caches.{KeepsMagazines}
use Rattle.balloc_c.specs.declared.kept.Kept.{Kept}
use Rattle.balloc_c.specs.declared.kept.Kept.TheVariants as kept
use Rattle.balloc_c.specs.declared.lent.LentBlock.{LentBlock}
use Rattle.balloc_c.specs.declared.refusal.Refusal.{Refusal}
use Rattle.balloc_c.specs.declared.refusal.Refusal.TheVariants as refusal
use Rattle.balloc_c.specs.declared.table.Table.{Table}
use Rattle.balloc_c.specs.Kept.{block_of, memory_of}
use Rattle.balloc_c.specs.Laid.{HasRoomFor, IsGivenAgain, IsReady, IsReadyIn, first_of, like, room_of}
use Rattle.balloc_c.specs.Numbers.{GaveAway, NamesOneLess, named}
use Rattle.balloc_c.specs.Slots.{after_at}
use Rattle.balloc_c.specs.Tended.{IsRoomAt}
use Rattle.balloc_c.specs.Outcomes.{Answers, HasAllocated, HasFreed, barred, is_busy, names_none}

-- how many words have so many bytes; more than any block has stand for all that are more
abbrev pub words_for : ℕ → ℕ
words_for bytes = min ((bytes + 7) / 8) (LARGE_MOST + 1)

-- where the usable words begin of the block at a place
abbrev pub memory_at : HeapFields → ℕ → Ptr
memory_at h place = ptr_add u64 (place + 1) h.region.at

-- the number names this now, and each other number what it named; no slot gave a block away
pub record Renames (t : Table) (number : ℕ) (block : Kept) (u : Table) : Type 0 where
  pub here : named u number ≡ Some block
  pub others : (other : ℕ) → other ≢ number → named u other ≡ named t other
  pub gave : GaveAway t [] u

-- the words of the block with this number have gone out: all its usable words, each of which holds a number; they begin at an odd word of memory that begins 8 bytes behind a multiple of 16. The pass stood before as it would stand now, had it not taken them out
pub record HasGoneOut (h : HeapFields) (c : Cache) (t : Table) (number : ℕ) (memory : Memory) (d : Cache) (u : Table) : Type 0 where
  pub was : named t number ≡ Some (kept.Home memory.block)
  pub lent : LentBlock
  pub token : block_of (kept.Out lent) ≡ memory.block
  pub now : Renames t number (kept.Out lent) u
  pub words : IsMemoryOf h memory
  pub aligned : memory.words.first % 2 ≡ 1
  pub taken : HasTaken d.pass memory
  pub before : before_taking d.pass memory.block.place ≡ c.pass
  pub keeps : KeepsMagazines c d

-- what bars a call on a block, wherever its words are
abbrev pub home_bar : Cache → Table → ℕ → Option Refusal
home_bar c t number = barred (is_busy c.pass) refusal.InCall (barred (names_none t number) refusal.NoBlock None)

-- C is told where a block's memory begins, whose words are C's from now on
abbrev pub TellsOut : HeapFields → Cache → Table → ℕ → Ptr → Option PlainWords → Cache → Table → Type 0
TellsOut h c t number at words d u =
    (memory : Memory) × (words ≡ Some memory.words) × (at ≡ memory_at h memory.block.place) × HasGoneOut h c t number memory d u

-- C is told again where a block's memory begins, whose words are out already; nothing else happens, and they stay whose they are
abbrev pub TellsAgain : HeapFields → Cache → Table → ℕ → Ptr → Option PlainWords → Cache → Table → Type 0
TellsAgain h c t number at words d u =
    (lent : LentBlock) × (named t number ≡ Some (kept.Out lent)) × (at ≡ memory_at h lent.place) × (words ≡ None) × (d ≡ c) × (u ≡ t)

abbrev pub TellsMemory : HeapFields → Cache → Table → ℕ → Result (Unit {0}) Refusal → Ptr → Option PlainWords → Cache → Table → Type 0
TellsMemory h c t number (Ok done) at words d u = TellsOut h c t number at words d u ⊎ TellsAgain h c t number at words d u
TellsMemory h c t number (Err cause) at words d u = ⊥

-- no memory is told, and no words go out, where a call is refused
abbrev pub NothingWhere : {A : Type 0} → Result A Refusal → Ptr → Option PlainWords → Type 0
NothingWhere (Ok value) at words = Unit {0}
NothingWhere (Err cause) at words = (at ≡ null_ptr) × (words ≡ None)

abbrev pub HasToldMemory : HeapFields → Cache → Table → ℕ → Result (Unit {0}) Refusal → Ptr → Option PlainWords → Cache → Table → Type 0
HasToldMemory h c t number result at words d u =
    Answers (home_bar c t number) (λ outcome e v. TellsMemory h c t number outcome at words e v) c t result d u × NothingWhere result at words

-- an allocation of so many bytes, and the memory of the block that it gives, which has as many and is C's; where it gives none there is none
abbrev pub AllocatesNew : HeapFields → Cache → Table → ℕ → Result ℕ Refusal → Ptr → Option PlainWords → Cache → Table → Type 0
AllocatesNew h c t bytes (Ok number) at words d u =
    (e : Cache) × (v : Table) × HasAllocated c t (words_for bytes) (Ok number) e v
    × (memory : Memory) × (words ≡ Some memory.words) × (at ≡ memory_at h memory.block.place)
    × (bytes ≤ 8 * usable_words memory.block.need) × HasGoneOut h e v number memory d u
AllocatesNew h c t bytes (Err cause) at words d u = (at ≡ null_ptr) × (words ≡ None) × HasAllocated c t (words_for bytes) (Err cause) d u

-- memory that the pass keeps goes out again, which has as many bytes: all usable words of its block, aligned to 16 bytes. The pass and its magazines stand as they stood
pub record GivesAgain (h : HeapFields) (c : Cache) (t : Table) (bytes number : ℕ) (at : Ptr) (words : Option PlainWords) (d : Cache) (u : Table) : Type 0 where
  pub idle : IsIdle c.pass.errand
  pub memory : Memory
  pub ready : IsReady t (need_of (words_for bytes)) (kept.Laid memory)
  pub is : words ≡ Some memory.words
  pub begins : at ≡ memory_at h memory.block.place
  pub enough : bytes ≤ 8 * usable_words memory.block.need
  pub room : IsRoomAt h memory.block.place memory.block.need memory.words
  pub aligned : memory.words.first % 2 ≡ 1
  pub lent : LentBlock
  pub token : block_of (kept.Out lent) ≡ memory.block
  pub again : IsGivenAgain t ready.class number (kept.Out lent) u
  pub still : d ≡ c

-- an allocation of so many bytes: of memory that the pass keeps, and where none of it serves so many, of a block
abbrev pub AllocatesMemory : HeapFields → Cache → Table → ℕ → Result ℕ Refusal → Ptr → Option PlainWords → Cache → Table → Type 0
AllocatesMemory h c t bytes outcome at words d u =
    ((number : ℕ) × (outcome ≡ Ok number) × GivesAgain h c t bytes number at words d u)
    ⊎ ((IsIdle c.pass.errand → (memory : Memory) → ¬ IsReady t (need_of (words_for bytes)) (kept.Laid memory)) × AllocatesNew h c t bytes outcome at words d u)

-- words are those of the block
abbrev pub IsRoomFor : HeapFields → LentBlock → PlainWords → Type 0
IsRoomFor h lent words = IsRoomAt h lent.place lent.need words

-- whoever names a block whose words are out gives them back; for another number there is nothing to give
abbrev pub IsBackFor : HeapFields → Option Kept → Option PlainWords → Type 0
IsBackFor h (Some (kept.Out lent)) (Some words) = IsRoomFor h lent words
IsBackFor h (Some (kept.Out lent)) None = ⊥
IsBackFor h block back = back ≡ None

-- the words hold numbers
abbrev pub AreNumbers : Option PlainWords → Type 0
AreNumbers None = Unit {0}
AreNumbers (Some words) = (ns : List ℕ) × (words.places ≡ laids ns)

-- words stay out only where a call was under way
abbrev pub StayOut : Result (Unit {0}) Refusal → Option PlainWords → Type 0
StayOut (Err refusal.InCall) left = Unit {0}
StayOut outcome left = left ≡ None

-- the words of the block with this number have come home: each was written with the number that is in it
pub record HasComeHome (h : HeapFields) (c : Cache) (t : Table) (number : ℕ) (ns : List ℕ) (d : Cache) (u : Table) : Type 0 where
  pub lent : LentBlock
  pub was : named t number ≡ Some (kept.Out lent)
  pub now : Renames t number (kept.Home (block_of (kept.Out lent))) u
  pub wrote : LeadsBy (CallsOnWord h) (before_taking c.pass lent.place) (writes_from lent.place lent.need 0 ns) d.pass
  pub keeps : KeepsMagazines c d

-- what comes of words that are given back: they come home, with these numbers, and then this call is made; where a call is under way they stay out, with C
abbrev pub GivesBack : HeapFields → Cache → Table → ℕ → (PlainWords → List ℕ) → (Cache → Table → Result (Unit {0}) Refusal → Cache → Table → Type 0)
    → Option PlainWords → Result (Unit {0}) Refusal → Option PlainWords → Cache → Table → Type 0
GivesBack h c t number holding Call None result left d u = (left ≡ None) × Call c t result d u
GivesBack h c t number holding Call (Some words) result left d u =
    ((is_busy c.pass ≡ true) × (result ≡ Err refusal.InCall) × (left ≡ Some words) × (d ≡ c) × (u ≡ t))
    ⊎ ((left ≡ None) × (e : Cache) × (v : Table) × HasComeHome h c t number (holding words) e v × Call e v result d u)

-- words come home as zeros
abbrev pub zeros : PlainWords → List ℕ
zeros words = replicate (length words.places) 0

-- a free, for which words that were out come home as zeros
abbrev pub FreesHome : HeapFields → Cache → Table → ℕ → Option PlainWords → Result (Unit {0}) Refusal → Option PlainWords → Cache → Table → Type 0
FreesHome h c t number = GivesBack h c t number zeros (λ e v result d u. HasFreed e v number result d u)

-- what a slot's block is kept as when it is freed: one that is home rests, and of one that is out the words that came back are laid by
abbrev pub IsKeptAs : Kept → Option PlainWords → Kept → Type 0
IsKeptAs (kept.Home block) back now = (back ≡ None) × (now ≡ kept.Resting block)
IsKeptAs (kept.Out lent) back now = (words : PlainWords) × (back ≡ Some words) × (now ≡ kept.Laid (memory_of lent words))
IsKeptAs it back now = ⊥

-- the pass keeps the block, and gives it again before those that were next; the number names nothing from then on, and the pass and its magazines stand as they stood
pub record KeepsBack (c : Cache) (t : Table) (number : ℕ) (back : Option PlainWords) (result : Result (Unit {0}) Refusal) (left : Option PlainWords) (d : Cache) (u : Table) : Type 0 where
  pub idle : IsIdle c.pass.errand
  pub room : HasRoomFor t (named t number)
  pub now : Kept
  pub becomes : IsKeptAs room.it back now
  pub made : result ≡ Ok tt
  pub nothing : left ≡ None
  pub less : NamesOneLess t number u
  pub ready : IsReadyIn u room.class now
  pub fewer : room_of (like u now) room.class + 1 ≡ room_of (like t now) room.class
  pub chain : after_at u.slots.items (number % 2 ^ 32) ≡ first_of (like t now) room.class
  pub still : d ≡ c

-- a free: the pass keeps the block as it is, where it has room for it; else words that were out come home as zeros, and it goes to a magazine or the heap
abbrev pub FreesBack : HeapFields → Cache → Table → ℕ → Option PlainWords → Result (Unit {0}) Refusal → Option PlainWords → Cache → Table → Type 0
FreesBack h c t number back result left d u =
    KeepsBack c t number back result left d u
    ⊎ ((IsIdle c.pass.errand → ¬ HasRoomFor t (named t number)) × FreesHome h c t number back result left d u)

-- a call by which words come home with what is in them. Where they are home nothing happens
abbrev pub StaysHome : Cache → Table → ℕ → Result (Unit {0}) Refusal → Cache → Table → Type 0
StaysHome c t number = Answers (home_bar c t number) (λ outcome d u. (outcome ≡ Ok tt) × (d ≡ c) × (u ≡ t)) c t

abbrev pub BringsHome : HeapFields → Cache → Table → ℕ → Option PlainWords → Result (Unit {0}) Refusal → Option PlainWords → Cache → Table → Type 0
BringsHome h c t number = GivesBack h c t number (λ words. numbers words.places) (λ e v result d u. StaysHome e v number result d u)
