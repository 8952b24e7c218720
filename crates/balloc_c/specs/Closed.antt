-- How a pass closes for C.
use Rattle.std.specs.Prelude.{ℕ, ◌≡◌, if◌then◌else◌, Bool, true, false, ℤ, pos, negsuc, Option, Some, None, IsSomeAnd, Result, Ok, Err, List, [], ◌∷◌, ◌++◌, ◌⊎◌, replicate}
use Rattle.errand_steps.specs.Begins.{IsIdle}
use Rattle.live_heap.specs.declared.answers.FreeAnswer.{FreeAnswer}
use Rattle.live_heap.specs.declared.answers.FreeAnswer.TheVariants as free_answer
use Rattle.balloc_c.specs.declared.kept.Kept.{Kept}
use Rattle.balloc_c.specs.declared.kept.Kept.TheVariants as kept
use Rattle.balloc_c.specs.declared.table.Slot.{Slot}
use Rattle.balloc_c.specs.Kept.{is_out}
use Rattle.heap_geometry.specs.Need.{usable_words}
use Rattle.sound_laws.specs.events.Made.{LeadsBy}
use Rattle.live_heap.specs.declared.pass.Pass.{Pass}
use Rattle.live_heap.specs.declared.plain.Memory.{Memory}
use Rattle.live_heap.specs.Heaps.{HeapFields}
use Rattle.live_heap.specs.Memory.{before_taking, writes_from}
use Rattle.live_heap.specs.Passes.{IsOf}
use Rattle.live_heap.specs.Words.{CallsOnWord}
use Rattle.block_cache.specs.Caches.{KeepsMagazines}
use Rattle.shared_heap.specs.declared.shared.End.{End}
use Rattle.shared_heap.specs.declared.shared.End.TheVariants as end
use Rattle.shared_heap.specs.declared.shared.Left.{Left}
use Rattle.shared_heap.specs.declared.shared.Receipt.{Receipt}
use Rattle.shared_heap.specs.Shares.{HasLeft, IsReceiptFor}
use Rattle.block_cache.specs.declared.cache.Cache.{Cache}
use Rattle.balloc_c.specs.declared.counted.Counted.{Counted}
use Rattle.balloc_c.specs.declared.hand.Hand.{Hand}
use Rattle.balloc_c.specs.declared.refusal.Refusal.{Refusal}
use Rattle.balloc_c.specs.declared.refusal.Refusal.TheVariants as refusal
use Rattle.balloc_c.specs.declared.table.Table.{Table}
use Rattle.balloc_c.specs.Census.{IsCountOf}
use Rattle.balloc_c.specs.Codes.{code_in}
use Rattle.balloc_c.specs.Outcomes.{Answers, Makes, barred, counts_of, is_busy}
use Rattle.balloc_c.specs.Slots.{block_in, blocks_of}
use Rattle.balloc_c.specs.Through.{IsFlush, IsFree}

-- words that the pass kept have come home: each was written with 0
pub record HasHomed (c : Cache) (memory : Memory) (d : Cache) : Type 0 where
  pub heap : HeapFields
  pub of : IsOf heap c.pass
  pub wrote :
      LeadsBy (CallsOnWord heap) (before_taking c.pass memory.block.place)
      (writes_from memory.block.place memory.block.need 0 (replicate (usable_words memory.block.need) 0)) d.pass
  pub keeps : KeepsMagazines c d

-- a block was freed, or its free is under way; words that the pass kept came home before
abbrev pub FreesKept : Cache → Kept → FreeAnswer → Cache → Type 0
FreesKept c (kept.Home block) answer d = IsFree c block answer d
FreesKept c (kept.Out lent) answer d = ⊥
FreesKept c (kept.Resting block) answer d = IsFree c block answer d
FreesKept c (kept.Laid memory) answer d = (e : Cache) × HasHomed c memory e × IsFree e memory.block answer d

-- the block of a slot was freed, or its free is under way; where there is none nothing has happened
abbrev pub FreesSlot : Cache → Option Kept → FreeAnswer → Cache → Type 0
FreesSlot c None answer d = (answer ≡ free_answer.Freed) × (d ≡ c)
FreesSlot c (Some block) answer d = FreesKept c block answer d

-- these blocks were freed, one after the other
abbrev pub FreesAll : Cache → List Kept → Cache → Type 0
FreesAll c [] d = d ≡ c
FreesAll c (block ∷ blocks) d = (next : Cache) × FreesKept c block free_answer.Freed next × FreesAll next blocks d

-- some of the blocks were freed, the free of the next one is interrupted, and the others are left
pub record StopsAt (c : Cache) (had left : List Kept) (d : Cache) : Type 0 where
  pub freed : List Kept
  pub block : Kept
  pub order : had ≡ freed ++ block ∷ left
  pub next : Cache
  pub before : FreesAll c freed next
  pub stopped : FreesKept next block free_answer.Busy d

-- all blocks of the table were freed, in the order of their slots; or one of these frees is interrupted
abbrev pub FreesTable : Cache → Table → FreeAnswer → Cache → Table → Type 0
FreesTable c t free_answer.Freed d u = FreesAll c (blocks_of t.slots.items) d × (blocks_of u.slots.items ≡ [])
FreesTable c t free_answer.Busy d u = StopsAt c (blocks_of t.slots.items) (blocks_of u.slots.items) d

-- all blocks of the table were freed, and then the magazines flushed
abbrev pub FreesThenFlushes : Cache → Table → FreeAnswer → Cache → Table → Type 0
FreesThenFlushes c t answer d u = (next : Cache) × FreesTable c t free_answer.Freed next u × IsFlush next answer d

-- the pass has no block left; or the free of one is interrupted, of the table or of a magazine
abbrev pub Empties : Cache → Table → Result (Unit {0}) Refusal → Cache → Table → Type 0
Empties c t (Ok done) d u = FreesThenFlushes c t free_answer.Freed d u
Empties c t (Err refusal.Interrupted) d u = FreesTable c t free_answer.Busy d u ⊎ FreesThenFlushes c t free_answer.Busy d u
Empties c t (Err cause) d u = ⊥

-- the words of one of the blocks are out with C
abbrev pub has_out : List Slot → Bool
has_out [] = false
has_out (slot ∷ slots) = if is_out (block_in slot) then true else has_out slots

-- what bars it
abbrev pub leave_bar : Pass → Table → Option Refusal
leave_bar pass table = barred (is_busy pass) refusal.InCall (barred (has_out table.slots.items) refusal.Out None)

abbrev pub HasFreedAll : Cache → Table → Result (Unit {0}) Refusal → Cache → Table → Type 0
HasFreedAll c t = Answers (leave_bar c.pass t) (Empties c t) c t

-- before a pass closes its blocks are freed, those in magazines too, or they stay as they are
abbrev pub LeavesBlocks : Bool → Hand → Result (Unit {0}) Refusal → Hand → Type 0
LeavesBlocks true hand outcome next = Makes HasFreedAll hand outcome next
LeavesBlocks false hand outcome next = (outcome ≡ Ok tt) × (next ≡ hand)

-- the pass was given back as it stands, where it is in no call and has the ticket for it
abbrev pub GivesBack : Hand → Option Receipt → Type 0
GivesBack hand left =
    IsIdle hand.cache.pass.errand → hand.ticket.caller ≡ hand.cache.pass.errand.caller
    → IsSomeAnd left (IsReceiptFor hand.heap hand.cache.pass)

-- what is told where the heap closed: what it held; and else nothing
abbrev pub Tells : End → Counted → Counted → Type 0
Tells (end.Closed c) before after = (after.counted ≡ true) × IsCountOf c after
Tells ended before after = after ≡ before

-- what came of the heap, and what is told of it: nothing only where passes were to be counted behind this one, or it wasn't given back, or words are out, or there was no memory; else the heap was closed with a pass of each caller, each given back, with this one as it stands
abbrev pub TellsCensus : Hand → Left → Counted → Counted → Type 0
TellsCensus hand left before after =
    HasLeft hand.heap hand.ticket.caller hand.cache.pass left.receipt.value left.end × Tells left.end before after

-- a census that tells nothing
abbrev pub untold : Counted → Counted
untold census = record census { counted = false }

-- what goes out of a close: exchanges won and lost, and a census
abbrev pub Outs : Type 0
Outs = ℕ × ℕ × Counted

-- the pass is closed: what it won and lost is told, and the census of the heap, where that closes with it as it is told; or the pass stays open, and nothing is told
abbrev pub Shuts : Result (Unit {0}) Refusal → Hand → Outs → Outs → Option Hand → Type 0
Shuts (Ok done) hand before told after =
    (told.0 ≡ hand.cache.pass.errand.won) × (told.1 ≡ hand.cache.pass.errand.lost) × (after ≡ None)
    × (left : Left) × TellsCensus hand left (untold before.2) told.2
Shuts (Err cause) hand before told after =
    (told.0 ≡ before.0) × (told.1 ≡ before.1) × (after ≡ Some hand) × (told.2 ≡ untold before.2)

abbrev pub Closes : Bool → Option Hand → ℤ → Outs → Outs → Option Hand → Type 0
Closes frees None code before told after =
    (code ≡ negsuc 0) × (told.0 ≡ before.0) × (told.1 ≡ before.1) × (after ≡ None) × (told.2 ≡ untold before.2)
Closes frees (Some hand) code before told after =
    (outcome : Result (Unit {0}) Refusal) × (next : Hand) × LeavesBlocks frees hand outcome next × (code ≡ code_in outcome)
    × Shuts outcome next before told after

-- what a pass has counted is told, or that there is no pass
abbrev pub TellsCounts : Option Hand → ℤ → ℕ × ℕ × ℕ × ℕ → ℕ × ℕ × ℕ × ℕ → Type 0
TellsCounts None code before told = (code ≡ negsuc 0) × (told ≡ before)
TellsCounts (Some hand) code before told = (code ≡ pos 0) × (told ≡ counts_of hand.cache.pass)
