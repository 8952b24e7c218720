-- What a store holds, between its calls and while one is under way.
use Rattle.std.specs.Prelude.{ℕ, suc, Bool, false, ◌≡◌, ◌≢◌, ◌+◌, ◌<◌, List, [], ◌∷◌, ◌++◌, All, Option, Some, None, length}
use Rattle.std.specs.List.{AllZip}
use Rattle.std.specs.Vec.{vec_capacity, vec_len}
use Rattle.heap_geometry.specs.Need.{need_of}
use Rattle.errand_steps.specs.Begins.{IsIdle}
use Rattle.errand_steps.specs.Calls.{Call, alloc, free}
use Rattle.live_heap.specs.declared.block.Block.{Block}
use Rattle.live_heap.specs.Heaps.{HeapFields}
use Rattle.live_heap.specs.declared.pass.Pass.{Pass}
use Rattle.live_heap.specs.Calls.{IsCalling}
use Rattle.live_heap.specs.Contents.{owned_in}
use Rattle.live_heap.specs.Holdings.{HoldsExactly}
use Rattle.live_heap.specs.Passes.{IsOf}
use Rattle.typed_store.specs.declared.store.Pending.{Pending}
use Rattle.typed_store.specs.declared.store.Pending.TheVariants.{Nothing, Pair, Record, Free}
use Rattle.typed_store.specs.declared.store.Popped.{Popped}
use Rattle.typed_store.specs.declared.store.Popped.TheVariants.{Got, Empty}
use Rattle.typed_store.specs.declared.store.Store.{Store}
use Rattle.typed_store.specs.declared.store.Stored.{Stored}
use Rattle.typed_store.specs.declared.store.Stored.TheVariants.{Done, Busy}
use Rattle.typed_store.specs.Links.{Leads}
use Rattle.typed_store.specs.Nodes.{IsSpare, Spells, nodes_at, tokens_in}
use Rattle.typed_store.specs.Records.{IsRecord}

-- the store's list has these pairs: the blocks of its caller's spell them, by the pool of the events that its pass has seen
abbrev pub HasList : Store → List (ℕ × ℕ) → Type 0
HasList s pairs = Spells (owned_in s.pass) s.slots.items s.head pairs × (s.count ≡ length pairs)

-- the store's records have these words
abbrev pub HasRecords : Store → List (List ℕ) → Type 0
HasRecords s records = AllZip (λ block words. IsRecord s.pass block words) s.records.items records × (s.recorded ≡ length records)

-- the blocks of a store's nodes and of its records
abbrev pub blocks_of : Store → List Block
blocks_of s = tokens_in s.slots.items ++ s.records.items

-- how many slots a store has, with a node or without
abbrev pub slot_count : Store → ℕ
slot_count s = length s.slots.items

-- each node's block was given for three words, and each record's for its words and how many they are
abbrev pub AreSized : Store → List (List ℕ) → Type 0
AreSized s records =
    All (λ block. block.need ≡ need_of 3) (tokens_in s.slots.items)
    × AllZip (λ block words. block.need ≡ need_of (length words + 1)) s.records.items records

-- the store has a list and records; no slot holds a token but for a node of the list, and the other slots are chained
pub record IsBuilt (s : Store) : Type 0 where
  pub pairs : List (ℕ × ℕ)
  pub list : HasList s pairs
  pub nodes : length (tokens_in s.slots.items) ≡ length pairs
  pub words : List (List ℕ)
  pub records : HasRecords s words
  pub sized : AreSized s words
  pub spare : IsSpare s.slots.items s.unused

-- the store is in no call, and the blocks of its nodes and of its records are all that its caller owns, each once
pub record IsReady (h : HeapFields) (s : Store) : Type 0 where
  pub of : IsOf h s.pass
  pub idle : IsIdle s.pass.errand
  pub exactly : HoldsExactly s.pass (blocks_of s)
  pub built : IsBuilt s

-- the store waits for this call of the heap, since its pass stood so: an allocation, with room for what it is to hold; or the free of one block more
abbrev pub IsWaitingFor : Store → Pass → Call → Pending → Type 0
IsWaitingFor s first call Nothing = ⊥
IsWaitingFor s first call (Pair key value) = (call ≡ alloc 3) × HoldsExactly first (blocks_of s) × (s.unused ≢ 0)
IsWaitingFor s first call (Record words) =
    (call ≡ alloc (words + 1)) × HoldsExactly first (blocks_of s) × (vec_len s.records < vec_capacity s.records) × (s.recorded < 1000000)
IsWaitingFor s first call Free = (block : Block) × (call ≡ free block.place block.need) × HoldsExactly first (block ∷ blocks_of s)

-- a call of the store was interrupted, and what the store holds is as before that call's end
pub record IsUnderWay (h : HeapFields) (s : Store) : Type 0 where
  pub of : IsOf h s.pass
  pub first : Pass
  pub was : IsOf h first
  pub call : Call
  pub steps : ℕ
  pub calling : IsCalling first call steps s.pass
  pub waits : IsWaitingFor s first call s.pending
  pub built : IsBuilt s

-- how an answer leaves a store: interrupted, so that it waits for this; or in no call
abbrev pub LeavesStore : HeapFields → Stored → Pending → Store → Type 0
LeavesStore h Busy pending s = IsUnderWay h s × (s.pending ≡ pending)
LeavesStore h stored pending s = IsReady h s

abbrev pub LeavesPopped : HeapFields → Popped → Store → Type 0
LeavesPopped h (Got key value false) s = IsUnderWay h s × (s.pending ≡ Free)
LeavesPopped h popped s = IsReady h s

-- what an answer makes of the pairs, and of the records
abbrev pub with_pair : Stored → ℕ × ℕ → List (ℕ × ℕ) → List (ℕ × ℕ)
with_pair Done pair pairs = pair ∷ pairs
with_pair stored pair pairs = pairs

-- the pair that was popped, where there was one
abbrev pub TellsPopped : Option (ℕ × ℕ) → Popped → Type 0
TellsPopped None popped = popped ≡ Empty
TellsPopped (Some pair) popped = (freed : Bool) × (popped ≡ Got pair.0 pair.1 freed)

-- what becomes of the pairs and of the records where a call goes on that waited for this; a record has the words that are given then
abbrev pub pairs_after : Pending → Stored → List (ℕ × ℕ) → List (ℕ × ℕ)
pairs_after (Pair key value) Done pairs = (key, value) ∷ pairs
pairs_after pending stored pairs = pairs

abbrev pub records_after : Pending → List ℕ → Stored → List (List ℕ) → List (List ℕ)
records_after (Record many) words Done records = records ++ words ∷ []
records_after pending words stored records = records

abbrev pub with_record : Stored → List ℕ → List (List ℕ) → List (List ℕ)
with_record Done words records = records ++ words ∷ []
with_record stored words records = records

-- the store's list comes to the slot, behind some of its pairs
abbrev pub IsOnList : Store → ℕ → Type 0
IsOnList s slot = (before : List (ℕ × ℕ)) × Leads (nodes_at (owned_in s.pass) s.slots.items) s.head before (suc slot)
