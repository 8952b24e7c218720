-- A store beside what it is to hold, and another caller of its heap.
use Rattle.std.specs.Prelude.{ℕ, ◌≡◌, ◌≢◌, List, length}
use Rattle.live_heap.specs.Heaps.{HeapFields}
use Rattle.live_heap.specs.Hands.{IsHand}
use Rattle.typed_store.specs.declared.store.Pending.{Pending}
use Rattle.typed_store.specs.declared.store.Pending.TheVariants.{Nothing, Record}
use Rattle.typed_store.specs.declared.store.Store.{Store}
use Rattle.typed_store.specs.Stores.{IsReady, IsUnderWay}
use Rattle.heap_scripts.specs.declared.stores.rival.Rival.{Rival}
use Rattle.heap_scripts.specs.declared.stores.twin.Twin.{Twin}

-- a store is in no call; or it waits for this, and these are the words of a record that it waits for
pub record Waits (h : HeapFields) (s : Store) (pending : Pending) (words : List ℕ) : Type 0 where
  pub ready : pending ≡ Nothing → IsReady h s
  pub under_way : pending ≢ Nothing → IsUnderWay h s × (s.pending ≡ pending)
  pub counted : (many : ℕ) → pending ≡ Record many → length words ≡ many

abbrev pub IsTwin : HeapFields → Twin → Type 0
IsTwin h twin = Waits h twin.store twin.waits twin.words.items

-- the other caller of the heap has its blocks in its hand
abbrev pub IsRival : HeapFields → Rival → Type 0
IsRival h rival = IsHand h rival.pass rival.blocks.items
