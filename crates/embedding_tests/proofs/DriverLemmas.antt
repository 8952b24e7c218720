-- The first pass of a new heap, and a store that no call has left busy.
use Rattle.std.proofs.Common.{◌≡◌, ◌≢◌, ◌<◌, List, [], ◌∷◌, length, refl, sym, subst, arith, slice_index_or}
use Rattle.live_heap.specs.Heaps.{HeapFields}
use Rattle.live_heap.specs.declared.pass.Pass.{Pass}
use Rattle.live_heap.specs.Passes.{AreFrom, IsFresh}
use Rattle.typed_store.specs.declared.store.Pending.{Pending}
use Rattle.typed_store.specs.declared.store.Store.{Store}
use Rattle.typed_store.specs.declared.store.Stored.{Stored}
use Rattle.typed_store.specs.declared.store.Stored.TheVariants.{Done, Refused, Spent, Busy}
use Rattle.typed_store.specs.Stores.{IsReady, LeavesStore}

pub first-fresh :
    (h : HeapFields) (passes : List Pass) (p : Pass) → AreFrom h 0 passes → 0 < length passes → p ≡ slice_index_or passes 0 p → IsFresh h p
first-fresh h [] p from some is = absurd (omega (arith, some))
first-fresh h (x ∷ xs) p from some is = subst (IsFresh h) (sym is) from.0

pub left-ready : (h : HeapFields) (stored : Stored) (waiting : Pending) (s : Store) → stored ≢ Busy → LeavesStore h stored waiting s → IsReady h s
left-ready h Done waiting s other left = left
left-ready h Refused waiting s other left = left
left-ready h Spent waiting s other left = left
left-ready h Busy waiting s other left = absurd (other refl)
