-- What comes of a shared heap when an owner leaves it.
use Rattle.std.specs.Prelude.{Any, ℕ, suc, ◌≡◌, ◌<◌, List}
use Rattle.atomic_table.specs.Seated.{TableId}
use Rattle.live_heap.specs.Heaps.{HeapFields}
use Rattle.live_heap.specs.declared.pass.Pass.{Pass}
use Rattle.live_heap.specs.Endings.{AreAllIdle, ClosedFields, HasAccesses, HasClosed, IsResting}
use Rattle.shared_heap.specs.declared.places.Given.{Given}
use Rattle.shared_heap.specs.declared.shared.End.{End}
use Rattle.shared_heap.specs.declared.shared.End.TheVariants as end
use Rattle.shared_heap.specs.declared.places.Stand.TheVariants as stand
use Rattle.shared_heap.specs.declared.shared.Receipt.{Receipt}
use Rattle.shared_heap.specs.Counted.{AllLay, TakesOver, passes_of}
use Rattle.shared_heap.specs.Places.{IsGiven}

-- a pass of each caller lay in the places, each given back in no call, and `pass` is one of them as it was given back
pub record AllGiven (h : HeapFields) (pass : Pass) : Type 0 where
  pub own : Given
  pub own_is : own.pass ≡ pass
  pub givens : List Given
  pub lay : AllLay h own givens
  pub all : AreAllIdle h (passes_of givens)

-- the heap was closed with all those passes
pub record IsClosedWhole (h : HeapFields) (pass : Pass) (c : ClosedFields) : Type 0 where
  pub given : AllGiven h pass
  pub closed : HasClosed h (passes_of given.givens) c
  pub rests : IsResting c
  pub accesses : HasAccesses c (passes_of given.givens)

-- a block's words are out with one of them
pub record HasWordsOut (h : HeapFields) (pass : Pass) : Type 0 where
  pub given : AllGiven h pass
  pub out : Any (λ p. 0 < p.out) (passes_of given.givens)

-- what came of the heap, where the pass was counted as the one with this number: it was the last one, and the heap was closed, or words are out, or there was no memory; or others are to be counted yet
abbrev pub HasEnded : HeapFields → Pass → ℕ → End → Type 0
HasEnded h pass number (end.Closed closed) = (suc number ≡ h.layout.callers) × IsClosedWhole h pass closed
HasEnded h pass number end.WordsOut = (suc number ≡ h.layout.callers) × HasWordsOut h pass
HasEnded h pass number end.NoMemory = suc number ≡ h.layout.callers
HasEnded h pass number end.Others = suc number < h.layout.callers
HasEnded h pass number end.NotGiven = ⊥

-- this was given back to the heap with this table of places, in no call, and counted; where it was the last, all were taken out of their places
abbrev pub IsCounted : HeapFields → TableId → Given → Receipt → Type 0
IsCounted h table own receipt =
    (receipt.seat.table_id ≡ table) × IsGiven h own.pass.errand.caller own × (receipt.seat.me.0 ≡ (h, stand.Counted own receipt.number))
    × TakesOver h own receipt.number receipt.seat.me.1
