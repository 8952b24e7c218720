-- The tokens of a shared heap, and what an owner leaves behind.
use Rattle.std.specs.Prelude.{ℕ, ◌≡◌, ◌≢◌, ◌<◌, ◌⊎◌, Option, Some, None, []}
use Rattle.std.specs.Arc.{arc_value}
use Rattle.errand_steps.specs.Begins.{IsIdle}
use Rattle.heap_geometry.specs.declared.limits.TheConstants.{MAX_CALLERS}
use Rattle.live_heap.specs.declared.pass.Pass.{Pass}
use Rattle.shared_heap.specs.declared.places.Given.{Given}
use Rattle.shared_heap.specs.declared.places.Stand.TheVariants as stand
use Rattle.shared_heap.specs.declared.shared.End.{End}
use Rattle.shared_heap.specs.declared.shared.End.TheVariants as end
use Rattle.shared_heap.specs.declared.shared.SharedHeap.{SharedHeap}
use Rattle.shared_heap.specs.declared.shared.Dealer.{Dealer}
use Rattle.shared_heap.specs.declared.shared.Receipt.{Receipt}
use Rattle.shared_heap.specs.declared.shared.Ticket.{Ticket}
use Rattle.shared_heap.specs.Gathered.{HasEnded}
use Rattle.shared_heap.specs.Places.{IsGiven}

-- the places are those of this heap
abbrev pub HasItsPlaces : SharedHeap → Type 0
HasItsPlaces shared = (arc_value shared.places).shared.key ≡ arc_value shared.heap

-- it hands out the tickets of this heap from the one of this caller on
pub record IsDealerOf (shared : SharedHeap) (next : ℕ) (dealer : Dealer) : Type 0 where
  pub table : dealer.seat.table_id ≡ (arc_value shared.places).shared.table_id
  pub deals : dealer.seat.me ≡ ((arc_value shared.heap, stand.Deals next), [])
  pub next_is : dealer.next ≡ next

-- the ticket of this heap for a caller's pass
pub record IsTicketOf (shared : SharedHeap) (caller : ℕ) (ticket : Ticket) : Type 0 where
  pub table : ticket.seat.table_id ≡ (arc_value shared.places).shared.table_id
  pub waits : ticket.seat.me ≡ ((arc_value shared.heap, stand.Waits caller), [])
  pub caller_is : ticket.caller ≡ caller
  pub has : caller < MAX_CALLERS

-- this very pass of the heap was given back, in no call, and counted: its number is how many were counted before
pub record IsReceiptFor (shared : SharedHeap) (p : Pass) (receipt : Receipt) : Type 0 where
  pub own : Given
  pub pass : own.pass ≡ p
  pub table : receipt.seat.table_id ≡ (arc_value shared.places).shared.table_id
  pub counted : receipt.seat.me.0 ≡ (arc_value shared.heap, stand.Counted own receipt.number)
  pub given : IsGiven (arc_value shared.heap) p.errand.caller own

-- what an owner leaves behind that had the ticket of this caller: its pass was given back, and so it ended; or the pass was in a call, or another caller's
abbrev pub HasLeft : SharedHeap → ℕ → Pass → Option Receipt → End → Type 0
HasLeft shared caller pass (Some receipt) ended = IsReceiptFor shared pass receipt × HasEnded (arc_value shared.heap) pass receipt.number ended
HasLeft shared caller pass None ended = (ended ≡ end.NotGiven) × ((¬ IsIdle pass.errand) ⊎ (caller ≢ pass.errand.caller))
