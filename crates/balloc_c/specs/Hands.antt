-- What is so of a hand.
use Rattle.std.specs.Arc.{arc_value}
use Rattle.live_heap.specs.Heaps.{HeapFields}
use Rattle.balloc_c.specs.Packed.{IsPacked}
use Rattle.balloc_c.specs.Tended.{Tends}
use Rattle.shared_heap.specs.Shares.{IsTicketOf}
use Rattle.balloc_c.specs.declared.hand.Hand.{Hand}

-- the heap that the hand has a share in
abbrev pub heap_of : Hand → HeapFields
heap_of hand = arc_value hand.heap.heap

-- the cache is one in front of the heap that the hand has a share in, and the blocks of the table are its caller's; no slot is lost, and the ticket is one for a pass of that heap
abbrev pub IsTended : Hand → Type 0
IsTended hand =
    Tends (heap_of hand) hand.cache hand.table.slots.items × IsPacked hand.table
    × IsTicketOf hand.heap hand.ticket.caller hand.ticket
