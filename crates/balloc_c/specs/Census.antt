-- What C is told of a heap that has closed.
use Rattle.live_heap.specs.Endings.{ClosedFields, IsCounted}
use Rattle.heap_census.specs.Census.{IsCensus}
use Rattle.balloc_c.specs.declared.counted.Counted.{Counted}

-- the census of the closed heap, and what all its callers won and lost
abbrev pub IsCountOf : ClosedFields → Counted → Type 0
IsCountOf c told = IsCensus c told.census × IsCounted c told.won told.lost
