-- What is so of a tenant of a seat.
use Rattle.std.specs.Arc.{arc_value}
use Rattle.live_heap.specs.Heaps.{HeapFields}
use Rattle.memory_cache.specs.Paged.{IsPaged}
use Rattle.balloc_malloc.specs.declared.tenant.Tenant.{Tenant}

-- the heap that it has a share in
abbrev pub heap_of : Tenant → HeapFields
heap_of tenant = arc_value tenant.heap

-- its cache is one in front of that heap
abbrev pub IsTended : Tenant → Type 0
IsTended tenant = IsPaged (heap_of tenant) tenant.cache
