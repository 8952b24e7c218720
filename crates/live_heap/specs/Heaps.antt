-- A heap, as contracts see it.
use Rattle.std.specs.Prelude.{◌≡◌, ◌+◌}
use Rattle.atomic_region.specs.Owned.{RegionId}
use Rattle.heap_geometry.specs.declared.geometry.Geometry.{Geometry}
use Rattle.heap_geometry.specs.Geometry.{IsChecked}
use Rattle.live_heap.specs.placement.Places.{placed_count}
use Rattle.live_heap.specs.Pieces.{mark_count}

-- its numbers, and the region of memory in which it lies
pub record HeapFields : Type 0 where
  pub layout : Geometry
  pub region : RegionId
  pub long : region.words ≡ placed_count layout + mark_count layout
  pub checked : IsChecked layout
