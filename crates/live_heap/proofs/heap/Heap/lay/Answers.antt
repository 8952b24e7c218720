use Rattle.std.proofs.Common.{subst}
use Rattle.heap_geometry.specs.declared.geometry.Geometry.{Geometry}
use Rattle.live_heap.specs.FirstRoom.{IsFirstRoom}
use Rattle.live_heap.proofs.FirstPieces.{first-pieces}
use Rattle.live_heap.proofs.heap.Heap.lay.Goals as goal

pub open-table-requires : goal.open-table-requires
open-table-requires g c =
    let places = c.in_ok-room.room.plain.places in
    let room = subst (λ (h : Geometry). IsFirstRoom h places) c.new-layout.ensures c.in_ok-room.ensures in
    first-pieces c.args.geometry places c.requires room
