use Rattle.std.proofs.Common.{ℕ, ◌≡◌, ◌<◌, length}
use Rattle.heap_geometry.specs.declared.limits.TheConstants.{MAX_FRAMES}
use Rattle.heap_geometry.specs.Place.{frame_of}
use Rattle.plain_pool.specs.Search.{IsMarked}
use Rattle.plain_pool.specs.Stored.{HoldsStored}
use Rattle.plain_pool.proofs.VisitLemmas.{AllBut}
use Rattle.plain_pool.proofs.places.held_frames.Given as goal

-- the frames of the blocks so far are marked, and no others
abbrev pub invariant-loop-place : goal.invariant-loop-place
invariant-loop-place l =
    record {
      len : length l.held ≡ MAX_FRAMES;
      only : (frame : ℕ) → frame < MAX_FRAMES → IsMarked l.held frame → HoldsStored l.blocks frame;
      all : AllBut (λ place block. frame_of place < MAX_FRAMES → IsMarked l.held (frame_of place)) l.blocks l.place-iterator;
    }
