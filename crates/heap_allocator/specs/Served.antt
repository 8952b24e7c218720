-- A piece, as the heap that gave it out knows it.
use Rattle.std.specs.Prelude.{◌≡◌}
use denote.RawPtr.{Ptr}
use Rattle.heap_allocator.specs.declared.piece.Piece.{Piece}
use Rattle.heap_allocator.specs.Pieces.{IsPieceFor}

-- it lies in memory that begins at p, in a piece for its bytes
pub record IsServed (p : Ptr) (x : Piece) : Type 0 where
  pub begins : x.at ≡ p
  pub piece : IsPieceFor x.size x.first x.count x.label
