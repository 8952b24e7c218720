use Rattle.std.proofs.Common.{ℕ, ◌≡◌, ◌≤◌, ◌<◌}
use Rattle.word_table.specs.Occurs.{occurs}
use Rattle.live_heap.specs.Pieces.{KnowsMore}
use Rattle.live_heap.proofs.heap.Heap.lay_pieces.Given as goal

abbrev pub invariant-loop-piece : goal.invariant-loop-piece
invariant-loop-piece g l = record {
  region : l.seat.region ≡ l.initial.seat.region;
  knows : KnowsMore l.initial.seat.me l.seat.me;
  ready : (k : ℕ) → l.fn.pieces.first ≤ k → k < l.piece → 0 < occurs k l.seat.me.0.ready;
}

abbrev pub ghosts-lay_piece : goal.ghosts-lay_piece
ghosts-lay_piece g a = record { layout = a.self.now.layout; piece = a.piece }
