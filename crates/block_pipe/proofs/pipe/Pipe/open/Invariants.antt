use Rattle.std.proofs.Common.{◌≡◌, length, vec_capacity}
use Rattle.crossbeam_queue.specs.Passes.{view, IsPassOf}
use Rattle.block_pipe.specs.declared.pipe.Pipe.{Pipe}
use Rattle.block_pipe.specs.Ends.{AreNewFrom}
use Rattle.block_pipe.specs.Notes.{whole}
use Rattle.block_pipe.proofs.pipe.Pipe.open.Given as goal

abbrev pub ghosts-begin : goal.ghosts-begin
ghosts-begin a = record { senders = a.senders; shelves = a.shelves }

abbrev pub invariant-loop-number : goal.invariant-loop-number
invariant-loop-number l = record {
  of : IsPassOf l.queue l.end;
  left : view l.end ≡ record (whole l.senders l.shelves) { from = l.number };
  ends : (pipe : Pipe) → pipe.queue ≡ l.queue → pipe.senders ≡ l.senders → pipe.shelves ≡ l.shelves → AreNewFrom pipe 0 l.ends.items;
  len : length l.ends.items ≡ l.number;
  room : vec_capacity l.ends ≡ vec_capacity l.initial.ends;
}
