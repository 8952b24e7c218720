-- A pipe between the two passes of a heap.
use Rattle.std.specs.Prelude.{◌≡◌, IfSome}
use Rattle.live_heap.specs.Passes.{IsOf, Owns}
use Rattle.block_pipe.specs.Ends.{IsReceiver, IsSender}
use Rattle.worked_programs.specs.declared.pipes.Line.{Line}

-- the ends are the pipe's and the passes the heap's, and who has a block in hand owns it
pub record IsLine (line : Line) : Type 0 where
  pub one : line.pipe.senders ≡ 1
  pub giver : IsOf line.heap line.giver
  pub giver_is : line.giver.errand.caller ≡ 0
  pub sender : IsSender line.pipe line.sender
  pub sender_is : line.sender.number ≡ 0
  pub taker : IsOf line.heap line.taker
  pub taker_is : line.taker.errand.caller ≡ 1
  pub receiver : IsReceiver line.pipe line.receiver
  pub owned : IfSome line.block (λ block. Owns line.giver block)
