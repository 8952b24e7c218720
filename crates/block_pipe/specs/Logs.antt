-- What a closed pipe leaves.
use Rattle.std.specs.Prelude.{ℕ, ◌≡◌, ◌≤◌, List, All, length, slice_index}
use Rattle.block_pipe.specs.declared.log.PipeLog.{PipeLog}
use Rattle.block_pipe.specs.declared.note.Note.{Note}
use Rattle.block_pipe.specs.declared.pipe.Pipe.{Pipe}
use Rattle.block_pipe.specs.declared.receiver.Receiver.{Receiver}
use Rattle.block_pipe.specs.declared.sender.Sender.{Sender}
use Rattle.block_pipe.specs.Ends.{popped_by, pushed_by}
use Rattle.block_pipe.specs.Notes.{Begins, of_sender}

-- the notes that the receiver has popped of a sender
abbrev pub popped_of : Receiver → Sender → List Note
popped_of r s = of_sender s.number (popped_by r)

-- the log has the numbers of the sender's notes that were pushed and popped; those that were popped are the first part of those that were pushed
pub record HasSender (r : Receiver) (log : PipeLog) (s : Sender) : Type 0 where
  pub sent : slice_index log.sent.counts s.number ≡ length (pushed_by s)
  pub taken : slice_index log.taken.counts s.number ≡ length (popped_of r s)
  pub first_part : Begins (popped_of r s) (pushed_by s)

-- the log has the numbers of the notes of each sender, and 0 for a number that no sender has
pub record HasLogged (pipe : Pipe) (senders : List Sender) (r : Receiver) (log : PipeLog) : Type 0 where
  pub each : All (HasSender r log) senders
  pub none : (k : ℕ) → pipe.senders ≤ k → (slice_index log.sent.counts k ≡ 0) × (slice_index log.taken.counts k ≡ 0)
