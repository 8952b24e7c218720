use Rattle.std.proofs.Common.{ℕ, ◌≡◌, ◌≢◌, ◌++◌, List, All, true, slice_index, vec_len}
use Rattle.crossbeam_queue.specs.Passes.{view, IsPassOf}
use Rattle.block_pipe.specs.declared.sender.Sender.{Sender}
use Rattle.block_pipe.specs.Ends.{popped_by}
use Rattle.block_pipe.proofs.Gathering.{Told}
use Rattle.block_pipe.proofs.pipe.Pipe.gather.Given as goal

abbrev pub invariant-loop-sender : goal.invariant-loop-sender
invariant-loop-sender l = record {
  among : (done : List Sender) × (l.fn.senders.items ≡ l.senders.items ++ done) × All (Told (popped_by l.fn.receiver) l.sent) done
      × ((k : ℕ) → All (λ s. s.number ≢ k) done → slice_index l.sent.counts k ≡ 0);
  of : IsPassOf l.self.queue l.end;
  set : (view l.end).set ≡ true;
  receives : (view l.end).receives ≡ true;
  taken : (view l.end).taken ≡ popped_by l.fn.receiver;
}

abbrev pub decreases-loop-sender : goal.decreases-loop-sender
decreases-loop-sender l = vec_len l.senders
