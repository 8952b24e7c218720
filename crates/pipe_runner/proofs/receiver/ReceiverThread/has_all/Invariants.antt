use Rattle.std.proofs.Common.{ℕ, ◌≡◌, ◌<◌, ◌≤◌, slice_index}
use Rattle.pipe_runner.proofs.receiver.ReceiverThread.has_all.Given as goal

abbrev pub invariant-loop-sender : goal.invariant-loop-sender
invariant-loop-sender l = record {
  all : (k : ℕ) → k < l.sender → slice_index l.self.counts.numbers k ≡ l.messages;
  within : l.sender ≤ l.senders;
}
