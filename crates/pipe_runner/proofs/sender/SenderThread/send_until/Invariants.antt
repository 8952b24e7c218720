use Rattle.std.proofs.Common.{◌≡◌, ◌≤◌, ◌-◌}
use Rattle.pipe_runner.specs.Senders.{IsSending}
use Rattle.pipe_runner.proofs.sender.SenderThread.send_until.Given as goal

abbrev pub invariant-loop-self : goal.invariant-loop-self
invariant-loop-self g l = record {
  stands : IsSending (g.G.Gate.passed l.gate) l.heap l.pipe l.start l.self.end.sent l.self;
  number : l.self.end.number ≡ l.initial.self.end.number;
  until : l.self.end.sent ≤ l.until;
}

abbrev pub decreases-loop-self : goal.decreases-loop-self
decreases-loop-self g l = l.until - l.self.end.sent
