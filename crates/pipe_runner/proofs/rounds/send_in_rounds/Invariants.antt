use Rattle.std.proofs.Common.{◌≡◌, ◌≤◌, ◌-◌, length}
use Rattle.pipe_runner.specs.Receivers.{IsReceiving}
use Rattle.pipe_runner.specs.Senders.{AreSending}
use Rattle.pipe_runner.proofs.rounds.send_in_rounds.Given as goal

abbrev pub invariant-loop-sent : goal.invariant-loop-sent
invariant-loop-sent g l = record {
  stands : AreSending (g.G.Gate.passed l.gate) l.heap l.pipe l.start l.sent 0 l.senders.items;
  all : length l.senders.items ≡ length l.initial.senders.items;
  receives : IsReceiving l.heap l.pipe l.receiver;
  more : l.sent ≤ l.messages;
}

abbrev pub decreases-loop-sent : goal.decreases-loop-sent
decreases-loop-sent g l = l.messages - l.sent
