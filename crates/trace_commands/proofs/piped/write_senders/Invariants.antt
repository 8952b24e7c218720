use Rattle.std.proofs.Common.{◌≡◌, ◌++◌}
use Rattle.std.specs.List.{flat_map, range_with_len}
use Rattle.trace_commands.specs.Pipes.{sender_line}
use Rattle.trace_commands.proofs.piped.write_senders.Given as goal

abbrev pub invariant-loop-sender : goal.invariant-loop-sender
invariant-loop-sender l = l.text ≡ l.initial.text ++ flat_map (sender_line l.run) (range_with_len 0 l.sender)
