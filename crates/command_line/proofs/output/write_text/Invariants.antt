use Rattle.std.proofs.Common.{ℕ, List, sum, ◌≡◌, length, ◌-◌, ◌≤◌, take}
use Rattle.std.specs.Io.KnownBytes.{Appends}
use Rattle.command_line.specs.Output.{Offers}
use Rattle.command_line.proofs.output.write_text.Given as goal

abbrev pub invariant-loop-written : goal.invariant-loop-written
invariant-loop-written g l =
    record {
      within : l.written ≤ length l.text;
      counts : List ℕ;
      total : sum counts ≡ l.written;
      writes : Offers g.K.Sink.wrote l.text l.fn.sink counts l.sink;
      holds : Appends (g.K.Sink.holds l.fn.sink) (g.K.Sink.holds l.sink) (take l.written l.text);
      faults : g.K.Sink.faults l.fn.sink ≤ g.K.Sink.faults l.sink;
    }

abbrev pub decreases-loop-written : goal.decreases-loop-written
decreases-loop-written g l = length l.text - l.written
