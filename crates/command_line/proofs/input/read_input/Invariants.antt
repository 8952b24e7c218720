use Rattle.std.proofs.Common.{ℕ, List, sum, ◌≤◌, ◌-◌, ◌+◌, vec_len, length, ◌≡◌}
use Rattle.command_line.specs.declared.input.TheConstants.{BUFFER_BYTES}
use Rattle.command_line.specs.Input.{Brings}
use Rattle.std.specs.Io.KnownBytes.{Consumes}
use Rattle.command_line.proofs.input.read_input.Given as goal

abbrev pub invariant-loop-buffer : goal.invariant-loop-buffer
invariant-loop-buffer g l =
    record {
      buffer : length l.buffer ≡ BUFFER_BYTES;
      counts : List ℕ;
      total : sum counts ≡ vec_len l.bytes;
      reads : Brings g.S.Source.gave l.most l.fn.source counts l.source;
      further : vec_len l.bytes ≤ l.most + BUFFER_BYTES;
      taken : Consumes (g.S.Source.left l.fn.source) (g.S.Source.left l.source) l.bytes.items;
      faults : g.S.Source.faults l.fn.source ≤ g.S.Source.faults l.source;
    }

abbrev pub decreases-loop-buffer : goal.decreases-loop-buffer
decreases-loop-buffer g l = l.most + 1 - vec_len l.bytes
