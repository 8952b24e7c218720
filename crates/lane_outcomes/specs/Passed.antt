-- Which operations passed a gate.
use Rattle.std.specs.Prelude.{ℕ, ◌-◌, ◌^◌, ◌<◌, List, [], length, min}
use Rattle.std.specs.List.{slice_index_or}
use Rattle.trace_text.specs.declared.trace.Op.{Op}

-- each operation of a lane passed a gate, the first as number 0; a number that doesn't fit is the last one that does
abbrev pub LanePassed : (ℕ → ℕ → Type 0) → ℕ → List Op → Type 0
LanePassed passed lane operations = (op : ℕ) → op < length operations → passed lane (min op (2 ^ 32 - 1))

-- each operation of all lanes passed a gate
abbrev pub AllPassed : (ℕ → ℕ → Type 0) → List (List Op) → Type 0
AllPassed passed lanes = (lane : ℕ) → LanePassed passed lane (slice_index_or lanes lane [])
