-- How faults are counted, and what their count tells.
use Rattle.std.specs.Prelude.{ℕ, ◌≡◌, ◌+◌, ◌<◌, ◌⊎◌, min, Result, is_err, if◌then◌else◌}
use Rattle.edge_io.specs.declared.faults.TheConstants.{LAST_COUNT}

-- the count of faults rose, or it stands at its last value
abbrev pub FaultsRose : ℕ → ℕ → Type 0
FaultsRose before after = (before < after) ⊎ (after ≡ LAST_COUNT)

-- a count after one more; it stands still at its last value
abbrev pub next_count : ℕ → ℕ
next_count count = min (count + 1) LAST_COUNT

-- the count of faults after a call, which is one more where the call failed
abbrev pub faults_after : {T E : Type 0} → ℕ → Result T E → ℕ
faults_after faults outcome = if is_err outcome then next_count faults else faults
