-- Where a step of a part leads, told by cases.
use Rattle.std.specs.Prelude.{Option, Some, None}
use Rattle.word_table.specs.declared.onward.Onward.{Onward}
use Rattle.word_table.specs.declared.onward.Onward.TheVariants.{Stays, Leaves}

-- the exit by which the caller leaves the part; none where it stays
abbrev pub exit_by : {P E : Type 0} → Onward P E → Option E
exit_by (Stays p) = None
exit_by (Leaves e) = Some e

-- the point at which the caller stands after a step; where it leaves the part, the one at which it stood before
abbrev pub point_by : {P E : Type 0} → P → Onward P E → P
point_by before (Stays p) = p
point_by before (Leaves e) = before

-- the point where the caller stays has one property, or the exit by which it leaves has another
abbrev pub IsOnward : {P E : Type 0} → (P → Type 0) → (E → Type 0) → Onward P E → Type 0
IsOnward F G (Stays p) = F p
IsOnward F G (Leaves e) = G e

-- what a point says, or what an exit says
abbrev pub told_onward : {P E A : Type 0} → (P → A) → (E → A) → Onward P E → A
told_onward f g (Stays p) = f p
told_onward f g (Leaves e) = g e
