-- Of every point: what it remembers exists in its heap before and after its step, and its seat stays.
use Rattle.std.proofs.Common.{ℕ, Bool, true, false, ◌≡◌, ◌+◌, ◌<◌, ◌^◌, ◌∙◌, arith, ap, length-set}
use Rattle.std.specs.Prelude.{List, nat_lt, slice_set, if◌then◌else◌}
use Rattle.std.proofs.lemmas.Bool.{cond_both, ltb-true}
use Rattle.std.proofs.lemmas.Bool.Decides.{nat_tests}
use Rattle.heap_geometry.specs.declared.geometry.Geometry.{Geometry}
use Rattle.heap_geometry.specs.Geometry.{IsChecked}
use Rattle.word_table.specs.declared.action.Found.{Found}
use Rattle.word_table.specs.declared.onward.Onward.{Onward}
use Rattle.word_table.specs.declared.onward.Onward.TheVariants.{Stays, Leaves}
use Rattle.word_table.specs.Actions.{name_of}
use Rattle.word_table.specs.Onwards.{IsOnward, told_onward}
use Rattle.word_table.specs.Seats.{SeatFields}
use Rattle.word_table.specs.Table.{Exists}
use Rattle.step_parts.specs.declared.hazard.exit.DescExit.{DescExit}
use Rattle.step_parts.specs.declared.hazard.exit.DescExit.TheVariants.{Scanned}
use Rattle.step_parts.specs.declared.hazard.point.DescPoint.{DescPoint}
use Rattle.step_parts.specs.declared.hazard.point.DescPoint.TheVariants.{ReadHazard}
use Rattle.step_parts.specs.hazard.Points.{IsScanOf, FitsDesc, FitsDescExit, plan_desc_of, settle_desc_of, named_in, after_hazard, seat_of_desc, seat_of_desc_exit}

-- the word that a point's action is on exists
pub plan-exists :
    (g : Geometry) (caller : ℕ) (p : DescPoint) → IsChecked g → caller < g.callers → FitsDesc g caller p
    → Exists g (name_of (plan_desc_of p))
plan-exists g caller p checked has h = grind (arith, h)

-- the point or exit that a step leads to is of this caller of this heap, and all that it remembers exists there
abbrev Fits : Geometry → ℕ → Onward DescPoint DescExit → Type 0
Fits g caller = IsOnward (FitsDesc g caller) (FitsDescExit g caller)

-- a choice of where a step leads fits where both do
either-onward :
    (g : Geometry) (caller : ℕ) (b : Bool) (x y : Onward DescPoint DescExit) → (b ≡ true → Fits g caller x)
    → (b ≡ false → Fits g caller y) → Fits g caller (if b then x else y)
either-onward g caller b x y = cond_both b x y (Fits g caller)

-- the point or exit after a caller's hazard word was read fits
fits-hazard :
    (g : Geometry) (caller : ℕ) (s : SeatFields) (held : List ℕ) (at word : ℕ) → IsScanOf g caller s held
    → Fits g caller (after_hazard s held at word)
fits-hazard g caller s held at word h =
    let name = named_in s.geometry word in
    let noted = slice_set held at name in
    let scan : IsScanOf g caller s noted = record { seat = h.seat; words = length-set held at name ∙ h.words } in
    either-onward g caller (nat_lt (at + 1) s.geometry.callers) (Stays (ReadHazard s noted (at + 1))) (Leaves (Scanned s noted))
    (λ e. (scan, omega (arith, ltb-true (at + 1) s.geometry.callers e, ap (λ x. x.callers) h.seat.geometry)))
    (λ e. scan)

-- the point or exit after a step fits
pub settle-fits :
    (g : Geometry) (caller : ℕ) (p : DescPoint) (x : Found) → IsChecked g → x.value < 2 ^ 64 → FitsDesc g caller p
    → Fits g caller (settle_desc_of p x)
settle-fits g caller (ReadHazard s held at) x checked word h = fits-hazard g caller s held at x.value h.0
settle-fits g caller p x checked word h = grind (arith, h, nat_tests)

-- the seat of where a step leads
abbrev seat : Onward DescPoint DescExit → SeatFields
seat = told_onward seat_of_desc seat_of_desc_exit

-- the point after a step, or the exit, has the seat of the point before it
pub settle-seat : (p : DescPoint) (x : Found) → seat (settle_desc_of p x) ≡ seat_of_desc p
settle-seat p x = grind arith
