-- Of every point: what it remembers exists in its heap before and after its step, and its seat stays.
use Rattle.std.proofs.Common.{ℕ, Bool, true, false, ◌≡◌, ◌<◌, ◌≤◌, ◌^◌, arith, ap}
use Rattle.std.specs.Prelude.{◌==◌, nat_le, if◌then◌else◌}
use Rattle.std.proofs.lemmas.Bool.{cond_both}
use Rattle.std.proofs.lemmas.Bool.Decides.{nat_tests}
use Rattle.heap_geometry.specs.declared.geometry.Geometry.{Geometry}
use Rattle.heap_geometry.specs.Geometry.{IsChecked}
use Rattle.packed_words.specs.Head.{HeadFields, IsHead, head_of}
use Rattle.packed_words.proofs.HeadLemmas.{IsHead-head_of}
use Rattle.word_table.specs.declared.action.Found.{Found}
use Rattle.word_table.specs.declared.onward.Onward.{Onward}
use Rattle.word_table.specs.declared.onward.Onward.TheVariants.{Stays, Leaves}
use Rattle.word_table.specs.Actions.{name_of}
use Rattle.word_table.specs.Onwards.{IsOnward, told_onward}
use Rattle.word_table.specs.Seats.{SeatFields}
use Rattle.word_table.specs.Sites.{IsSeatOf}
use Rattle.word_table.specs.Table.{Exists}
use Rattle.step_parts.specs.declared.stack.point.Pile.{Pile}
use Rattle.step_parts.specs.declared.stack.point.StackPoint.{StackPoint}
use Rattle.step_parts.specs.declared.stack.point.StackPoint.TheVariants.{LoadTop, LoadBelow}
use Rattle.step_parts.specs.declared.stack.exit.StackExit.{StackExit}
use Rattle.step_parts.specs.declared.stack.exit.StackExit.TheVariants.{FoundEmpty}
use Rattle.step_parts.specs.stack.Points.{FitsStack, FitsStackExit, plan_stack_of, settle_stack_of, after_top, seat_of_stack, seat_of_stack_exit}
use Rattle.step_parts.specs.stack.Piles.{pile_limit}

-- the word that a point's action is on exists
pub plan-exists :
    (g : Geometry) (caller : ℕ) (p : StackPoint) → IsChecked g → caller < g.callers → FitsStack g caller p
    → Exists g (name_of (plan_stack_of p))
plan-exists g caller p checked has h = grind (arith, h)

-- a choice of two points fits where both do
either :
    (g : Geometry) (caller : ℕ) (b : Bool) (x y : StackPoint) → (b ≡ true → FitsStack g caller x) → (b ≡ false → FitsStack g caller y)
    → FitsStack g caller (if b then x else y)
either g caller b x y = cond_both b x y (FitsStack g caller)

-- what a step leads to fits
abbrev pub FitsOnward : Geometry → ℕ → Onward StackPoint StackExit → Type 0
FitsOnward g caller = IsOnward (FitsStack g caller) (FitsStackExit g caller)

-- a choice fits where both that it may lead to do
either-onward :
    (g : Geometry) (caller : ℕ) (b : Bool) (x y : Onward StackPoint StackExit) → (b ≡ true → FitsOnward g caller x)
    → (b ≡ false → FitsOnward g caller y) → FitsOnward g caller (if b then x else y)
either-onward g caller b x y = cond_both b x y (FitsOnward g caller)

-- a seat's heap has as many indexes for a stack as the heap that the seat is of
same-limit : (g : Geometry) (caller : ℕ) (s : SeatFields) (p : Pile) → IsSeatOf g caller s → pile_limit s.geometry p ≡ pile_limit g p
same-limit g caller s p seat = ap (λ x. pile_limit x p) seat.geometry

-- a number that passes the test for 0 is 0
test-zero : (n : ℕ) → (n == 0) ≡ true → n ≡ 0
test-zero n e = grind (arith, nat_tests)

test-some : (n : ℕ) → (n == 0) ≡ false → 1 ≤ n
test-some n e = grind (arith, nat_tests)

test-within : (n limit same : ℕ) → nat_le n limit ≡ true → limit ≡ same → n ≤ same
test-within n limit same e is = grind (arith, nat_tests)

-- the point or exit after a head was read for a pop fits
fits-top :
    (g : Geometry) (caller : ℕ) (s : SeatFields) (p : Pile) (head : HeadFields) → IsSeatOf g caller s → IsHead head
    → FitsOnward g caller (after_top s p head)
fits-top g caller s p head seat is =
    let limit = pile_limit s.geometry p in
    either-onward g caller (head.top == 0) (Leaves (FoundEmpty s p head)) (Stays (if nat_le head.top limit then LoadBelow s p head else LoadTop s p))
    (λ none. record { seat = seat; head = is; top = test-zero head.top none })
    (λ some. either g caller (nat_le head.top limit) (LoadBelow s p head) (LoadTop s p)
    (λ e. record {
      seat = seat;
      head = is;
      top = (test-some head.top some, test-within head.top limit (pile_limit g p) e (same-limit g caller s p seat));
    })
    (λ e. seat))

-- the point after a step fits, or its exit
pub settle-fits :
    (g : Geometry) (caller : ℕ) (p : StackPoint) (x : Found) → IsChecked g → x.value < 2 ^ 64 → FitsStack g caller p
    → FitsOnward g caller (settle_stack_of p x)
settle-fits g caller (LoadTop s p) x checked word h = fits-top g caller s p (head_of x.value) h (IsHead-head_of x.value)
settle-fits g caller p x checked word h = grind (arith, h, nat_tests, IsHead-head_of x.value)

-- the seat of what a step leads to
abbrev pub seat_onward : Onward StackPoint StackExit → SeatFields
seat_onward = told_onward seat_of_stack seat_of_stack_exit

-- the point after a step, or its exit, has the seat of the point before it
pub settle-seat : (p : StackPoint) (x : Found) → seat_onward (settle_stack_of p x) ≡ seat_of_stack p
settle-seat p x = grind arith
