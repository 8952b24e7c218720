-- What each point does, where it leads, and that what a point or an exit remembers exists in its heap.
use Rattle.std.specs.Prelude.{ℕ, ◌-◌, ◌==◌, nat_le, if◌then◌else◌, ◌≡◌, ◌<◌, ◌≤◌}
use Rattle.packed_words.specs.Head.{HeadFields, head_word, head_of, IsHead}
use Rattle.word_table.specs.declared.action.Action.{Action}
use Rattle.word_table.specs.declared.action.Action.TheVariants.{Load, Store, Cas}
use Rattle.word_table.specs.declared.action.Found.{Found}
use Rattle.word_table.specs.declared.onward.Onward.{Onward}
use Rattle.word_table.specs.declared.onward.Onward.TheVariants.{Stays, Leaves}
use Rattle.word_table.specs.Seats.{SeatFields}
use Rattle.step_parts.specs.declared.stack.point.Pile.{Pile}
use Rattle.step_parts.specs.declared.stack.point.StackPoint.{StackPoint}
use Rattle.step_parts.specs.declared.stack.point.StackPoint.TheVariants.{LoadTop, LoadBelow, PopTop, ConfirmEmpty, LoadTopToPush, StoreBelow, PushTop}
use Rattle.step_parts.specs.declared.stack.exit.StackExit.{StackExit}
use Rattle.step_parts.specs.declared.stack.exit.StackExit.TheVariants.{Popped, FoundEmpty, ConfirmedEmpty, Pushed}
use Rattle.step_parts.specs.stack.Piles.{head_name, next_name, pile_limit, popped_head, pushed_head}
use Rattle.heap_geometry.specs.declared.geometry.Geometry.{Geometry}
use Rattle.heap_geometry.specs.Geometry.{IsWithin}
use Rattle.word_table.specs.Sites.{IsSeatOf}

-- the seat that a point of a stack is for
abbrev pub seat_of_stack : StackPoint → SeatFields
seat_of_stack (LoadTop s p) = s
seat_of_stack (LoadBelow s p h) = s
seat_of_stack (PopTop s p h below) = s
seat_of_stack (ConfirmEmpty s p h) = s
seat_of_stack (LoadTopToPush s p i) = s
seat_of_stack (StoreBelow s p i h) = s
seat_of_stack (PushTop s p i h) = s

-- the seat that an exit from a stack is for
abbrev pub seat_of_stack_exit : StackExit → SeatFields
seat_of_stack_exit (Popped s p i) = s
seat_of_stack_exit (FoundEmpty s p h) = s
seat_of_stack_exit (ConfirmedEmpty s p) = s
seat_of_stack_exit (Pushed s p) = s

-- the action of a point
abbrev pub plan_stack_of : StackPoint → Action
plan_stack_of (LoadTop s p) = Load (head_name s p)
plan_stack_of (LoadBelow s p h) = Load (next_name p (h.top - 1))
plan_stack_of (PopTop s p h below) = Cas (head_name s p) (head_word h) (head_word (popped_head h below))
plan_stack_of (ConfirmEmpty s p h) = Cas (head_name s p) (head_word h) (head_word h)
plan_stack_of (LoadTopToPush s p i) = Load (head_name s p)
plan_stack_of (StoreBelow s p i h) = Store (next_name p i) h.top
plan_stack_of (PushTop s p i h) = Cas (head_name s p) (head_word h) (head_word (pushed_head h i))

-- the point or exit after a head was read for a pop; the point stays where the heap has no such index
abbrev pub after_top : SeatFields → Pile → HeadFields → Onward StackPoint StackExit
after_top s p h =
    if h.top == 0
    then Leaves (FoundEmpty s p h)
    else Stays (if nat_le h.top (pile_limit s.geometry p) then LoadBelow s p h else LoadTop s p)

-- the point after the next word of the index on top was read
abbrev pub after_below : SeatFields → Pile → HeadFields → ℕ → StackPoint
after_below s p h below = if nat_le below (pile_limit s.geometry p) then PopTop s p h below else LoadBelow s p h

-- the point or exit after a step at a point of a stack, by what its action found
abbrev pub settle_stack_of : StackPoint → Found → Onward StackPoint StackExit
settle_stack_of (LoadTop s p) x = after_top s p (head_of x.value)
settle_stack_of (LoadBelow s p h) x = Stays (after_below s p h x.value)
settle_stack_of (PopTop s p h below) x = if x.won then Leaves (Popped s p (h.top - 1)) else Stays (LoadTop s p)
settle_stack_of (ConfirmEmpty s p h) x = if x.won then Leaves (ConfirmedEmpty s p) else Stays (LoadTop s p)
settle_stack_of (LoadTopToPush s p i) x = Stays (StoreBelow s p i (head_of x.value))
settle_stack_of (StoreBelow s p i h) x = Stays (PushTop s p i h)
settle_stack_of (PushTop s p i h) x = if x.won then Leaves (Pushed s p) else Stays (LoadTopToPush s p i)

-- a seat of this caller of this heap, and a head whose top names an index that the heap has
pub record IsTopped (g : Geometry) (caller : ℕ) (s : SeatFields) (p : Pile) (h : HeadFields) : Type 0 where
  pub seat : IsSeatOf g caller s
  pub head : IsHead h
  pub top : IsWithin 1 (pile_limit g p) h.top

-- a seat of this caller of this heap, and the head of an empty stack
pub record IsBare (g : Geometry) (caller : ℕ) (s : SeatFields) (h : HeadFields) : Type 0 where
  pub seat : IsSeatOf g caller s
  pub head : IsHead h
  pub top : h.top ≡ 0

-- a seat of this caller of this heap, and an index that the heap has for the stack
pub record IsIndexOf (g : Geometry) (caller : ℕ) (s : SeatFields) (p : Pile) (i : ℕ) : Type 0 where
  pub seat : IsSeatOf g caller s
  pub index : i < pile_limit g p

-- the point is of this caller of this heap, and everything that it remembers exists there
abbrev pub FitsStack : Geometry → ℕ → StackPoint → Type 0
FitsStack g caller (LoadTop s p) = IsSeatOf g caller s
FitsStack g caller (LoadBelow s p h) = IsTopped g caller s p h
FitsStack g caller (PopTop s p h below) = IsTopped g caller s p h × (below ≤ pile_limit g p)
FitsStack g caller (ConfirmEmpty s p h) = IsBare g caller s h
FitsStack g caller (LoadTopToPush s p i) = IsIndexOf g caller s p i
FitsStack g caller (StoreBelow s p i h) = IsIndexOf g caller s p i × IsHead h
FitsStack g caller (PushTop s p i h) = IsIndexOf g caller s p i × IsHead h

-- the exit is of this caller of this heap, and everything that it remembers exists there
abbrev pub FitsStackExit : Geometry → ℕ → StackExit → Type 0
FitsStackExit g caller (Popped s p i) = IsIndexOf g caller s p i
FitsStackExit g caller (FoundEmpty s p h) = IsBare g caller s h
FitsStackExit g caller (ConfirmedEmpty s p) = IsSeatOf g caller s
FitsStackExit g caller (Pushed s p) = IsSeatOf g caller s
