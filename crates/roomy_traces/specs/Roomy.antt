-- Traces with frames and turns to spare, and without shelves.
use Rattle.std.specs.Prelude.{ℕ, ◌+◌, ◌*◌, ◌%◌, ◌^◌, ◌≤◌, ◌==◌, ◌∷◌, List, [], Option, Some, None, Bool, true, false, if◌then◌else◌, All, count_by, length, map, sum_by, max, replicate, slice_index_or, slice_set}
use Rattle.std.specs.List.{range_with_len}
use Rattle.std.specs.Option.{option_map}
use Rattle.heap_geometry.specs.declared.need.Need.{Need}
use Rattle.heap_geometry.specs.declared.need.Need.TheVariants.{Small, Large, TooLarge}
use Rattle.heap_geometry.specs.Need.{need_of, usable_words}
use Rattle.heap_geometry.specs.declared.limits.TheConstants.{CLASSES, SMALL_MOST}
use Rattle.trace_text.specs.declared.limits.TheConstants.{REGISTERS}
use Rattle.trace_text.specs.declared.trace.Op.{Op}
use Rattle.trace_text.specs.declared.trace.Op.TheVariants.{Alloc, Free, Fill, Check, Put, Take, Resize}
use Rattle.trace_text.specs.declared.trace.Trace.{Trace}
use Rattle.trace_text.specs.Operations.{register_of}
use Rattle.lane_outcomes.specs.LaneCounts.{as_one, count_with}

-- a block that a lane holds: the need that it serves, and the number in each of its usable words
pub record Filled : Type 0 where
  pub need : Need
  pub numbers : List ℕ

-- a number for each word of a block; rising ones from the first; and those of another block, 0 past its end
abbrev pub numbers_by : (ℕ → ℕ) → ℕ → List ℕ
numbers_by value words = map value (range_with_len 0 words)

abbrev pub numbers_from : ℕ → ℕ → List ℕ
numbers_from first words = numbers_by (λ i. (first + i) % 2 ^ 64) words

abbrev pub copied : List ℕ → ℕ → List ℕ
copied numbers words = numbers_by (λ i. slice_index_or numbers i 0) words

-- whether the same blocks serve two needs
abbrev pub is_same : Need → Need → Bool
is_same (Small class) (Small other) = class == other
is_same (Large units) (Large other) = units == other
is_same TooLarge TooLarge = true
is_same need other = false

-- what the register of an operation holds
abbrev pub filled_in : List (Option Filled) → Op → Option Filled
filled_in registers operation = slice_index_or registers (register_of operation) None

-- what an operation does in a lane computed on its own, where an allocation on an empty register and a resize of a held block are given. It skips, where the
-- register is full and wants to be empty, or the other way round; a block is given for a need, and filled from v on; or the held one is freed, is written
-- with a value for each word, is summed, has the need already and is kept, or moves to a block for another need
pub data Doing : Type 0 where
  skips : Doing
  gives : (need v : ℕ) → Doing
  frees : Doing
  fills : (value : ℕ → ℕ) → Doing
  sums : Doing
  keeps : Doing
  moves_to : (need : ℕ) → Doing

abbrev pub doing_of : Option Filled → Op → Doing
doing_of None (Alloc r need v) = gives need v
doing_of (Some filled) (Free r) = frees
doing_of (Some filled) (Fill r v) = fills (λ i. (v + i) % 2 ^ 64)
doing_of (Some filled) (Check r) = sums
doing_of (Some filled) (Resize r need) = if is_same (need_of need) filled.need then keeps else moves_to need
doing_of held operation = skips

-- whether a block moves
abbrev pub is_move : Doing → Bool
is_move (moves_to need) = true
is_move done = false

abbrev pub moves : Option Filled → Op → Bool
moves held operation = is_move (doing_of held operation)

-- the block to which a held one moves
abbrev pub moved_to : ℕ → Filled → Filled
moved_to need filled = record { need = need_of need; numbers = copied filled.numbers (usable_words (need_of need)) }

-- the registers after an operation whose register holds this
abbrev pub serial_by : List (Option Filled) → ℕ → Option Filled → Doing → List (Option Filled)
serial_by registers r held (gives need v) =
    slice_set registers r (Some (record { need = need_of need; numbers = numbers_from v (usable_words (need_of need)) }))
serial_by registers r held frees = slice_set registers r None
serial_by registers r (Some filled) (fills value) =
    slice_set registers r (Some (record { need = filled.need; numbers = numbers_by value (length filled.numbers) }))
serial_by registers r (Some filled) (moves_to need) = slice_set registers r (Some (moved_to need filled))
serial_by registers r held done = registers

abbrev pub serial_step : List (Option Filled) → Option Filled → Op → List (Option Filled)
serial_step registers held operation = serial_by registers (register_of operation) held (doing_of held operation)

-- the registers after an operation
abbrev pub serial_after : List (Option Filled) → Op → List (Option Filled)
serial_after registers operation = serial_step registers (filled_in registers operation) operation

-- what the blocks in registers count, where one of so many words counts as `f` says
abbrev pub held_by : (ℕ → ℕ) → List (Option Filled) → ℕ
held_by f registers = sum_by (λ held. count_with f (option_map (λ filled. length filled.numbers) held)) registers

-- the most blocks that a lane holds from the beginning of an operation until it ends: both count while a block moves
abbrev pub held_during : List (Option Filled) → Op → ℕ
held_during registers operation = held_by as_one registers + (if moves (filled_in registers operation) operation then 1 else 0)

-- the most blocks that a lane holds at any moment, from these registers on
abbrev pub most_held : List (Option Filled) → List Op → ℕ
most_held registers [] = held_by as_one registers
most_held registers (operation ∷ operations) = max (held_during registers operation) (most_held (serial_after registers operation) operations)

-- the registers of a lane before its first operation: no block
abbrev pub no_blocks : List (Option Filled)
no_blocks = replicate REGISTERS None

-- an allocation or a resize
abbrev pub may_allocate : Op → Bool
may_allocate (Alloc r need v) = true
may_allocate (Resize r need) = true
may_allocate operation = false

-- no put and no take, and an allocation or a resize only of a small need
abbrev pub IsPlain : Op → Type 0
IsPlain (Alloc r need v) = need ≤ SMALL_MOST
IsPlain (Resize r need) = need ≤ SMALL_MOST
IsPlain (Put r shelf) = ⊥
IsPlain (Take r shelf) = ⊥
IsPlain operation = Unit {0}

-- each operation is plain; there is a turn for each allocation and each resize; and a frame for each block that lanes hold at their fullest,
-- one for each active superblock and one for each caller
pub record IsRoomy (trace : Trace) : Type 0 where
  pub plain : All (All IsPlain) trace.lanes
  pub turns : sum_by (count_by may_allocate) trace.lanes ≤ trace.heap.turn_limit
  pub frames : sum_by (most_held no_blocks) trace.lanes + trace.heap.heaps * CLASSES + trace.heap.callers ≤ trace.heap.frames
