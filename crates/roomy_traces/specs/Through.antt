-- Lanes through caches, each computed on its own: what its magazines keep and serve, and when a trace has frames and turns to spare for all that.
use Rattle.std.specs.Prelude.{ℕ, suc, ◌+◌, ◌*◌, ◌-◌, ◌≤◌, ◌∷◌, List, [], Option, Some, None, if◌then◌else◌, All, count_by, max, min, nat_lt, replicate, slice_index_or, slice_set, sum, sum_by}
use Rattle.std.specs.Option.{option_map}
use Rattle.heap_geometry.specs.declared.need.Need.{Need}
use Rattle.heap_geometry.specs.declared.need.Need.TheVariants.{Small}
use Rattle.heap_geometry.specs.Need.{need_of}
use Rattle.heap_geometry.specs.declared.limits.TheConstants.{CLASSES}
use Rattle.trace_text.specs.declared.trace.Op.{Op}
use Rattle.trace_text.specs.declared.trace.Trace.{Trace}
use Rattle.roomy_traces.specs.Roomy.{Doing, Filled, IsPlain, doing_of, filled_in, frees, gives, held_during, held_by, may_allocate, moves_to, no_blocks, serial_after}
use Rattle.lane_outcomes.specs.LaneCounts.{as_one}

-- the need for which an operation whose register holds this is given a block, if it is
abbrev pub need_asked : Doing → Option Need
need_asked (gives need v) = Some (need_of need)
need_asked (moves_to need) = Some (need_of need)
need_asked done = None

abbrev pub asked : Option Filled → Op → Option Need
asked held operation = need_asked (doing_of held operation)

-- the need of the block that it frees, if it frees one
abbrev pub need_returned : Option Filled → Doing → Option Need
need_returned held frees = option_map (λ filled. filled.need) held
need_returned held (moves_to need) = option_map (λ filled. filled.need) held
need_returned held done = None

abbrev pub returned : Option Filled → Op → Option Need
returned held operation = need_returned held (doing_of held operation)

-- how many blocks the magazine of a class keeps, where there is a number for each
abbrev pub kept_in : List ℕ → ℕ → ℕ
kept_in kept class = slice_index_or kept class 0

-- 1 where a magazine has a block for the need, and serves it
abbrev pub served : List ℕ → Option Need → ℕ
served kept (Some (Small class)) = min (kept_in kept class) 1
served kept need = 0

-- the magazines when a block was given for a need, by one of them or by the heap
abbrev pub kept_given : List ℕ → Option Need → List ℕ
kept_given kept (Some (Small class)) = slice_set kept class (kept_in kept class - 1)
kept_given kept need = kept

-- the magazines when a block was freed: one with fewer blocks than the depth keeps it
abbrev pub kept_freed : ℕ → List ℕ → Option Need → List ℕ
kept_freed depth kept (Some (Small class)) = if nat_lt (kept_in kept class) depth then slice_set kept class (suc (kept_in kept class)) else kept
kept_freed depth kept need = kept

-- the magazines after an operation whose register holds this
abbrev pub kept_after : ℕ → List ℕ → Option Filled → Op → List ℕ
kept_after depth kept held operation = kept_freed depth (kept_given kept (asked held operation)) (returned held operation)

-- the magazines of a lane before its first operation: no block
abbrev pub none_kept : List ℕ
none_kept = replicate CLASSES 0

-- the most blocks that a lane holds and its magazines keep at any moment, from these registers and magazines on
abbrev pub most_kept : ℕ → List (Option Filled) → List ℕ → List Op → ℕ
most_kept depth registers kept [] = held_by as_one registers + sum kept
most_kept depth registers kept (operation ∷ operations) =
    max (held_during registers operation + sum kept)
    (most_kept depth (serial_after registers operation) (kept_after depth kept (filled_in registers operation) operation) operations)

-- how many operations of a lane its magazines serve, from these registers and magazines on
abbrev pub served_from : ℕ → List (Option Filled) → List ℕ → List Op → ℕ
served_from depth registers kept [] = 0
served_from depth registers kept (operation ∷ operations) =
    served kept (asked (filled_in registers operation) operation)
    + served_from depth (serial_after registers operation) (kept_after depth kept (filled_in registers operation) operation) operations

-- how many operations the magazines of all lanes serve
abbrev pub serial_hits : ℕ → List (List Op) → ℕ
serial_hits depth lanes = sum_by (served_from depth no_blocks none_kept) lanes

-- each operation is plain; there is a turn for each allocation and each resize; and a frame for each block that lanes hold and their magazines of this
-- depth keep at their fullest, one for each active superblock and one for each caller
pub record IsRoomyThrough (depth : ℕ) (trace : Trace) : Type 0 where
  pub plain : All (All IsPlain) trace.lanes
  pub turns : sum_by (count_by may_allocate) trace.lanes ≤ trace.heap.turn_limit
  pub frames : sum_by (most_kept depth no_blocks none_kept) trace.lanes + trace.heap.heaps * CLASSES + trace.heap.callers ≤ trace.heap.frames
