-- Which registers of a lane hold a block.
use Rattle.std.specs.Prelude.{◌≡◌, ℕ, zero, suc, ◌<◌, Bool, false, ◌||◌, ◌==◌, if◌then◌else◌, List, [], ◌∷◌, ◌++◌, fold, get_or}
use Rattle.trace_text.specs.declared.trace.Op.{Op}
use Rattle.trace_text.specs.declared.trace.Op.TheVariants.{Alloc, Free, Put, Take}

-- whether a register holds a block behind an operation, by whether it held one before
abbrev pub held_behind : ℕ → Bool → Op → Bool
held_behind k held (Alloc r need v) = r == k || held
held_behind k held (Free r) = if r == k then false else held
held_behind k held (Put r shelf) = if r == k then false else held
held_behind k held (Take r shelf) = r == k || held
held_behind k held operation = held

-- whether a register holds a block after these operations of a lane
unfoldable pub is_held : ℕ → List Op → Bool
is_held k ops = fold (held_behind k) false ops

-- no register holds a block after these operations of a lane
abbrev pub AreFreed : List Op → Type 0
AreFreed ops = (r : ℕ) → is_held r ops ≡ false

-- of the first registers, those that hold a block are freed, rising
unfoldable pub frees_below : ℕ → List Op → List Op
frees_below zero ops = []
frees_below (suc r) ops = frees_below r ops ++ (if is_held r ops then Free r ∷ [] else [])

-- 64 flags tell which of the first registers hold a block
abbrev pub AreTold : List Bool → List Op → Type 0
AreTold flags ops = (r : ℕ) → r < 64 → get_or flags r false ≡ is_held r ops
