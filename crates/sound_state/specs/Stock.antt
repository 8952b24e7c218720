-- How many descriptors are out for a class.
use Rattle.std.specs.Prelude.{ℕ, ◌<◌, ◌≤◌, ◌+◌, ◌*◌, ◌==◌, ◌&&◌, if◌then◌else◌, List, [], ◌∷◌, length}
use Rattle.heap_geometry.specs.declared.geometry.Geometry.{Geometry}
use Rattle.heap_geometry.specs.declared.limits.TheConstants.{CLASSES}
use Rattle.word_table.specs.declared.name.WordName.{WordName}
use Rattle.word_table.specs.declared.name.WordName.TheVariants as name
use Rattle.word_table.specs.Counts.{descriptor_count}
use Rattle.errand_steps.specs.declared.point.Point.{Point}
use Rattle.errand_steps.specs.declared.point.Point.TheVariants as point
use Rattle.errand_steps.specs.Errands.{ErrandFields}
use Rattle.errand_steps.specs.Steps.{State}
use Rattle.errand_steps.specs.tables.Holding.{Kept}
use Rattle.sound_state.specs.Holdings.{holds_of}
use Rattle.sound_state.specs.Keepers.{full_keeps}
use Rattle.sound_state.specs.Lists.{Lists}
use Rattle.sound_state.specs.Sums.{sum_below, words_sum, callers_sum}
use Rattle.sound_state.specs.Superblocks.{anchor_for, info_for}
use Rattle.errand_steps.specs.tables.Descs.{waits_in_desc}

-- 1 where an active word or a slot of the class holds a descriptor
abbrev pub word_stock : ℕ → WordName → ℕ → ℕ
word_stock class (name.Active heap c) word = if (c == class) && (word == 0) then 0 else (if c == class then 1 else 0)
word_stock class (name.Slot heap c) word = if (c == class) && (word == 0) then 0 else (if c == class then 1 else 0)
word_stock class other word = 0

-- how many descriptors a caller keeps for the class
abbrev pub stock_among : ℕ → List Kept → ℕ
stock_among class [] = 0
stock_among class (k ∷ rest) = (if k.class == class then 1 else 0) + stock_among class rest

abbrev pub waits_in : ℕ → Point → ℕ
waits_in class (point.Desc p o) = waits_in_desc class p
waits_in class p = 0

-- the same, and with how many descriptors the caller keeps for the class
abbrev pub errand_stock : ℕ → ErrandFields → ℕ
errand_stock class e = stock_among class (holds_of e.point).kept + waits_in class e.point

-- 1 where the superblock of d is FULL and of the class
abbrev pub full_stock : State → ℕ → ℕ → ℕ
full_stock s class d = if (info_for s d).class == class then full_keeps (anchor_for s d).state else 0

-- how many descriptors are out for the class, and callers that wait for one
abbrev pub stock_of : Geometry → State → Lists → ℕ → ℕ
stock_of g s l class =
    words_sum g (word_stock class) s.word + length (l.partials class) + callers_sum g (errand_stock class) s.errand
    + sum_below (descriptor_count g) (full_stock s class)

-- no class has more descriptors out, and callers that wait for one, than frames, heaps and twice the callers
pub record IsStocked (g : Geometry) (s : State) (l : Lists) : Type 0 where
  pub most : (class : ℕ) → class < CLASSES → stock_of g s l class ≤ g.frames + g.heaps + 2 * g.callers
