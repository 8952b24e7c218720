-- What an operation with its outcome does to the blocks of its lane.
use Rattle.std.specs.Prelude.{ℕ, List, Option, Some, None, slice_set}
use Rattle.std.specs.Option.{option_map}
use Rattle.heap_geometry.specs.declared.need.Need.{Need}
use Rattle.heap_geometry.specs.Need.{need_of}
use Rattle.trace_text.specs.declared.trace.Op.{Op}
use Rattle.trace_text.specs.declared.trace.Op.TheVariants as op
use Rattle.lane_outcomes.specs.declared.registers.HeldBlock.{HeldBlock}
use Rattle.lane_outcomes.specs.declared.outcome.Outcome.{Outcome}
use Rattle.lane_outcomes.specs.declared.outcome.Outcome.TheVariants as outcome

-- a block is given for a need and filled from v on, or given in place of the register's block, which is freed; the allocation of a need is refused, or
-- finds no turn left; the register's block is freed, or laid on a shelf; one is taken from a shelf; or each block stays where it is
pub data Deed : Type 0 where
  gives : (need v words place : ℕ) → Deed
  replaces : (need words place : ℕ) → Deed
  refuses : (need : ℕ) → Deed
  spends : (need : ℕ) → Deed
  frees : Deed
  lays : Deed
  takes : (words place : ℕ) → (need : Need) → Deed
  stays : Deed

abbrev pub deed_of : Op → Outcome → Deed
deed_of (op.Alloc r need v) (outcome.Given words place) = gives need v words place
deed_of (op.Alloc r need v) outcome.Refused = refuses need
deed_of (op.Alloc r need v) outcome.Spent = spends need
deed_of (op.Resize r need) (outcome.Resized words place) = replaces need words place
deed_of (op.Resize r need) outcome.Refused = refuses need
deed_of (op.Resize r need) outcome.Spent = spends need
deed_of (op.Free r) outcome.Freed = frees
deed_of (op.Put r shelf) outcome.Put = lays
deed_of (op.Take r shelf) (outcome.Took words place need) = takes words place need
deed_of operation result = stays

-- the registers behind it
abbrev pub registers_by : List (Option HeldBlock) → ℕ → Deed → List (Option HeldBlock)
registers_by registers r (gives need v words place) = slice_set registers r (Some (record { place = place; words = words; need = need_of need }))
registers_by registers r (replaces need words place) = slice_set registers r (Some (record { place = place; words = words; need = need_of need }))
registers_by registers r (takes words place need) = slice_set registers r (Some (record { place = place; words = words; need = need }))
registers_by registers r frees = slice_set registers r None
registers_by registers r lays = slice_set registers r None
registers_by registers r done = registers

-- the words of the block that was given, and of the one that was freed, where the register held this
abbrev pub given_by : Deed → Option ℕ
given_by (gives need v words place) = Some words
given_by (replaces need words place) = Some words
given_by done = None

abbrev pub freed_by : Option HeldBlock → Deed → Option ℕ
freed_by held (replaces need words place) = option_map (λ block. block.words) held
freed_by held frees = option_map (λ block. block.words) held
freed_by held done = None
