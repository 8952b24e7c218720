-- What a block in a caller's hand may keep of its need.
use Rattle.std.specs.Coded.{×_prop, Unit-prop, le_prop}
use Rattle.heap_geometry.specs.declared.need.Need.{Need}
use Rattle.heap_geometry.specs.declared.need.Need.TheVariants.{Small, Large, TooLarge}
use Rattle.heap_geometry.specs.Need.{IsNeed}

-- the rule of a need has at most one proof, so a block in hand may keep one
pub IsNeed-prop : (need : Need) → IsProp (IsNeed need)
IsNeed-prop (Small class) = le_prop
IsNeed-prop (Large units) = ×_prop le_prop le_prop
IsNeed-prop TooLarge = Unit-prop
