-- What a grant leaves.
use Rattle.std.proofs.Common.{ℕ, ◌≡◌, ◌+◌, ◌<◌, ◌≤◌, arith}
use Rattle.packed_words.specs.Anchor.{AnchorFields}
use Rattle.word_table.specs.declared.limits.TheConstants.{MOST_CREDITS}
use Rattle.step_parts.specs.partial.Grants.{grant_more, granted}

-- a grant takes what it reserves off the count
pub granted-count : (a : AnchorFields) → 0 < a.count → (granted a).count + (grant_more a.count + 1) ≡ a.count
granted-count a some = omega arith

-- an active word can offer what it reserves beside the block that is popped
pub grant_more-within : (count : ℕ) → grant_more count ≤ MOST_CREDITS
grant_more-within count = omega arith
