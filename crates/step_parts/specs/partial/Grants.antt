-- What a caller grants itself of a partial superblock.
use Rattle.std.specs.Prelude.{ℕ, Bool, true, false, ◌+◌, ◌-◌, nat_lt, min, if◌then◌else◌}
use Rattle.packed_words.specs.declared.anchor.AnchorState.{AnchorState}
use Rattle.packed_words.specs.declared.anchor.AnchorState.TheVariants.{Active, Full, Partial, Empty}
use Rattle.packed_words.specs.Anchor.{AnchorFields}
use Rattle.word_table.specs.declared.limits.TheConstants.{MOST_CREDITS}

-- the blocks that a grant reserves beside the one that is popped, where so many are free
abbrev pub grant_more : ℕ → ℕ
grant_more count = min (count - 1) MOST_CREDITS

-- the state after a grant that reserves so many more
abbrev pub granted_state : ℕ → AnchorState
granted_state more = if nat_lt 0 more then Active else Full

-- the anchor after a grant
abbrev pub granted : AnchorFields → AnchorFields
granted a = record {
  avail = a.avail;
  count = a.count - (grant_more a.count + 1);
  state = granted_state (grant_more a.count);
  tag = a.tag;
}

-- whether all blocks of a superblock are free
abbrev pub is_empty : AnchorState → Bool
is_empty Active = false
is_empty Full = false
is_empty Partial = false
is_empty Empty = true
