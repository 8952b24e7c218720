-- How the steps change an anchor.
use Rattle.std.specs.Prelude.{ℕ, Bool, ◌+◌, ◌-◌, ◌%◌, ◌^◌, ◌==◌, nat_lt, min, if◌then◌else◌}
use Rattle.heap_geometry.specs.Need.{block_count_of}
use Rattle.packed_words.specs.declared.anchor.AnchorState.{AnchorState}
use Rattle.packed_words.specs.declared.anchor.AnchorState.TheVariants.{Active, Full, Partial, Empty}
use Rattle.packed_words.specs.declared.widths.TheConstants.{AVAIL_BITS, COUNT_BITS, TAG_BITS}
use Rattle.packed_words.specs.Anchor.{AnchorFields}
use Rattle.word_table.specs.declared.limits.TheConstants.{MOST_CREDITS}
use Rattle.step_parts.specs.declared.superblock.point.Share.{Share}
use Rattle.step_parts.specs.declared.superblock.point.Share.TheVariants.{Credit, LastCredit, Grant}

-- the free blocks that a pop takes off the count, beside the one that it pops
abbrev pub taken_off : Share → AnchorFields → ℕ
taken_off Credit a = 0
taken_off LastCredit a = min a.count MOST_CREDITS
taken_off (Grant more) a = 0

-- the state after a pop
abbrev pub popped_state : Share → AnchorFields → AnchorState
popped_state Credit a = a.state
popped_state LastCredit a = if a.count == 0 then Full else a.state
popped_state (Grant more) a = a.state

-- the anchor after a pop, whose popped block had this link
abbrev pub popped : Share → AnchorFields → ℕ → AnchorFields
popped share a link = record {
  avail = link;
  count = a.count - taken_off share a;
  state = popped_state share a;
  tag = (a.tag + 1) % 2 ^ TAG_BITS;
}

-- the reserved blocks that wait to be offered after a pop
abbrev pub more_of : Share → AnchorFields → ℕ
more_of Credit a = 0
more_of LastCredit a = min a.count MOST_CREDITS
more_of (Grant more) a = more

-- the anchor after reserved blocks are returned
abbrev pub returned : ℕ → AnchorFields → AnchorFields
returned more a = record { avail = a.avail; count = (a.count + more) % 2 ^ COUNT_BITS; state = Partial; tag = a.tag }

-- whether a push makes the superblock empty: all blocks but one are free
abbrev pub is_last : ℕ → AnchorFields → Bool
is_last class a = a.count + 1 == block_count_of class

-- the state after a push that does not make the superblock empty
abbrev pub pushed_state : AnchorState → AnchorState
pushed_state Active = Active
pushed_state Full = Partial
pushed_state Partial = Partial
pushed_state Empty = Empty

-- the anchor after a push of this block
abbrev pub pushed : ℕ → ℕ → AnchorFields → AnchorFields
pushed class index a =
    if is_last class a
    then record { avail = index % 2 ^ AVAIL_BITS; count = a.count; state = Empty; tag = a.tag }
    else record {
      avail = index % 2 ^ AVAIL_BITS;
      count = (a.count + 1) % 2 ^ COUNT_BITS;
      state = pushed_state a.state;
      tag = a.tag;
    }

-- the credits that a new superblock is installed with
abbrev pub new_credits : ℕ → ℕ
new_credits class = min (block_count_of class - 1) MOST_CREDITS - 1

-- the anchor of a new superblock, whose first block is handed out
abbrev pub new_anchor : ℕ → AnchorFields
new_anchor class = record {
  avail = 1;
  count = (block_count_of class - 1) - (new_credits class + 1);
  state = Active;
  tag = 0;
}

-- the link of a new superblock's block: to the next one, and from the last to the first
abbrev pub new_link : ℕ → ℕ → ℕ
new_link class index = if nat_lt (index + 1) (block_count_of class) then index + 1 else 0
