-- The anchor word of a superblock.
use Rattle.std.specs.Prelude.{ℕ, zero, suc, ◌+◌, ◌*◌, ◌^◌, ◌<◌}
use Rattle.packed_words.specs.declared.anchor.AnchorState.{AnchorState}
use Rattle.packed_words.specs.declared.anchor.AnchorState.TheVariants.{Active, Full, Partial, Empty}
use Rattle.packed_words.specs.declared.widths.TheConstants.{AVAIL_BITS, COUNT_BITS, STATE_BITS, TAG_BITS, COUNT_AT, STATE_AT, TAG_AT}
use Rattle.packed_words.specs.Fields.{bits_at}

-- what an anchor says
pub record AnchorFields : Type 0 where
  pub avail : ℕ
  pub count : ℕ
  pub state : AnchorState
  pub tag : ℕ

-- each number of an anchor fits its bits
pub record IsAnchor (a : AnchorFields) : Type 0 where
  pub avail : a.avail < 2 ^ AVAIL_BITS
  pub count : a.count < 2 ^ COUNT_BITS
  pub tag : a.tag < 2 ^ TAG_BITS

-- the code of a state
abbrev pub state_code : AnchorState → ℕ
state_code Active = 0
state_code Full = 1
state_code Partial = 2
state_code Empty = 3

-- the state of a code
abbrev pub state_of : ℕ → AnchorState
state_of zero = Active
state_of (suc zero) = Full
state_of (suc (suc zero)) = Partial
state_of (suc (suc (suc n))) = Empty

-- the word of an anchor
unfoldable pub anchor_word : AnchorFields → ℕ
anchor_word a = a.avail + a.count * 2 ^ COUNT_AT + state_code a.state * 2 ^ STATE_AT + a.tag * 2 ^ TAG_AT

-- the anchor of a word
unfoldable pub anchor_of : ℕ → AnchorFields
anchor_of word = record {
  avail = bits_at 0 AVAIL_BITS word;
  count = bits_at COUNT_AT COUNT_BITS word;
  state = state_of (bits_at STATE_AT STATE_BITS word);
  tag = bits_at TAG_AT TAG_BITS word;
}
