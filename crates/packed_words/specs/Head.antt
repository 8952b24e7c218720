-- The head of a tagged stack.
use Rattle.std.specs.Prelude.{ℕ, ◌+◌, ◌*◌, ◌^◌, ◌<◌}
use Rattle.packed_words.specs.declared.widths.TheConstants.{TOP_BITS, HEAD_TAG_BITS}
use Rattle.packed_words.specs.Fields.{bits_at}

-- what a head says: 0 or the index on top plus 1, and the tag
pub record HeadFields : Type 0 where
  pub top : ℕ
  pub tag : ℕ

-- each number of a head fits its bits
pub record IsHead (h : HeadFields) : Type 0 where
  pub top : h.top < 2 ^ TOP_BITS
  pub tag : h.tag < 2 ^ HEAD_TAG_BITS

-- the word of a head
unfoldable pub head_word : HeadFields → ℕ
head_word h = h.top + h.tag * 2 ^ TOP_BITS

-- the head of a word
unfoldable pub head_of : ℕ → HeadFields
head_of word = record { top = bits_at 0 TOP_BITS word; tag = bits_at TOP_BITS HEAD_TAG_BITS word }
