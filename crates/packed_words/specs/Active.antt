-- The active word of a processor heap.
use Rattle.std.specs.Prelude.{ℕ, ◌+◌, ◌-◌, ◌*◌, ◌/◌, ◌^◌, ◌<◌, ◌==◌, if◌then◌else◌, Option, Some, None}
use Rattle.packed_words.specs.declared.active.ActiveWord.{ActiveWord}
use Rattle.packed_words.specs.declared.active.ActiveWord.TheVariants.{Null, Held}
use Rattle.packed_words.specs.declared.widths.TheConstants.{CREDIT_BITS, DESC_BITS}
use Rattle.packed_words.specs.Fields.{bits_at, is_within}

-- the descriptor and the credits of an active word fit their bits
abbrev pub IsActiveWord : ActiveWord → Type 0
IsActiveWord Null = Unit {0}
IsActiveWord (Held desc credits) = (desc < 2 ^ DESC_BITS) × (credits < 2 ^ CREDIT_BITS)

-- the word that says an active word: 0 for null, else the credits, and above them the descriptor plus 1
unfoldable pub active_word : ActiveWord → ℕ
active_word Null = 0
active_word (Held desc credits) = credits + (desc + 1) * 2 ^ CREDIT_BITS

-- what a word says, where it is an active word
unfoldable pub active_of : ℕ → Option ActiveWord
active_of word =
    let above = word / 2 ^ CREDIT_BITS in
    if word == 0
    then Some Null
    else
    (if is_within 1 (2 ^ DESC_BITS) above
    then Some (Held (above - 1) (bits_at 0 CREDIT_BITS word))
    else None)
