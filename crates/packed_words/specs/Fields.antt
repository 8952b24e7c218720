-- Words as fields of bits, one above the other.
use Rattle.std.specs.Prelude.{ℕ, Bool, ◌&&◌, nat_le, ◌+◌, ◌*◌, ◌/◌, ◌%◌, ◌^◌, ◌<◌, ◌≡◌, ◌≢◌, List, [], ◌∷◌, Option, Some, None}

-- the number that stands in so many bits of a word, from one bit on
abbrev pub bits_at : ℕ → ℕ → ℕ → ℕ
bits_at place bits word = word / 2 ^ place % 2 ^ bits

-- whether a number lies between two others, or is one of them
abbrev pub is_within : ℕ → ℕ → ℕ → Bool
is_within low high n = nat_le low n && nat_le n high

-- the word with these numbers in fields of these widths, from the lowest bit on
unfoldable pub joined : List ℕ → List ℕ → ℕ
joined [] values = 0
joined (bits ∷ more) [] = 0
joined (bits ∷ more) (value ∷ rest) = value + joined more rest * 2 ^ bits

-- the numbers that a word has in fields of these widths
unfoldable pub parted : List ℕ → ℕ → List ℕ
parted [] word = []
parted (bits ∷ more) word = word % 2 ^ bits ∷ parted more (word / 2 ^ bits)

-- the numbers are one for each field, and each fits its field's bits
abbrev pub Fit : List ℕ → List ℕ → Type 0
Fit [] [] = Unit {0}
Fit [] (value ∷ rest) = ⊥
Fit (bits ∷ more) [] = ⊥
Fit (bits ∷ more) (value ∷ rest) = (value < 2 ^ bits) × Fit more rest

-- what a word says: a value that keeps its rule and has this word, or nothing, where no such value has it
abbrev pub Reads : {V : Type 0} → (V → Type 0) → (V → ℕ) → ℕ → Option V → Type 0
Reads {V} Is word_of word None = (value : V) → Is value → word_of value ≢ word
Reads Is word_of word (Some value) = Is value × (word_of value ≡ word)

-- a kind of word is exact: values and words lead to each other, and no two values have one word
pub record IsExact {V : Type 0} (Is : V → Type 0) (word_of : V → ℕ) (value_of : ℕ → Option V) : Type 0 where
  pub fits : (value : V) → Is value → word_of value < 2 ^ 64
  pub back : (value : V) → Is value → value_of (word_of value) ≡ Some value
  pub reads : (word : ℕ) → word < 2 ^ 64 → Reads Is word_of word (value_of word)
  pub one_word : (a b : V) → Is a → Is b → word_of a ≡ word_of b → a ≡ b
