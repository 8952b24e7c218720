-- How a kind of word is shown to be exact, by its fields.
use Rattle.std.proofs.Common.{ℕ, ◌≡◌, ◌<◌, ◌^◌, List, sum, Option, Some, None, refl, ap, ◌∙◌}
use Rattle.packed_words.specs.Fields.{Fit, joined, parted, Reads, IsExact}
use Rattle.packed_words.proofs.FieldsLemmas.{joined-below, parted-joined, joined-parted}

-- a kind of word has these fields
pub record HasFields {V : Type 0} (Is : V → Type 0) (word_of : V → ℕ) (value_of : ℕ → Option V) (widths : List ℕ) (numbers : V → List ℕ) : Type 0 where
  pub whole : sum widths ≡ 64
  pub fit : (value : V) → Is value → Fit widths (numbers value)
  pub joins : (value : V) → Is value → word_of value ≡ joined widths (numbers value)
  pub parts : (word : ℕ) (value : V) → word < 2 ^ 64 → Is value → parted widths word ≡ numbers value → value_of word ≡ Some value
  pub rule : (word : ℕ) (value : V) → word < 2 ^ 64 → value_of word ≡ Some value → Is value
  pub says : (word : ℕ) (value : V) → word < 2 ^ 64 → value_of word ≡ Some value → numbers value ≡ parted widths word

-- the word of a value, where the kind of word has fields, has 64 bits
word-below :
    {V : Type 0} {Is : V → Type 0} {word_of : V → ℕ} {value_of : ℕ → Option V} {widths : List ℕ} {numbers : V → List ℕ}
    → HasFields Is word_of value_of widths numbers → (value : V) → Is value → word_of value < 2 ^ 64
word-below {V} {Is} {word_of} {value_of} {widths} {numbers} h value is =
    rw (h.joins value is) (rw (h.whole) at (joined-below widths (numbers value) (h.fit value is)))

-- a value's word says the value
word-back :
    {V : Type 0} {Is : V → Type 0} {word_of : V → ℕ} {value_of : ℕ → Option V} {widths : List ℕ} {numbers : V → List ℕ}
    → HasFields Is word_of value_of widths numbers → (value : V) → Is value → value_of (word_of value) ≡ Some value
word-back {V} {Is} {word_of} {value_of} {widths} {numbers} h value is =
    h.parts (word_of value) value (word-below h value is) is
    (rw (h.joins value is) (parted-joined widths (numbers value) (h.fit value is)))

-- a value that a word says has that word, and no value has a word that says nothing
word-reads :
    {V : Type 0} {Is : V → Type 0} {word_of : V → ℕ} {value_of : ℕ → Option V} {widths : List ℕ} {numbers : V → List ℕ}
    → HasFields Is word_of value_of widths numbers
    → (word : ℕ) (said : Option V) → word < 2 ^ 64 → value_of word ≡ said → Reads Is word_of word said
word-reads {V} {Is} {word_of} {value_of} {widths} {numbers} h word None below says =
    λ value is same. let back : value_of (word_of value) ≡ Some value = word-back h value is in cc
word-reads {V} {Is} {word_of} {value_of} {widths} {numbers} h word (Some value) below says =
    let is : Is value = h.rule word value below says in
    let whole : word < 2 ^ sum widths = rw (h.whole) below in
    let again : joined widths (parted widths word) ≡ word = joined-parted widths word whole in
    (is, h.joins value is ∙ (ap (joined widths) (h.says word value below says) ∙ again))

-- a kind of word with fields is exact
pub exact :
    {V : Type 0} {Is : V → Type 0} {word_of : V → ℕ} {value_of : ℕ → Option V} {widths : List ℕ} {numbers : V → List ℕ}
    → HasFields Is word_of value_of widths numbers → IsExact Is word_of value_of
exact {V} {Is} {word_of} {value_of} {widths} {numbers} h =
    record {
      fits = word-below h;
      back = word-back h;
      reads = λ word below. word-reads h word (value_of word) below refl;
      one_word =
          λ a b is_a is_b same.
          let back_a : value_of (word_of a) ≡ Some a = word-back h a is_a in
          let back_b : value_of (word_of b) ≡ Some b = word-back h b is_b in
          cc;
    }

-- a word that is a value's says the value
pub back :
    {V : Type 0} {Is : V → Type 0} {word_of : V → ℕ} {value_of : ℕ → Option V}
    → IsExact Is word_of value_of → (word : ℕ) (value : V) → Is value → word ≡ word_of value → value_of word ≡ Some value
back {V} {Is} {word_of} {value_of} h word value is same = rw same (h.back value is)

-- a word of an exact kind reads as what it says
pub reads :
    {V : Type 0} {Is : V → Type 0} {word_of : V → ℕ} {value_of : ℕ → Option V}
    → IsExact Is word_of value_of → (word : ℕ) (said : Option V) → word < 2 ^ 64 → said ≡ value_of word → Reads Is word_of word said
reads {V} {Is} {word_of} {value_of} h word said below says = rw says (h.reads word below)
