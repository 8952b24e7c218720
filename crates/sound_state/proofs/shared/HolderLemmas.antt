-- Weights that only the words which hold a superblock have.
use Rattle.std.proofs.Common.{ℕ, Bool, true, false, ◌≡◌, ◌≢◌, Some, refl, arith}
use Rattle.sound_state.proofs.Common.{Geometry, Null, active_of, WordName, Exists, word_keeps, word_stock, words_sum, word_reserves}
use Rattle.word_table.specs.declared.name.WordName.TheVariants as name
use Rattle.sound_state.proofs.shared.SumLemmas.{words-none, words-one}

-- whether a word is an active word or a slot, and so may hold a superblock
abbrev pub is_holder : WordName → Bool
is_holder (name.Active heap class) = true
is_holder (name.Slot heap class) = true
is_holder m = false

-- a weight that only active words and slots have, and none of them where it is 0
pub record IsHolderWeight (weight : WordName → ℕ → ℕ) : Type 0 where
  pub zero : (m : WordName) → weight m 0 ≡ 0
  pub elsewhere : (m : WordName) (w : ℕ) → is_holder m ≡ false → weight m w ≡ 0

-- a word that holds nothing weighs nothing, whether active word, slot or another one
holder-none :
    (weight : WordName → ℕ → ℕ) (words : WordName → ℕ) (m : WordName) → IsHolderWeight weight
    → (is_holder m ≡ true → words m ≡ 0) → weight m (words m) ≡ 0
holder-none weight words m h none = grind (arith, h, none)

-- words that hold no superblock weigh nothing
pub holders-none :
    (g : Geometry) (weight : WordName → ℕ → ℕ) (words : WordName → ℕ) → IsHolderWeight weight
    → ((m : WordName) → is_holder m ≡ true → words m ≡ 0) → words_sum g weight words ≡ 0
holders-none g weight words h none = words-none g weight words (λ m. holder-none weight words m h (none m))

-- words of which one alone holds a superblock weigh together what that one does
pub holders-one :
    (g : Geometry) (weight : WordName → ℕ → ℕ) (words : WordName → ℕ) (n : WordName) → IsHolderWeight weight → Exists g n
    → ((m : WordName) → m ≢ n → is_holder m ≡ true → words m ≡ 0) → words_sum g weight words ≡ weight n (words n)
holders-one g weight words n h has none =
    words-one g weight words n has (λ m other. holder-none weight words m h (none m other))

pub zero-active : active_of 0 ≡ Some Null
unfolding active_of
zero-active = refl

-- the weights of what keeps a descriptor, of what reserves its blocks and of what is out for a class are those of holders
pub keeps-holder : (d : ℕ) → IsHolderWeight (word_keeps d)
keeps-holder d = grind (arith, zero-active)

pub reserves-holder : (d : ℕ) → IsHolderWeight (word_reserves d)
reserves-holder d = grind (arith, zero-active)

pub stock-holder : (class : ℕ) → IsHolderWeight (word_stock class)
stock-holder class = record { zero = λ m. grind (arith); elsewhere = λ m w other. grind (arith) }
