-- The active word is exact.
use Rattle.std.proofs.Common.{ℕ, ◌≡◌, ◌+◌, ◌-◌, ◌/◌, ◌%◌, ◌^◌, ◌<◌, List, [], ◌∷◌, Some, arith, refl}
use Rattle.std.proofs.lemmas.Bool.Decides.{nat_tests}
use Rattle.packed_words.specs.declared.active.ActiveWord.{ActiveWord}
use Rattle.packed_words.specs.declared.active.ActiveWord.TheVariants.{Null, Held}
use Rattle.packed_words.specs.declared.widths.TheConstants.{CREDIT_BITS}
use Rattle.packed_words.specs.Fields.{IsExact, Fit, joined, parted}
use Rattle.packed_words.specs.Active.{IsActiveWord, active_word, active_of}
use Rattle.packed_words.proofs.ExactLemmas.{exact}

-- the widths of an active word's fields: the credits, and what stands above them
abbrev widths : List ℕ
widths = CREDIT_BITS ∷ (64 - CREDIT_BITS) ∷ []

-- the numbers in an active word's fields
abbrev numbers : ActiveWord → List ℕ
numbers Null = 0 ∷ 0 ∷ []
numbers (Held desc credits) = credits ∷ (desc + 1) ∷ []

-- the numbers of an active word fit its fields
numbers-Fit : (a : ActiveWord) → IsActiveWord a → Fit widths (numbers a)
numbers-Fit Null is = (omega arith, (omega arith, tt))
numbers-Fit (Held desc credits) is = (omega arith, (omega arith, tt))

-- the numbers of an active word, joined, are its word
active_word-joined : (a : ActiveWord) → active_word a ≡ joined widths (numbers a)
unfolding active_word joined
active_word-joined Null = omega arith
active_word-joined (Held desc credits) = omega arith

-- the fields of an active word give it back
active-parts :
    (word : ℕ) (a : ActiveWord) → word < 2 ^ 64 → IsActiveWord a → parted widths word ≡ numbers a → active_of word ≡ Some a
unfolding active_of parted
active-parts word Null below is parts =
    let low : word % 2 ^ CREDIT_BITS ≡ 0 = cc in
    let above : word / 2 ^ CREDIT_BITS % 2 ^ (64 - CREDIT_BITS) ≡ 0 = cc in
    grind (arith, nat_tests)
active-parts word (Held desc credits) below is parts =
    let low : word % 2 ^ CREDIT_BITS ≡ credits = cc in
    let above : word / 2 ^ CREDIT_BITS % 2 ^ (64 - CREDIT_BITS) ≡ desc + 1 = cc in
    grind (arith, nat_tests)

-- what an active word says keeps its rule
active-rule : (word : ℕ) (a : ActiveWord) → word < 2 ^ 64 → active_of word ≡ Some a → IsActiveWord a
unfolding active_of
active-rule word Null below says = tt
active-rule word (Held desc credits) below says = grind (arith, nat_tests)

-- the numbers of what an active word says are those in the word's fields
active-says : (word : ℕ) (a : ActiveWord) → word < 2 ^ 64 → active_of word ≡ Some a → numbers a ≡ parted widths word
unfolding active_of parted
active-says word Null below says = grind (arith, nat_tests)
active-says word (Held desc credits) below says = grind (arith, nat_tests)

-- active words lead to what they say and back, both ways
pub active-exact : IsExact IsActiveWord active_word active_of
active-exact =
    exact {widths = widths} {numbers = numbers}
    (record {
      whole = refl;
      fit = numbers-Fit;
      joins = λ a is. active_word-joined a;
      parts = active-parts;
      rule = active-rule;
      says = active-says;
    })
