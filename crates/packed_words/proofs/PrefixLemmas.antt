-- The prefix word of a live block is exact.
use Rattle.std.proofs.Common.{ℕ, ◌≡◌, ◌-◌, ◌/◌, ◌%◌, ◌^◌, ◌<◌, List, [], ◌∷◌, Some, arith, refl}
use Rattle.std.proofs.lemmas.Bool.Decides.{nat_tests}
use Rattle.packed_words.specs.declared.prefix.Prefix.{Prefix}
use Rattle.packed_words.specs.declared.prefix.Prefix.TheVariants.{Small, Large}
use Rattle.packed_words.specs.declared.widths.TheConstants.{KIND_BITS}
use Rattle.packed_words.specs.Fields.{IsExact, Fit, joined, parted}
use Rattle.packed_words.specs.Prefix.{IsPrefix, prefix_word, prefix_of}
use Rattle.packed_words.proofs.ExactLemmas.{exact}

-- the widths of a prefix word's fields: the kind, and what stands above it
abbrev widths : List ℕ
widths = KIND_BITS ∷ (64 - KIND_BITS) ∷ []

-- the numbers in a prefix word's fields
abbrev numbers : Prefix → List ℕ
numbers (Small desc) = 0 ∷ desc ∷ []
numbers (Large units) = 1 ∷ units ∷ []

-- the numbers of a prefix word fit its fields
numbers-Fit : (p : Prefix) → IsPrefix p → Fit widths (numbers p)
numbers-Fit (Small desc) is = (omega arith, (omega arith, tt))
numbers-Fit (Large units) is = (omega arith, (omega arith, tt))

-- the numbers of a prefix, joined, are its word
prefix_word-joined : (p : Prefix) → prefix_word p ≡ joined widths (numbers p)
unfolding prefix_word joined
prefix_word-joined (Small desc) = omega arith
prefix_word-joined (Large units) = omega arith

-- the fields of a prefix word give it back
prefix-parts :
    (word : ℕ) (p : Prefix) → word < 2 ^ 64 → IsPrefix p → parted widths word ≡ numbers p → prefix_of word ≡ Some p
unfolding prefix_of parted
prefix-parts word (Small desc) below is parts =
    let low : word % 2 ^ KIND_BITS ≡ 0 = cc in
    let above : word / 2 ^ KIND_BITS % 2 ^ (64 - KIND_BITS) ≡ desc = cc in
    grind (arith, nat_tests)
prefix-parts word (Large units) below is parts =
    let low : word % 2 ^ KIND_BITS ≡ 1 = cc in
    let above : word / 2 ^ KIND_BITS % 2 ^ (64 - KIND_BITS) ≡ units = cc in
    grind (arith, nat_tests)

-- what a prefix word says keeps its rule
prefix-rule : (word : ℕ) (p : Prefix) → word < 2 ^ 64 → prefix_of word ≡ Some p → IsPrefix p
unfolding prefix_of
prefix-rule word (Small desc) below says = grind (arith, nat_tests)
prefix-rule word (Large units) below says = grind (arith, nat_tests)

-- the numbers of what a prefix word says are those in the word's fields
prefix-says : (word : ℕ) (p : Prefix) → word < 2 ^ 64 → prefix_of word ≡ Some p → numbers p ≡ parted widths word
unfolding prefix_of parted
prefix-says word (Small desc) below says = grind (arith, nat_tests)
prefix-says word (Large units) below says = grind (arith, nat_tests)

-- prefixes and their words lead to each other, both ways
pub prefix-exact : IsExact IsPrefix prefix_word prefix_of
prefix-exact =
    exact {widths = widths} {numbers = numbers}
    (record {
      whole = refl;
      fit = numbers-Fit;
      joins = λ p is. prefix_word-joined p;
      parts = prefix-parts;
      rule = prefix-rule;
      says = prefix-says;
    })
