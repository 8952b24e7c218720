-- What a descriptor says of its superblock is exact.
use Rattle.std.proofs.Common.{ℕ, ◌≡◌, ◌-◌, ◌/◌, ◌%◌, ◌^◌, ◌<◌, List, [], ◌∷◌, Some, arith, refl}
use Rattle.std.proofs.lemmas.Bool.Decides.{nat_tests}
use Rattle.packed_words.specs.declared.widths.TheConstants.{FRAME_BITS, HEAP_BITS, CLASS_AT}
use Rattle.packed_words.specs.Fields.{IsExact, Fit, joined, parted}
use Rattle.packed_words.specs.Info.{InfoFields, IsInfo, info_word, info_of}
use Rattle.packed_words.proofs.ExactLemmas.{exact}

-- the widths of the fields of a descriptor's word: the frame, the heap, and the class with all bits above it
abbrev widths : List ℕ
widths = FRAME_BITS ∷ HEAP_BITS ∷ (64 - CLASS_AT) ∷ []

-- the numbers in the fields of a descriptor's word
abbrev numbers : InfoFields → List ℕ
numbers i = i.frame ∷ i.heap ∷ i.class ∷ []

-- the numbers of a descriptor's word fit its fields
numbers-Fit : (i : InfoFields) → IsInfo i → Fit widths (numbers i)
numbers-Fit i is = (omega arith, (omega arith, (omega arith, tt)))

-- the numbers of a descriptor's word, joined, are the word
info_word-joined : (i : InfoFields) → info_word i ≡ joined widths (numbers i)
unfolding info_word joined
info_word-joined i = omega arith

-- the fields of a descriptor's word give it back
info-parts :
    (word : ℕ) (i : InfoFields) → word < 2 ^ 64 → IsInfo i → parted widths word ≡ numbers i → info_of word ≡ Some i
unfolding info_of parted
info-parts word i below is parts =
    let frame : word % 2 ^ FRAME_BITS ≡ i.frame = cc in
    let heap : word / 2 ^ FRAME_BITS % 2 ^ HEAP_BITS ≡ i.heap = cc in
    let class : word / 2 ^ FRAME_BITS / 2 ^ HEAP_BITS % 2 ^ (64 - CLASS_AT) ≡ i.class = cc in
    grind (arith, nat_tests)

-- what a descriptor's word says keeps its rule
info-rule : (word : ℕ) (i : InfoFields) → word < 2 ^ 64 → info_of word ≡ Some i → IsInfo i
unfolding info_of
info-rule word i below says = grind (arith, nat_tests)

-- the numbers of what a descriptor's word says are those in the word's fields
info-says : (word : ℕ) (i : InfoFields) → word < 2 ^ 64 → info_of word ≡ Some i → numbers i ≡ parted widths word
unfolding info_of parted
info-says word i below says = grind (arith, nat_tests)

-- descriptors' words lead to what they say and back, both ways
pub info-exact : IsExact IsInfo info_word info_of
info-exact =
    exact {widths = widths} {numbers = numbers}
    (record {
      whole = refl;
      fit = numbers-Fit;
      joins = λ i is. info_word-joined i;
      parts = info-parts;
      rule = info-rule;
      says = info-says;
    })
