-- The head of a stack is exact.
use Rattle.std.proofs.Common.{ℕ, ◌≡◌, ◌%◌, ◌^◌, ◌<◌, List, [], ◌∷◌, Some, arith, refl, ap, subst, ◌∙◌}
use Rattle.packed_words.specs.declared.widths.TheConstants.{TOP_BITS, HEAD_TAG_BITS}
use Rattle.packed_words.specs.Fields.{IsExact, bits_at, joined, parted}
use Rattle.packed_words.specs.Head.{HeadFields, IsHead, head_word, head_of}
use Rattle.packed_words.proofs.ExactLemmas.{exact}

-- the widths of a head's fields
abbrev widths : List ℕ
widths = TOP_BITS ∷ HEAD_TAG_BITS ∷ []

-- the numbers in a head's fields
abbrev numbers : HeadFields → List ℕ
numbers h = h.top ∷ h.tag ∷ []

-- the numbers of a head, joined, are its word
head_word-joined : (h : HeadFields) → head_word h ≡ joined widths (numbers h)
unfolding head_word joined
head_word-joined h = omega arith

-- the numbers of a word's head are those in its fields
head-says : (word : ℕ) → numbers (head_of word) ≡ parted widths word
unfolding head_of parted
head-says word =
    let top : bits_at 0 TOP_BITS word ≡ word % 2 ^ TOP_BITS = omega arith in cc

-- heads with the same numbers are one
numbers-one : (g h : HeadFields) → numbers g ≡ numbers h → g ≡ h
numbers-one g h same =
    let top : g.top ≡ h.top = cc in
    let tag : g.tag ≡ h.tag = cc in
    let made : record { top = g.top; tag = g.tag } ≡ h = rw (top, tag) refl in
    made

-- a word's head keeps its rule
pub IsHead-head_of : (word : ℕ) → IsHead (head_of word)
unfolding head_of
IsHead-head_of word = record { top = omega arith; tag = omega arith }

-- heads and their words lead to each other, both ways
pub head-exact : IsExact IsHead head_word (λ word. Some (head_of word))
head-exact =
    exact {widths = widths} {numbers = numbers}
    (record {
      whole = refl;
      fit = λ h is. (is.top, (is.tag, tt));
      joins = λ h is. head_word-joined h;
      parts = λ word h below is parts. ap Some (numbers-one (head_of word) h (head-says word ∙ parts));
      rule = λ word h below says. let same : head_of word ≡ h = cc in subst IsHead same (IsHead-head_of word);
      says =
          λ word h below says.
          let same : head_of word ≡ h = cc in subst (λ (h : HeadFields). numbers h ≡ parted widths word) same (head-says word);
    })

-- a head's word has 64 bits
pub head_word-below : (h : HeadFields) → IsHead h → head_word h < 2 ^ 64
head_word-below h is = head-exact.fits h is

-- a head's word says the head
pub head_of-head_word : (h : HeadFields) → IsHead h → head_of (head_word h) ≡ h
head_of-head_word h is = let said : Some (head_of (head_word h)) ≡ Some h = head-exact.back h is in cc

-- the head of a word has that word
pub head_word-head_of : (word : ℕ) → word < 2 ^ 64 → head_word (head_of word) ≡ word
head_word-head_of word below = (head-exact.reads word below).1
