-- The anchor word is exact.
use Rattle.std.proofs.Common.{ℕ, zero, suc, subst, ◌≡◌, ◌/◌, ◌%◌, ◌^◌, ◌<◌, List, [], ◌∷◌, Some, arith, refl, ap, ◌∙◌}
use Rattle.packed_words.specs.declared.anchor.AnchorState.{AnchorState}
use Rattle.packed_words.specs.declared.anchor.AnchorState.TheVariants.{Active, Full, Partial, Empty}
use Rattle.packed_words.specs.declared.widths.TheConstants.{AVAIL_BITS, COUNT_BITS, STATE_BITS, TAG_BITS, STATE_AT, TAG_AT}
use Rattle.packed_words.specs.Fields.{IsExact, bits_at, joined, parted}
use Rattle.packed_words.specs.Anchor.{AnchorFields, IsAnchor, anchor_word, anchor_of, state_code, state_of}
use Rattle.packed_words.proofs.ExactLemmas.{exact}

-- the widths of an anchor's fields
abbrev widths : List ℕ
widths = AVAIL_BITS ∷ COUNT_BITS ∷ STATE_BITS ∷ TAG_BITS ∷ []

-- the numbers in an anchor's fields
abbrev numbers : AnchorFields → List ℕ
numbers a = a.avail ∷ a.count ∷ state_code a.state ∷ a.tag ∷ []

-- the code of a state fits its bits
state_code-below : (state : AnchorState) → state_code state < 2 ^ STATE_BITS
state_code-below Active = omega arith
state_code-below Full = omega arith
state_code-below Partial = omega arith
state_code-below Empty = omega arith

-- the state of a state's code is that state
state_of-state_code : (state : AnchorState) → state_of (state_code state) ≡ state
state_of-state_code Active = refl
state_of-state_code Full = refl
state_of-state_code Partial = refl
state_of-state_code Empty = refl

-- the numbers of an anchor, joined, are its word
anchor_word-joined : (a : AnchorFields) → anchor_word a ≡ joined widths (numbers a)
unfolding anchor_word joined
anchor_word-joined a = omega arith

-- the state of a code has that code
state_code-state_of : (code : ℕ) → code < 2 ^ STATE_BITS → state_code (state_of code) ≡ code
state_code-state_of zero below = refl
state_code-state_of (suc zero) below = refl
state_code-state_of (suc (suc zero)) below = refl
state_code-state_of (suc (suc (suc n))) below = omega arith

-- the numbers of a word's anchor are those in its fields
anchor-says : (word : ℕ) → word < 2 ^ 64 → numbers (anchor_of word) ≡ parted widths word
unfolding anchor_of parted
anchor-says word below =
    let code : state_code (state_of (bits_at STATE_AT STATE_BITS word)) ≡ bits_at STATE_AT STATE_BITS word =
    state_code-state_of (bits_at STATE_AT STATE_BITS word) (omega arith) in
    let avail : bits_at 0 AVAIL_BITS word ≡ word % 2 ^ AVAIL_BITS = omega arith in
    let state : bits_at STATE_AT STATE_BITS word ≡ word / 2 ^ AVAIL_BITS / 2 ^ COUNT_BITS % 2 ^ STATE_BITS = omega arith in
    let tag : bits_at TAG_AT TAG_BITS word ≡ word / 2 ^ AVAIL_BITS / 2 ^ COUNT_BITS / 2 ^ STATE_BITS % 2 ^ TAG_BITS = omega arith in
    cc

-- anchors with the same numbers are one
numbers-one : (a b : AnchorFields) → numbers a ≡ numbers b → a ≡ b
numbers-one a b same =
    let state_a : state_of (state_code a.state) ≡ a.state = state_of-state_code a.state in
    let state_b : state_of (state_code b.state) ≡ b.state = state_of-state_code b.state in
    let avail : a.avail ≡ b.avail = cc in
    let count : a.count ≡ b.count = cc in
    let state : a.state ≡ b.state = cc in
    let tag : a.tag ≡ b.tag = cc in
    let made : record { avail = a.avail; count = a.count; state = a.state; tag = a.tag } ≡ b = rw (avail, count, state, tag) refl in
    made

-- a word's anchor keeps its rule
pub IsAnchor-anchor_of : (word : ℕ) → IsAnchor (anchor_of word)
unfolding anchor_of
IsAnchor-anchor_of word = record { avail = omega arith; count = omega arith; tag = omega arith }

-- anchors and their words lead to each other, both ways
pub anchor-exact : IsExact IsAnchor anchor_word (λ word. Some (anchor_of word))
anchor-exact = exact {widths = widths} {numbers = numbers} (record {
  whole = refl;
  fit = λ a is. (is.avail, (is.count, (state_code-below a.state, (is.tag, tt))));
  joins = λ a is. anchor_word-joined a;
  parts = λ word a below is parts. ap Some (numbers-one (anchor_of word) a (anchor-says word below ∙ parts));
  rule = λ word a below says. let same : anchor_of word ≡ a = cc in subst IsAnchor same (IsAnchor-anchor_of word);
  says = λ word a below says. let same : anchor_of word ≡ a = cc in subst (λ (a : AnchorFields). numbers a ≡ parted widths word) same (anchor-says word below);
})

-- an anchor's word has 64 bits
pub anchor_word-below : (a : AnchorFields) → IsAnchor a → anchor_word a < 2 ^ 64
anchor_word-below a is = anchor-exact.fits a is

-- an anchor's word says the anchor
pub anchor_of-anchor_word : (a : AnchorFields) → IsAnchor a → anchor_of (anchor_word a) ≡ a
anchor_of-anchor_word a is = let said : Some (anchor_of (anchor_word a)) ≡ Some a = anchor-exact.back a is in cc

-- the anchor of a word has that word
pub anchor_word-anchor_of : (word : ℕ) → word < 2 ^ 64 → anchor_word (anchor_of word) ≡ word
anchor_word-anchor_of word below = (anchor-exact.reads word below).1
