-- The word of a shelf is exact.
use Rattle.std.proofs.Common.{ℕ, ◌≡◌, ◌+◌, ◌-◌, ◌/◌, ◌%◌, ◌^◌, ◌<◌, List, [], ◌∷◌, Some, arith, refl}
use Rattle.std.proofs.lemmas.Bool.Decides.{nat_tests}
use Rattle.heap_geometry.specs.declared.need.Need.{Need}
use Rattle.heap_geometry.specs.declared.need.Need.TheVariants.{Small, Large, TooLarge}
use Rattle.packed_words.specs.declared.shelf.ShelfWord.{ShelfWord}
use Rattle.packed_words.specs.declared.shelf.ShelfWord.TheVariants.{Nothing, Block}
use Rattle.packed_words.specs.declared.widths.TheConstants.{CODE_BITS}
use Rattle.packed_words.specs.Fields.{IsExact, Fit, joined, parted}
use Rattle.packed_words.specs.Shelf.{IsBlockNeed, IsShelfWord, need_code, need_of_code, shelf_word, shelf_of}
use Rattle.packed_words.proofs.ExactLemmas.{exact}

-- the widths of the fields of a shelf's word: the need's code, and what stands above it
abbrev widths : List ℕ
widths = CODE_BITS ∷ (64 - CODE_BITS) ∷ []

-- the numbers in the fields of a shelf's word
abbrev numbers : ShelfWord → List ℕ
numbers Nothing = 0 ∷ 0 ∷ []
numbers (Block place need) = need_code need ∷ (place + 1) ∷ []

-- the code of a need that blocks serve fits its bits
need_code-below : (need : Need) → IsBlockNeed need → need_code need < 2 ^ CODE_BITS
need_code-below (Small class) is = omega arith
need_code-below (Large units) is = omega arith
need_code-below TooLarge is = elim is [ ]

-- the need of a need's code is that need, where blocks serve it
need_of_code-need_code : (need : Need) → IsBlockNeed need → need_of_code (need_code need) ≡ Some need
need_of_code-need_code (Small class) is = grind (arith, nat_tests)
need_of_code-need_code (Large units) is = grind (arith, nat_tests)
need_of_code-need_code TooLarge is = elim is [ ]

-- what a code says is a need that blocks serve
need_of_code-rule : (code : ℕ) (need : Need) → need_of_code code ≡ Some need → IsBlockNeed need
need_of_code-rule code (Small class) says = grind (arith, nat_tests)
need_of_code-rule code (Large units) says = grind (arith, nat_tests)
need_of_code-rule code TooLarge says = grind (arith, nat_tests)

-- the code of a need that a code says is that code
need_code-need_of_code : (code : ℕ) (need : Need) → need_of_code code ≡ Some need → need_code need ≡ code
need_code-need_of_code code (Small class) says = grind (arith, nat_tests)
need_code-need_of_code code (Large units) says = grind (arith, nat_tests)
need_code-need_of_code code TooLarge says = grind (arith, nat_tests)

-- the numbers of a shelf's word fit its fields
numbers-Fit : (s : ShelfWord) → IsShelfWord s → Fit widths (numbers s)
numbers-Fit Nothing is = (omega arith, (omega arith, tt))
numbers-Fit (Block place need) is = (need_code-below need is.1, (omega arith, tt))

-- the numbers of a shelf's word, joined, are the word
shelf_word-joined : (s : ShelfWord) → shelf_word s ≡ joined widths (numbers s)
unfolding shelf_word joined
shelf_word-joined Nothing = omega arith
shelf_word-joined (Block place need) = omega arith

-- the fields of a shelf's word give it back
shelf-parts :
    (word : ℕ) (s : ShelfWord) → word < 2 ^ 64 → IsShelfWord s → parted widths word ≡ numbers s → shelf_of word ≡ Some s
unfolding shelf_of parted
shelf-parts word Nothing below is parts =
    let low : word % 2 ^ CODE_BITS ≡ 0 = cc in
    let above : word / 2 ^ CODE_BITS % 2 ^ (64 - CODE_BITS) ≡ 0 = cc in
    grind (arith, nat_tests)
shelf-parts word (Block place need) below is parts =
    let low : word % 2 ^ CODE_BITS ≡ need_code need = cc in
    let above : word / 2 ^ CODE_BITS % 2 ^ (64 - CODE_BITS) ≡ place + 1 = cc in
    let same : need_of_code (need_code need) ≡ Some need = need_of_code-need_code need is.1 in
    grind (arith, nat_tests)

-- what a shelf's word says keeps its rule
shelf-rule : (word : ℕ) (s : ShelfWord) → word < 2 ^ 64 → shelf_of word ≡ Some s → IsShelfWord s
unfolding shelf_of
shelf-rule word Nothing below says = tt
shelf-rule word (Block place need) below says = grind (arith, nat_tests, need_of_code-rule)

-- the numbers of what a shelf's word says are those in the word's fields
shelf-says : (word : ℕ) (s : ShelfWord) → word < 2 ^ 64 → shelf_of word ≡ Some s → numbers s ≡ parted widths word
unfolding shelf_of parted
shelf-says word Nothing below says = grind (arith, nat_tests)
shelf-says word (Block place need) below says = grind (arith, nat_tests, need_code-need_of_code)

-- shelves' words lead to what they say and back, both ways
pub shelf-exact : IsExact IsShelfWord shelf_word shelf_of
shelf-exact =
    exact {widths = widths} {numbers = numbers}
    (record {
      whole = refl;
      fit = numbers-Fit;
      joins = λ s is. shelf_word-joined s;
      parts = shelf-parts;
      rule = shelf-rule;
      says = shelf-says;
    })
