-- The word of a shelf.
use Rattle.std.specs.Prelude.{ℕ, ◌+◌, ◌-◌, ◌*◌, ◌/◌, ◌^◌, ◌<◌, ◌==◌, nat_lt, if◌then◌else◌, Option, Some, None, option_map}
use Rattle.heap_geometry.specs.Geometry.{IsWithin}
use Rattle.heap_geometry.specs.declared.limits.TheConstants.{CLASSES, LEAST_UNITS, MAX_UNITS}
use Rattle.heap_geometry.specs.declared.need.Need.{Need}
use Rattle.heap_geometry.specs.declared.need.Need.TheVariants.{Small, Large, TooLarge}
use Rattle.packed_words.specs.declared.shelf.ShelfWord.{ShelfWord}
use Rattle.packed_words.specs.declared.shelf.ShelfWord.TheVariants.{Nothing, Block}
use Rattle.packed_words.specs.declared.shelf.TheConstants.{MAX_ARENA_WORDS, LARGE_CODE}
use Rattle.packed_words.specs.declared.widths.TheConstants.{CODE_BITS}
use Rattle.packed_words.specs.Fields.{bits_at, is_within}

-- blocks serve the need
abbrev pub IsBlockNeed : Need → Type 0
IsBlockNeed (Small class) = class < CLASSES
IsBlockNeed (Large units) = IsWithin LEAST_UNITS MAX_UNITS units
IsBlockNeed TooLarge = ⊥

-- a shelf has nothing, or a place of the arena and a need that blocks serve
abbrev pub IsShelfWord : ShelfWord → Type 0
IsShelfWord Nothing = Unit {0}
IsShelfWord (Block place need) = (place < MAX_ARENA_WORDS) × IsBlockNeed need

-- the code of a need
abbrev pub need_code : Need → ℕ
need_code (Small class) = class
need_code (Large units) = LARGE_CODE + units
need_code TooLarge = LARGE_CODE

-- the need of a code, where there is one
abbrev pub need_of_code : ℕ → Option Need
need_of_code code =
    if nat_lt code CLASSES
    then Some (Small code)
    else
    (if is_within (LARGE_CODE + LEAST_UNITS) (LARGE_CODE + MAX_UNITS) code
    then Some (Large (code - LARGE_CODE))
    else None)

-- the word of a shelf: 0 for nothing, else the need's code, and above it the place plus 1
unfoldable pub shelf_word : ShelfWord → ℕ
shelf_word Nothing = 0
shelf_word (Block place need) = need_code need + (place + 1) * 2 ^ CODE_BITS

-- what a word says, where it is the word of a shelf
unfoldable pub shelf_of : ℕ → Option ShelfWord
shelf_of word =
    let above = word / 2 ^ CODE_BITS in
    if word == 0
    then Some Nothing
    else
    (if is_within 1 MAX_ARENA_WORDS above
    then option_map (Block (above - 1)) (need_of_code (bits_at 0 CODE_BITS word))
    else None)
