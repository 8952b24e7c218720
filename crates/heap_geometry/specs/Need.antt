-- Which blocks serve an allocation.
use Rattle.std.specs.Prelude.{ℕ, zero, suc, Bool, ◌+◌, ◌-◌, ◌*◌, ◌/◌, ◌^◌, ◌<◌, ◌≤◌, nat_le, if◌then◌else◌}
use Rattle.heap_geometry.specs.declared.need.Need.{Need}
use Rattle.heap_geometry.specs.declared.need.Need.TheVariants.{Small, Large, TooLarge}
use Rattle.heap_geometry.specs.declared.limits.TheConstants.{FRAME_WORDS, UNIT_WORDS, CLASSES, SMALL_MOST, LARGE_MOST, LEAST_UNITS, MAX_UNITS}

-- the words of a block of a class, its prefix word among them
abbrev pub block_words_of : ℕ → ℕ
block_words_of class = 2 ^ (class + 1)

-- how many blocks of a class fill a frame
abbrev pub block_count_of : ℕ → ℕ
block_count_of class = FRAME_WORDS / block_words_of class

-- the usable words of a block of a class
abbrev pub class_words : ℕ → ℕ
class_words class = block_words_of class - 1

-- the usable words of a run of units
abbrev pub run_words : ℕ → ℕ
run_words units = UNIT_WORDS * units - 1

-- the usable words of a block
abbrev pub usable_words : Need → ℕ
usable_words (Small class) = class_words class
usable_words (Large units) = run_words units
usable_words TooLarge = 0

-- the class of a need, or its number of units, is in range
abbrev pub IsNeed : Need → Type 0
IsNeed (Small class) = class < CLASSES
IsNeed (Large units) = (LEAST_UNITS ≤ units) × (units ≤ MAX_UNITS)
IsNeed TooLarge = Unit {0}

-- k is the least number whose words are enough for a need
pub record IsLeastFor (words : ℕ → ℕ) (need k : ℕ) : Type 0 where
  pub enough : need ≤ words k
  pub least : (j : ℕ) → need ≤ words j → k ≤ j

-- a need of so many usable words: the least class, else the least run of units, with enough of them serves it; or it is too large
abbrev pub IsNeedOf : ℕ → Need → Type 0
IsNeedOf need (Small class) = (need ≤ SMALL_MOST) × IsLeastFor class_words need class
IsNeedOf need (Large units) = (SMALL_MOST < need) × (need ≤ LARGE_MOST) × IsLeastFor run_words need units
IsNeedOf need TooLarge = LARGE_MOST < need

-- the least number that passes a test, of those below a bound; the bound where none does
unfoldable pub least : ℕ → (ℕ → Bool) → ℕ
least zero test = 0
least (suc bound) test = if test 0 then 0 else suc (least bound (λ k. test (suc k)))

-- the blocks that serve so many usable words
unfoldable pub need_of : ℕ → Need
need_of need =
    if nat_le need SMALL_MOST
    then Small (least CLASSES (λ class. nat_le need (class_words class)))
    else
    (if nat_le need LARGE_MOST
    then Large (least (suc MAX_UNITS) (λ units. nat_le need (run_words units)))
    else TooLarge)
