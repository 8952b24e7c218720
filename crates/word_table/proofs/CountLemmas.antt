-- How many descriptors and words a heap has at most.
use Rattle.std.proofs.Common.{◌≡◌, ◌+◌, ◌≤◌, arith}
use Rattle.std.proofs.lemmas.Nat.{mul-le}
use Rattle.heap_geometry.specs.declared.geometry.Geometry.{Geometry}
use Rattle.heap_geometry.specs.declared.limits.TheConstants.{MAX_CALLERS}
use Rattle.heap_geometry.specs.Geometry.{IsChecked}
use Rattle.word_table.specs.Counts.{descriptor_count, word_count}
use Rattle.word_table.specs.Table.{groups, words_in}
use Rattle.word_table.specs.declared.limits.TheConstants.{MAX_DESCRIPTORS, MAX_WORDS}

-- no heap has more descriptors than the largest one
pub descriptor_count_within : (g : Geometry) → IsChecked g → descriptor_count g ≤ MAX_DESCRIPTORS
unfolding descriptor_count
descriptor_count_within g h =
    omega (arith, mul-le g.callers (g.callers + 1) MAX_CALLERS (MAX_CALLERS + 1) (omega arith) (omega arith))

-- no heap has more words than the largest one
pub word_count_within : (g : Geometry) → IsChecked g → word_count g ≤ MAX_WORDS
unfolding word_count
word_count_within g h = omega (arith, descriptor_count_within g h)

-- the words of all groups are those of the table
pub words_in-groups : (g : Geometry) → words_in g groups ≡ word_count g
unfolding words_in word_count
words_in-groups g = omega arith
