-- The prefix word of a block.
use Rattle.std.specs.Prelude.{ℕ, ◌+◌, ◌*◌, ◌/◌, ◌^◌, ◌<◌, ◌==◌, ◌&&◌, nat_lt, if◌then◌else◌, Option, Some, None}
use Rattle.heap_geometry.specs.Geometry.{IsWithin}
use Rattle.heap_geometry.specs.declared.limits.TheConstants.{MAX_UNITS}
use Rattle.packed_words.specs.declared.prefix.Prefix.{Prefix}
use Rattle.packed_words.specs.declared.prefix.Prefix.TheVariants.{Small, Large}
use Rattle.packed_words.specs.declared.widths.TheConstants.{AVAIL_BITS, KIND_BITS, DESC_BITS}
use Rattle.packed_words.specs.Fields.{bits_at, is_within}

-- a prefix has a descriptor that fits its bits, or units that a heap has
abbrev pub IsPrefix : Prefix → Type 0
IsPrefix (Small desc) = desc < 2 ^ DESC_BITS
IsPrefix (Large units) = IsWithin 1 MAX_UNITS units

-- the word of a prefix: even for a small block, odd for a large one
unfoldable pub prefix_word : Prefix → ℕ
prefix_word (Small desc) = 0 + desc * 2 ^ KIND_BITS
prefix_word (Large units) = 1 + units * 2 ^ KIND_BITS

-- what a word says, where it is the prefix of a live block
unfoldable pub prefix_of : ℕ → Option Prefix
prefix_of word =
    let kind = bits_at 0 KIND_BITS word in
    let above = word / 2 ^ KIND_BITS in
    if kind == 0 && nat_lt above (2 ^ DESC_BITS)
    then Some (Small above)
    else (if kind == 1 && is_within 1 MAX_UNITS above then Some (Large above) else None)

-- the link in the prefix word of a free block: the index of the next one
abbrev pub link_of : ℕ → ℕ
link_of word = bits_at 0 AVAIL_BITS word
