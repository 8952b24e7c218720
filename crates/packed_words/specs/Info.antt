-- What a descriptor says of its superblock.
use Rattle.std.specs.Prelude.{ℕ, ◌+◌, ◌*◌, ◌/◌, ◌^◌, ◌<◌, ◌&&◌, nat_lt, if◌then◌else◌, Option, Some, None}
use Rattle.heap_geometry.specs.declared.limits.TheConstants.{MAX_FRAMES, MAX_HEAPS, CLASSES}
use Rattle.packed_words.specs.declared.widths.TheConstants.{FRAME_BITS, HEAP_BITS, HEAP_AT, CLASS_AT}
use Rattle.packed_words.specs.Fields.{bits_at}

-- the frame that a superblock fills, its processor heap and its class
pub record InfoFields : Type 0 where
  pub frame : ℕ
  pub heap : ℕ
  pub class : ℕ

-- each number of a descriptor's word is within the limits of a heap
pub record IsInfo (i : InfoFields) : Type 0 where
  pub frame : i.frame < MAX_FRAMES
  pub heap : i.heap < MAX_HEAPS
  pub class : i.class < CLASSES

-- the word of a descriptor, which says the frame, the processor heap and the class of its superblock
unfoldable pub info_word : InfoFields → ℕ
info_word i = i.frame + i.heap * 2 ^ HEAP_AT + i.class * 2 ^ CLASS_AT

-- what a descriptor's word says, where all of it is within the limits of a heap
unfoldable pub info_of : ℕ → Option InfoFields
info_of word =
    let frame = bits_at 0 FRAME_BITS word in
    let heap = bits_at HEAP_AT HEAP_BITS word in
    let class = word / 2 ^ CLASS_AT in
    if nat_lt frame MAX_FRAMES && nat_lt heap MAX_HEAPS && nat_lt class CLASSES
    then Some (record { frame = frame; heap = heap; class = class })
    else None
