-- What two threads hand over: a block that begins with a word.
use Rattle.std.specs.Prelude.{ℕ, ◌≡◌, ◌<◌, Some, None, slice_index_or}
use Rattle.heap_geometry.specs.Need.{usable_words}
use Rattle.live_heap.specs.Shelves.{AllowedWords}

-- a block on a shelf has a usable word, and the first one is this
abbrev pub begins_with : ℕ → AllowedWords
begins_with word shelf need contents = (0 < usable_words need) × (slice_index_or contents 0 None ≡ Some word)
