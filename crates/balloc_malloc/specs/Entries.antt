-- Entries of bundles.
use Rattle.std.specs.Prelude.{ℕ, ◌≡◌, ◌<◌, List, Some, is_some, slice_get, true}
use Rattle.plain_words.specs.declared.plain.PlainWords.{PlainWords}
use Rattle.balloc_malloc.specs.declared.entry.Entry.{Entry}

-- these words, so many from this one on
abbrev pub entry : ℕ → ℕ → PlainWords → Entry
entry first size words = record { first = first; size = size; words = record { mark = record {}; words = Some words } }

-- each of the first entries has words
abbrev pub AreFull : ℕ → List Entry → Type 0
AreFull count entries = (k : ℕ) (x : Entry) → k < count → slice_get entries k ≡ Some x → is_some x.words.words ≡ true
