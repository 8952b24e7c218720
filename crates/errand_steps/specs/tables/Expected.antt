-- What a caller may expect of a word.
use Rattle.std.specs.Prelude.{ℕ, List, ◌∷◌, []}
use Rattle.packed_words.specs.Active.{active_word}
use Rattle.packed_words.specs.declared.active.ActiveWord.TheVariants.{Null}
use Rattle.word_table.specs.Seats.{SeatFields}
use Rattle.word_table.specs.Sites.{active_name}
use Rattle.word_table.specs.declared.name.WordName.{WordName}
use Rattle.errand_steps.specs.declared.continuation.Continuation.TheVariants as continuation
use Rattle.errand_steps.specs.declared.continuation.Continuation.{Continuation}

-- a word, and the number that a caller expects there, at an exchange or a second load to come
pub record Expected : Type 0 where
  pub word : WordName
  pub value : ℕ

abbrev pub expect : WordName → ℕ → List Expected → List Expected
expect word value rest = record { word = word; value = value } ∷ rest

-- a caller expects no superblock to be the active one: who found that, or took the last credit, does until it offers one
abbrev pub none_active : SeatFields → List Expected
none_active s = expect (active_name s) (active_word Null) []

-- what a caller expects by what waits behind a part: an allocation found no superblock active
abbrev pub continuation_expects : SeatFields → Continuation → List Expected
continuation_expects s (continuation.Alloc words) = none_active s
continuation_expects s (continuation.TakeFrame words d) = none_active s
continuation_expects s (continuation.Look words) = none_active s
continuation_expects s o = []
