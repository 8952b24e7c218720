-- What the words end as, once a `&mut` slice of them has ended.
use Rattle.std.specs.Prelude.{ℕ, List, length}
use Rattle.std.specs.Borrow.{Fml, MutBor, Array, Lends, u64}
use Rattle.std.specs.List.{refill}
use Rattle.plain_words.specs.Places.{laids, numbers}
use Rattle.plain_words.specs.declared.plain.PlainWords.{PlainWords}
use Rattle.plain_words.specs.contracts.plain.PlainWords.{the_row}

-- as many words, laid with ws
abbrev pub with_words : PlainWords → List ℕ → PlainWords
with_words w ws = record { mark = w.mark; at = w.at; first = w.first; places = laids (refill (length w.places) (numbers w.places) ws) }

abbrev pub lends_words : MutBor PlainWords → MutBor (List ℕ) → Fml
lends_words w r = Lends the_row (Array u64 0) w r (with_words w.now)
