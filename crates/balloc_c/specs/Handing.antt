-- Words that go to C by a bare pointer, and come back.
use Rattle.std.specs.Prelude.{Option, Some, None}
use base.Fml.{Fml, ftrue, fex}
use Rattle.plain_words.specs.declared.plain.PlainWords.{PlainWords}
use Rattle.plain_words.specs.Owned.{plain_owns}

-- what whoever has these words owns
abbrev pub words_own : Option PlainWords → Fml
words_own (Some words) = plain_owns words.at words.first words.places
words_own None = ftrue

-- words of which this is so, or none, are C's
abbrev pub handed : (Option PlainWords → Type 0) → Fml
handed P = fex (Option PlainWords) (λ words. fex (P words) (λ _. words_own words))
