use Rattle.std.specs.Prelude.{Option, Some, None}
use base.Shift.{Keyless}
use denote.Param.Send.{IsSend}
use Rattle.plain_words.specs.declared.plain.PlainWords.{PlainWords}
use Rattle.plain_words.proofs.Crosses.{plain_keyless}
use Rattle.balloc_malloc.specs.Handing.{words_own}
use Rattle.balloc_malloc.specs.contracts.held.Held.{the_row}

owned : (words : Option PlainWords) → Keyless (words_own words)
owned (Some words) = plain_keyless words.at words.first words.places
owned None = tt

pub send : IsSend the_row
send = record { owned = λ d vs. ((λ vss. (tt, ((λ uss. (tt, tt)), tt))), owned d.words); leaving = λ k x vs. tt }
