use denote.Param.Send.{IsSend}
use Rattle.plain_words.specs.contracts.plain.PlainWords.{the_row}
use Rattle.plain_words.proofs.Crosses.{plain_keyless}

pub send : IsSend the_row
send = record { owned = λ d vs. ((λ vss. (tt, ((λ uss. (tt, tt)), tt))), plain_keyless d.at d.first d.places); leaving = λ k x vs. tt }
