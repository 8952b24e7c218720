use denote.RattleType.{RattleType}
use denote.Param.Send.{IsSend}
use Rattle.atomic_region.specs.contracts.shared.Seat.{the_row}
use Rattle.atomic_region.proofs.Sent.{seat_keyless}

pub send : (V : RattleType) → IsSend (the_row V)
send V = record { owned = λ d vs. ((λ vss. (tt, ((λ uss. (tt, tt)), tt))), seat_keyless d.region V.coded.code d.id d.me); leaving = λ k x vs. tt }
