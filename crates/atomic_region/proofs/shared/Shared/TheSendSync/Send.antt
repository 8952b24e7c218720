use denote.RattleType.{RattleType}
use denote.Param.Send.{IsSend}
use Rattle.atomic_region.specs.declared.shared.RegionRule.{Ghosts}
use Rattle.atomic_region.specs.contracts.shared.Shared.{the_row}
use Rattle.atomic_region.proofs.Sent.{owns_keyless}

pub send : (V K P : RattleType) (g : Ghosts P.Denot V.Denot K.Denot) → IsSend (the_row V K P g)
send V K P g = record { owned = λ d vs. ((λ vss. (tt, ((λ uss. (tt, tt)), tt))), owns_keyless d.id V.coded.code (g.holds d.key)); leaving = λ k x vs. tt }
