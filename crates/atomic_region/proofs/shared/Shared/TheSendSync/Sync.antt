use denote.RattleType.{RattleType}
use denote.Param.Send.{IsSync, sendable}
use denote.Struct.Struct.{Struct}
use denote.Struct.Owning.{shape}
use Rattle.atomic_region.specs.declared.shared.RegionRule.{Ghosts}
use Rattle.atomic_region.specs.contracts.shared.Shared.{the_row, the_type}
use Rattle.atomic_region.proofs.Sent.{shares_keyless}

pub sync : (V K P : RattleType) (g : Ghosts P.Denot V.Denot K.Denot) → IsSync (the_row V K P g)
sync V K P g = let fields : IsSync (Struct (shape (the_type V K P g))) = search sendable depth 20 in
    record { shared = λ d b o ν. (fields.shared (tt, tt) b o ν, shares_keyless d.id V.coded.code (g.holds d.key) ν) }
