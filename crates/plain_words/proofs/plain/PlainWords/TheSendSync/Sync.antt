use denote.Param.Send.{IsSync, sendable}
use denote.Struct.Struct.{Struct}
use denote.Struct.Owning.{shape}
use Rattle.plain_words.specs.contracts.plain.PlainWords.{the_row, the_type}
use Rattle.plain_words.proofs.Crosses.{plain_common}

pub sync : IsSync the_row
sync = let fields : IsSync (Struct (shape the_type)) = search sendable depth 20 in record { shared = λ d b o ν. (fields.shared (tt, tt) b o ν, plain_common d.at d.first d.places ν) }
