-- A `&` to words lends each that is laid. Assumes `Logic`.
use contract.BorrowLft.{⊑_static}
use denote.RawPtr.{RawPtr}
use denote.Param.Shared.{copy_shared}
use denote.Struct.Laws.{field_copy}
use denote.Struct.Lending.{of_Lends}
use Rattle.core.specs.contracts.marker.PhantomData as marker
use Rattle.plain_words.specs.contracts.plain.PlainWords as C
use Rattle.plain_words.proofs.plain.PlainWords.TheLaw.Statement.{statement}
use Rattle.plain_words.proofs.Sharing.{plain_lent_laws, lends_plain}

pub shares : statement
shares = of_Lends C.struct (C.the_codes (marker.the_row RawPtr).coded) C.the_heap C.the_lent (λ d p. plain_lent_laws d.at d.first d.places)
    (copy_shared (marker.the_field RawPtr) (field_copy (marker.the_type RawPtr) tt), tt) (λ M 𝓤 𝓛 d p. lends_plain 𝓛 (C.the_row).lives (⊑_static (C.the_row).lives) d.at d.first d.places)
