use Rattle.std.proofs.Common.{sym, ap, ◌∙◌}
use Rattle.std.specs.Prelude.{is_some}
use Rattle.balloc_malloc.specs.declared.erased_box.ErasedBox.{ErasedBox}
use Rattle.balloc_malloc.proofs.SeatLemmas.{some-of}
use Rattle.balloc_malloc.proofs.seat.ThreadSeat.take.Goals as goal

pub into_parts-requires : goal.into_parts-requires
into_parts-requires c =
    some-of c.replace-held.result.tenant
    (ap (λ (held : ErasedBox). is_some held.tenant) c.replace-held.ensures.value ∙ sym c.args.self.now.is_live ∙ c.if-self.true)
