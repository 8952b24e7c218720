use Rattle.std.proofs.Common.{sym, ap, ◌∙◌}
use Rattle.std.specs.Prelude.{is_some}
use Rattle.balloc_c.specs.declared.erased_box.ErasedBox.{ErasedBox}
use Rattle.balloc_c.proofs.OpenLemmas.{some-of}
use Rattle.balloc_c.proofs.handle.PassHandle.take.Goals as goal

pub into_parts-requires : goal.into_parts-requires
into_parts-requires c =
    some-of c.replace-held.result.hand
    (ap (λ (held : ErasedBox). is_some held.hand) c.replace-held.ensures.value ∙ sym c.args.self.now.is_live ∙ c.if-self.true)
