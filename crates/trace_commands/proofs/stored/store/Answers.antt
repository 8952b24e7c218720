use Rattle.std.proofs.Common.{refl}
use Rattle.trace_commands.proofs.stored.store.Goals as goal

pub returns : goal.returns
returns g c =
    let (stored, text) = c.in_ok-text.ensures.told in (c.in_ok-text.field-0.closed, refl, stored, text)
