use Rattle.std.proofs.Common.{refl}
use Rattle.sound_laws.proofs.bounds_lemmas.LeftMost.{left-most}
use Rattle.sound_state.proofs.shared.PointLemmas.{fits-at}
use Rattle.sound_laws.proofs.bounds.calls_end.calls_are_short.Goals as goal

pub returns : goal.returns
returns c =
    λ g s caller sound has.
    left-most g caller (s.errand caller).point sound.checked (fits-at g s sound.parts.0 caller (s.errand caller).point sound.parts.1 has refl)
