use Rattle.std.proofs.Common.{refl}
use Rattle.sound_laws.proofs.uses_lemmas.InUse.{point-in_use}
use Rattle.sound_laws.proofs.uses.steps_are_on_pieces_in_use.Goals as goal

pub returns : goal.returns
returns c g s caller word sound has busy is = let t = point-in_use g s caller word (s.errand caller).point sound has refl is in (t.used, t.alone)
