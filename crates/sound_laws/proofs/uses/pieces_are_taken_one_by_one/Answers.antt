use Rattle.sound_laws.proofs.uses_lemmas.Leaving.{unused-stays}
use Rattle.sound_laws.proofs.uses.pieces_are_taken_one_by_one.Goals as goal

pub returns : goal.returns
returns c g s caller after k sound has step below unused = unused-stays g s caller after k sound has step unused
