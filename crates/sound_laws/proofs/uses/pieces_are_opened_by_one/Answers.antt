use Rattle.sound_laws.proofs.uses_lemmas.Opened.{opened-by_one}
use Rattle.sound_laws.proofs.uses.pieces_are_opened_by_one.Goals as goal

pub returns : goal.returns
returns c = opened-by_one
