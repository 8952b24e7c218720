use Rattle.sound_laws.proofs.uses_lemmas.Opening.{unused-first}
use Rattle.sound_laws.proofs.uses.pieces_are_unused_at_opening.Goals as goal

pub returns : goal.returns
returns c = unused-first
