use Rattle.block_pipe.proofs.HeldNotes.{alone-held, popped-on, pushed-last}
use Rattle.block_pipe.proofs.laws.held_notes_are_in_line.Goals as goal

pub returns-clause-pushed : goal.returns-clause-pushed
returns-clause-pushed c = pushed-last

pub returns-clause-alone : goal.returns-clause-alone
returns-clause-alone c = alone-held

pub returns-clause-popped : goal.returns-clause-popped
returns-clause-popped c = popped-on
