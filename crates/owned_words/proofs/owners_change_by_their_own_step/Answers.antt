use Rattle.owned_words.proofs.OtherOwners.{others-blocks, shelved-blocks}
use Rattle.owned_words.proofs.owners_change_by_their_own_step.Goals as goal

pub returns-clause-owned : goal.returns-clause-owned
returns-clause-owned c = others-blocks

pub returns-clause-shelved : goal.returns-clause-shelved
returns-clause-shelved c = shelved-blocks
