use Rattle.balloc_c.proofs.Numbers.{gave-more}
use Rattle.balloc_c.proofs.laws.slots_give_away_in_turn.Goals as goal

pub returns : goal.returns
returns c = gave-more
