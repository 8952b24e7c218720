use Rattle.owned_words.proofs.GivenAway.{frees-leaving, puts-leaving, stays-own}
use Rattle.owned_words.proofs.steps_give_away_what_leaves.Goals as goal

pub returns-clause-frees : goal.returns-clause-frees
returns-clause-frees c = frees-leaving

pub returns-clause-puts : goal.returns-clause-puts
returns-clause-puts c = puts-leaving

pub returns-clause-stays : goal.returns-clause-stays
returns-clause-stays c = stays-own
