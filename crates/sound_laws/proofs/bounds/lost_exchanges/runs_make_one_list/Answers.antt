use Rattle.sound_laws.proofs.bounds_lemmas.MadeLemmas.{reached-made, made-reached, made-more, made-one}
use Rattle.sound_laws.proofs.bounds.lost_exchanges.runs_make_one_list.Goals as goal

pub returns-clause-made : goal.returns-clause-made
returns-clause-made c = reached-made

pub returns-clause-reaches : goal.returns-clause-reaches
returns-clause-reaches c = made-reached

pub returns-clause-grows : goal.returns-clause-grows
returns-clause-grows c = made-more

pub returns-clause-one : goal.returns-clause-one
returns-clause-one c = made-one
