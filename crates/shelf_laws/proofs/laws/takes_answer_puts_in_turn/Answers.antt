use Rattle.shelf_laws.proofs.InTurnLemmas.{parcel-in-turn, puts-counted, take-in-turn, takes-counted}
use Rattle.shelf_laws.proofs.laws.takes_answer_puts_in_turn.Goals as goal

pub returns-clause-event : goal.returns-clause-event
returns-clause-event c = take-in-turn

pub returns-clause-parcel : goal.returns-clause-parcel
returns-clause-parcel c = parcel-in-turn

pub returns-clause-puts : goal.returns-clause-puts
returns-clause-puts c = puts-counted

pub returns-clause-takes : goal.returns-clause-takes
returns-clause-takes c = takes-counted
