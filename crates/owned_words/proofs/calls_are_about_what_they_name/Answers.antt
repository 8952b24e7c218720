use Rattle.owned_words.proofs.Concerned.{accesses-concerned, begins-concerned, idle-concerned, leaving-concerned, settles-concerned}
use Rattle.owned_words.proofs.GivenAway.{stays-unconcerned}
use Rattle.owned_words.proofs.calls_are_about_what_they_name.Goals as goal

pub returns-clause-leaves : goal.returns-clause-leaves
returns-clause-leaves c = leaving-concerned

pub returns-clause-accesses : goal.returns-clause-accesses
returns-clause-accesses c = accesses-concerned

pub returns-clause-settles : goal.returns-clause-settles
returns-clause-settles c = settles-concerned

pub returns-clause-idle : goal.returns-clause-idle
returns-clause-idle c = idle-concerned

pub returns-clause-begins : goal.returns-clause-begins
returns-clause-begins c = begins-concerned

pub returns-clause-stays : goal.returns-clause-stays
returns-clause-stays c = stays-unconcerned
