use Rattle.std.proofs.Common.{rules}
use Rattle.word_table.proofs.action.apply.Goals as goal

pub returns-in-And-clause-word : goal.returns-in-And-clause-word
returns-in-And-clause-word c = search rules

pub returns-in-Cas-2-clause-word : goal.returns-in-Cas-2-clause-word
returns-in-Cas-2-clause-word c = search rules

pub returns-in-Cas-clause-found : goal.returns-in-Cas-clause-found
returns-in-Cas-clause-found c = search rules

pub returns-in-And-clause-found : goal.returns-in-And-clause-found
returns-in-And-clause-found c = search rules

pub returns-in-Store-clause-found : goal.returns-in-Store-clause-found
returns-in-Store-clause-found c = search rules

pub returns-in-Store-2-clause-found : goal.returns-in-Store-2-clause-found
returns-in-Store-2-clause-found c = search rules
