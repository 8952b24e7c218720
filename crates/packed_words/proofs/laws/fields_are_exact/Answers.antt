use Rattle.packed_words.proofs.FieldsLemmas.{joined-below, parted-joined, Fit-parted, joined-parted}
use Rattle.packed_words.proofs.laws.fields_are_exact.Goals as goal

pub returns-clause-fits : goal.returns-clause-fits
returns-clause-fits c = joined-below

pub returns-clause-back : goal.returns-clause-back
returns-clause-back c = parted-joined

pub returns-clause-parts_fit : goal.returns-clause-parts_fit
returns-clause-parts_fit c = Fit-parted

pub returns-clause-forth : goal.returns-clause-forth
returns-clause-forth c = joined-parted
