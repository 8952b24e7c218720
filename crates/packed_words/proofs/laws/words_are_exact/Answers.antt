use Rattle.packed_words.proofs.ActiveLemmas.{active-exact}
use Rattle.packed_words.proofs.AnchorLemmas.{anchor-exact}
use Rattle.packed_words.proofs.HeadLemmas.{head-exact}
use Rattle.packed_words.proofs.InfoLemmas.{info-exact}
use Rattle.packed_words.proofs.PrefixLemmas.{prefix-exact}
use Rattle.packed_words.proofs.ShelfLemmas.{shelf-exact}
use Rattle.packed_words.proofs.laws.words_are_exact.Goals as goal

pub returns-clause-anchor : goal.returns-clause-anchor
returns-clause-anchor c = anchor-exact

pub returns-clause-active : goal.returns-clause-active
returns-clause-active c = active-exact

pub returns-clause-head : goal.returns-clause-head
returns-clause-head c = head-exact

pub returns-clause-prefix : goal.returns-clause-prefix
returns-clause-prefix c = prefix-exact

pub returns-clause-info : goal.returns-clause-info
returns-clause-info c = info-exact

pub returns-clause-shelf : goal.returns-clause-shelf
returns-clause-shelf c = shelf-exact
