use Rattle.std.proofs.Common.{sym, ap, ◌∙◌}
use Rattle.balloc_c.specs.Kept.{kept_in}
use Rattle.balloc_c.proofs.table.Slot.rest.Goals as goal

pub rested-self-requires : goal.rested-self-requires
rested-self-requires c = (c.requires.0, ap kept_in c.replace.ensures.value ∙ c.requires.1)

pub returns-clause-rests : goal.returns-clause-rests
returns-clause-rests c =
    let rested = c.rested-self.ensures in (rested.0, ap kept_in (sym c.replace.ensures.value) ∙ rested.1, rested.2)
