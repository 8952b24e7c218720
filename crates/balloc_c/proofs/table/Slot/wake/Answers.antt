use Rattle.std.proofs.Common.{sym, ap, ◌∙◌}
use Rattle.balloc_c.specs.Kept.{kept_in}
use Rattle.balloc_c.proofs.table.Slot.wake.Goals as goal

pub woken-self-requires : goal.woken-self-requires
woken-self-requires c = (c.requires.0, ap kept_in c.replace.ensures.value ∙ c.requires.1)

pub returns-clause-woken : goal.returns-clause-woken
returns-clause-woken c =
    let woken = c.woken-self.ensures in (woken.0, ap kept_in (sym c.replace.ensures.value) ∙ woken.1, woken.2)
