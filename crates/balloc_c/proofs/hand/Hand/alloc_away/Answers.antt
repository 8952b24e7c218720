use Rattle.std.proofs.Common.{refl, inr}
use Rattle.balloc_c.proofs.ToldLemmas.{shown}
use Rattle.balloc_c.proofs.hand.Hand.alloc_away.Goals as goal

pub returns : goal.returns
returns c =
    let outcome = c.alloc_new.result in (
      outcome,
      shown outcome c.code_with.result c.code_with.ensures.code,
      c.code_with.ensures.value,
      (inr (c.requires, c.alloc_new.ensures.answers), refl, refl, c.alloc_new.ensures.few),
    )
