use Rattle.std.proofs.Common.{Ok, refl, inl}
use Rattle.balloc_c.proofs.Packing.{few-same}
use Rattle.balloc_c.proofs.ToldLemmas.{shown}
use Rattle.balloc_c.proofs.hand.Hand.alloc.Goals as goal

pub alloc_away-requires : goal.alloc_away-requires
alloc_away-requires c = c.in-None.ensures.none refl

pub returns-in-Some : goal.returns-in-Some
returns-in-Some c =
    let number = c.wake-number.result in (
      Ok number,
      shown (Ok number) c.code_with.result c.code_with.ensures.code,
      c.code_with.ensures.value,
      (inl (number, refl, c.wake-number.ensures.woken), refl, refl, few-same c.args.self.now.table c.wake-number.new.table c.wake-number.ensures.count),
    )
