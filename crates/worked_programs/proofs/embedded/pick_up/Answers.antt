use Rattle.std.proofs.Common.{refl, arith}
use Rattle.live_heap.specs.Whole.{by_steps}
use Rattle.worked_programs.proofs.embedded.pick_up.Goals as goal

pub returns-else-usable_words-gt1-clause-stopped : goal.returns-else-usable_words-gt1-clause-stopped
returns-else-usable_words-gt1-clause-stopped c =
    let called = c.in-Got.ensures.tells.0 in (
      c.in-Got.block.place,
      c.in-Got.block.need,
      ((by_steps (1, called), tt, refl, (c.take.ensures.of, called.idle)), tt),
      omega (arith, c.usable_words.ensures, c.if-usable_words-gt1.false),
    )

pub returns-in-Missed-clause-stopped : goal.returns-in-Missed-clause-stopped
returns-in-Missed-clause-stopped c =
    let called = c.in-Missed.ensures.tells.0 in
    (c.in-Missed.expected, c.in-Missed.found, ((by_steps (1, called), tt, refl, (c.take.ensures.of, called.idle)), tt))
