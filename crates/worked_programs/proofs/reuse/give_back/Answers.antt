use Rattle.std.proofs.Common.{subst}
use Rattle.live_heap.specs.declared.answers.FreeAnswer.{FreeAnswer}
use Rattle.live_heap.specs.Answers.{FreeTells}
use Rattle.worked_programs.specs.declared.embedded.TheConstants.{TRIES}
use Rattle.worked_programs.proofs.ReuseCalls.{unkept-asks}
use Rattle.worked_programs.proofs.reuse.give_back.Goals as goal

pub returns-in-Freed-clause-freed : goal.returns-in-Freed-clause-freed
returns-in-Freed-clause-freed c =
    let b = c.args.block in
    let before = c.args.cache.now in
    let after = c.free.new.self in (
      c.ended_calls_are_whole.ensures.free c.args.heap.now before after b TRIES c.requires.rests c.free.ensures.cache c.requires.held
          (λ room. (c.free.ensures.kept room).1)
          (λ none.
          let told = c.free.ensures.asked none in
          (subst (λ (a : FreeAnswer). FreeTells before.pass b TRIES a after.pass) c.in-Freed.is told.0, told.1)),
      c.free.ensures.depth,
    )

pub returns-in-Busy-clause-stopped : goal.returns-in-Busy-clause-stopped
returns-in-Busy-clause-stopped c =
    c.in-Busy.ensures.asked (unkept-asks c.args.cache.now c.args.block c.free.new.self c.free.result c.in-Busy.is c.free.ensures.kept)
