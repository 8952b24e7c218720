use Rattle.std.proofs.Common.{refl, sym, subst}
use Rattle.errand_steps.specs.declared.reply.Reply.{Reply}
use Rattle.errand_steps.specs.declared.reply.Reply.TheVariants as reply
use Rattle.live_heap.specs.declared.answers.AllocAnswer.{AllocAnswer}
use Rattle.live_heap.specs.declared.block.Block.{Block}
use Rattle.block_cache.specs.Whole.{EndsAs}
use Rattle.worked_programs.specs.declared.embedded.TheConstants.{TRIES}
use Rattle.worked_programs.proofs.ReuseCalls.{busy-asks}
use Rattle.worked_programs.proofs.reuse.allocate.Goals as goal

pub returns-in-Given-clause-given : goal.returns-in-Given-clause-given
returns-in-Given-clause-given c =
    let b = c.in-Given.block in
    let told : Reply = reply.Given b.place b.need in (
      c.ended_calls_are_whole.ensures.alloc c.args.heap.now c.args.cache.now c.alloc.new.self c.args.words TRIES c.alloc.result told c.requires.rests
          c.alloc.ensures.cache c.alloc.ensures.served c.alloc.ensures.asked
          (subst (λ (a : AllocAnswer Block). EndsAs a told) (sym c.in-Given.is) refl),
      c.alloc.ensures.depth,
    )

pub returns-in-Refused-clause-stopped : goal.returns-in-Refused-clause-stopped
returns-in-Refused-clause-stopped c = (
  c.ended_calls_are_whole.ensures.alloc c.args.heap.now c.args.cache.now c.alloc.new.self c.args.words TRIES c.alloc.result reply.Refused
      c.requires.rests c.alloc.ensures.cache c.alloc.ensures.served c.alloc.ensures.asked
      (subst (λ (a : AllocAnswer Block). EndsAs a reply.Refused) (sym c.in-Refused.is) refl),
  c.alloc.ensures.depth,
)

pub returns-in-Spent-clause-stopped : goal.returns-in-Spent-clause-stopped
returns-in-Spent-clause-stopped c = (
  c.ended_calls_are_whole.ensures.alloc c.args.heap.now c.args.cache.now c.alloc.new.self c.args.words TRIES c.alloc.result reply.Spent
      c.requires.rests c.alloc.ensures.cache c.alloc.ensures.served c.alloc.ensures.asked
      (subst (λ (a : AllocAnswer Block). EndsAs a reply.Spent) (sym c.in-Spent.is) refl),
  c.alloc.ensures.depth,
)

pub returns-in-Busy-clause-stopped : goal.returns-in-Busy-clause-stopped
returns-in-Busy-clause-stopped c =
    c.in-Busy.ensures.asked (busy-asks c.args.cache.now c.args.words c.alloc.new.self c.alloc.result c.in-Busy.is c.alloc.ensures.served)
