use Rattle.std.proofs.Common.{suc, subst}
use Rattle.errand_steps.specs.declared.reply.Reply.TheVariants as reply
use Rattle.errand_steps.specs.Calls.{Call, free}
use Rattle.live_heap.specs.declared.answers.FreeAnswer.{FreeAnswer}
use Rattle.live_heap.specs.Answers.{FreeTells}
use Rattle.lane_engine.proofs.ThroughLemmas.{free-resumes, resumed-call, unkept-asks}
use Rattle.lane_engine.proofs.over_cache.free_block.Goals as goal

pub returns-in-Freed : goal.returns-in-Freed
returns-in-Freed g c =
    let b = c.args.block in
    let before = c.args.cache.now in
    let after = c.free.new.self in (
      c.ended_calls_are_whole.ensures.free c.args.heap.now before after b c.tries-tries.result c.requires.rests c.free.ensures.cache c.requires.held
          (λ room. (c.free.ensures.kept room).1)
          (λ none.
          let told = c.free.ensures.asked none in
          (subst (λ (a : FreeAnswer). FreeTells before.pass b c.tries-tries.result a after.pass) c.in-Freed.is told.0, told.1)),
      c.free.ensures.depth,
    )

pub returns-in-Busy : goal.returns-in-Busy
returns-in-Busy g c =
    let b = c.args.block in
    let before = c.args.cache.now in
    let after = c.go_on.new.cache in
    let call : Call = free b.place b.need in
    let asks = unkept-asks before b c.free.new.self c.free.result c.in-Busy.is c.free.ensures.kept in
    let (over, keeps) = c.in-Busy.ensures.asked asks in
    resumed-call c.args.heap.now before c.free.new.self after call reply.Freed c.requires.rests c.go_on.ensures.rests.0 (asks, c.requires.held)
    (free-resumes before.pass b.place b.need c.go_on.result after.pass
    (c.go_on.ensures.ended before.pass call (suc over.steps) c.requires.rests.0.hand.of over.calling)) keeps c.go_on.ensures.keeps
