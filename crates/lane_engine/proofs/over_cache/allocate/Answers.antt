use Rattle.std.proofs.Common.{suc, refl, sym, subst}
use Rattle.errand_steps.specs.declared.reply.Reply.{Reply}
use Rattle.errand_steps.specs.declared.reply.Reply.TheVariants as reply
use Rattle.errand_steps.specs.Calls.{alloc}
use Rattle.live_heap.specs.declared.answers.AllocAnswer.{AllocAnswer}
use Rattle.live_heap.specs.declared.block.Block.{Block}
use Rattle.block_cache.specs.Whole.{EndsAs}
use Rattle.lane_engine.proofs.ThroughLemmas.{alloc-resumes, busy-asks, resumed-call}
use Rattle.lane_engine.proofs.over_cache.allocate.Goals as goal

pub unreachable-requires-in_default : goal.unreachable-requires-in_default
unreachable-requires-in_default g c =
    let before = c.args.cache.now in
    let asks = busy-asks before c.args.need c.alloc.new.self c.alloc.result c.in-Busy.is c.alloc.ensures.served in
    let over = (c.in-Busy.ensures.asked asks).0 in
    let p = before.pass in
    alloc-resumes p c.args.need c.go_on.result c.go_on.new.cache.pass (c.go_on.ensures.ended p (alloc c.args.need) (suc over.steps)
    c.requires.rests.0.hand.of over.calling)
    c.in_default.not-Given c.in_default.not-Refused c.in_default.not-Spent

pub returns-in-Given : goal.returns-in-Given
returns-in-Given g c =
    let b = c.in-Given.block in
    let told : Reply = reply.Given b.place b.need in (
      c.ended_calls_are_whole.ensures.alloc c.args.heap.now c.args.cache.now c.alloc.new.self c.args.need c.tries-tries.result c.alloc.result told
          c.requires.rests c.alloc.ensures.cache c.alloc.ensures.served c.alloc.ensures.asked
          (subst (λ (a : AllocAnswer Block). EndsAs a told) (sym c.in-Given.is) refl),
      c.alloc.ensures.depth,
    )

pub returns-in-Refused : goal.returns-in-Refused
returns-in-Refused g c = (
  c.ended_calls_are_whole.ensures.alloc c.args.heap.now c.args.cache.now c.alloc.new.self c.args.need c.tries-tries.result c.alloc.result reply.Refused
      c.requires.rests c.alloc.ensures.cache c.alloc.ensures.served c.alloc.ensures.asked
      (subst (λ (a : AllocAnswer Block). EndsAs a reply.Refused) (sym c.in-Refused.is) refl),
  c.alloc.ensures.depth,
)

pub returns-in-Spent : goal.returns-in-Spent
returns-in-Spent g c = (
  c.ended_calls_are_whole.ensures.alloc c.args.heap.now c.args.cache.now c.alloc.new.self c.args.need c.tries-tries.result c.alloc.result reply.Spent
      c.requires.rests c.alloc.ensures.cache c.alloc.ensures.served c.alloc.ensures.asked
      (subst (λ (a : AllocAnswer Block). EndsAs a reply.Spent) (sym c.in-Spent.is) refl),
  c.alloc.ensures.depth,
)

pub returns-in-Given-go_on : goal.returns-in-Given-go_on
returns-in-Given-go_on g c =
    let before = c.args.cache.now in
    let b = c.in-Given-go_on.block in
    let asks = busy-asks before c.args.need c.alloc.new.self c.alloc.result c.in-Busy.is c.alloc.ensures.served in
    let (over, keeps) = c.in-Busy.ensures.asked asks in
    resumed-call c.args.heap.now before c.alloc.new.self c.go_on.new.cache (alloc c.args.need) (reply.Given b.place b.need) c.requires.rests
    c.go_on.ensures.rests.0 asks
    (c.in-Given-go_on.ensures.ended before.pass (alloc c.args.need) (suc over.steps) c.requires.rests.0.hand.of over.calling) keeps
    c.go_on.ensures.keeps

pub returns-in-Refused-go_on : goal.returns-in-Refused-go_on
returns-in-Refused-go_on g c =
    let before = c.args.cache.now in
    let asks = busy-asks before c.args.need c.alloc.new.self c.alloc.result c.in-Busy.is c.alloc.ensures.served in
    let (over, keeps) = c.in-Busy.ensures.asked asks in
    resumed-call c.args.heap.now before c.alloc.new.self c.go_on.new.cache (alloc c.args.need) reply.Refused c.requires.rests
    c.go_on.ensures.rests.0 asks
    (c.in-Refused-go_on.ensures.ended before.pass (alloc c.args.need) (suc over.steps) c.requires.rests.0.hand.of over.calling) keeps
    c.go_on.ensures.keeps

pub returns-in-Spent-go_on : goal.returns-in-Spent-go_on
returns-in-Spent-go_on g c =
    let before = c.args.cache.now in
    let asks = busy-asks before c.args.need c.alloc.new.self c.alloc.result c.in-Busy.is c.alloc.ensures.served in
    let (over, keeps) = c.in-Busy.ensures.asked asks in
    resumed-call c.args.heap.now before c.alloc.new.self c.go_on.new.cache (alloc c.args.need) reply.Spent c.requires.rests
    c.go_on.ensures.rests.0 asks
    (c.in-Spent-go_on.ensures.ended before.pass (alloc c.args.need) (suc over.steps) c.requires.rests.0.hand.of over.calling) keeps
    c.go_on.ensures.keeps
