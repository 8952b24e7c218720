use Rattle.std.proofs.Common.{suc, refl}
use Rattle.errand_steps.specs.declared.reply.Reply.TheVariants as reply
use Rattle.errand_steps.specs.Calls.{alloc}
use Rattle.lane_engine.proofs.ThroughLemmas.{alloc-resumes}
use Rattle.live_heap.specs.Whole.{by_steps}
use Rattle.pipe_runner.proofs.CallSteps.{made-idle, spent-made}
use Rattle.pipe_runner.proofs.whole.allocate.Goals as goal

pub go_on-requires-clause-under_way : goal.go_on-requires-clause-under_way
go_on-requires-clause-under_way g c =
    let over = c.in-Busy.ensures.tells in
    let p = c.args.pass.now in
    (record { first = p; call = alloc c.args.need; steps = suc over.steps; calling = over.calling; tried = tt }, c.requires.rest.0)

pub unreachable-requires-in_default : goal.unreachable-requires-in_default
unreachable-requires-in_default g c =
    let over = c.in-Busy.ensures.tells in
    let p = c.args.pass.now in
    alloc-resumes p c.args.need c.go_on.result c.go_on.new.pass (c.go_on.ensures.ended p (alloc c.args.need) (suc over.steps) c.requires.rest.0 over.calling)
    c.in_default.not-Given c.in_default.not-Refused c.in_default.not-Spent

pub returns-in-Spent : goal.returns-in-Spent
returns-in-Spent g c =
    let p = c.args.pass.now in
    let made = spent-made p c.args.need _ c.alloc.new.pass c.in-Spent.ensures.tells in
    (made, tt, refl, (c.alloc.ensures.of, made-idle p (alloc c.args.need) reply.Spent c.alloc.new.pass c.requires.rest.1 made))

pub returns-in-Given-go_on : goal.returns-in-Given-go_on
returns-in-Given-go_on g c =
    let over = c.in-Busy.ensures.tells in
    let p = c.args.pass.now in
    (by_steps (c.in-Given-go_on.ensures.ended p (alloc c.args.need) (suc over.steps) c.requires.rest.0 over.calling), tt, refl, c.go_on.ensures.rests)

pub returns-in-Refused-go_on : goal.returns-in-Refused-go_on
returns-in-Refused-go_on g c =
    let over = c.in-Busy.ensures.tells in
    let p = c.args.pass.now in
    (by_steps (c.in-Refused-go_on.ensures.ended p (alloc c.args.need) (suc over.steps) c.requires.rest.0 over.calling), tt, refl, c.go_on.ensures.rests)

pub returns-in-Spent-go_on : goal.returns-in-Spent-go_on
returns-in-Spent-go_on g c =
    let over = c.in-Busy.ensures.tells in
    let p = c.args.pass.now in
    (by_steps (c.in-Spent-go_on.ensures.ended p (alloc c.args.need) (suc over.steps) c.requires.rest.0 over.calling), tt, refl, c.go_on.ensures.rests)
