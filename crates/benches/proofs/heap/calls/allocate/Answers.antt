use Rattle.std.proofs.Common.{suc, inl, inr}
use Rattle.errand_steps.specs.declared.reply.Reply.TheVariants as reply
use Rattle.errand_steps.specs.Calls.{alloc}
use Rattle.benches.proofs.MadeLemmas.{made-given, made-none, made-nothing}
use Rattle.benches.proofs.heap.calls.allocate.Goals as goal

pub returns-in-Given : goal.returns-in-Given
returns-in-Given g c =
    let k = c.passes_keep_their_blocks.ensures in
    let t = c.in-Given.ensures.tells in
    made-given k.called c.args.heap.now c.args.pass.now c.alloc.new.pass (alloc c.args.need) t.0.steps c.requires.rests c.alloc.ensures.of k.given c.in-Given.block
    t.0.called t.1

pub finish-requires-clause-under_way : goal.finish-requires-clause-under_way
finish-requires-clause-under_way g c =
    let t = c.in-Busy.ensures.tells in
    record { first = c.args.pass.now; rests = c.requires.rests; call = alloc c.args.need; steps = suc t.steps; calling = t.calling; tried = tt }

pub returns-in-Busy : goal.returns-in-Busy
returns-in-Busy g c =
    let t = c.in-Busy.ensures.tells in
    c.finish.ensures c.args.pass.now (alloc c.args.need) (suc t.steps) c.requires.rests t.calling

pub returns-in-Refused : goal.returns-in-Refused
returns-in-Refused g c =
    let t = c.in-Refused.ensures.tells in
    made-none c.passes_keep_their_blocks.ensures.called c.args.heap.now c.args.pass.now c.alloc.new.pass (alloc c.args.need) t.steps c.requires.rests
    c.alloc.ensures.of reply.Refused t.called

pub returns-in-Spent : goal.returns-in-Spent
returns-in-Spent g c =
    elim c.in-Spent.ensures.tells [
      | inl once ↦ made-nothing c.args.heap.now c.args.pass.now c.alloc.new.pass (alloc c.args.need) c.requires.rests once.same
      | inr ends ↦
          made-none c.passes_keep_their_blocks.ensures.called c.args.heap.now c.args.pass.now c.alloc.new.pass (alloc c.args.need) ends.0.steps c.requires.rests
          c.alloc.ensures.of reply.Spent ends.0.called
    ]
