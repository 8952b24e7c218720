use Rattle.std.proofs.Common.{suc}
use Rattle.errand_steps.specs.declared.reply.Reply.TheVariants as reply
use Rattle.benches.proofs.MadeLemmas.{made-given, made-none}
use Rattle.benches.proofs.heap.calls.finish.Goals as goal

pub resume-requires-clause-under_way : goal.resume-requires-clause-under_way
resume-requires-clause-under_way g c =
    let u = c.loop.invariant.under_way in
    record { first = u.first; call = u.call; steps = u.steps; calling = u.calling; tried = u.tried }

pub loop-preserved : goal.loop-preserved
loop-preserved g c =
    let i = c.loop.invariant in
    let u = i.under_way in
    let t = c.in-Busy.ensures.tells u.first u.call u.steps u.rests.0 u.calling in
    record {
      can_next = tt;
      is_finite = tt;
      of = c.resume.ensures.of;
      under_way = record { first = u.first; rests = u.rests; call = u.call; steps = suc t.steps; calling = t.calling; tried = u.tried };
      goes = λ first call made of calling.
          let s = i.goes first call made of calling in
          let n = c.in-Busy.ensures.tells first call s.0 of s.1 in
          (suc n.steps, n.calling);
    }

pub returns-in-Given : goal.returns-in-Given
returns-in-Given g c = λ first call made rests calling.
    let k = c.passes_keep_their_blocks.ensures in
    let s = c.loop.invariant.goes first call made rests.0 calling in
    let t = c.in-Given.ensures.tells first call s.0 rests.0 s.1 in
    made-given k.called c.args.heap.now first c.resume.new.pass call t.0.steps rests c.resume.ensures.of k.given c.in-Given.block t.0.called t.1

pub returns-in-Freed : goal.returns-in-Freed
returns-in-Freed g c = λ first call made rests calling.
    let s = c.loop.invariant.goes first call made rests.0 calling in
    let t = c.in-Freed.ensures.tells first call s.0 rests.0 s.1 in
    made-none c.passes_keep_their_blocks.ensures.called c.args.heap.now first c.resume.new.pass call t.steps rests c.resume.ensures.of reply.Freed t.called

pub returns-in-Refused : goal.returns-in-Refused
returns-in-Refused g c = λ first call made rests calling.
    let s = c.loop.invariant.goes first call made rests.0 calling in
    let t = c.in-Refused.ensures.tells first call s.0 rests.0 s.1 in
    made-none c.passes_keep_their_blocks.ensures.called c.args.heap.now first c.resume.new.pass call t.steps rests c.resume.ensures.of reply.Refused t.called

pub returns-in-Spent : goal.returns-in-Spent
returns-in-Spent g c = λ first call made rests calling.
    let s = c.loop.invariant.goes first call made rests.0 calling in
    let t = c.in-Spent.ensures.tells first call s.0 rests.0 s.1 in
    made-none c.passes_keep_their_blocks.ensures.called c.args.heap.now first c.resume.new.pass call t.0.steps rests c.resume.ensures.of reply.Spent t.0.called
