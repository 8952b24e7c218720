use Rattle.std.proofs.Common.{◌∙◌, sym, inl, inr, refl}
use Rattle.live_heap.specs.declared.answers.Resumed.TheVariants as resumed
use Rattle.live_heap.proofs.laws_for_builders.Hands.{idle-not_busy}
use Rattle.memory_cache.proofs.SettledLemmas.{at-once, frees-none, leaves-settled, resumable, settled-of, under_way-of, way-caller, way-leaves, way-lent}
use Rattle.memory_cache.proofs.passes.settle.Goals as goal

pub returns-then-idle-clause-tells : goal.returns-then-idle-clause-tells
returns-then-idle-clause-tells c =
    let p = c.args.pass.now in
    at-once c.args.heap.now p c.args.tries (settled-of c.args.heap.now p (sym c.if-idle.ensures) c.requires.pass)

pub resume-requires-clause-under_way : goal.resume-requires-clause-under_way
resume-requires-clause-under_way c =
    let p = c.args.pass.now in
    resumable c.args.heap.now p (under_way-of c.args.heap.now p (sym c.if-idle.ensures) c.requires.pass)

pub free-requires-clause-settled : goal.free-requires-clause-settled
free-requires-clause-settled c =
    let h = c.args.heap.now in
    let p = c.args.pass.now in
    way-leaves h p c.resume.new.pass c.args.tries (resumed.Given c.in-Given.block) (under_way-of h p (sym c.if-idle.ensures) c.requires.pass)
    c.in-Given.ensures.of c.in-Given.ensures.tells

pub returns-in-Given-clause-tells : goal.returns-in-Given-clause-tells
returns-in-Given-clause-tells c =
    record {
      pass = c.free.ensures.pass;
      idle = sym c.free.ensures.ended;
      same = λ idle. absurd (idle-not_busy c.args.pass.now.errand idle (sym c.if-idle.ensures));
      resumed = λ busy. (resumed.Given c.in-Given.block, c.resume.new.pass, c.in-Given.ensures.tells, c.free.ensures.tells);
    }

pub returns-in-Given-clause-out : goal.returns-in-Given-clause-out
returns-in-Given-clause-out c =
    let h = c.args.heap.now in
    let p = c.args.pass.now in
    c.free.ensures.out
    ∙ way-lent h p c.resume.new.pass c.args.tries (resumed.Given c.in-Given.block) (under_way-of h p (sym c.if-idle.ensures) c.requires.pass)
    c.in-Given.ensures.tells

pub returns-in-Given-clause-caller : goal.returns-in-Given-clause-caller
returns-in-Given-clause-caller c =
    let h = c.args.heap.now in
    let p = c.args.pass.now in
    c.free.ensures.caller
    ∙ way-caller h p c.resume.new.pass c.args.tries (resumed.Given c.in-Given.block) (under_way-of h p (sym c.if-idle.ensures) c.requires.pass)
    c.in-Given.ensures.tells

pub returns-in-Busy : goal.returns-in-Busy
returns-in-Busy c =
    let h = c.args.heap.now in
    let p = c.args.pass.now in
    let q = c.resume.new.pass in
    let way = under_way-of h p (sym c.if-idle.ensures) c.requires.pass in
    let left = way-leaves h p q c.args.tries resumed.Busy way c.in-Busy.ensures.of c.in-Busy.ensures.tells in
    record {
      tells = record {
        pass = inr left;
        idle = left.calling.busy;
        same = λ idle. absurd (idle-not_busy p.errand idle way.calling.busy);
        resumed = λ busy. (resumed.Busy, q, c.in-Busy.ensures.tells, (refl, refl));
      };
      out = way-lent h p q c.args.tries resumed.Busy way c.in-Busy.ensures.tells;
      caller = way-caller h p q c.args.tries resumed.Busy way c.in-Busy.ensures.tells;
    }

pub returns-in_default : goal.returns-in_default
returns-in_default c =
    let h = c.args.heap.now in
    let p = c.args.pass.now in
    let q = c.resume.new.pass in
    let told = c.resume.result in
    let way = under_way-of h p (sym c.if-idle.ensures) c.requires.pass in
    let settled =
    leaves-settled h told q c.in_default.not-Busy c.in_default.not-Given
    (way-leaves h p q c.args.tries told way c.resume.ensures.of c.resume.ensures.tells) in
    record {
      tells = record {
        pass = inl settled;
        idle = settled.idle;
        same = λ idle. absurd (idle-not_busy p.errand idle way.calling.busy);
        resumed = λ busy. (told, q, c.resume.ensures.tells, frees-none told q c.args.tries c.in_default.not-Busy c.in_default.not-Given);
      };
      out = way-lent h p q c.args.tries told way c.resume.ensures.tells;
      caller = way-caller h p q c.args.tries told way c.resume.ensures.tells;
    }
