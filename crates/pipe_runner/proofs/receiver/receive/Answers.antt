use Rattle.std.proofs.Common.{Option, inl, inr, refl, subst, sym}
use Rattle.block_pipe.specs.declared.note.Note.{Note}
use Rattle.pipe_runner.specs.EndCalls.{GotNone}
use Rattle.block_pipe.specs.Answers.{note_of}
use Rattle.pipe_runner.proofs.Arriving.{HasTriedFor, comes-to, comes-to-nothing, tried-for, tried-nothing}
use Rattle.pipe_runner.proofs.CallSteps.{empty-keeps, keeps-here, keeps-trans, missed-keeps}
use Rattle.pipe_runner.proofs.EndLemmas.{empty-tried, missed-tried, tried-on}
use Rattle.pipe_runner.proofs.receiver.receive.Goals as goal

pub loop-init : goal.loop-init
loop-init g c = record {
  can_next = tt;
  is_finite = tt;
  of = c.requires.end.0;
  come = inl (c.requires.end.1, refl);
  keeps = keeps-here c.args.heap.now c.args.pass.now c.requires.rest;
  tried = subst (λ (k : Option Note). HasTriedFor k c.args.pass.now c.args.pass.now) (sym c.requires.end.1) refl;
}

pub returns-in-Nothing-clause-nothing : goal.returns-in-Nothing-clause-nothing
returns-in-Nothing-clause-nothing g c = λ none.
    let i = c.loop.invariant in
    let (had, has, popped, held, same) = c.in-Nothing.ensures.tells in (
      tried-nothing c.loop.end c.args.pass.now c.loop.pass c.recv.new.pass i.tried had same,
      comes-to-nothing c.args.pipe.now c.args.end.now c.loop.end c.recv.new.self i.come had popped,
    )

pub returns-in-Got-clause-got : goal.returns-in-Got-clause-got
returns-in-Got-clause-got g c =
    let i = c.loop.invariant in
    let pipe = c.args.pipe.now in
    let b = c.in-Got.block in
    let note = note_of pipe c.in-Got.sender c.in-Got.seq b.place in
    let (serves, none, got) = c.in-Got.ensures.tells in
    let (called, owned) = got in
    let come = comes-to pipe c.args.end.now c.loop.end c.recv.new.self note i.come serves.comes in
    record {
      note = note;
      next = come.1;
      popped = come.0;
      sender = refl;
      taken_off = record {
        last = c.loop.pass;
        missed = tried-for pipe c.loop.end c.recv.new.self note c.args.pass.now c.loop.pass i.tried serves.comes;
        keeps = i.keeps;
        called = called;
        owned = owned;
        rest = (c.recv.ensures.of, called.idle);
      };
    }

pub returns-in-Other-clause-got : goal.returns-in-Other-clause-got
returns-in-Other-clause-got g c =
    let i = c.loop.invariant in
    let pipe = c.args.pipe.now in
    let note = c.in-Other.note in
    let (serves, none, got, other) = c.in-Other.ensures.tells in
    let (called, owned) = got in
    let come = comes-to c.args.pipe.now c.args.end.now c.loop.end c.recv.new.self note i.come serves.comes in
    record {
      note = note;
      next = come.1;
      popped = come.0;
      sender = refl;
      taken_off = record {
        last = c.loop.pass;
        missed = tried-for pipe c.loop.end c.recv.new.self note c.args.pass.now c.loop.pass i.tried serves.comes;
        keeps = i.keeps;
        called = called;
        owned = owned;
        rest = (c.recv.ensures.of, called.idle);
      };
    }

pub returns-in-Gone-clause-got : goal.returns-in-Gone-clause-got
returns-in-Gone-clause-got g c =
    let i = c.loop.invariant in
    let h = c.args.heap.now in
    let p = c.args.pass.now in
    let note = c.in-Gone.note in
    let (serves, none, empty, last) = c.in-Gone.ensures.tells in
    let come = comes-to c.args.pipe.now c.args.end.now c.loop.end c.recv.new.self note i.come serves.comes in
    let t = c.take_until-block.ensures in
    let before = keeps-trans h p c.loop.pass c.recv.new.pass i.keeps (empty-keeps h c.loop.pass c.recv.new.pass note.shelf i.keeps.moves.rest.0 c.recv.ensures.of empty) in
    record {
      note = note;
      next = come.1;
      popped = come.0;
      sender = refl;
      taken_off = record {
        last = t.last;
        missed = tried-on (GotNone note.shelf) p c.recv.new.pass t.last
            (tried-on (GotNone note.shelf) p c.loop.pass c.recv.new.pass
            (tried-for c.args.pipe.now c.loop.end c.recv.new.self note p c.loop.pass i.tried serves.comes)
            (empty-tried c.loop.pass c.recv.new.pass note.shelf empty)) t.missed;
        keeps = keeps-trans h p c.recv.new.pass t.last before t.keeps;
        called = t.called;
        owned = t.owned;
        rest = t.rest;
      };
    }

pub loop-preserved : goal.loop-preserved
loop-preserved g c =
    let i = c.loop.invariant in
    let h = c.args.heap.now in
    let (note, serves, kept, missed) = c.in-Missed.ensures.tells in
    let come = comes-to c.args.pipe.now c.args.end.now c.loop.end c.recv.new.self note i.come serves.comes in
    record {
      can_next = tt;
      is_finite = tt;
      of = c.recv.ensures.receiver;
      come = inr (note, record { kept = kept; popped = come.0; next = come.1 });
      keeps = keeps-trans h c.args.pass.now c.loop.pass c.recv.new.pass i.keeps
          (missed-keeps h c.loop.pass c.recv.new.pass note.shelf c.in-Missed.expected c.in-Missed.found i.keeps.moves.rest.0 c.recv.ensures.of missed);
      tried = subst (λ (k : Option Note). HasTriedFor k c.args.pass.now c.recv.new.pass) (sym kept)
          (tried-on (GotNone note.shelf) c.args.pass.now c.loop.pass c.recv.new.pass
          (tried-for c.args.pipe.now c.loop.end c.recv.new.self note c.args.pass.now c.loop.pass i.tried serves.comes)
          (missed-tried c.loop.pass c.recv.new.pass note.shelf c.in-Missed.expected c.in-Missed.found missed));
    }
