use Rattle.std.proofs.Common.{◌<◌, ◌≤◌, arith, length, drop, length-drop, ◌∷◌}
use Rattle.std.proofs.Math.Seq.{take_all}
use Rattle.std.proofs.lemmas.List.Sums.{sum_by-cons}
use Rattle.command_line.proofs.EdgeLemmas.{written-more, written-kept, rest-of, offers-few, on-err}
use Rattle.command_line.proofs.output.write_text.Goals as goal

pub loop-written-preserved : goal.loop-written-preserved
loop-written-preserved g c =
    let all = rest-of c.args.text.now c.loop-written.written in
    let within = rw all at c.in_ok-written.ensures.within in
    let left : 0 < length (drop c.loop-written.written c.args.text.now) = omega (arith, length-drop c.loop-written.written c.args.text.now) in
    record {
      within = omega (arith, within, length-drop c.loop-written.written c.args.text.now);
      counts = c.in_ok-written.field-0 ∷ c.loop-written.invariant.counts;
      total = omega (arith, c.loop-written.invariant.total, sum_by-cons (λ n. n) c.in_ok-written.field-0 c.loop-written.invariant.counts);
      writes = (
        c.loop-written.sink,
        c.loop-written.invariant.writes,
        c.in_ok-written.ensures.progress (rw all left),
        rw c.loop-written.invariant.total (rw all at c.in_ok-written.ensures.made),
      );
      holds =
          written-more _ _ _ c.args.text.now c.loop-written.written c.in_ok-written.field-0 c.loop-written.invariant.holds
          c.in_ok-written.ensures.taken;
      faults = omega (arith, c.in_ok-written.ensures.never_falls);
    }

pub returns-in_err-written-clause-part : goal.returns-in_err-written-clause-part
returns-in_err-written-clause-part g c =
    let few = offers-few g.K.Sink.wrote c.args.text.now _ _ _ c.loop-written.invariant.writes in
    let total = c.loop-written.invariant.total in
    on-err c.from_residual.result
    (record {
      counts = c.loop-written.invariant.counts;
      before = c.loop-written.sink;
      failure = c.in_err-written.field-0.0;
      writes = c.loop-written.invariant.writes;
      last = rw total (rw (rest-of c.args.text.now c.loop-written.written) at c.in_err-written.ensures.made);
      less = omega (arith, total);
      calls = omega (arith, total, few);
      written = rw total (written-kept _ _ _ _ c.loop-written.invariant.holds c.in_err-written.ensures.kept);
    })

pub returns-clause-written : goal.returns-clause-written
returns-clause-written g c =
    let few = offers-few g.K.Sink.wrote c.args.text.now _ _ _ c.loop-written.invariant.writes in
    let total = c.loop-written.invariant.total in
    let whole : length c.args.text.now ≤ c.loop-written.written = omega arith in
    record {
      counts = c.loop-written.invariant.counts;
      writes = c.loop-written.invariant.writes;
      total = omega (arith, total, c.loop-written.invariant.within);
      calls = omega (arith, total, few, c.loop-written.invariant.within);
      written = rw (take_all c.loop-written.written c.args.text.now whole) at c.loop-written.invariant.holds;
    }
