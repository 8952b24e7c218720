use Rattle.std.proofs.Common.{◌≡◌, ℕ, ◌+◌, ap, sym, ◌∙◌, subst, refl, arith}
use Rattle.trace_text.specs.declared.trace.Version.TheVariants.{Two}
use Rattle.trace_text.specs.Lines.{lines_of}
use Rattle.trace_text.specs.Reading.{AnswersReading, reading_from, reading_of, reading_up_to}
use Rattle.trace_text.proofs.StageLemmas.{goes_on, stopped, ended}
use Rattle.trace_text.proofs.NamedLemmas.{line_named}
use Rattle.trace_text.proofs.reading.read_trace.Goals as goal

pub loop-line-init : goal.loop-line-init
unfolding reading_of reading_up_to
loop-line-init c = record { reads = refl; named = tt; few = omega arith }

pub returns-in-Err-clause-reads : goal.returns-in-Err-clause-reads
returns-in-Err-clause-reads c =
    rw c.fault_at.ensures
    (stopped c.in-Err.stop c.in-Some.line.now (lines_of c.in-Some.after.now) (lines_of c.loop-line.rest.now) c.loop-line.number c.loop-line.stage (reading_of c.args.text.now)
    c.in-Some.ensures.lines c.loop-line.invariant.reads c.in-Err.ensures)

pub read_ops-requires-clause-named : goal.read_ops-requires-clause-named
read_ops-requires-clause-named c = line_named Two c.loop-line.stage c.read_line.new.self c.in-Some.line.now c.loop-line.invariant.named c.in_default-read_line.ensures

pub loop-line-preserved : goal.loop-line-preserved
loop-line-preserved c =
    let number = c.loop-line.number in
    let line = goes_on c.in-Some.line.now (lines_of c.in-Some.after.now) (lines_of c.loop-line.rest.now) number c.loop-line.stage c.read_line.new.self (reading_of c.args.text.now)
    c.in-Some.ensures.lines c.loop-line.invariant.reads c.in_default-read_line.ensures in
    let counted : number + (1 + c.in-Ok.ops) ≡ number + 1 + c.in-Ok.ops = omega arith in
    record {
      reads = ap (λ (n : ℕ). reading_from Two (lines_of c.in-Ok.after.now) n c.read_ops.new.self) counted ∙ sym (c.in-Ok.ensures.reads (number + 1)) ∙ line;
      named = c.in-Ok.ensures.named;
      few = omega (arith, c.in-Some.ensures.shorter, c.in-Ok.ensures.shorter, c.loop-line.invariant.few);
    }

pub returns-clause-reads : goal.returns-clause-reads
returns-clause-reads c =
    subst (AnswersReading c.whole_trace.result)
    (ended (lines_of c.loop-line.rest.now) c.loop-line.number c.loop-line.stage (reading_of c.args.text.now) c.in_default.ensures.lines c.loop-line.invariant.reads)
    c.whole_trace.ensures.reads
