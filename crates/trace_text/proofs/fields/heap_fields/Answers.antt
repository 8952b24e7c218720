use Rattle.std.proofs.Common.{refl}
use Rattle.std.proofs.lemmas.Result.{err_from_is_err_and}
use Rattle.trace_text.specs.Lines.{fields_of}
use Rattle.trace_text.proofs.FieldLemmas.{four_fields}
use Rattle.trace_text.proofs.fields.heap_fields.Goals as goal

pub returns-in_err-none : goal.returns-in_err-none
returns-in_err-none c =
    let p = err_from_is_err_and c.from_residual-in_err-none.result c.from_residual-in_err-none.ensures.1 in
    let four = four_fields (fields_of c.args.fields.now) (fields_of c.in_ok-frames.rest.now) (fields_of c.in_ok-heaps.rest.now) (fields_of c.in_ok-units.rest.now) (fields_of c.in-Some.rest.now)
    c.in_ok-frames.frames.now c.in_ok-heaps.heaps.now c.in_ok-units.units.now c.in-Some.limit.now
    c.in_ok-frames.ensures c.in_ok-heaps.ensures c.in_ok-units.ensures c.in-Some.ensures in
    rw (p.1, p.2, four, c.in_err-none.ensures) refl

pub returns : goal.returns
returns c =
    let four = four_fields (fields_of c.args.fields.now) (fields_of c.in_ok-frames.rest.now) (fields_of c.in_ok-heaps.rest.now) (fields_of c.in_ok-units.rest.now) (fields_of c.in-Some.rest.now)
    c.in_ok-frames.frames.now c.in_ok-heaps.heaps.now c.in_ok-units.units.now c.in-Some.limit.now
    c.in_ok-frames.ensures c.in_ok-heaps.ensures c.in_ok-units.ensures c.in-Some.ensures in
    rw (four, c.in_ok-none.ensures) refl
