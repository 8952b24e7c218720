use Rattle.std.proofs.Common.{arith, sym, ◌∙◌, ◌+◌}
use Rattle.trace_text.proofs.NumberLemmas.{digits_more, few_digits}
use Rattle.trace_text.proofs.numbers.short_number.Goals as goal

pub loop-b-preserved : goal.loop-b-preserved
loop-b-preserved c =
    let more = digits_more c.args.field.now c.loop-b.b-index c.loop-b-test.true c.loop-b.invariant.0 (sym c.is_ascii_digit.ensures.value ∙ c.if-not-is_ascii_digit.false) in
    (more.0, rw (c.loop-b.invariant.1, c.from.ensures) (sym more.1))

pub overflow_add-n : goal.overflow_add-n
overflow_add-n c =
    let next = loop-b-preserved c in
    omega (arith, next.1, few_digits c.args.field.now (c.loop-b.b-index + 1) (omega (arith, c.requires, c.loop-b-test.true)) next.0)

pub overflow_mul-n : goal.overflow_mul-n
overflow_mul-n c =
    let more = digits_more c.args.field.now c.loop-b.b-index c.loop-b-test.true c.loop-b.invariant.0 (sym c.is_ascii_digit.ensures.value ∙ c.if-not-is_ascii_digit.false) in
    omega (arith, more.1, c.loop-b.invariant.1, few_digits c.args.field.now (c.loop-b.b-index + 1) (omega (arith, c.requires, c.loop-b-test.true)) more.0)
