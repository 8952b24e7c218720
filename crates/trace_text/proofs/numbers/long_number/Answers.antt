use Rattle.std.proofs.Common.{arith, sym, ◌∙◌, ◌≡◌, ◌^◌, ◌+◌, take, refl, true}
use Rattle.std.specs.Char.{is_ascii_digit}
use Rattle.std.specs.List.{list_all}
use Rattle.std.proofs.lemmas.Bool.{lt-ltb}
use Rattle.std.proofs.lemmas.List.{take_all}
use Rattle.std.specs.Str.Parse.{digits_value}
use Rattle.trace_text.proofs.NumberLemmas.{digits_more, too_large}
use Rattle.trace_text.proofs.numbers.long_number.Goals as goal

pub loop-b-preserved : goal.loop-b-preserved
loop-b-preserved c =
    let more = digits_more c.args.field.now c.loop-b.b-index c.loop-b-test.true c.loop-b.invariant.0 (sym c.is_ascii_digit.ensures.value ∙ c.if-not-is_ascii_digit.false) in
    let ten = c.in_ok-checked_mul.ensures.1 in
    let sum = c.in_ok-n.ensures in
    let is : c.in_ok-n.n ≡ digits_value 10 (take (c.loop-b.b-index + 1) c.args.field.now) = omega (arith, more.1, ten, sum.1, c.from.ensures, c.loop-b.invariant.1) in
    (more.0, is, omega (arith, sum.0, sum.1))

pub returns-in_err-checked_mul : goal.returns-in_err-checked_mul
returns-in_err-checked_mul c =
    let more = digits_more c.args.field.now c.loop-b.b-index c.loop-b-test.true c.loop-b.invariant.0 (sym c.is_ascii_digit.ensures.value ∙ c.if-not-is_ascii_digit.false) in
    rw (too_large c.args.field.now (c.loop-b.b-index + 1) (omega (arith, more.1, c.in_err-checked_mul.ensures, c.loop-b.invariant.1))) c.from_residual.ensures

pub returns-in_err-n : goal.returns-in_err-n
returns-in_err-n c =
    let more = digits_more c.args.field.now c.loop-b.b-index c.loop-b-test.true c.loop-b.invariant.0 (sym c.is_ascii_digit.ensures.value ∙ c.if-not-is_ascii_digit.false) in
    let ten = c.in_ok-checked_mul.ensures.1 in
    rw (too_large c.args.field.now (c.loop-b.b-index + 1) (omega (arith, more.1, ten, c.in_err-n.ensures, c.from.ensures, c.loop-b.invariant.1))) c.from_residual-in_err-n.ensures

pub returns : goal.returns
returns c =
    let all = take_all c.loop-b.b-index c.args.field.now (omega (arith, c.loop-b-test.false)) in
    let digits : list_all is_ascii_digit c.args.field.now ≡ true = rw all at c.loop-b.invariant.0 in
    let is : c.loop-b.n ≡ digits_value 10 c.args.field.now = rw all at c.loop-b.invariant.1 in
    rw (digits, ← is, lt-ltb c.loop-b.n (2 ^ 64) c.loop-b.invariant.2) refl
