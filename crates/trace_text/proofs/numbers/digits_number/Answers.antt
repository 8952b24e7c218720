use Rattle.std.proofs.Common.{◌≡◌, length, get_or, Some, sym, arith}
use Rattle.std.specs.Str.Parse.{digits_value}
use Rattle.trace_text.specs.Numbers.{number_in}
use Rattle.trace_text.proofs.NumberLemmas.{number_in-few, number_in-zero}
use Rattle.trace_text.proofs.numbers.digits_number.Goals as goal
use Rattle.trace_text.proofs.numbers.digits_number.Goals.{else-field-eq-ZERO-via-then-field-eq-ZERO+else-field-gt1, else-field-eq-ZERO-via-else-field-eq-ZERO}

pub returns-then-field-gt1 : goal.returns-then-field-gt1
returns-then-field-gt1 c = sym (number_in-zero c.args.field.now c.if-field-eq-ZERO.true c.if-field-gt1.true)

pub returns-else-field-eq-ZERO : goal.returns-else-field-eq-ZERO
returns-else-field-eq-ZERO c =
    let first : get_or c.args.field.now 0 0 ≡ 48 → length c.args.field.now ≡ 1 =
    elim c.else-field-eq-ZERO.branch [
      | else-field-eq-ZERO-via-then-field-eq-ZERO+else-field-gt1 w ↦ λ _. omega (arith, w.if-field-gt1.false, c.requires.some)
      | else-field-eq-ZERO-via-else-field-eq-ZERO w ↦ λ zero. absurd (w.if-field-eq-ZERO.false zero)
    ] in
    let is : Some (digits_value 10 c.args.field.now) ≡ number_in c.args.field.now = rw c.requires.digits at (number_in-few c.args.field.now c.requires.some first c.requires.few) in
    rw c.requires.value is
