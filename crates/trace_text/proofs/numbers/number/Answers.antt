use Rattle.std.proofs.Common.{◌≡◌, sym, ◌∙◌, arith, get_or, length}
use Rattle.trace_text.proofs.NumberLemmas.{number_in-few, number_in-many, number_in-empty, number_in-zero, number_in-spelled, IfSome-number_in}
use Rattle.trace_text.proofs.numbers.number.Goals as goal
use Rattle.trace_text.proofs.numbers.number.Goals.{then-first-eq-ZERO+else-field-gt1, else-first-eq-ZERO}

pub returns-in-empty-clause-value : goal.returns-in-empty-clause-value
returns-in-empty-clause-value c = sym (number_in-empty c.args.field.now c.in-empty.len_below)

pub returns-in-empty-clause-only : goal.returns-in-empty-clause-only
returns-in-empty-clause-only c = λ n small is. returns-in-empty-clause-value c ∙ number_in-spelled c.args.field.now n small is

pub returns-in-len1-up-clause-value : goal.returns-in-len1-up-clause-value
returns-in-len1-up-clause-value c = sym (number_in-zero c.args.field.now c.if-first-eq-ZERO.true c.if-field-gt1.true)

pub returns-in-len1-up-clause-only : goal.returns-in-len1-up-clause-only
returns-in-len1-up-clause-only c = λ n small is. returns-in-len1-up-clause-value c ∙ number_in-spelled c.args.field.now n small is

pub returns-in_default-clause-value : goal.returns-in_default-clause-value
returns-in_default-clause-value c =
    let first : get_or c.args.field.now 0 0 ≡ 48 → length c.args.field.now ≡ 1 =
    elim c.if-first-eq-ZERO.branch [
      | then-first-eq-ZERO+else-field-gt1 w ↦ λ _. omega (arith, w.if-field-gt1.false, c.in-len1-up.len_at_least)
      | else-first-eq-ZERO w ↦ λ zero. absurd (w.if-first-eq-ZERO.false zero)
    ] in
    c.short_number.ensures ∙ number_in-few c.args.field.now c.in-len1-up.len_at_least first c.if-field-le-SHORT.true

pub returns-in_default-clause-found : goal.returns-in_default-clause-found
returns-in_default-clause-found c = IfSome-number_in c.short_number.result c.args.field.now (returns-in_default-clause-value c)

pub returns-in_default-clause-only : goal.returns-in_default-clause-only
returns-in_default-clause-only c = λ n small is. returns-in_default-clause-value c ∙ number_in-spelled c.args.field.now n small is

pub returns-in_default-2-clause-value : goal.returns-in_default-2-clause-value
returns-in_default-2-clause-value c =
    let first : get_or c.args.field.now 0 0 ≡ 48 → length c.args.field.now ≡ 1 =
    elim c.if-first-eq-ZERO.branch [
      | then-first-eq-ZERO+else-field-gt1 w ↦ λ _. omega (arith, w.if-field-gt1.false, c.in-len1-up.len_at_least)
      | else-first-eq-ZERO w ↦ λ zero. absurd (w.if-first-eq-ZERO.false zero)
    ] in
    c.long_number.ensures ∙ number_in-many c.args.field.now c.in-len1-up.len_at_least first

pub returns-in_default-2-clause-found : goal.returns-in_default-2-clause-found
returns-in_default-2-clause-found c = IfSome-number_in c.long_number.result c.args.field.now (returns-in_default-2-clause-value c)

pub returns-in_default-2-clause-only : goal.returns-in_default-2-clause-only
returns-in_default-2-clause-only c = λ n small is. returns-in_default-2-clause-value c ∙ number_in-spelled c.args.field.now n small is
