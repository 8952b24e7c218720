use Rattle.std.proofs.Common.{arith, sym, ◌∙◌, ◌≡◌, ◌<◌, ◌+◌, ◌-◌, ◌*◌, ◌^◌, take}
use Rattle.std.specs.Str.Parse.{digits_value}
use Rattle.trace_text.proofs.NumberLemmas.{digits_more, few_digits, no_wrap}
use Rattle.trace_text.proofs.numbers.first_digits.Goals as goal

pub loop-b-preserved : goal.loop-b-preserved
loop-b-preserved c =
    let more = digits_more c.args.bytes.now c.loop-b.b-index c.loop-b-test.true c.loop-b.invariant.digits (sym c.is_ascii_digit.ensures.value ∙ c.if-not-is_ascii_digit.false) in
    record {
      place = omega (arith, c.loop-b.invariant.place);
      digits = more.0;
      value =
          λ few. let was = c.loop-b.invariant.value (omega (arith, few)) in
          let is : digits_value 10 (take (c.loop-b.b-index + 1) c.args.bytes.now) ≡ c.loop-b.n * 10 + (c.from.result - c.from-in-loop-b.result) = omega (arith, more.1, was, c.from.ensures, c.from-in-loop-b.ensures) in
          let small : c.loop-b.n * 10 + (c.from.result - c.from-in-loop-b.result) < 2 ^ 64 = omega (arith, is, few_digits c.args.bytes.now (c.loop-b.b-index + 1) few more.0) in
          no_wrap c.loop-b.n (c.from.result - c.from-in-loop-b.result) small ∙ sym is;
    }
