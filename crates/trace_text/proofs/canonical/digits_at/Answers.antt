use Rattle.std.proofs.Common.{◌≡◌, get_or, sym, ◌∙◌, true, arith}
use Rattle.std.specs.Char.{is_ascii_digit}
use Rattle.trace_text.proofs.CanonicalLemmas.{digit_goes_on, not_last, one_digit_more}
use Rattle.trace_text.proofs.canonical.digits_at.Goals as goal

pub loop-n-preserved : goal.loop-n-preserved
loop-n-preserved c =
    let text = c.args.text.now in
    let at = c.loop-n.at in
    let digit : is_ascii_digit (get_or text at 0) ≡ true = sym c.is_ascii_digit.ensures.value ∙ c.loop-n-test.true in
    let more = one_digit_more text c.args.start at c.loop-n.n c.from.result c.from-in-loop-n.result c.loop-n.invariant.start c.loop-n.invariant.within c.loop-n.invariant.digits c.loop-n.invariant.value digit c.from.ensures c.from-in-loop-n.ensures in
    record {
      start = omega (arith, c.loop-n.invariant.start);
      within = not_last text at c.requires.ended c.loop-n.invariant.within (digit_goes_on (get_or text at 0) digit);
      digits = more.0;
      value = more.1;
    }
