use Rattle.std.proofs.Common.{sym, ◌∙◌}
use Rattle.balloc_c.proofs.OpenLemmas.{all-empty, not-empty, one-more-empty}
use Rattle.balloc_c.proofs.opening.are_empty.Goals as goal

pub returns-then-live-clause-no : goal.returns-then-live-clause-no
returns-then-live-clause-no c = λ is.
    not-empty c.args.passes.now c.loop-pass.pass-index c.pass-item.result c.loop-pass-test.true c.pass-item.is (sym c.live.ensures ∙ c.if-live.true)

pub loop-pass-preserved : goal.loop-pass-preserved
loop-pass-preserved c =
    one-more-empty c.args.passes.now c.loop-pass.pass-index c.pass-item.result c.loop-pass-test.true c.pass-item.is
    (sym c.live.ensures ∙ c.if-live.false) c.loop-pass.invariant

pub returns-clause-yes : goal.returns-clause-yes
returns-clause-yes c = λ is. all-empty c.args.passes.now c.loop-pass.pass-index c.loop-pass.invariant c.loop-pass-test.false
