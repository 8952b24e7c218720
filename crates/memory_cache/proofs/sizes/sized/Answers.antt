use Rattle.std.proofs.Common.{◌<◌, ◌≤◌, ◌∙◌, arith, subst, sym}
use Rattle.memory_cache.proofs.TablesOfSizes.{numbers-few, numbers-is, pieces-enough, pieces-is}
use Rattle.memory_cache.proofs.sizes.sized.Goals as goal

pub returns-then-words-le-FAR-clause-size : goal.returns-then-words-le-FAR-clause-size
returns-then-words-le-FAR-clause-size c = c.from.ensures ∙ pieces-is c.args.words (omega (arith, c.if-words-le-FAR.true))

pub returns-then-words-le-FAR-clause-number : goal.returns-then-words-le-FAR-clause-number
returns-then-words-le-FAR-clause-number c = c.from-then-words-le-FAR.ensures ∙ numbers-is c.args.words (omega (arith, c.if-words-le-FAR.true))

pub returns-then-words-le-FAR-clause-enough : goal.returns-then-words-le-FAR-clause-enough
returns-then-words-le-FAR-clause-enough c =
    subst (λ n. c.args.words ≤ n) (sym c.from.ensures) (pieces-enough c.args.words (omega (arith, c.if-words-le-FAR.true)))

pub returns-then-words-le-FAR-clause-within : goal.returns-then-words-le-FAR-clause-within
returns-then-words-le-FAR-clause-within c =
    subst (λ n. n < 35) (sym c.from-then-words-le-FAR.ensures) (numbers-few c.args.words (omega (arith, c.if-words-le-FAR.true)))
