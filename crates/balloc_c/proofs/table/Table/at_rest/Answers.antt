use Rattle.std.proofs.Common.{ℕ, arith, sym, ap, ◌%◌, ◌^◌}
use Rattle.balloc_c.proofs.table.Table.at_rest.Goals as goal

pub returns-then-rests-clause-ready : goal.returns-then-rests-clause-ready
returns-then-rests-clause-ready c = (
  c.in-Small.ensures.within,
  let few = c.in-Small.ensures.least.0 in omega (arith, few),
  sym c.in-Small.ensures.value,
  ap (λ (n : ℕ). n % 2 ^ 32) c.first-first.ensures,
  c.rests.ensures.yes c.if-rests.true,
)
