use Rattle.std.proofs.Common.{ℕ, arith, sym, ap, ◌%◌, ◌^◌}
use Rattle.balloc_c.proofs.table.Table.ready.Goals as goal

pub returns-then-is_ready-clause-ready : goal.returns-then-is_ready-clause-ready
returns-then-is_ready-clause-ready c = (
  c.in-Small.ensures.within,
  let few = c.in-Small.ensures.least.0 in omega (arith, few),
  sym c.in-Small.ensures.value,
  ap (λ (n : ℕ). n % 2 ^ 32) c.first-first.ensures,
  c.is_ready.ensures.yes c.if-is_ready.true,
)
