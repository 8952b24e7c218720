use Rattle.std.proofs.Common.{refl, sym, subst}
use Rattle.errand_steps.specs.Begins.{IsIdle}
use Rattle.balloc_malloc.proofs.opening.cached.Goals as goal

pub returns-in-Ok-clause-paged : goal.returns-in-Ok-clause-paged
returns-in-Ok-clause-paged c =
    let h = c.args.heap.now in
    let pass = c.args.pass in
    let fresh = c.requires.fresh in
    let idle : IsIdle pass.errand = subst IsIdle (sym fresh.errand) refl in
    let nothing = c.passes_hold_exactly.ensures.fresh h pass fresh in
    c.in-Ok.ensures.paged h (c.passes_with_nothing_are_settled.ensures.settled h pass fresh.of idle nothing) nothing
