use Rattle.std.proofs.Common.{◌≡◌, [], refl, sym, subst}
use Rattle.errand_steps.specs.Begins.{IsIdle}
use Rattle.live_heap.specs.declared.pass.Pass.{Pass}
use Rattle.live_heap.specs.Holdings.{HoldsExactly}
use Rattle.balloc_c.proofs.Tending.{holds-bare}
use Rattle.balloc_c.proofs.opening.cached.Goals as goal

pub returns-in-Ok-clause-tends : goal.returns-in-Ok-clause-tends
returns-in-Ok-clause-tends c =
    let h = c.args.heap.now in
    let k = c.in-Ok.cache in
    let same : k.pass ≡ c.args.pass = c.in-Ok.ensures.pass in
    let idle : IsIdle k.pass.errand =
    subst (λ (p : Pass). IsIdle p.errand) (sym same) (subst IsIdle (sym c.requires.fresh.errand) refl) in
    holds-bare h k [] (c.in-Ok.ensures.cache h c.requires.fresh.of)
    ((c.caches_account_for_all_blocks.ensures.opened k [] idle c.in-Ok.ensures.empty).0
    (subst (λ (p : Pass). HoldsExactly p []) (sym same) (c.passes_hold_exactly.ensures.fresh h c.args.pass c.requires.fresh))) refl
