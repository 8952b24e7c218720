use Rattle.std.proofs.Common.{◌≡◌, [], refl, sym, subst}
use Rattle.errand_steps.specs.Begins.{IsIdle}
use Rattle.live_heap.specs.declared.pass.Pass.{Pass}
use Rattle.live_heap.specs.Holdings.{HoldsExactly}
use Rattle.benches.proofs.heap.cached.CacheFront.open.Goals as goal

pub open-requires-clause-idle : goal.open-requires-clause-idle
open-requires-clause-idle c = subst IsIdle (sym c.requires.errand) refl

pub returns-in-Ok : goal.returns-in-Ok
returns-in-Ok c =
    let o = c.in-Ok.ensures in
    let cache = c.in-Ok.cache in
    let idle : IsIdle c.args.pass.errand = subst IsIdle (sym c.requires.errand) refl in
    let rests : IsIdle cache.pass.errand = subst (λ (p : Pass). IsIdle p.errand) (sym o.pass) idle in
    let exact = c.passes_hold_exactly.ensures.fresh c.args._heap.now c.args.pass c.requires in (
      ((o.cache c.args._heap.now c.requires.of, rests), subst (λ (p : Pass). p.out ≡ 0) (sym o.pass) c.requires.home),
      (c.caches_account_for_all_blocks.ensures.opened cache [] rests o.empty).0 (subst (λ (p : Pass). HoldsExactly p []) (sym o.pass) exact),
    )
