use Rattle.std.proofs.Common.{◌≡◌, ◌<◌, [], length, rules, subst, sym, arith}
use Rattle.errand_steps.specs.Begins.{IsIdle}
use Rattle.live_heap.specs.declared.block.Block.{Block}
use Rattle.live_heap.specs.declared.pass.Pass.{Pass}
use Rattle.live_heap.specs.Holdings.{HoldsExactly}
use Rattle.live_heap.specs.Passes.{IsFresh, IsOf}
use Rattle.live_heap.proofs.laws_for_builders.AllBlocks.{fresh-exact}
use Rattle.block_cache.specs.Caches.{Holds}
use Rattle.block_cache.proofs.TogetherLemmas.{opened}
use Rattle.embedding_tests.proofs.DriverLemmas.{first-fresh}
use Rattle.embedding_tests.proofs.caches.open_cached.Goals as goal

pub returns-in-Ok : goal.returns-in-Ok
returns-in-Ok c =
    let h = c.in_ok-heap.heap in
    let p = c.remove-pass.result in
    let k = c.in-Ok.cache in
    let opened_with = c.in_ok-heap.ensures.passes in
    let many : 0 < length c.in_ok-heap.passes.items = omega (arith, opened_with.1, c.geometry.ensures.callers) in
    let fresh : IsFresh h p = first-fresh h c.in_ok-heap.passes.items p opened_with.0 many c.remove-pass.ensures.value in
    let idle : IsIdle p.errand = search rules in (
      c.in-Ok.ensures.cache h fresh.of,
      subst (Holds k) (sym c.new.ensures.items)
          ((opened k [] (subst (λ (q : Pass). IsIdle q.errand) (sym c.in-Ok.ensures.pass) idle) c.in-Ok.ensures.empty).0
          (subst (λ (q : Pass). HoldsExactly q []) (sym c.in-Ok.ensures.pass) (fresh-exact h p fresh))),
    )
