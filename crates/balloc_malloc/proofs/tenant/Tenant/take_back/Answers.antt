use Rattle.std.proofs.Common.{◌≡◌, ◌/◌, refl, sym, subst, ap}
use mathlib.Core.Logic.{∥∥₁_prop}
use Rattle.live_heap.specs.Heaps.{HeapFields}
use Rattle.memory_cache.specs.declared.paged.PagedCache.{PagedCache}
use Rattle.memory_cache.specs.Paged.{ActsBehind, GoesBehind, IsPaged}
use Rattle.balloc_malloc.specs.declared.tenant.TheConstants.{TRIES}
use Rattle.balloc_malloc.specs.declared.tenant.Tenant.{Tenant}
use Rattle.balloc_malloc.specs.Tenants.{heap_of}
use Rattle.balloc_malloc.proofs.tenant.Tenant.take_back.Goals as goal

pub returns-in-Ok-clause-back : goal.returns-in-Ok-clause-back
returns-in-Ok-clause-back c none =
    let before = c.args.self.now in (
      c.in-Ok.ensures.out,
      record {
        keeps = c.take_back.ensures.keeps;
        only = c.in-Ok.ensures.only;
        behind = subst (λ (h : HeapFields). GoesBehind h before.cache (c.args.returned.first / 2048) TRIES c.take_back.new.self) c.deref.ensures c.take_back.ensures.behind;
        sends = λ last. subst (λ (h : HeapFields). ActsBehind h before.cache (c.args.returned.first / 2048) TRIES c.take_back.new.self) c.deref.ensures (c.in-Ok.ensures.sends last);
        hits = c.take_back.ensures.hits;
        heap = refl;
      },
    )

-- the cache is the same, and whichever proof it comes with
pub returns-in-Err-clause-stays : goal.returns-in-Err-clause-stays
returns-in-Err-clause-stays c =
    let before = c.args.self.now in
    let stray = c.in-Err.ensures.stray in
    let From : (q : PagedCache) → ∥ IsPaged (heap_of before) q ∥₁ → Tenant = λ q is. record { heap = before.heap; cache = q; is_tended = is } in
    let P : PagedCache → Type 0 = λ q. (is : ∥ IsPaged (heap_of before) q ∥₁) → From q is ≡ before in
    (stray.0, subst P (sym stray.1) (λ is. ap (From before.cache) (∥∥₁_prop is before.is_tended)) _, stray.2)
