use Rattle.std.proofs.Common.{sym, refl, subst, ◌∙◌}
use mathlib.Core.Logic.{∥∥₁_prop}
use Rattle.live_heap.specs.Heaps.{HeapFields}
use Rattle.memory_cache.specs.declared.paged.PagedCache.{PagedCache}
use Rattle.memory_cache.specs.Paged.{IsPaged}
use Rattle.memory_cache.specs.Pages.{IsPiece}
use Rattle.balloc_malloc.specs.declared.tenant.TheConstants.{TRIES}
use Rattle.balloc_malloc.specs.declared.tenant.Tenant.{Tenant}
use Rattle.balloc_malloc.specs.Takes.{Serves}
use Rattle.balloc_malloc.specs.Tenants.{heap_of}
use Rattle.balloc_malloc.proofs.Taking.{is_given, serves_out}
use Rattle.balloc_malloc.proofs.tenant.Tenant.take_ready.Goals as goal

pub hand_out-requires : goal.hand_out-requires
hand_out-requires c =
    let x = c.in-Some.piece in
    subst (λ (h : HeapFields). IsPiece h x) (c.deref.ensures ∙ sym c.deref-in-Some.ensures) ((c.in-Some.ensures.told TRIES).given x refl).0

pub returns-in-Some : goal.returns-in-Some
returns-in-Some c =
    let before = c.args.self.now in
    let h = c.deref.result.now in
    let x = c.in-Some.piece in
    let told = c.in-Some.ensures.told TRIES in
    let given = told.given x refl in
    let ready = c.in-Some.ensures.ready in
    serves_out h before _ c.args.bytes c.hand_out.result.code c.hand_out.result.words c.hand_out.result.memory x c.hand_out.ensures.1 c.hand_out.ensures.0 ready
    (is_given h before _ c.args.bytes c.hand_out.result.code x c.hand_out.result.memory c.deref.ensures refl c.hand_out.ensures.0 c.hand_out.ensures.2 given.0
    given.1 given.2 given.3 (told.aligned x refl) (λ other. told.fresh x other refl) told.keeps (λ first other has ne. told.only first other has ne)
    (λ has. (c.take_spare.ensures.cache, c.in-Some.ensures.hits)) (λ none. absurd (none ready)))
    given.0 c.in-Some.ensures.page

-- where nothing was spare the cache is the same, and whichever proof it comes with
pub returns-in-None : goal.returns-in-None
returns-in-None c =
    let before = c.args.self.now in
    let told = c.take_last.result in
    let From : (q : PagedCache) → ∥ IsPaged (heap_of before) q ∥₁ → Tenant = λ q is. record { heap = before.heap; cache = q; is_tended = is } in
    let P : PagedCache → Type 0 = λ q. (is : ∥ IsPaged (heap_of before) q ∥₁) → Serves (From q is) c.args.bytes told.code told.words told.memory c.take_last.new.self in
    subst P (c.take_spare.ensures.none c.in-None.is)
    (λ is. subst (λ it. Serves (From c.take_spare.new.self it) c.args.bytes told.code told.words told.memory c.take_last.new.self) (∥∥₁_prop _ is) c.take_last.ensures)
    before.is_tended
