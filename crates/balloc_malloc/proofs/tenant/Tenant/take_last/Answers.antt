use Rattle.std.proofs.Common.{◌≡◌, ap, sym, refl, subst, ◌∙◌}
use Rattle.std.specs.Prelude.{is_some}
use Rattle.std.proofs.lemmas.Bool.{false≢true}
use mathlib.Core.Logic.{∥∥₁_prop}
use Rattle.live_heap.specs.Heaps.{HeapFields}
use Rattle.memory_cache.specs.declared.paged.PagedCache.{PagedCache}
use Rattle.memory_cache.specs.Paged.{IsPaged}
use Rattle.memory_cache.specs.Pages.{IsPiece}
use Rattle.balloc_malloc.specs.declared.tenant.TheConstants.{TRIES}
use Rattle.balloc_malloc.specs.declared.tenant.Tenant.{Tenant}
use Rattle.balloc_malloc.specs.Tenants.{heap_of}
use Rattle.balloc_malloc.proofs.Taking.{is_given, serves_none, serves_out}
use Rattle.balloc_malloc.proofs.tenant.Tenant.take_last.Goals as goal

pub hand_out-requires : goal.hand_out-requires
hand_out-requires c =
    let x = c.in-Some.piece in
    subst (λ (h : HeapFields). IsPiece h x) (c.deref.ensures ∙ sym c.deref-in-Some.ensures) ((c.in-Some.ensures.told TRIES).given x refl).0

pub returns-in-Some : goal.returns-in-Some
returns-in-Some c =
    let before = c.args.self.now in
    let h = c.deref.result.now in
    let x = c.in-Some.piece in
    let told = c.in-Some.ensures.told TRIES in
    let given = told.given x refl in
    let ready = c.in-Some.ensures.ready in
    serves_out h before _ c.args.bytes c.hand_out.result.code c.hand_out.result.words c.hand_out.result.memory x c.hand_out.ensures.1 c.hand_out.ensures.0 ready
    (is_given h before _ c.args.bytes c.hand_out.result.code x c.hand_out.result.memory c.deref.ensures refl c.hand_out.ensures.0 c.hand_out.ensures.2 given.0
    given.1 given.2 given.3 (told.aligned x refl) (λ other. told.fresh x other refl) told.keeps (λ first other has ne. told.only first other has ne)
    (λ has. (c.take_ready.ensures.cache, c.in-Some.ensures.hits)) (λ none. absurd (none ready)))
    given.0 c.in-Some.ensures.page

-- the cache is the same, and whichever proof it comes with
pub returns-in-None : goal.returns-in-None
returns-in-None c =
    let before = c.args.self.now in
    let From : (q : PagedCache) → ∥ IsPaged (heap_of before) q ∥₁ → Tenant = λ q is. record { heap = before.heap; cache = q; is_tended = is } in
    let P : PagedCache → Type 0 = λ q. (is : ∥ IsPaged (heap_of before) q ∥₁) → From q is ≡ before in
    let same : P c.take_ready.new.self =
    subst P (sym (c.take_ready.ensures.none c.in-None.is)) (λ is. ap (From before.cache) (∥∥₁_prop is before.is_tended)) in
    serves_none before _ c.args.bytes c.none.result.code c.none.result.words c.none.result.memory c.none.ensures.2
    c.none.ensures.1 c.none.ensures.0 (same _)
    (λ few ready. false≢true (sym (ap is_some c.in-None.is) ∙ c.take_ready.ensures.serves ready))
