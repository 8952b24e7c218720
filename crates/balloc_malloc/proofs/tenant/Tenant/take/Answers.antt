use Rattle.std.proofs.Common.{◌≡◌, ◌≤◌, ℕ, sym, refl, subst, ◌∙◌}
use mathlib.Core.Logic.{∥∥₁_prop}
use Rattle.live_heap.specs.Heaps.{HeapFields}
use Rattle.memory_cache.specs.declared.paged.PagedCache.{PagedCache}
use Rattle.memory_cache.specs.Paged.{HasPieceReady, IsPaged}
use Rattle.memory_cache.specs.Pages.{IsPiece}
use Rattle.memory_cache.specs.Sizes.{piece_words}
use Rattle.balloc_malloc.specs.declared.tenant.TheConstants.{TRIES}
use Rattle.balloc_malloc.specs.declared.tenant.Tenant.{Tenant}
use Rattle.balloc_malloc.specs.Sizes.{words_for}
use Rattle.balloc_malloc.specs.Takes.{Takes}
use Rattle.balloc_malloc.specs.Tenants.{heap_of}
use Rattle.balloc_malloc.proofs.Taking.{goes_out, is_given}
use Rattle.balloc_malloc.proofs.tenant.Tenant.take.Goals as goal

pub hand_out-requires : goal.hand_out-requires
hand_out-requires c =
    let x = c.in-Some-take_ready.piece in
    subst (λ (h : HeapFields). IsPiece h x) (c.deref.ensures ∙ sym c.deref-in-Some-take_ready.ensures)
    ((c.in-Some-take_ready.ensures.told TRIES).given x refl).0

pub returns-in-Some-take_ready : goal.returns-in-Some-take_ready
returns-in-Some-take_ready c =
    let before = c.args.self.now in
    let words : c.in-Some.words ≡ words_for c.args.bytes = c.in-Some.ensures.words.0 in
    let x = c.in-Some-take_ready.piece in
    let told = c.in-Some-take_ready.ensures.told TRIES in
    let given = told.given x refl in
    let ready = c.in-Some-take_ready.ensures.ready in
    goes_out before _ c.args.bytes c.hand_out.result.code c.hand_out.result.words c.hand_out.result.memory x.words c.hand_out.ensures.1
    (is_given c.deref.result.now before _ c.args.bytes c.hand_out.result.code x c.hand_out.result.memory c.deref.ensures refl c.hand_out.ensures.0 c.hand_out.ensures.2 given.0
    (subst (λ (n : ℕ). x.size ≡ piece_words n) words given.1) (subst (λ (n : ℕ). n ≤ x.size) words given.2) given.3 (told.aligned x refl)
    (λ other. told.fresh x other refl) told.keeps (λ first other has ne. told.only first other has ne)
    (λ has. (c.take_ready.ensures.cache, c.in-Some-take_ready.ensures.hits))
    (λ none. absurd (none (subst (λ (n : ℕ). HasPieceReady before.cache (piece_words n)) words ready))))

-- where nothing was ready the cache is the same, and whichever proof it comes with
pub returns-in-None : goal.returns-in-None
returns-in-None c =
    let before = c.args.self.now in
    let told = c.take_anew.result in
    let From : (q : PagedCache) → ∥ IsPaged (heap_of before) q ∥₁ → Tenant = λ q is. record { heap = before.heap; cache = q; is_tended = is } in
    let P : PagedCache → Type 0 = λ q. (is : ∥ IsPaged (heap_of before) q ∥₁) → Takes (From q is) c.args.bytes told.code told.words told.memory c.take_anew.new.self in
    subst P (c.take_ready.ensures.none c.in-None.is)
    (λ is. subst (λ it. Takes (From c.take_ready.new.self it) c.args.bytes told.code told.words told.memory c.take_anew.new.self) (∥∥₁_prop _ is) c.take_anew.ensures)
    before.is_tended
