use Rattle.std.proofs.Common.{◌≡◌, ℕ, ◌<◌, ◌/◌, Some, length, sym, refl, ap, ◌∙◌, subst}
use Rattle.std.specs.Vec.{with_item}
use Rattle.memory_cache.specs.declared.paged.PagedCache.{PagedCache}
use Rattle.memory_cache.specs.Paged.{HasCut}
use Rattle.heap_geometry.specs.Need.{usable_words}
use Rattle.memory_cache.specs.Pages.{IsCut, IsPage, Pops, count_of}
use Rattle.memory_cache.proofs.PageLemmas.{some-pieces}
use Rattle.memory_cache.proofs.TableLemmas.{cut-table, pages-is}
use Rattle.memory_cache.proofs.TakenPages.{not-err}
use Rattle.memory_cache.proofs.paged.PagedCache.cut.Goals as goal
use Rattle.memory_cache.proofs.paged.PagedCache.cut.Goals.{then-home-gt0, else-home-gt0}

pub returns-clause-cut : goal.returns-clause-cut
returns-clause-cut g c =
    let s = c.args.self.now in
    let grown = c.grow.new.self in
    let key : ℕ = c.place-key.result / 2048 in
    let page = c.in_ok-page.page in
    let left = c.pop.new.self in
    let x = c.in-Some.piece in
    let pops : Pops page x left = c.in-Some.ensures.given in
    let sized : x.size ≡ c.args.size = pops.size ∙ c.in_ok-page.ensures.page.1.sized in
    let whole : IsPage g.h page = c.in_ok-page.ensures.page.0 in
    let cut : IsCut c.args.memory x.size page = subst (λ n. IsCut c.args.memory n page) (sym sized) c.in_ok-page.ensures.page.1 in
    let within : key < length grown.pages.items = not-err c.grow.result (key < length grown.pages.items) c.if-is_err.ensures.value c.grow.ensures.long in
    let is : key ≡ c.args.memory.block.place / 2048 = ap (λ p. p / 2048) c.place-key.ensures in
    let e : PagedCache = record { cache = grown.cache; pages = with_item grown.pages key (Some left); ready = grown.ready; hits = grown.hits; alloc = grown.alloc } in
    let P : PagedCache → Type 0 = λ d. HasCut g.h s c.args.memory x d in
    elim c.if-home-gt0.branch [
      | then-home-gt0 w ↦ (
        subst P (sym w.self-is)
            (cut-table g.h s grown e w.link.new.self c.args.memory x page left key c.grow.ensures.same within is whole cut pops refl refl w.link.ensures.same),
        sized,
      )
      | else-home-gt0 w ↦ (
        subst P (sym w.self-is)
            (cut-table g.h s grown e e c.args.memory x page left key c.grow.ensures.same within is whole cut pops refl refl (pages-is e e refl refl)),
        sized,
      )
    ]

pub unreachable-requires : goal.unreachable-requires
unreachable-requires g c =
    let page = c.in_ok-page.page in
    let cut = c.in_ok-page.ensures.page in
    let whole : IsPage g.h page = cut.0 in
    let some : 0 < count_of page = subst (λ n. 0 < n) (sym whole.count) (some-pieces page.size (usable_words page.need) whole.some whole.fits) in
    cut.1.home 0 some ((c.pop.ensures.none c.in_default.is).1 0)
