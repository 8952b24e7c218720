use Rattle.std.proofs.Common.{◌≡◌, List, Option, None, Some, sym, ap, subst, ◌∙◌, arith, slice_index_or}
use Rattle.std.proofs.lemmas.Bool.{not-false, not-true}
use Rattle.std.proofs.lemmas.Option.{same_Some}
use Rattle.memory_cache.specs.declared.page.Page.{Page}
use Rattle.memory_cache.specs.declared.page.Slot.TheVariants.{Out}
use Rattle.memory_cache.specs.Paged.{page_at}
use Rattle.memory_cache.specs.Pages.{slot_at}
use Rattle.memory_cache.proofs.paged.PagedCache.is_ready.Goals as goal

pub returns-then-page-size : goal.returns-then-page-size
returns-then-page-size c =
    let s = c.args.self.now in
    let k = c.args.place in
    let page = c.in-Some-Some.page in
    let at : page_at s k ≡ Some page =
    sym (c.in-Some-Some.ensures.lookup.4 (omega arith) None ∙ ap (λ (l : List (Option Page)). slice_index_or l k None) c.deref.ensures.value)
    ∙ c.in-Some-Some.field-0-is in
    record {
      yes = λ yes. record { page = page; there = at; sized = c.if-page-size.true; home = c.has_none.ensures.no (not-true c.has_none.result yes) };
      no = λ no other there sized.
          subst (λ (p : Page). slot_at p p.head ≡ Out) (same_Some page other (sym at ∙ there)) (c.has_none.ensures.yes (not-false c.has_none.result no) page.head);
    }
