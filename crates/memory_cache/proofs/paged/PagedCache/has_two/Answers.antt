use Rattle.std.proofs.Common.{◌≡◌, List, Option, None, Some, sym, ap, subst, ◌∙◌, arith, slice_index_or}
use Rattle.std.proofs.lemmas.Option.{same_Some}
use Rattle.memory_cache.specs.declared.page.Page.{Page}
use Rattle.memory_cache.specs.Paged.{page_at}
use Rattle.memory_cache.specs.Pages.{HasTwoHome}
use Rattle.memory_cache.proofs.paged.PagedCache.has_two.Goals as goal

pub returns-then-page-size : goal.returns-then-page-size
returns-then-page-size c =
    let s = c.args.self.now in
    let k = c.args.place in
    let at : page_at s k ≡ Some c.in-Some-Some.page =
    sym (c.in-Some-Some.ensures.lookup.4 (omega arith) None ∙ ap (λ (l : List (Option Page)). slice_index_or l k None) c.deref.ensures.value)
    ∙ c.in-Some-Some.field-0-is in
    record {
      yes = λ yes. record { page = c.in-Some-Some.page; there = at; sized = c.if-page-size.true; home = c.has_two.ensures.yes yes };
      no = λ no page there sized two.
          c.has_two.ensures.no no (subst HasTwoHome (same_Some page c.in-Some-Some.page (sym there ∙ at)) two);
    }
