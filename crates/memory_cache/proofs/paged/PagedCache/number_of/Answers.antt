use Rattle.std.proofs.Common.{ℕ, ◌≡◌, ◌<◌, ◌/◌, Some, ◌∙◌, ap, length, subst, sym}
use Rattle.std.proofs.lemmas.Option.{same_Some}
use Rattle.memory_cache.specs.declared.page.Page.{Page}
use Rattle.memory_cache.specs.Paged.{page_at}
use Rattle.memory_cache.specs.Pages.{IsOutAt}
use Rattle.memory_cache.proofs.PagedLemmas.{page-near}
use Rattle.memory_cache.proofs.TableLemmas.{page-read, within-table}
use Rattle.memory_cache.proofs.paged.PagedCache.number_of.Goals as goal

pub number_of-requires : goal.number_of-requires
number_of-requires c =
    let s = c.args.self.now in
    let k : ℕ = c.args.first / 2048 in
    let o = c.requires.out in
    let page = c.in-Some.page in
    let within : k < length s.pages.items = within-table s.pages.items k o.page o.there in
    let there : page_at s k ≡ Some page = page-read s k c.index.result.now within c.index.ensures ∙ c.in-Some.is in
    let one : o.page ≡ page = same_Some o.page page (sym o.there ∙ there) in
    record {
      near = page-near c.requires.paged.0 s k page c.requires.paged.1 there;
      out = subst (λ (p : Page). IsOutAt p c.args.first) one o.out;
    }

pub returns : goal.returns
returns c =
    let s = c.args.self.now in
    let k : ℕ = c.args.first / 2048 in
    let o = c.requires.out in
    let page = c.in-Some.page in
    let within : k < length s.pages.items = within-table s.pages.items k o.page o.there in
    let there : page_at s k ≡ Some page = page-read s k c.index.result.now within c.index.ensures ∙ c.in-Some.is in
    let one : o.page ≡ page = same_Some o.page page (sym o.there ∙ there) in
    record { page = page; there = there; out = c.number_of.ensures; sized = ap (λ (p : Page). p.size) (sym one) ∙ o.sized }
