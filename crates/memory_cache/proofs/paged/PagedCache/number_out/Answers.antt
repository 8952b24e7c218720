use Rattle.std.proofs.Common.{◌≡◌, ◌/◌, List, Option, None, Some, sym, ap, ◌∙◌, arith, slice_index_or}
use Rattle.std.proofs.lemmas.Option.{IfSome_then}
use Rattle.memory_cache.specs.declared.page.Page.{Page}
use Rattle.memory_cache.specs.Paged.{page_at}
use Rattle.memory_cache.proofs.PagedLemmas.{page-near}
use Rattle.memory_cache.proofs.paged.PagedCache.number_out.Goals as goal

pub number_out-requires : goal.number_out-requires
number_out-requires c =
    let s = c.args.self.now in
    let at : page_at s (c.args.first / 2048) ≡ Some c.in-Some-Some.page =
    sym (c.in-Some-Some.ensures.lookup.4 (omega arith) None ∙ ap (λ (l : List (Option Page)). slice_index_or l (c.args.first / 2048) None) c.deref.ensures.value)
    ∙ c.in-Some-Some.field-0-is in
    record { near = page-near c.requires.paged.0 s (c.args.first / 2048) c.in-Some-Some.page c.requires.paged.1 at }

pub returns-in-Some-Some-clause-out : goal.returns-in-Some-Some-clause-out
returns-in-Some-Some-clause-out c =
    let s = c.args.self.now in
    let page = c.in-Some-Some.page in
    let at : page_at s (c.args.first / 2048) ≡ Some page =
    sym (c.in-Some-Some.ensures.lookup.4 (omega arith) None ∙ ap (λ (l : List (Option Page)). slice_index_or l (c.args.first / 2048) None) c.deref.ensures.value)
    ∙ c.in-Some-Some.field-0-is in
    IfSome_then c.number_out.result c.number_out.ensures.out (λ number out. record { page = page; there = at; out = out; sized = c.if-page-size.true })
