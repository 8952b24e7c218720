use Rattle.std.proofs.Common.{ap, refl, subst, sym, ◌∙◌}
use Rattle.std.specs.Prelude.{is_some}
use Rattle.std.proofs.lemmas.Bool.{false≢true}
use Rattle.memory_cache.specs.declared.paged.PagedCache.{PagedCache}
use Rattle.memory_cache.specs.Paged.{HasNewPage, HasTold}
use Rattle.memory_cache.proofs.paged.PagedCache.take.Goals as goal

pub take_page-requires : goal.take_page-requires
take_page-requires c = (refl, (c.take_ready.ensures.paged, (c.requires.words, c.requires.tries)))

pub returns-in-Some-clause-paged : goal.returns-in-Some-clause-paged
returns-in-Some-clause-paged c = (c.in-Some.ensures.told c.args.tries).paged

pub returns-in-Some-clause-given : goal.returns-in-Some-clause-given
returns-in-Some-clause-given c = (c.in-Some.ensures.told c.args.tries).given

pub returns-in-Some-clause-aligned : goal.returns-in-Some-clause-aligned
returns-in-Some-clause-aligned c = (c.in-Some.ensures.told c.args.tries).aligned

pub returns-in-Some-clause-fresh : goal.returns-in-Some-clause-fresh
returns-in-Some-clause-fresh c = (c.in-Some.ensures.told c.args.tries).fresh

pub returns-in-Some-clause-keeps : goal.returns-in-Some-clause-keeps
returns-in-Some-clause-keeps c = (c.in-Some.ensures.told c.args.tries).keeps

pub returns-in-Some-clause-only : goal.returns-in-Some-clause-only
returns-in-Some-clause-only c = (c.in-Some.ensures.told c.args.tries).only

pub returns-in-None-clause-fresh : goal.returns-in-None-clause-fresh
returns-in-None-clause-fresh c =
    (subst (λ (s : PagedCache). HasTold c.args.heap.now s c.args.words c.args.tries c.take_page.result c.take_page.new.self)
    (c.take_ready.ensures.none c.in-None.is) c.take_page.ensures.told).fresh

pub returns-in-None-clause-keeps : goal.returns-in-None-clause-keeps
returns-in-None-clause-keeps c =
    (subst (λ (s : PagedCache). HasTold c.args.heap.now s c.args.words c.args.tries c.take_page.result c.take_page.new.self)
    (c.take_ready.ensures.none c.in-None.is) c.take_page.ensures.told).keeps

pub returns-in-None-clause-only : goal.returns-in-None-clause-only
returns-in-None-clause-only c =
    (subst (λ (s : PagedCache). HasTold c.args.heap.now s c.args.words c.args.tries c.take_page.result c.take_page.new.self)
    (c.take_ready.ensures.none c.in-None.is) c.take_page.ensures.told).only

-- where a page is ready it is served
pub returns-in-None-clause-served : goal.returns-in-None-clause-served
returns-in-None-clause-served c = λ ready. absurd (false≢true (sym (ap is_some c.in-None.is) ∙ c.take_ready.ensures.serves ready))

pub returns-in-None-clause-hits : goal.returns-in-None-clause-hits
returns-in-None-clause-hits c = λ ready. absurd (false≢true (sym (ap is_some c.in-None.is) ∙ c.take_ready.ensures.serves ready))

pub returns-in-None-clause-new : goal.returns-in-None-clause-new
returns-in-None-clause-new c = λ x told none.
    subst (λ (s : PagedCache). HasNewPage c.args.heap.now s c.args.words c.args.tries x.first c.take_page.new.self) (c.take_ready.ensures.none c.in-None.is)
    (c.take_page.ensures.new x told)
