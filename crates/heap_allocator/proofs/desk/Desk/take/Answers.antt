-- The cache tells what is out, before and behind.
use Rattle.heap_allocator.proofs.DeskLemmas.{begins-near, elsewhere, out-of_cache, out-of_desk}
use Rattle.heap_allocator.proofs.desk.Desk.take.Goals as goal

pub returns-in_default-take-clause-keeps : goal.returns-in_default-take-clause-keeps
returns-in_default-take-clause-keeps c = λ first size out.
    c.take.ensures.keeps first size (out-of_cache c.args.self.now c.in-Some.cache c.in-Some.is first size out)

pub returns-in-Given-clause-within : goal.returns-in-Given-clause-within
returns-in-Given-clause-within c =
    let x = c.in-Given.piece in
    begins-near _ c.take.new.self x.first x.size c.take.ensures.paged (c.in-Ok.ensures.given x (cc c.in-Given.is)).3

pub returns-in-Given-clause-out : goal.returns-in-Given-clause-out
returns-in-Given-clause-out c = (c.in-Ok.ensures.given c.in-Given.piece (cc c.in-Given.is)).3

pub returns-in-Given-clause-keeps : goal.returns-in-Given-clause-keeps
returns-in-Given-clause-keeps c = λ first size out.
    c.take.ensures.keeps first size (out-of_cache c.args.self.now c.in-Some.cache c.in-Some.is first size out)

pub returns-in_default-told-clause-keeps : goal.returns-in_default-told-clause-keeps
returns-in_default-told-clause-keeps c = λ first size out.
    c.take.ensures.keeps first size (out-of_cache c.args.self.now c.in-Some.cache c.in-Some.is first size out)

pub returns-in_default-told-clause-only : goal.returns-in_default-told-clause-only
returns-in_default-told-clause-only c = λ first size out _.
    out-of_desk c.args.self.now c.in-Some.cache c.in-Some.is first size
    (c.take.ensures.only first size out (elsewhere c.take.result first (λ x e. c.in_default-told.not-Given x (cc (c.in-Ok.is, e)))))
