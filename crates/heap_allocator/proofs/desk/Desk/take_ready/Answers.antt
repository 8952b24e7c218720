-- The cache tells what is out, before and behind.
use Rattle.std.proofs.Common.{refl}
use Rattle.std.proofs.lemmas.Option.{IfSome_then}
use Rattle.heap_allocator.proofs.DeskLemmas.{begins-near, out-of_cache, out-of_desk}
use Rattle.heap_allocator.proofs.desk.Desk.take_ready.Goals as goal

pub returns-in-Some-clause-given : goal.returns-in-Some-clause-given
returns-in-Some-clause-given c =
    IfSome_then c.take_spare.result c.take_spare.ensures.told (λ x told. let g = (told 1).given x refl in (g.0, g.2, g.1))

pub returns-in-Some-clause-aligned : goal.returns-in-Some-clause-aligned
returns-in-Some-clause-aligned c = IfSome_then c.take_spare.result c.take_spare.ensures.told (λ x told. (told 1).aligned x refl)

pub returns-in-Some-clause-within : goal.returns-in-Some-clause-within
returns-in-Some-clause-within c =
    IfSome_then c.take_spare.result c.take_spare.ensures.told
    (λ x told. begins-near c.args.heap.now c.take_spare.new.self x.first x.size c.take_spare.ensures.paged ((told 1).given x refl).3)

pub returns-in-Some-clause-fresh : goal.returns-in-Some-clause-fresh
returns-in-Some-clause-fresh c =
    IfSome_then c.take_spare.result c.take_spare.ensures.told
    (λ x told size out. (told 1).fresh x size refl (out-of_cache c.args.self.now c.in-Some.cache c.in-Some.is x.first size out))

pub returns-in-Some-clause-out : goal.returns-in-Some-clause-out
returns-in-Some-clause-out c = IfSome_then c.take_spare.result c.take_spare.ensures.told (λ x told. ((told 1).given x refl).3)

pub returns-in-Some-clause-keeps : goal.returns-in-Some-clause-keeps
returns-in-Some-clause-keeps c =
    IfSome_then c.take_spare.result c.take_spare.ensures.told
    (λ x told first size out. (told 1).keeps first size (out-of_cache c.args.self.now c.in-Some.cache c.in-Some.is first size out))

pub returns-in-Some-clause-only : goal.returns-in-Some-clause-only
returns-in-Some-clause-only c =
    IfSome_then c.take_spare.result c.take_spare.ensures.told
    (λ x told first size out away. out-of_desk c.args.self.now c.in-Some.cache c.in-Some.is first size ((told 1).only first size out away))
