use Rattle.std.proofs.Common.{Some, None, refl, subst}
use Rattle.live_heap.specs.Going.{HasGone}
use Rattle.live_heap.proofs.heap.Heap.free_away.Goals as goal

pub returns-in-Some : goal.returns-in-Some
returns-in-Some g c =
    (Some c.in-Some.field-0, subst (λ o. HasGone c.args.self.now g.start c.args.tries o c.rejoin.new.pass) c.in-Some.is c.rejoin.ensures, refl)

pub returns-in-None : goal.returns-in-None
returns-in-None g c =
    (None, subst (λ o. HasGone c.args.self.now g.start c.args.tries o c.rejoin.new.pass) c.in-None.is c.rejoin.ensures, refl)
