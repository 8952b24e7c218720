use Rattle.std.proofs.Common.{Some, None, refl, subst}
use Rattle.errand_steps.specs.Calls.{alloc}
use Rattle.live_heap.specs.Going.{HasGone}
use Rattle.live_heap.proofs.CallsAnswers.{ending-of_alloc}
use Rattle.live_heap.proofs.heap.Heap.alloc_away.Goals as goal

pub alloc_ended-requires : goal.alloc_ended-requires
alloc_ended-requires g c =
    let (first, calling) = c.requires.1.1.0 in
    let gone : HasGone c.args.self.now g.start c.args.tries (Some c.in-Some.ending) c.rejoin.new.pass =
    subst (λ o. HasGone c.args.self.now g.start c.args.tries o c.rejoin.new.pass) c.in-Some.is c.rejoin.ensures in
    let all = (gone.goes first (alloc c.args._need) 0 calling).called.ended.ended in
    ending-of_alloc c.args._need c.in-Some.ending all.0 all.1

pub returns-in-Some : goal.returns-in-Some
returns-in-Some g c = (
  Some c.in-Some.ending,
  subst (λ o. HasGone c.args.self.now g.start c.args.tries o c.rejoin.new.pass) c.in-Some.is c.rejoin.ensures,
  c.alloc_ended.ensures,
)

pub returns-in-None : goal.returns-in-None
returns-in-None g c =
    (None, subst (λ o. HasGone c.args.self.now g.start c.args.tries o c.rejoin.new.pass) c.in-None.is c.rejoin.ensures, refl)
