use Rattle.std.proofs.Common.{refl, sym, subst}
use Rattle.errand_steps.specs.Begins.{IsBusy}
use Rattle.live_heap.specs.Passes.{seen}
use Rattle.live_heap.specs.Shelves.{PutsByRule}
use Rattle.live_heap.proofs.PutsNone.{settle-puts}
use Rattle.live_heap.specs.declared.pass.Pass.{Pass}
use Rattle.live_heap.proofs.JoinLemmas.{joins-tellable, joins-cleared, joins-ends, joins-lost, joins-more, joins-never, joins-of}
use Rattle.live_heap.proofs.heap.Heap.rejoin.Goals as goal

pub plan-action-requires : goal.plan-action-requires
plan-action-requires g c = let j = c.requires.1.1 in subst IsBusy (sym j.stands) j.going.busy

pub go_on-requires-clause-busy : goal.go_on-requires-clause-busy
go_on-requires-clause-busy g c = let j = c.requires.1.1 in subst IsBusy (sym j.stands) j.going.busy

pub unreachable-requires : goal.unreachable-requires
unreachable-requires g c =
    let q : Pass = record { seat = c.args.pass.now.seat; errand = c.go_on.new.self; out = c.args.pass.now.out } in
    let t = c.go_on.ensures in
    joins-never c.args.self.now g.start c.args.tries _ c.args.pass.now c.requires.1.1 q c.go_on.result refl refl t.errand t.answer c.in-Idle.is

pub drive-requires : goal.drive-requires
drive-requires g c =
    let q : Pass = record { seat = c.args.pass.now.seat; errand = c.go_on.new.self; out = c.args.pass.now.out } in
    let t = c.go_on.ensures in
    λ κs within. (
      within,
      (
        joins-of c.args.self.now g.start c.args.tries _ c.args.pass.now c.requires.1.1 q c.go_on.result refl refl t.errand t.answer,
        (
          joins-more c.args.self.now g.start c.args.tries _ c.args.pass.now c.requires.1.1 q c.go_on.result refl refl t.errand t.answer c.requires.1.0 c.in-More.is,
          subst (PutsByRule g.R.ShelfRule.allows (seen c.args.pass.now)) (sym t.errand) (settle-puts g.R.ShelfRule.allows (seen c.args.pass.now) c.args.pass.now.errand c.args.found),
        ),
      ),
    )

pub drive-requires-in-Lost : goal.drive-requires-in-Lost
drive-requires-in-Lost g c =
    let q : Pass = record { seat = c.args.pass.now.seat; errand = c.go_on.new.self; out = c.args.pass.now.out } in
    let t = c.go_on.ensures in
    λ κs within. (
      within,
      (
        joins-of c.args.self.now g.start c.args.tries _ c.args.pass.now c.requires.1.1 q c.go_on.result refl refl t.errand t.answer,
        (
          joins-lost c.args.self.now g.start c.args.tries _ c.args.pass.now c.requires.1.1 q c.go_on.result refl refl t.errand t.answer c.requires.1.0 c.in-Lost.is,
          subst (PutsByRule g.R.ShelfRule.allows (seen c.args.pass.now)) (sym t.errand) (settle-puts g.R.ShelfRule.allows (seen c.args.pass.now) c.args.pass.now.errand c.args.found),
        ),
      ),
    )

pub drive-requires-in-Cleared : goal.drive-requires-in-Cleared
drive-requires-in-Cleared g c =
    let q : Pass = record { seat = c.args.pass.now.seat; errand = c.go_on.new.self; out = c.args.pass.now.out } in
    let t = c.go_on.ensures in
    λ κs within. (
      within,
      (
        joins-of c.args.self.now g.start c.args.tries _ c.args.pass.now c.requires.1.1 q c.go_on.result refl refl t.errand t.answer,
        (
          joins-cleared c.args.self.now g.start c.args.tries _ c.args.pass.now c.requires.1.1 q c.go_on.result refl refl t.errand t.answer c.requires.1.0 c.in-Cleared.is,
          subst (PutsByRule g.R.ShelfRule.allows (seen c.args.pass.now)) (sym t.errand) (settle-puts g.R.ShelfRule.allows (seen c.args.pass.now) c.args.pass.now.errand c.args.found),
        ),
      ),
    )

pub ended-requires : goal.ended-requires
ended-requires g c =
    let q : Pass = record { seat = c.args.pass.now.seat; errand = c.go_on.new.self; out = c.args.pass.now.out } in
    let t = c.go_on.ensures in
    joins-tellable c.args.self.now g.start c.args.tries _ c.args.pass.now c.requires.1.1 q c.go_on.result refl refl t.errand t.answer c.in-Done.reply c.in-Done.is

pub returns-in-Done : goal.returns-in-Done
returns-in-Done g c =
    let q : Pass = record { seat = c.args.pass.now.seat; errand = c.go_on.new.self; out = c.args.pass.now.out } in
    let t = c.go_on.ensures in
    joins-ends c.args.self.now g.start c.args.tries _ c.args.pass.now c.requires.1.1 q c.go_on.result refl refl t.errand t.answer c.requires.1.0 c.in-Done.reply c.in-Done.is c.ended.result c.ended.ensures.reply
