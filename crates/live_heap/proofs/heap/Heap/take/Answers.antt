use Rattle.std.proofs.Common.{ℕ, ◌≡◌, refl, sym, ap, subst, ◌∙◌, rules, inl, inr}
use Rattle.heap_geometry.specs.declared.need.Need.{Need}
use Rattle.step_parts.specs.declared.large.point.LargePoint.{LargePoint}
use Rattle.step_parts.specs.declared.large.point.LargePoint.TheVariants as large
use Rattle.errand_steps.specs.declared.continuation.Continuation.TheVariants.{Nothing}
use Rattle.errand_steps.specs.declared.next.Next.TheVariants as next
use Rattle.errand_steps.specs.declared.point.Point.TheVariants as point
use Rattle.errand_steps.specs.declared.reply.Progress.TheVariants as progress
use Rattle.errand_steps.specs.declared.reply.Reply.TheVariants as reply
use Rattle.errand_steps.specs.declared.told.Ending.TheVariants.{Got, Empty, Missed}
use Rattle.errand_steps.specs.declared.told.Stepped.TheVariants.{Done, More}
use Rattle.errand_steps.specs.Calls.{take}
use Rattle.errand_steps.specs.Errands.{ErrandFields, answer_of, plan_of, settle_of}
use Rattle.errand_steps.specs.Points.{is_idle}
use Rattle.errand_steps.specs.Nexts.{next_of}
use Rattle.errand_steps.proofs.StayLemmas.{ended_answer}
use Rattle.live_heap.specs.declared.block.Block.{Block}
use Rattle.live_heap.specs.declared.pass.Pass.{Pass}
use Rattle.live_heap.specs.Going.{at_shelf, stands_on}
use Rattle.live_heap.specs.Passes.{seen}
use Rattle.live_heap.specs.Shelves.{MayLieOn, PutsByRule}
use Rattle.live_heap.proofs.Begun.{of-rule}
use Rattle.live_heap.proofs.CallsAnswers.{got-owns}
use Rattle.live_heap.proofs.CallsOne.{take-missed}
use Rattle.live_heap.proofs.PutsNone.{begun-puts, settle-puts}
use Rattle.live_heap.proofs.ShelfSteps.{HasLooked, counted-as, ends-look, got-need, got-place, got_at, last-counted, last-lost, last-won, load-opens, looked, planned-on, seen_at, take-at, take-last, taking}
use Rattle.live_heap.proofs.Stepped.{of-sight}
use Rattle.live_heap.proofs.TakenByRule.{taken-words}
use Rattle.live_heap.proofs.heap.Heap.take.Goals as goal
use Rattle.live_heap.proofs.heap.Heap.take.Goals.{in_default-go_on-via-in-Done+in_default, in_default-go_on-via-in_default}

pub step_on_shelf-first-requires-clause-table : goal.step_on_shelf-first-requires-clause-table
step_on_shelf-first-requires-clause-table g c =
    c.requires.of.table

pub step_on_shelf-first-requires-clause-opens_none : goal.step_on_shelf-first-requires-clause-opens_none
step_on_shelf-first-requires-clause-opens_none g c =
    load-opens c.args.self.now.layout c.args.shelf

pub step_on_shelf-first-requires-clause-rule : goal.step_on_shelf-first-requires-clause-rule
step_on_shelf-first-requires-clause-rule g c =
    let r = c.requires in
    let h = c.args.self.now in
    let p = c.args.pass.now in
    of-rule h (stands_on p (large.LoadShelf c.args.shelf)) (taking h p c.args.shelf r.of r.idle r.shelf)

pub step_on_shelf-first-requires-clause-sight : goal.step_on_shelf-first-requires-clause-sight
step_on_shelf-first-requires-clause-sight g c =
    let r = c.requires in
    let h = c.args.self.now in
    let p = c.args.pass.now in
    of-sight h (stands_on p (large.LoadShelf c.args.shelf)) (taking h p c.args.shelf r.of r.idle r.shelf)

pub step_on_shelf-first-requires-clause-puts : goal.step_on_shelf-first-requires-clause-puts
step_on_shelf-first-requires-clause-puts g c =
    let p = c.args.pass.now in
    begun-puts g.R.ShelfRule.allows p (stands_on p (large.LoadShelf c.args.shelf)) (take c.args.shelf) c.requires.idle
    (record { seat = refl; errand = sym (take-at p.errand c.args.shelf); out = refl }) tt

pub step_on_shelf-found-requires-clause-table : goal.step_on_shelf-found-requires-clause-table
step_on_shelf-found-requires-clause-table g c =
    c.step_on_shelf-first.ensures.seat.0 ∙ c.requires.of.table

pub step_on_shelf-found-requires-clause-rule : goal.step_on_shelf-found-requires-clause-rule
step_on_shelf-found-requires-clause-rule g c =
    let r = c.requires in
    let h = c.args.self.now in
    let p = c.args.pass.now in
    let s = c.step_on_shelf-first.new.seat in
    let x = c.step_on_shelf-first.result in
    let f = c.step_on_shelf-first.ensures in
    let at = c.settle_large.new.at in
    let m : Pass = record { seat = s; errand = p.errand; out = p.out } in
    let look = looked h p s c.args.shelf x at r.of r.idle r.shelf f.seat.0 f.seat.1 f.step c.settle_large.ensures.point in
    of-rule h (stands_on m at) look.of

pub step_on_shelf-found-requires-clause-sight : goal.step_on_shelf-found-requires-clause-sight
step_on_shelf-found-requires-clause-sight g c =
    let r = c.requires in
    let h = c.args.self.now in
    let p = c.args.pass.now in
    let s = c.step_on_shelf-first.new.seat in
    let x = c.step_on_shelf-first.result in
    let f = c.step_on_shelf-first.ensures in
    let at = c.settle_large.new.at in
    let m : Pass = record { seat = s; errand = p.errand; out = p.out } in
    let look = looked h p s c.args.shelf x at r.of r.idle r.shelf f.seat.0 f.seat.1 f.step c.settle_large.ensures.point in
    of-sight h (stands_on m at) look.of

pub step_on_shelf-found-requires-clause-opens_none : goal.step_on_shelf-found-requires-clause-opens_none
step_on_shelf-found-requires-clause-opens_none g c =
    let r = c.requires in
    let h = c.args.self.now in
    let p = c.args.pass.now in
    let s = c.step_on_shelf-first.new.seat in
    let x = c.step_on_shelf-first.result in
    let f = c.step_on_shelf-first.ensures in
    let at = c.settle_large.new.at in
    let m : Pass = record { seat = s; errand = p.errand; out = p.out } in
    let look = looked h p s c.args.shelf x at r.of r.idle r.shelf f.seat.0 f.seat.1 f.step c.settle_large.ensures.point in
    look.opens

pub step_on_shelf-found-requires-clause-puts : goal.step_on_shelf-found-requires-clause-puts
step_on_shelf-found-requires-clause-puts g c =
    let r = c.requires in
    let h = c.args.self.now in
    let p = c.args.pass.now in
    let s = c.step_on_shelf-first.new.seat in
    let x = c.step_on_shelf-first.result in
    let f = c.step_on_shelf-first.ensures in
    let at = c.settle_large.new.at in
    let m : Pass = record { seat = s; errand = p.errand; out = p.out } in
    let look = looked h p s c.args.shelf x at r.of r.idle r.shelf f.seat.0 f.seat.1 f.step c.settle_large.ensures.point in
    subst (PutsByRule g.R.ShelfRule.allows s.me.0.seen) (sym look.settled)
    (settle-puts g.R.ShelfRule.allows s.me.0.seen (at_shelf p.errand (large.LoadShelf c.args.shelf)) x)

pub invariant_of-result : goal.invariant_of-result
invariant_of-result g c =
    let r = c.requires in
    let h = c.args.self.now in
    let p = c.args.pass.now in
    let s = c.step_on_shelf-first.new.seat in
    let x = c.step_on_shelf-first.result in
    let f = c.step_on_shelf-first.ensures in
    let at = c.settle_large.new.at in
    let m : Pass = record { seat = s; errand = p.errand; out = p.out } in
    let look = looked h p s c.args.shelf x at r.of r.idle r.shelf f.seat.0 f.seat.1 f.step c.settle_large.ensures.point in
    let y = c.step_on_shelf-found.result in
    let e = c.step_on_shelf-found.ensures in
    let q : Pass = record { seat = c.step_on_shelf-found.new.seat; errand = c.count.new.self; out = p.out } in
    let settles = last-counted h p m c.args.shelf x y at q.errand look r.idle c.if-found.true
    (counted-as p.errand q.errand at y c.plan_large-action.result c.plan_large-action.ensures c.count.ensures) in
    let place = c.in-TakeBlock.place in
    let need = c.in-TakeBlock.need in
    let ends : next_of (point.Large at Nothing) y ≡ next.End (reply.Got place need) =
    last-won c.args.shelf at y look.last c.if-found.true ∙ ap (λ (k : LargePoint). next.End (got_at k)) c.in-TakeBlock.is in
    record { is_need = got-need h p m q c.args.shelf x y at place need look e.step settles ends }

pub returns-in-TakeBlock-clause-of : goal.returns-in-TakeBlock-clause-of
returns-in-TakeBlock-clause-of g c =
    let r = c.requires in
    let h = c.args.self.now in
    let p = c.args.pass.now in
    let s = c.step_on_shelf-first.new.seat in
    let x = c.step_on_shelf-first.result in
    let f = c.step_on_shelf-first.ensures in
    let at = c.settle_large.new.at in
    let m : Pass = record { seat = s; errand = p.errand; out = p.out } in
    let look = looked h p s c.args.shelf x at r.of r.idle r.shelf f.seat.0 f.seat.1 f.step c.settle_large.ensures.point in
    let y = c.step_on_shelf-found.result in
    let e = c.step_on_shelf-found.ensures in
    let q : Pass = record { seat = c.step_on_shelf-found.new.seat; errand = c.count.new.self; out = p.out } in
    let settles = last-counted h p m c.args.shelf x y at q.errand look r.idle c.if-found.true
    (counted-as p.errand q.errand at y c.plan_large-action.result c.plan_large-action.ensures c.count.ensures) in
    let place = c.in-TakeBlock.place in
    let need = c.in-TakeBlock.need in
    let ends : next_of (point.Large at Nothing) y ≡ next.End (reply.Got place need) =
    last-won c.args.shelf at y look.last c.if-found.true ∙ ap (λ (k : LargePoint). next.End (got_at k)) c.in-TakeBlock.is in
    let need_is = got-need h p m q c.args.shelf x y at place need look e.step settles ends in
    let block : Block = record { place = place; need = need; is_need = need_is } in
    let ended = ends-look h p m q c.args.shelf x y at (Got block) look e.step settles ends tt e.seat.0 e.seat.1 refl in
    ended.of

pub returns-in-TakeBlock-clause-tells : goal.returns-in-TakeBlock-clause-tells
returns-in-TakeBlock-clause-tells g c =
    let r = c.requires in
    let h = c.args.self.now in
    let p = c.args.pass.now in
    let s = c.step_on_shelf-first.new.seat in
    let x = c.step_on_shelf-first.result in
    let f = c.step_on_shelf-first.ensures in
    let at = c.settle_large.new.at in
    let m : Pass = record { seat = s; errand = p.errand; out = p.out } in
    let look = looked h p s c.args.shelf x at r.of r.idle r.shelf f.seat.0 f.seat.1 f.step c.settle_large.ensures.point in
    let y = c.step_on_shelf-found.result in
    let e = c.step_on_shelf-found.ensures in
    let q : Pass = record { seat = c.step_on_shelf-found.new.seat; errand = c.count.new.self; out = p.out } in
    let settles = last-counted h p m c.args.shelf x y at q.errand look r.idle c.if-found.true
    (counted-as p.errand q.errand at y c.plan_large-action.result c.plan_large-action.ensures c.count.ensures) in
    let place = c.in-TakeBlock.place in
    let need = c.in-TakeBlock.need in
    let ends : next_of (point.Large at Nothing) y ≡ next.End (reply.Got place need) =
    last-won c.args.shelf at y look.last c.if-found.true ∙ ap (λ (k : LargePoint). next.End (got_at k)) c.in-TakeBlock.is in
    let need_is = got-need h p m q c.args.shelf x y at place need look e.step settles ends in
    let block : Block = record { place = place; need = need; is_need = need_is } in
    let ended = ends-look h p m q c.args.shelf x y at (Got block) look e.step settles ends tt e.seat.0 e.seat.1 refl in
    (ended.called, got-owns p (take c.args.shelf) 1 q h r.of ended.of block ended.called)

pub returns-in-TakeBlock-clause-words : goal.returns-in-TakeBlock-clause-words
returns-in-TakeBlock-clause-words g c =
    let r = c.requires in
    let h = c.args.self.now in
    let p = c.args.pass.now in
    let s = c.step_on_shelf-first.new.seat in
    let x = c.step_on_shelf-first.result in
    let f = c.step_on_shelf-first.ensures in
    let at = c.settle_large.new.at in
    let m : Pass = record { seat = s; errand = p.errand; out = p.out } in
    let look = looked h p s c.args.shelf x at r.of r.idle r.shelf f.seat.0 f.seat.1 f.step c.settle_large.ensures.point in
    let y = c.step_on_shelf-found.result in
    let e = c.step_on_shelf-found.ensures in
    let q : Pass = record { seat = c.step_on_shelf-found.new.seat; errand = c.count.new.self; out = p.out } in
    let settles = last-counted h p m c.args.shelf x y at q.errand look r.idle c.if-found.true
    (counted-as p.errand q.errand at y c.plan_large-action.result c.plan_large-action.ensures c.count.ensures) in
    let place = c.in-TakeBlock.place in
    let need = c.in-TakeBlock.need in
    let ends : next_of (point.Large at Nothing) y ≡ next.End (reply.Got place need) =
    last-won c.args.shelf at y look.last c.if-found.true ∙ ap (λ (k : LargePoint). next.End (got_at k)) c.in-TakeBlock.is in
    let need_is = got-need h p m q c.args.shelf x y at place need look e.step settles ends in
    let block : Block = record { place = place; need = need; is_need = need_is } in
    let ended = ends-look h p m q c.args.shelf x y at (Got block) look e.step settles ends tt e.seat.0 e.seat.1 refl in
    let words = taken-words g.R.ShelfRule.allows h p q c.args.shelf 1 place need ended.of ended.called e.by_rule in
    λ other is. subst (λ (k : ℕ). MayLieOn g.R.ShelfRule.allows (seen q) q.errand.caller k c.args.shelf) (got-place _ other is) words

pub returns-in_default : goal.returns-in_default
returns-in_default g c =
    let r = c.requires in
    let h = c.args.self.now in
    let p = c.args.pass.now in
    let s = c.step_on_shelf-first.new.seat in
    let x = c.step_on_shelf-first.result in
    let f = c.step_on_shelf-first.ensures in
    let at = c.settle_large.new.at in
    let m : Pass = record { seat = s; errand = p.errand; out = p.out } in
    let look = looked h p s c.args.shelf x at r.of r.idle r.shelf f.seat.0 f.seat.1 f.step c.settle_large.ensures.point in
    let y = c.step_on_shelf-found.result in
    let e = c.step_on_shelf-found.ensures in
    let q : Pass = record { seat = c.step_on_shelf-found.new.seat; errand = c.count.new.self; out = p.out } in
    let settles = last-counted h p m c.args.shelf x y at q.errand look r.idle c.if-found.true
    (counted-as p.errand q.errand at y c.plan_large-action.result c.plan_large-action.ensures c.count.ensures) in
    let none : at ≡ large.ConfirmNothing c.args.shelf =
    elim (take-last c.args.shelf at look.last) [
      | inl (place, need, is) ↦ absurd (c.in_default.not-TakeBlock c.args.shelf place need is)
      | inr is ↦ is
    ] in
    let ends : next_of (point.Large at Nothing) y ≡ next.End reply.Empty =
    last-won c.args.shelf at y look.last c.if-found.true ∙ ap (λ (k : LargePoint). next.End (got_at k)) none in
    let ended = ends-look h p m q c.args.shelf x y at Empty look e.step settles ends tt e.seat.0 e.seat.1 refl in
    record { of = ended.of; tells = ended.called; words = λ block is. absurd cc }

pub go_on-requires-clause-busy : goal.go_on-requires-clause-busy
go_on-requires-clause-busy g c =
    let r = c.requires in
    let h = c.args.self.now in
    let p = c.args.pass.now in
    let begun = c.begin_take.ensures ∙ take-at p.errand c.args.shelf in
    ap (λ (d : ErrandFields). is_idle d.point) begun

pub go_on-requires-clause-planned : goal.go_on-requires-clause-planned
go_on-requires-clause-planned g c =
    let r = c.requires in
    let h = c.args.self.now in
    let p = c.args.pass.now in
    let begun = c.begin_take.ensures ∙ take-at p.errand c.args.shelf in
    planned-on p.errand (large.LoadShelf c.args.shelf) ∙ ap plan_of (sym begun)

pub go_on-requires-else-found-clause-busy : goal.go_on-requires-else-found-clause-busy
go_on-requires-else-found-clause-busy g c =
    let r = c.requires in
    let h = c.args.self.now in
    let p = c.args.pass.now in
    let s = c.step_on_shelf-first.new.seat in
    let x = c.step_on_shelf-first.result in
    let f = c.step_on_shelf-first.ensures in
    let at = c.settle_large.new.at in
    let m : Pass = record { seat = s; errand = p.errand; out = p.out } in
    let look = looked h p s c.args.shelf x at r.of r.idle r.shelf f.seat.0 f.seat.1 f.step c.settle_large.ensures.point in
    let begun = c.begin_take.ensures ∙ take-at p.errand c.args.shelf in
    let moved = c.go_on.ensures.errand ∙ (ap (λ (d : ErrandFields). settle_of d x) begun ∙ sym look.settled) in
    ap (λ (d : ErrandFields). is_idle d.point) moved

pub go_on-requires-else-found-clause-planned : goal.go_on-requires-else-found-clause-planned
go_on-requires-else-found-clause-planned g c =
    let r = c.requires in
    let h = c.args.self.now in
    let p = c.args.pass.now in
    let s = c.step_on_shelf-first.new.seat in
    let x = c.step_on_shelf-first.result in
    let f = c.step_on_shelf-first.ensures in
    let at = c.settle_large.new.at in
    let m : Pass = record { seat = s; errand = p.errand; out = p.out } in
    let look = looked h p s c.args.shelf x at r.of r.idle r.shelf f.seat.0 f.seat.1 f.step c.settle_large.ensures.point in
    let begun = c.begin_take.ensures ∙ take-at p.errand c.args.shelf in
    let moved = c.go_on.ensures.errand ∙ (ap (λ (d : ErrandFields). settle_of d x) begun ∙ sym look.settled) in
    c.plan_large-action.ensures ∙ (planned-on p.errand at ∙ ap plan_of (sym moved))

pub unreachable-requires : goal.unreachable-requires
unreachable-requires g c =
    let r = c.requires in
    let h = c.args.self.now in
    let p = c.args.pass.now in
    let s = c.step_on_shelf-first.new.seat in
    let x = c.step_on_shelf-first.result in
    let f = c.step_on_shelf-first.ensures in
    let at = c.settle_large.new.at in
    let m : Pass = record { seat = s; errand = p.errand; out = p.out } in
    let look = looked h p s c.args.shelf x at r.of r.idle r.shelf f.seat.0 f.seat.1 f.step c.settle_large.ensures.point in
    let y = c.step_on_shelf-found.result in
    let e = c.step_on_shelf-found.ensures in
    let begun = c.begin_take.ensures ∙ take-at p.errand c.args.shelf in
    let moved = c.go_on.ensures.errand ∙ (ap (λ (d : ErrandFields). settle_of d x) begun ∙ sym look.settled) in
    let q : Pass = record { seat = c.step_on_shelf-found.new.seat; errand = c.go_on-else-found.new.self; out = p.out } in
    let settles = c.go_on-else-found.ensures.errand ∙ ap (λ (d : ErrandFields). settle_of d y) moved in
    let ends = last-lost c.args.shelf at y look.last c.if-found.false in
    let answers : c.go_on-else-found.result ≡ progress.Done (reply.Missed (seen_at at) y.value) =
    c.go_on-else-found.ensures.answer ∙ (ap (λ (d : ErrandFields). answer_of d y) moved ∙ ended_answer (at_shelf p.errand at) y (reply.Missed (seen_at at) y.value) ends) in
    elim c.in_default-go_on.branch [
      | in_default-go_on-via-in-Done+in_default w ↦
          let e : w.in_default-go_on.field-0 ≡ reply.Missed (seen_at at) y.value =
          let both : progress.Done w.in_default-go_on.field-0 ≡ progress.Done (reply.Missed (seen_at at) y.value) = sym w.in_default-go_on.is ∙ answers in cc in
          search rules
      | in_default-go_on-via-in_default w ↦ search rules
    ]

pub returns-in-Done-Missed-clause-of : goal.returns-in-Done-Missed-clause-of
returns-in-Done-Missed-clause-of g c =
    let r = c.requires in
    let h = c.args.self.now in
    let p = c.args.pass.now in
    let s = c.step_on_shelf-first.new.seat in
    let x = c.step_on_shelf-first.result in
    let f = c.step_on_shelf-first.ensures in
    let at = c.settle_large.new.at in
    let m : Pass = record { seat = s; errand = p.errand; out = p.out } in
    let look = looked h p s c.args.shelf x at r.of r.idle r.shelf f.seat.0 f.seat.1 f.step c.settle_large.ensures.point in
    let y = c.step_on_shelf-found.result in
    let e = c.step_on_shelf-found.ensures in
    let begun = c.begin_take.ensures ∙ take-at p.errand c.args.shelf in
    let moved = c.go_on.ensures.errand ∙ (ap (λ (d : ErrandFields). settle_of d x) begun ∙ sym look.settled) in
    let q : Pass = record { seat = c.step_on_shelf-found.new.seat; errand = c.go_on-else-found.new.self; out = p.out } in
    let settles = c.go_on-else-found.ensures.errand ∙ ap (λ (d : ErrandFields). settle_of d y) moved in
    let ends = last-lost c.args.shelf at y look.last c.if-found.false in
    let answers : c.go_on-else-found.result ≡ progress.Done (reply.Missed (seen_at at) y.value) =
    c.go_on-else-found.ensures.answer ∙ (ap (λ (d : ErrandFields). answer_of d y) moved ∙ ended_answer (at_shelf p.errand at) y (reply.Missed (seen_at at) y.value) ends) in
    let d = c.in-Done-Missed in
    let told : progress.Done (reply.Missed d.expected d.found) ≡ progress.Done (reply.Missed (seen_at at) y.value) =
    sym (d.is ∙ ap progress.Done d.field-0-is) ∙ answers in
    let ends_so : next_of (point.Large at Nothing) y ≡ next.End (reply.Missed d.expected d.found) =
    let same : reply.Missed d.expected d.found ≡ reply.Missed (seen_at at) y.value = cc in ends ∙ ap next.End (sym same) in
    let ended = ends-look h p m q c.args.shelf x y at (Missed d.expected d.found) look e.step settles ends_so tt e.seat.0 e.seat.1 refl in
    ended.of

pub returns-in-Done-Missed-clause-tells : goal.returns-in-Done-Missed-clause-tells
returns-in-Done-Missed-clause-tells g c =
    let r = c.requires in
    let h = c.args.self.now in
    let p = c.args.pass.now in
    let s = c.step_on_shelf-first.new.seat in
    let x = c.step_on_shelf-first.result in
    let f = c.step_on_shelf-first.ensures in
    let at = c.settle_large.new.at in
    let m : Pass = record { seat = s; errand = p.errand; out = p.out } in
    let look = looked h p s c.args.shelf x at r.of r.idle r.shelf f.seat.0 f.seat.1 f.step c.settle_large.ensures.point in
    let y = c.step_on_shelf-found.result in
    let e = c.step_on_shelf-found.ensures in
    let begun = c.begin_take.ensures ∙ take-at p.errand c.args.shelf in
    let moved = c.go_on.ensures.errand ∙ (ap (λ (d : ErrandFields). settle_of d x) begun ∙ sym look.settled) in
    let q : Pass = record { seat = c.step_on_shelf-found.new.seat; errand = c.go_on-else-found.new.self; out = p.out } in
    let settles = c.go_on-else-found.ensures.errand ∙ ap (λ (d : ErrandFields). settle_of d y) moved in
    let ends = last-lost c.args.shelf at y look.last c.if-found.false in
    let answers : c.go_on-else-found.result ≡ progress.Done (reply.Missed (seen_at at) y.value) =
    c.go_on-else-found.ensures.answer ∙ (ap (λ (d : ErrandFields). answer_of d y) moved ∙ ended_answer (at_shelf p.errand at) y (reply.Missed (seen_at at) y.value) ends) in
    let d = c.in-Done-Missed in
    let told : progress.Done (reply.Missed d.expected d.found) ≡ progress.Done (reply.Missed (seen_at at) y.value) =
    sym (d.is ∙ ap progress.Done d.field-0-is) ∙ answers in
    let ends_so : next_of (point.Large at Nothing) y ≡ next.End (reply.Missed d.expected d.found) =
    let same : reply.Missed d.expected d.found ≡ reply.Missed (seen_at at) y.value = cc in ends ∙ ap next.End (sym same) in
    let ended = ends-look h p m q c.args.shelf x y at (Missed d.expected d.found) look e.step settles ends_so tt e.seat.0 e.seat.1 refl in
    let b : Pass = stands_on p (large.LoadShelf c.args.shelf) in
    let misses = take-missed p b (stands_on m at) q c.args.shelf More (Done (Missed d.expected d.found)) d.expected d.found refl r.idle
    (record { seat = refl; errand = sym (take-at p.errand c.args.shelf); out = refl }) look.stepped look.last ended.stepped in
    (ended.called, misses.0, misses.1)
