use Rattle.std.proofs.Common.{◌≡◌, ◌<◌, ◌≤◌, ◌+◌, List, sym, ap, ◌∙◌, subst, length}
use Rattle.plain_words.specs.Places.{numbers}
use Rattle.atomic_region.specs.Owned.{RegionId}
use Rattle.atomic_region.specs.Region.{Me}
use Rattle.errand_steps.specs.Errands.{ErrandFields}
use Rattle.live_heap.specs.declared.view.Lent.{Lent}
use Rattle.live_heap.specs.declared.view.View.{View}
use Rattle.live_heap.specs.Lending.{HasReturned, MayReturn, lent_block}
use Rattle.live_heap.specs.Memory.{all_but}
use Rattle.live_heap.specs.Passes.{view}
use Rattle.live_heap.specs.Pieces.{caller_mark, mark_place}
use Rattle.live_heap.proofs.Lifting.{lifted-caller, lifted-leads, lifted-may, lifted-region, lifted-within}
use Rattle.live_heap.proofs.heap.Heap.lay_words.Goals as goal

pub caller_mark-mark-requires : goal.caller_mark-mark-requires
caller_mark-mark-requires g c =
    let r = c.requires in
    let q = c.args.pass.now in
    subst (λ n. n < c.args.self.now.layout.callers) (sym c.caller.ensures.value)
    (lifted-caller c.args.self.now c.args.place c.args.need g.L.Lending.made c.args.words q r.words r.lifted
    (subst (λ n. n < q.errand.geometry.callers) c.caller.ensures.value c.caller.ensures.within))

pub carry-requires : goal.carry-requires
carry-requires g c =
    let h = c.args.self.now in
    let r = c.requires in
    let at = lifted-region h c.args.place c.args.need g.L.Lending.made c.args.words c.args.pass.now r.words r.lifted in (
      r.words.at ∙ ap (λ (i : RegionId). i.at) (sym at),
      subst (λ (i : RegionId). c.args.words.first + length c.args.words.places ≤ i.words) (sym at)
          (lifted-within h c.args.place c.args.need g.L.Lending.made c.args.words c.args.pass.now r.words r.lifted),
    )

pub take_back-requires-clause-table : goal.take_back-requires-clause-table
take_back-requires-clause-table g c =
    let r = c.requires in
    c.carry.ensures.0 ∙ lifted-region c.args.self.now c.args.place c.args.need g.L.Lending.made c.args.words c.args.pass.now r.words r.lifted

pub take_back-requires-clause-mark : goal.take_back-requires-clause-mark
take_back-requires-clause-mark g c =
    let h = c.args.self.now in
    c.caller_mark-mark.ensures.place
    ∙ ap (λ n. mark_place h.layout (caller_mark h.layout n)) (c.caller.ensures.value ∙ ap (λ (e : ErrandFields). e.caller) (sym c.requires.owner))

pub take_back-requires-clause-may : goal.take_back-requires-clause-may
take_back-requires-clause-may g c =
    let r = c.requires in
    let q = c.args.pass.now in
    let made = g.L.Lending.made in
    let me = c.carry.new.self.me in
    let block = lent_block c.args.place c.args.need (numbers c.args.words.places) in
    let may = lifted-may c.args.self.now c.args.place c.args.need made c.args.words q r.words r.lifted me c.carry.ensures.2 in
    subst (λ (e : ErrandFields). MayReturn me e g.L.Lending.block made g.L.Lending.shown) (sym r.owner)
    (subst (λ (b : Lent). MayReturn me q.errand b made g.L.Lending.shown) (sym r.block)
    (subst (λ (s : List Lent). MayReturn me q.errand block made s) (sym r.shown) may))

pub returns : goal.returns
returns g c = λ before lifted.
    let h = c.args.self.now in
    let r = c.requires in
    let q = c.args.pass.now in
    let made = g.L.Lending.made in
    let e = c.take_back.ensures in
    let seat = c.take_back.new.seat in
    let block = lent_block c.args.place c.args.need (numbers c.args.words.places) in
    let here : c.carry.new.self.me.0 ≡ view q = ap (λ (m : Me View). m.0) c.carry.ensures.2 in
    let one = subst (λ (f : ErrandFields). HasReturned f g.L.Lending.block made g.L.Lending.shown c.carry.new.self.me.0 seat.me) r.owner e.returned in
    let two = subst (λ (b : Lent). HasReturned q.errand b made g.L.Lending.shown c.carry.new.self.me.0 seat.me) r.block one in
    let three = subst (λ (s : List Lent). HasReturned q.errand block made s c.carry.new.self.me.0 seat.me) r.shown two in
    let four = subst (λ (v : View). HasReturned q.errand block made (all_but c.args.place (view q).lent) v seat.me) here three in
    lifted-leads h c.args.place c.args.need made c.args.words q r.words r.lifted before lifted seat four (e.seat.0 ∙ c.carry.ensures.0) (e.seat.1 ∙ c.carry.ensures.1)
