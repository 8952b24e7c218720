use Rattle.std.proofs.Common.{◌≡◌, refl, sym, ap, ◌∙◌, subst, arith}
use Rattle.plain_words.specs.Places.{numbers}
use Rattle.atomic_region.specs.Owned.{RegionId}
use Rattle.atomic_region.specs.Region.{Me}
use Rattle.errand_steps.specs.Errands.{ErrandFields}
use Rattle.live_heap.specs.declared.view.Lent.{Lent}
use Rattle.live_heap.specs.declared.view.View.{View}
use Rattle.live_heap.specs.Lending.{ComesBy, HasReturned, MayReturn, lent_block}
use Rattle.live_heap.specs.Passes.{view}
use Rattle.live_heap.specs.Pieces.{caller_mark, mark_place}
use Rattle.live_heap.proofs.Taking.{came-owned, carries, long-numbers, may-return}
use Rattle.live_heap.proofs.WordCalls.{own-within}
use Rattle.live_heap.proofs.heap.Heap.bring.Goals as goal

pub carry-requires : goal.carry-requires
carry-requires g c =
    let h = c.args.self.now in
    let p = c.args.pass.now in
    let m = c.args.memory in
    let of = c.requires.of in
    let memory = c.requires.memory in
    let block = lent_block m.block.place m.block.need (numbers m.words.places) in
    let comes = subst (λ (b : Lent). ComesBy (view p).lent b g.L.Lending.made g.L.Lending.shown) c.requires.block c.requires.comes in
    let size = ap (λ (i : RegionId). i.words) of.table in
    let within = (own-within h p m.block.place m.block.need of (came-owned h p block g.L.Lending.made g.L.Lending.shown of comes)).1 in
    (memory.at ∙ ap (λ (i : RegionId). i.at) (sym of.table), omega (arith, within, size, memory.first, memory.long))

pub take_back-requires-clause-mark : goal.take_back-requires-clause-mark
take_back-requires-clause-mark g c =
    let h = c.args.self.now in
    c.caller_mark-mark.ensures.place
    ∙ ap (λ n. mark_place h.layout (caller_mark h.layout n)) (c.caller.ensures.value ∙ ap (λ (e : ErrandFields). e.caller) (sym c.requires.owner))

pub take_back-requires-clause-may : goal.take_back-requires-clause-may
take_back-requires-clause-may g c =
    let h = c.args.self.now in
    let p = c.args.pass.now in
    let m = c.args.memory in
    let memory = c.requires.memory in
    let made = g.L.Lending.made in
    let shown = g.L.Lending.shown in
    let me = c.carry.new.self.me in
    let block = lent_block m.block.place m.block.need (numbers m.words.places) in
    let comes = subst (λ (b : Lent). ComesBy (view p).lent b made shown) c.requires.block c.requires.comes in
    let long = long-numbers memory.laid.0 m.words.places memory.laid.1 ∙ memory.long in
    let may = may-return h p block made shown me c.requires.of c.requires.idle comes long (carries h p m me c.requires.of.empty memory c.carry.ensures.2) in
    subst (λ (e : ErrandFields). MayReturn me e g.L.Lending.block made shown) (sym c.requires.owner)
    (subst (λ (b : Lent). MayReturn me p.errand b made shown) (sym c.requires.block) may)

pub returns : goal.returns
returns g c =
    let h = c.args.self.now in
    let p = c.args.pass.now in
    let m = c.args.memory in
    let L = g.L.Lending in
    let me = c.carry.new.self.me in
    let e = c.take_back.ensures in
    let here : me.0 ≡ view p = ap (λ (x : Me View). x.0) (carries h p m me c.requires.of.empty c.requires.memory c.carry.ensures.2) in
    record {
      block = refl;
      errand = refl;
      out = refl;
      seat = (e.seat.0 ∙ c.carry.ensures.0, e.seat.1 ∙ c.carry.ensures.1);
      returned = subst (λ (v : View). HasReturned g.L.Lending.owner g.L.Lending.block g.L.Lending.made g.L.Lending.shown v c.take_back.new.seat.me) here e.returned;
    }
