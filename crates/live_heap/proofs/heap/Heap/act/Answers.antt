use Rattle.std.proofs.Common.{ap, ◌∙◌, sym, subst, refl, ◌<◌}
use Rattle.word_table.specs.declared.action.Action.{Action}
use Rattle.word_table.specs.Actions.{name_of, found_by}
use Rattle.word_table.specs.Table.{Exists}
use Rattle.errand_steps.specs.Errands.{ErrandFields, answer_of, settle_of}
use Rattle.errand_steps.proofs.BlindLemmas.{errand-blind, answer-blind}
use Rattle.atomic_region.specs.Owned.{RegionId}
use Rattle.live_heap.specs.Heaps.{HeapFields}
use Rattle.live_heap.proofs.Actions.{may-load, may-store, may-exchange, may-swap, may-and}
use Rattle.live_heap.specs.Sights.{TakesStep}
use Rattle.live_heap.proofs.heap.Heap.act.Goals as goal

pub index-requires : goal.index-requires
index-requires g c = subst (λ (a : Action). Exists c.args.self.now.layout (name_of a)) c.in-Load.is c.requires.there

pub load-value-requires : goal.load-value-requires
load-value-requires g c =
    let r = c.requires in
    let h = c.args.self.now in
    let inner = c.self.inside in
    let reg = ap (λ (x : HeapFields). x.region) c.self.view_is in
    let key = inner.laid.1 ∙ ap (λ (x : HeapFields). x.layout) c.self.view_is in (
      r.table ∙ sym reg,
      c.start-start.ensures,
      subst (λ (z : RegionId). c.index.result < z.words) (sym reg) c.index.ensures.within,
      may-load inner.table.shared.key h.layout inner.table.shared.id.words c.args.seat.now.id c.args.seat.now.me r.sight.before g.E.Doing.errand g.E.Doing.errand c.in-Load.name
          c.index.result key refl h.checked r.sight.one r.sight.apart r.sight.begun r.busy r.ready r.puts c.index.ensures.place (sym r.planned ∙ c.in-Load.is),
    )

pub index-requires-in-Store : goal.index-requires-in-Store
index-requires-in-Store g c = subst (λ (a : Action). Exists c.args.self.now.layout (name_of a)) c.in-Store.is c.requires.there

pub store-requires : goal.store-requires
store-requires g c =
    let r = c.requires in
    let h = c.args.self.now in
    let inner = c.self.inside in
    let reg = ap (λ (x : HeapFields). x.region) c.self.view_is in
    let key = inner.laid.1 ∙ ap (λ (x : HeapFields). x.layout) c.self.view_is in (
      r.table ∙ sym reg,
      c.start-start.ensures,
      subst (λ (z : RegionId). c.index-in-Store.result < z.words) (sym reg) c.index-in-Store.ensures.within,
      may-store inner.table.shared.key h.layout inner.table.shared.id.words c.args.seat.now.id c.args.seat.now.me r.sight.before g.E.Doing.errand g.E.Doing.errand c.in-Store.name
          c.index-in-Store.result key refl h.checked r.sight.one r.sight.apart r.sight.begun r.busy r.ready r.puts c.index-in-Store.ensures.place c.in-Store.new (sym r.planned ∙ c.in-Store.is),
    )

pub index-requires-in-Cas : goal.index-requires-in-Cas
index-requires-in-Cas g c = subst (λ (a : Action). Exists c.args.self.now.layout (name_of a)) c.in-Cas.is c.requires.there

pub compare_exchange-value-requires : goal.compare_exchange-value-requires
compare_exchange-value-requires g c =
    let r = c.requires in
    let h = c.args.self.now in
    let inner = c.self.inside in
    let reg = ap (λ (x : HeapFields). x.region) c.self.view_is in
    let key = inner.laid.1 ∙ ap (λ (x : HeapFields). x.layout) c.self.view_is in (
      r.table ∙ sym reg,
      c.start-start.ensures,
      subst (λ (z : RegionId). c.index-in-Cas.result < z.words) (sym reg) c.index-in-Cas.ensures.within,
      may-exchange inner.table.shared.key h.layout inner.table.shared.id.words c.args.seat.now.id c.args.seat.now.me r.sight.before g.E.Doing.errand g.E.Doing.errand c.in-Cas.name
          c.index-in-Cas.result key refl h.checked r.sight.one r.sight.apart r.sight.begun r.busy r.ready r.puts c.index-in-Cas.ensures.place c.in-Cas.expected c.in-Cas.new (sym r.planned ∙ c.in-Cas.is),
    )

pub index-requires-in-Swap : goal.index-requires-in-Swap
index-requires-in-Swap g c = subst (λ (a : Action). Exists c.args.self.now.layout (name_of a)) c.in-Swap.is c.requires.there

pub swap-value-requires : goal.swap-value-requires
swap-value-requires g c =
    let r = c.requires in
    let h = c.args.self.now in
    let inner = c.self.inside in
    let reg = ap (λ (x : HeapFields). x.region) c.self.view_is in
    let key = inner.laid.1 ∙ ap (λ (x : HeapFields). x.layout) c.self.view_is in (
      r.table ∙ sym reg,
      c.start-start.ensures,
      subst (λ (z : RegionId). c.index-in-Swap.result < z.words) (sym reg) c.index-in-Swap.ensures.within,
      may-swap inner.table.shared.key h.layout inner.table.shared.id.words c.args.seat.now.id c.args.seat.now.me r.sight.before g.E.Doing.errand g.E.Doing.errand c.in-Swap.name
          c.index-in-Swap.result key refl h.checked r.sight.one r.sight.apart r.sight.begun r.busy r.ready r.puts c.index-in-Swap.ensures.place c.in-Swap.new (sym r.planned ∙ c.in-Swap.is),
    )

pub index-requires-in-And : goal.index-requires-in-And
index-requires-in-And g c = subst (λ (a : Action). Exists c.args.self.now.layout (name_of a)) c.in-And.is c.requires.there

pub fetch_and-value-requires : goal.fetch_and-value-requires
fetch_and-value-requires g c =
    let r = c.requires in
    let h = c.args.self.now in
    let inner = c.self.inside in
    let reg = ap (λ (x : HeapFields). x.region) c.self.view_is in
    let key = inner.laid.1 ∙ ap (λ (x : HeapFields). x.layout) c.self.view_is in (
      r.table ∙ sym reg,
      c.start-start.ensures,
      subst (λ (z : RegionId). c.index-in-And.result < z.words) (sym reg) c.index-in-And.ensures.within,
      may-and inner.table.shared.key h.layout inner.table.shared.id.words c.args.seat.now.id c.args.seat.now.me r.sight.before g.E.Doing.errand g.E.Doing.errand c.in-And.name
          c.index-in-And.result key refl h.checked r.sight.one r.sight.apart r.sight.begun r.busy r.ready r.puts c.index-in-And.ensures.place c.in-And.mask (sym r.planned ∙ c.in-And.is),
    )

pub returns-in-Store-clause-step : goal.returns-in-Store-clause-step
returns-in-Store-clause-step g c =
    let r = c.requires in
    let t = c.store.ensures.2 in
    let stores = sym r.planned ∙ c.in-Store.is in
    let S : ErrandFields → Type 0 = λ x. TakesStep x t.0 c.args.seat.now.me.0 c.store.new.seat.me.0 in (
      t.0,
      t.1.0.0,
      errand-blind g.E.Doing.errand c.in-Store.name c.in-Store.new _ _ stores,
      answer-blind g.E.Doing.errand c.in-Store.name c.in-Store.new _ _ stores,
    )

pub returns-in-Cas-clause-step : goal.returns-in-Cas-clause-step
returns-in-Cas-clause-step g c =
    let r = c.requires in
    let x = c.compare_exchange-value.result in
    let t = c.compare_exchange-value.ensures.2.0.0 in
    let S : ErrandFields → Type 0 = λ e. TakesStep e x c.args.seat.now.me.0 c.compare_exchange-value.new.seat.me.0 in
    let found = λ (a : Action). found_by a x in
    let e = g.E.Doing.errand in
    let exchanges = sym c.in-Cas.is ∙ r.planned in (
      x,
      t,
      ap (λ (a : Action). settle_of e (found a)) exchanges,
      ap (λ (a : Action). answer_of e (found a)) exchanges,
    )
