use Rattle.std.proofs.Common.{◌+◌, length, arith, sym, ap, ◌∙◌, subst, ◌<◌}
use Rattle.std.specs.Prelude.{replicate}
use Rattle.std.proofs.lemmas.List.{length-map, length-replicate}
use Rattle.plain_words.specs.Places.{laid}
use Rattle.atomic_region.specs.Owned.{RegionId}
use Rattle.atomic_region.specs.Region.{Me}
use Rattle.live_heap.specs.placement.Places.{placed_count}
use Rattle.sound_laws.specs.uses.Pieces.{piece_start, piece_words}
use Rattle.live_heap.specs.Heaps.{HeapFields}
use Rattle.live_heap.specs.declared.view.View.{View}
use Rattle.live_heap.proofs.LayLemmas.{all-here, filled, first-is, found-laid, laid-from, mark-within, may-claim, may-publish, only-range, piece-within, so-many, took-out}
use Rattle.live_heap.proofs.heap.Heap.lay_piece.Goals as goal

pub compare_exchange-found-requires : goal.compare_exchange-found-requires
compare_exchange-found-requires g c =
    let h = c.args.self.now in
    let inner = c.self.inside in
    let reg = ap (λ (x : HeapFields). x.region) c.self.view_is in
    let key = inner.laid.1 ∙ ap (λ (x : HeapFields). x.layout) c.self.view_is in
    let r = c.requires in
    let k = c.args.piece in
    let at = ap (λ n. n + k) (c.count.ensures ∙ ap (λ (x : HeapFields). placed_count x.layout) c.self.view_is) in (
      r.table ∙ sym reg,
      c.start-start.ensures,
      subst (λ (z : RegionId). c.count.result + k < z.words) (sym reg) (mark-within h.layout h.region.words k (c.count.result + k) h.long at r.opens.below),
      may-claim inner.table.shared.key h.layout g.L.Laying.layout inner.table.shared.id.words c.args.seat.now.id k g.L.Laying.piece (c.count.result + k) c.args.seat.now.me
          key r.named.0 r.named.1 r.empty r.settled r.opens at,
    )

pub lift-words-requires : goal.lift-words-requires
lift-words-requires g c =
    let h = c.args.self.now in
    let inner = c.self.inside in
    let reg = ap (λ (x : HeapFields). x.region) c.self.view_is in
    let key = inner.laid.1 ∙ ap (λ (x : HeapFields). x.layout) c.self.view_is in
    let r = c.requires in
    let me = c.compare_exchange-found.new.seat.me in
    let out = took-out h.layout g.L.Laying.layout c.args.piece g.L.Laying.piece c.compare_exchange-found.result c.args.seat.now.me.0 me r.named.0 r.named.1
    c.if-found-ne-BLANK.false c.compare_exchange-found.ensures.2 in
    only-range me _ _ (ap (λ (m : Me View). m.1) out)

pub fill-requires : goal.fill-requires
fill-requires g c =
    let h = c.args.self.now in
    let inner = c.self.inside in
    let reg = ap (λ (x : HeapFields). x.region) c.self.view_is in
    let key = inner.laid.1 ∙ ap (λ (x : HeapFields). x.layout) c.self.view_is in
    let r = c.requires in
    let k = c.args.piece in
    let v = c.args.seat.now.me.0 in
    let me = c.compare_exchange-found.new.seat.me in
    let words = c.lift-words.result in
    let out = took-out h.layout g.L.Laying.layout k g.L.Laying.piece c.compare_exchange-found.result v me r.named.0 r.named.1
    c.if-found-ne-BLANK.false c.compare_exchange-found.ensures.2 in
    let lifted = c.lift-words.ensures.words.1 in
    let first = first-is h.layout k v me out words.first words.places lifted in
    let many = so-many h.layout k v me out words.first words.places lifted in
    let starts = c.piece_start-first.ensures ∙ ap (λ (x : HeapFields). piece_start x.layout k) c.self.view_is in
    let counts = c.piece_words.ensures ∙ ap (λ (x : HeapFields). piece_words x.layout k) c.self.view_is in (
      c.start-start.ensures ∙ sym (c.lift-words.ensures.words.0 ∙ ap (λ (i : RegionId). i.at) (c.compare_exchange-found.ensures.0 ∙ r.table ∙ sym reg)),
      starts ∙ sym first,
      omega (arith, starts, counts, first, many),
      all-here h.layout k v me out words.first words.places lifted,
    )

pub carry-requires : goal.carry-requires
carry-requires g c =
    let h = c.args.self.now in
    let inner = c.self.inside in
    let reg = ap (λ (x : HeapFields). x.region) c.self.view_is in
    let key = inner.laid.1 ∙ ap (λ (x : HeapFields). x.layout) c.self.view_is in
    let r = c.requires in
    let k = c.args.piece in
    let v = c.args.seat.now.me.0 in
    let me = c.compare_exchange-found.new.seat.me in
    let words = c.lift-words.result in
    let out = took-out h.layout g.L.Laying.layout k g.L.Laying.piece c.compare_exchange-found.result v me r.named.0 r.named.1
    c.if-found-ne-BLANK.false c.compare_exchange-found.ensures.2 in
    let lifted = c.lift-words.ensures.words.1 in
    let first = first-is h.layout k v me out words.first words.places lifted in
    let many = so-many h.layout k v me out words.first words.places lifted in
    let region = c.lift-words.ensures.seat.0 in
    let size = ap (λ (i : RegionId). i.words) (region ∙ c.compare_exchange-found.ensures.0 ∙ r.table) in
    let long = ap length c.fill.ensures.2 ∙ length-map (replicate (length words.places) 0) laid ∙ length-replicate (length words.places) 0 in
    let within = piece-within h.layout h.region.words k h.long r.opens.below in (
      c.fill.ensures.0 ∙ c.lift-words.ensures.words.0 ∙ ap (λ (i : RegionId). i.at) (sym region),
      omega (arith, within, size, long, many, first, c.fill.ensures.1),
    )

pub store-requires : goal.store-requires
store-requires g c =
    let h = c.args.self.now in
    let inner = c.self.inside in
    let reg = ap (λ (x : HeapFields). x.region) c.self.view_is in
    let key = inner.laid.1 ∙ ap (λ (x : HeapFields). x.layout) c.self.view_is in
    let r = c.requires in
    let k = c.args.piece in
    let v = c.args.seat.now.me.0 in
    let me = c.compare_exchange-found.new.seat.me in
    let words = c.lift-words.result in
    let out = took-out h.layout g.L.Laying.layout k g.L.Laying.piece c.compare_exchange-found.result v me r.named.0 r.named.1
    c.if-found-ne-BLANK.false c.compare_exchange-found.ensures.2 in
    let zeros = filled h.layout k v me out words.first words.places c.lift-words.ensures.words.1 c.fill.new.self.first c.fill.new.self.places
    c.lift-words.new.self.me c.carry.new.self.me c.lift-words.ensures.seat.2 c.fill.ensures.1 c.fill.ensures.2 c.carry.ensures.2 in
    let at = ap (λ n. n + k) (c.count.ensures ∙ ap (λ (x : HeapFields). placed_count x.layout) c.self.view_is) in (
      c.carry.ensures.0 ∙ c.lift-words.ensures.seat.0 ∙ c.compare_exchange-found.ensures.0 ∙ r.table ∙ sym reg,
      c.start-start.ensures,
      subst (λ (z : RegionId). c.count.result + k < z.words) (sym reg) (mark-within h.layout h.region.words k (c.count.result + k) h.long at r.opens.below),
      may-publish inner.table.shared.key h.layout inner.table.shared.id.words c.carry.new.self.id k g.L.Laying.piece (c.count.result + k) v c.carry.new.self.me
          key r.named.1 zeros r.opens at,
    )

pub returns-then-found-ne-BLANK-clause-laid : goal.returns-then-found-ne-BLANK-clause-laid
returns-then-found-ne-BLANK-clause-laid g c =
    found-laid g.L.Laying.layout c.args.piece g.L.Laying.piece c.compare_exchange-found.result c.args.seat.now.me.0 c.compare_exchange-found.new.seat.me c.requires.named.1
    c.if-found-ne-BLANK.true c.requires.settled c.compare_exchange-found.ensures.2

pub returns-clause-laid : goal.returns-clause-laid
returns-clause-laid g c =
    let h = c.args.self.now in
    let inner = c.self.inside in
    let reg = ap (λ (x : HeapFields). x.region) c.self.view_is in
    let key = inner.laid.1 ∙ ap (λ (x : HeapFields). x.layout) c.self.view_is in
    let r = c.requires in
    let k = c.args.piece in
    let v = c.args.seat.now.me.0 in
    let me = c.compare_exchange-found.new.seat.me in
    let words = c.lift-words.result in
    let out = took-out h.layout g.L.Laying.layout k g.L.Laying.piece c.compare_exchange-found.result v me r.named.0 r.named.1
    c.if-found-ne-BLANK.false c.compare_exchange-found.ensures.2 in
    let zeros = filled h.layout k v me out words.first words.places c.lift-words.ensures.words.1 c.fill.new.self.first c.fill.new.self.places
    c.lift-words.new.self.me c.carry.new.self.me c.lift-words.ensures.seat.2 c.fill.ensures.1 c.fill.ensures.2 c.carry.ensures.2 in
    laid-from h.layout k g.L.Laying.piece v c.carry.new.self.me c.store.new.seat.me zeros r.named.1 c.store.ensures.2

pub returns-clause-region : goal.returns-clause-region
returns-clause-region g c = c.store.ensures.0 ∙ c.carry.ensures.0 ∙ c.lift-words.ensures.seat.0 ∙ c.compare_exchange-found.ensures.0

pub returns-then-found-ne-BLANK-clause-region : goal.returns-then-found-ne-BLANK-clause-region
returns-then-found-ne-BLANK-clause-region g c = c.compare_exchange-found.ensures.0
