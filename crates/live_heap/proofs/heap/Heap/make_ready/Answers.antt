use Rattle.std.proofs.Common.{◌+◌, ◌≤◌, sym, subst}
use Rattle.heap_geometry.specs.declared.geometry.Geometry.{Geometry}
use Rattle.errand_steps.specs.Openers.{AreOpened, Opens}
use Rattle.live_heap.proofs.LayLemmas.{knows-itself, opens-alone}
use Rattle.live_heap.proofs.heap.Heap.make_ready.Goals as goal

pub lay_pieces-requires-clause-opens : goal.lay_pieces-requires-clause-opens
lay_pieces-requires-clause-opens g c =
    let e = c.args.errand.now in
    let s = c.requires.sight in
    let x = c.in-Some.pieces in
    let opened = subst (AreOpened e.geometry e.point) c.in-Some.is c.opens.ensures in
    let same = s.laid in
    opens-alone c.args.self.now.layout c.args.seat.now.me.0 e x s (subst (λ (g : Geometry). x.first + x.count ≤ g.frames + g.units) same opened.0)
    (λ k from to. subst (λ g. Opens g e.point k) same ((opened.1 k).1 from to))

pub lay_pieces-requires-clause-within : goal.lay_pieces-requires-clause-within
lay_pieces-requires-clause-within g c =
    let e = c.args.errand.now in
    let x = c.in-Some.pieces in
    let opened = subst (AreOpened e.geometry e.point) c.in-Some.is c.opens.ensures in
    subst (λ (g : Geometry). x.first + x.count ≤ g.frames + g.units) c.requires.sight.laid opened.0

pub returns-in-Some-clause-ready : goal.returns-in-Some-clause-ready
returns-in-Some-clause-ready g c k opens =
    let e = c.args.errand.now in
    let opened = subst (AreOpened e.geometry e.point) c.in-Some.is c.opens.ensures in
    let among = (opened.1 k).0 (subst (λ g. Opens g e.point k) (sym c.requires.sight.laid) opens) in
    c.lay_pieces.ensures.ready k among.0 among.1

pub returns-in_default-clause-knows : goal.returns-in_default-clause-knows
returns-in_default-clause-knows g c = knows-itself c.args.seat.now.me c.requires.settled c.requires.empty

pub returns-in_default-clause-ready : goal.returns-in_default-clause-ready
returns-in_default-clause-ready g c k opens =
    let e = c.args.errand.now in
    let none = subst (AreOpened e.geometry e.point) c.in_default.is c.opens.ensures in
    absurd (none k (subst (λ g. Opens g e.point k) (sym c.requires.sight.laid) opens))
