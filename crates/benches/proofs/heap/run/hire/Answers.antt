use Rattle.std.proofs.Common.{◌≡◌, suc, List, ◌∷◌, All, sym, subst, rules}
use Rattle.std.proofs.lemmas.List.Elements.{All-push}
use Rattle.crossbeam_utils.specs.declared.cache_padded.CachePadded.{CachePadded}
use Rattle.crossbeam_utils.specs.Padded.{padded_value}
use Rattle.live_heap.specs.declared.pass.Pass.{Pass}
use Rattle.live_heap.specs.Passes.{AreFrom}
use Rattle.benches.specs.declared.heap.worker.Worker.{Worker}
use Rattle.benches.specs.Hands.{IsReady}
use Rattle.benches.proofs.heap.run.hire.Goals as goal

pub open-requires : goal.open-requires
open-requires g c =
    let i = c.loop-pass.invariant in
    let rest : c.loop-pass.pass-iterator.rest.items ≡ c.in-Some.pass ∷ c.next.new.self.rest.items = search rules in
    (subst (λ (l : List Pass). AreFrom c.args.heap.now i.left.0 l) rest i.left.1).0

pub loop-pass-preserved : goal.loop-pass-preserved
loop-pass-preserved g c =
    let h = c.args.heap.now in
    let i = c.loop-pass.invariant in
    let P : CachePadded (Worker g.row.F.Denot) → Type 0 = λ w. IsReady g.F.Front.rests g.F.Front.holds h (padded_value {T = Worker g.row.F.Denot} w) in
    let rest : c.loop-pass.pass-iterator.rest.items ≡ c.in-Some.pass ∷ c.next.new.self.rest.items = search rules in
    let left = subst (λ (l : List Pass). AreFrom h i.left.0 l) rest i.left.1 in
    let w = c.new-in-loop-pass.result in
    let front = c.in_ok-front.ensures in
    let ready : P w =
    subst (IsReady g.F.Front.rests g.F.Front.holds h) (sym c.new-in-loop-pass.ensures)
    (record { rests_at = front.0; holds_none = front.1; empty = c.in_ok-with_capacity.ensures.items }) in
    record {
      can_next = tt;
      is_finite = tt;
      left = (suc i.left.0, left.2);
      count = search rules;
      ready = subst (λ (l : List (CachePadded (Worker g.row.F.Denot))). All P l) (sym c.in_ok-push.ensures.items) (All-push P c.loop-pass.workers.items w i.ready ready);
    }
