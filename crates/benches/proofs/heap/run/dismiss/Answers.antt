use Rattle.std.proofs.Common.{◌≡◌, List, ◌∷◌, All, sym, subst, rules}
use Rattle.std.proofs.lemmas.List.Elements.{All-head, All-tail, All-push}
use Rattle.crossbeam_utils.specs.declared.cache_padded.CachePadded.{CachePadded}
use Rattle.crossbeam_utils.specs.Padded.{padded_value}
use Rattle.live_heap.specs.declared.pass.Pass.{Pass}
use Rattle.benches.specs.declared.heap.worker.Worker.{Worker}
use Rattle.benches.specs.Hands.{Rests}
use Rattle.benches.proofs.heap.run.dismiss.Goals as goal

pub close-pass-requires : goal.close-pass-requires
close-pass-requires g c =
    let h = c.args.heap.now in
    let P : CachePadded (Worker g.row.F.Denot) → Type 0 = λ w. g.F.Front.rests h (padded_value {T = Worker g.row.F.Denot} w).front in
    let rest : c.loop-worker.worker-iterator.rest.items ≡ c.in-Some.worker ∷ c.next.new.self.rest.items = search rules in
    let all : All P (c.in-Some.worker ∷ c.next.new.self.rest.items) = subst (λ (l : List (CachePadded (Worker g.row.F.Denot))). All P l) rest c.loop-worker.invariant.left in
    subst (λ (w : Worker g.row.F.Denot). g.F.Front.rests h w.front) (sym c.into_inner-front.ensures) (All-head P c.in-Some.worker c.next.new.self.rest.items all)

pub loop-worker-preserved : goal.loop-worker-preserved
loop-worker-preserved g c =
    let h = c.args.heap.now in
    let i = c.loop-worker.invariant in
    let P : CachePadded (Worker g.row.F.Denot) → Type 0 = λ w. g.F.Front.rests h (padded_value {T = Worker g.row.F.Denot} w).front in
    let Q : Pass → Type 0 = λ p. Rests h p in
    let rest : c.loop-worker.worker-iterator.rest.items ≡ c.in-Some.worker ∷ c.next.new.self.rest.items = search rules in
    let all : All P (c.in-Some.worker ∷ c.next.new.self.rest.items) = subst (λ (l : List (CachePadded (Worker g.row.F.Denot))). All P l) rest i.left in
    record {
      can_next = tt;
      is_finite = tt;
      left = All-tail P c.in-Some.worker c.next.new.self.rest.items all;
      count = search rules;
      done = subst (λ (l : List Pass). All Q l) (sym c.in_ok-push.ensures.items) (All-push Q c.loop-worker.passes.items c.close-pass.result i.done c.close-pass.ensures);
    }
