use Rattle.std.proofs.Common.{◌≡◌, suc, List, ◌∷◌, All, refl, sym, subst, rules}
use Rattle.std.proofs.lemmas.List.Elements.{All-push}
use Rattle.errand_steps.specs.Begins.{IsIdle}
use Rattle.live_heap.specs.declared.pass.Pass.{Pass}
use Rattle.live_heap.specs.Passes.{AreFrom, IsOf}
use Rattle.benches.proofs.store.run.Goals as goal

pub open-store-requires-clause-idle : goal.open-store-requires-clause-idle
open-store-requires-clause-idle g c =
    let i = c.loop-pass.invariant in
    let rest : c.loop-pass.pass-iterator.rest.items ≡ c.in-Some.pass ∷ c.next.new.self.rest.items = search rules in
    let left = subst (λ (l : List Pass). AreFrom c.in_ok-heap.heap i.left.0 l) rest i.left.1 in
    subst IsIdle (sym left.0.errand) refl

pub open-store-requires-clause-none : goal.open-store-requires-clause-none
open-store-requires-clause-none g c =
    let i = c.loop-pass.invariant in
    let rest : c.loop-pass.pass-iterator.rest.items ≡ c.in-Some.pass ∷ c.next.new.self.rest.items = search rules in
    let left = subst (λ (l : List Pass). AreFrom c.in_ok-heap.heap i.left.0 l) rest i.left.1 in
    c.passes_hold_exactly.ensures.fresh c.in_ok-heap.heap c.in-Some.pass left.0

pub make_pairs-requires : goal.make_pairs-requires
make_pairs-requires g c =
    let i = c.loop-pass.invariant in
    let rest : c.loop-pass.pass-iterator.rest.items ≡ c.in-Some.pass ∷ c.next.new.self.rest.items = search rules in
    let left = subst (λ (l : List Pass). AreFrom c.in_ok-heap.heap i.left.0 l) rest i.left.1 in
    c.open-store.ensures.ready c.in_ok-heap.heap left.0.of

pub loop-pass-preserved : goal.loop-pass-preserved
loop-pass-preserved g c =
    let h = c.in_ok-heap.heap in
    let i = c.loop-pass.invariant in
    let Q : Pass → Type 0 = λ p. IsOf h p × IsIdle p.errand in
    let Home : Pass → Type 0 = λ p. p.out ≡ 0 in
    let rest : c.loop-pass.pass-iterator.rest.items ≡ c.in-Some.pass ∷ c.next.new.self.rest.items = search rules in
    let left = subst (λ (l : List Pass). AreFrom h i.left.0 l) rest i.left.1 in
    let ready = c.in_ok-sums.ensures in
    let mine : Q c.close.result = subst Q (sym c.close.ensures) (ready.of, ready.idle) in
    let home : Home c.close.result =
    subst Home (sym c.close.ensures) (c.passes_hold_exactly.ensures.home h _ _ ready.of ready.exactly) in
    record {
      can_next = tt;
      is_finite = tt;
      left = (suc i.left.0, left.2);
      count = search rules;
      done = subst (λ (l : List Pass). All Q l) (sym c.in_ok-push.ensures.items) (All-push Q c.loop-pass.done.items c.close.result i.done mine);
      home = subst (λ (l : List Pass). All Home l) (sym c.in_ok-push.ensures.items) (All-push Home c.loop-pass.done.items c.close.result i.home home);
    }

pub unreachable-requires : goal.unreachable-requires
unreachable-requires g c = c.in-Err.ensures.always c.loop-pass.invariant.home
