use Rattle.std.proofs.Common.{◌≡◌, suc, List, [], ◌∷◌, All, refl, sym, ◌∙◌, subst, rules, true≢false}
use Rattle.std.proofs.lemmas.List.Elements.{All-push}
use Rattle.errand_steps.specs.Begins.{IsIdle}
use Rattle.live_heap.specs.declared.pass.Pass.{Pass}
use Rattle.live_heap.specs.Hands.{IsHand}
use Rattle.live_heap.specs.Passes.{AreFrom}
use Rattle.heap_scripts.specs.declared.side.Hand.{Hand}
use Rattle.heap_scripts.proofs.side.hands_of.Goals as goal

pub loop-pass-preserved : goal.loop-pass-preserved
loop-pass-preserved c =
    let h = c.args._heap.now in
    let i = c.loop-pass.invariant in
    let P : Hand → Type 0 = λ hand. IsHand h hand.pass hand.blocks.items in
    let pass = c.in-Some.pass in
    let rest : c.loop-pass.pass-iterator.rest.items ≡ pass ∷ c.next.new.self.rest.items = search rules in
    let left = subst (λ (l : List Pass). AreFrom h i.left.0 l) rest i.left.1 in
    let idle : IsIdle pass.errand = subst IsIdle (sym left.0.errand) refl in
    let none : IsHand h pass [] = record {
      of = left.0.of;
      holds = λ idle. tt;
      waits = λ busy. absurd (true≢false (sym idle ∙ busy));
    } in
    let hand : IsHand h pass c.new.result.items = subst (IsHand h pass) (sym c.new.ensures.items) none in
    record {
      can_next = tt;
      is_finite = tt;
      left = (suc i.left.0, left.2);
      hands =
          subst (λ (l : List Hand). All P l) (sym c.in_ok-push.ensures.items)
          (All-push P c.loop-pass.hands.items (record { pass = pass; blocks = c.new.result }) i.hands hand);
    }
