use Rattle.std.proofs.Common.{◌≡◌, List, ◌∷◌, length, All, sym, subst, rules}
use Rattle.std.proofs.lemmas.List.Elements.{All-head, All-tail, All-push}
use Rattle.errand_steps.specs.Begins.{IsIdle}
use Rattle.live_heap.specs.declared.pass.Pass.{Pass}
use Rattle.live_heap.specs.Hands.{IsHand}
use Rattle.live_heap.specs.Passes.{IsOf}
use Rattle.heap_scripts.specs.declared.side.Hand.{Hand}
use Rattle.heap_scripts.proofs.side.idle_passes.Goals as goal

pub loop-hand-preserved : goal.loop-hand-preserved
loop-hand-preserved c =
    let h = c.args.heap.now in
    let i = c.loop-hand.invariant in
    let P : Hand → Type 0 = λ hand. IsHand h hand.pass hand.blocks.items in
    let Q : Pass → Type 0 = λ p. IsOf h p × IsIdle p.errand in
    let hand = c.in-Some.hand in
    let rest : c.loop-hand.hand-iterator.rest.items ≡ hand ∷ c.next.new.self.rest.items = search rules in
    let all : All P (hand ∷ c.next.new.self.rest.items) = subst (λ (l : List Hand). All P l) rest i.left in
    let mine : P hand = All-head P hand c.next.new.self.rest.items all in
    let idle : IsIdle hand.pass.errand = search rules in
    record {
      can_next = tt;
      is_finite = tt;
      left = All-tail P hand c.next.new.self.rest.items all;
      done = subst (λ (l : List Pass). All Q l) (sym c.in_ok-push.ensures.items) (All-push Q c.loop-hand.passes.items hand.pass i.done (mine.of, idle));
    }

pub returns : goal.returns
returns c =
    let all : length c.loop-hand.passes.items ≡ c.args.heap.now.layout.callers = search rules in
    record { all = all; each = c.loop-hand.invariant.done }
