-- What the answers of an allocation make of a store that asked for it.
use Rattle.std.proofs.Common.{ℕ, ◌≡◌, ◌≤◌, List, ◌∷◌, Some, refl, sym, ◌∙◌, ap, subst, inl, inr}
use Rattle.heap_geometry.specs.Need.{usable_words}
use Rattle.pool_model.specs.Pool.{fresh_block}
use Rattle.errand_steps.specs.declared.reply.Reply.TheVariants as reply
use Rattle.errand_steps.specs.Begins.{IsIdle}
use Rattle.errand_steps.specs.Calls.{alloc}
use Rattle.live_heap.specs.declared.answers.AllocAnswer.TheVariants as alloc_answer
use Rattle.live_heap.specs.declared.block.Block.{Block}
use Rattle.live_heap.specs.Heaps.{HeapFields}
use Rattle.live_heap.specs.declared.pass.Pass.{Pass}
use Rattle.live_heap.specs.Answers.{AllocTells}
use Rattle.live_heap.specs.Calls.{HasCalled}
use Rattle.live_heap.specs.Contents.{owned_in}
use Rattle.live_heap.specs.Holdings.{HoldsExactly}
use Rattle.live_heap.specs.Passes.{IsOf}
use Rattle.live_heap.proofs.laws_for_builders.AllBlocks.{called-exact}
use Rattle.live_heap.proofs.laws_for_builders.Changing.{called-changes}
use Rattle.live_heap.proofs.laws_for_builders.Giving.{given-enough}
use Rattle.typed_store.proofs.PassLemmas.{StaysSame, called-stays, reads-self, reads-stay}
use Rattle.typed_store.proofs.StayLemmas.{SameFor, given-same}

-- a block that is given comes to the hand; no word of it is written, and there are enough; the others stay
pub record IsGivenTo (p : Pass) (words : ℕ) (hand : List Block) (block : Block) (q : Pass) : Type 0 where
  pub exactly : HoldsExactly q (block ∷ hand)
  pub enough : words ≤ usable_words block.need
  pub blank : owned_in q block.place ≡ Some (fresh_block q.errand.caller words block.place)
  pub same : SameFor p q hand

pub given-to :
    (h : HeapFields) (p q : Pass) (words steps : ℕ) (hand : List Block) (block : Block) → IsOf h p → IsOf h q
    → HasCalled p (alloc words) steps (reply.Given block.place block.need) q → HoldsExactly p hand → IsGivenTo p words hand block q
given-to h p q words steps hand block was of called held =
    let answer = reply.Given block.place block.need in
    let changes = called-changes h p q (alloc words) steps answer of called in
    record {
      exactly = called-exact h p q (alloc words) steps answer hand (block ∷ hand) was of called (block, refl, refl, refl) held;
      enough = given-enough p q words steps block.place block.need called;
      blank = changes.given.here ∙ ap (λ k. Some (fresh_block k words block.place)) (sym called.caller);
      same = given-same h p q words steps block.place block.need hand of called held.0;
    }

-- where no block is given all is as before
pub refused-stays : (h : HeapFields) (p q : Pass) (words steps : ℕ) → IsOf h p → IsOf h q → HasCalled p (alloc words) steps reply.Refused q → StaysSame h p q
refused-stays h p q words steps was of called =
    called-stays h p q (alloc words) steps reply.Refused was of called (λ blocks. refl) (called-changes h p q (alloc words) steps reply.Refused of called)

pub spent-called-stays : (h : HeapFields) (p q : Pass) (words steps : ℕ) → IsOf h p → IsOf h q → HasCalled p (alloc words) steps reply.Spent q → StaysSame h p q
spent-called-stays h p q words steps was of called =
    called-stays h p q (alloc words) steps reply.Spent was of called (λ blocks. refl) (called-changes h p q (alloc words) steps reply.Spent of called)

pub spent-stays :
    (h : HeapFields) (p q : Pass) (words tries : ℕ) → IsOf h p → IsIdle p.errand → IsOf h q → AllocTells p words tries alloc_answer.Spent q → StaysSame h p q
spent-stays h p q words tries of_p idle of (inl once) = subst (StaysSame h p) (sym once.same) (reads-stay h p p (reads-self h p of_p idle))
spent-stays h p q words tries of_p idle of (inr ended) = spent-called-stays h p q words ended.0.steps of_p of ended.0.called
