-- What was taken from a shelf keeps the rule of words there.
use Rattle.std.proofs.Common.{ℕ, ◌≡◌, [], ◌∷◌, Some, sym, ◌∙◌, subst}
use Rattle.heap_geometry.specs.declared.need.Need.{Need}
use Rattle.pool_model.specs.declared.event.Event.TheVariants as event
use Rattle.pool_model.specs.declared.owner.Owner.TheVariants.{Caller}
use Rattle.pool_model.specs.Pool.{Block, handed_to}
use Rattle.errand_steps.specs.declared.reply.Reply.TheVariants as reply
use Rattle.errand_steps.specs.Calls.{take}
use Rattle.live_heap.specs.Heaps.{HeapFields}
use Rattle.live_heap.specs.declared.pass.Pass.{Pass}
use Rattle.live_heap.specs.Calls.{HasCalled}
use Rattle.live_heap.specs.Contents.{HasGot}
use Rattle.live_heap.specs.Passes.{IsOf, seen}
use Rattle.live_heap.specs.Shelves.{AllowedWords, AlwaysByRule, MayLieOn}
use Rattle.live_heap.proofs.Changes.{called-changes}

pub taken-words :
    (rule : AllowedWords) (h : HeapFields) (p q : Pass) (shelf steps place : ℕ) (need : Need) → IsOf h q
    → HasCalled p (take shelf) steps (reply.Got place need) q → AlwaysByRule rule (seen q) → MayLieOn rule (seen q) q.errand.caller place shelf
taken-words rule h p q shelf steps place need of called always block found =
    let got : HasGot p shelf place q = called-changes h p q (take shelf) steps (reply.Got place need) of called in
    let one : Some block ≡ Some (handed_to (Caller p.errand.caller) got.block) = sym found ∙ got.got.here in
    let same : block ≡ handed_to (Caller p.errand.caller) got.block = cc in
    subst (λ (b : Block). rule shelf b.need b.contents) (sym same)
    (always got.before (event.Take p.errand.caller shelf place ∷ [], got.last) place shelf got.block got.lay got.on)
