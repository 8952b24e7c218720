-- A sender's whole way from one message to the next.
use Rattle.std.proofs.Common.{ℕ, ◌≡◌, ◌<◌, ◌+◌, [], ◌∷◌, Some, refl, sym, ap, ◌∙◌, subst}
use Rattle.std.specs.Prelude.{All}
use Rattle.pool_model.specs.declared.event.Event.TheVariants.{Put}
use Rattle.pool_model.specs.Histories.{own}
use Rattle.pool_model.specs.Pool.{Block as PoolBlock, fresh_block}
use Rattle.shelf_laws.specs.Quiet.{IsQuiet, turn_of}
use Rattle.errand_steps.specs.declared.reply.Reply.TheVariants as reply
use Rattle.errand_steps.specs.Calls.{put}
use Rattle.live_heap.specs.declared.block.Block.{Block}
use Rattle.live_heap.specs.Heaps.{HeapFields}
use Rattle.live_heap.specs.declared.pass.Pass.{Pass}
use Rattle.live_heap.specs.Contents.{owned_in}
use Rattle.live_heap.specs.Holdings.{HoldsExactly}
use Rattle.live_heap.specs.Passes.{seen}
use Rattle.live_heap.proofs.laws_for_builders.AllBlocks.{called-exact}
use Rattle.pipe_runner.specs.Messages.{first_word, three_from}
use Rattle.pipe_runner.specs.Moves.{HasAllocated, HasHandedOver, KeepsBlocks}
use Rattle.pipe_runner.specs.Senders.{HasSent, IsBetween, PutsWithin}
use Rattle.pipe_runner.proofs.HandLemmas.{IsHandedAt, put-at}
use Rattle.pipe_runner.proofs.MoveLemmas.{goes-trans}
use Rattle.pipe_runner.proofs.SendLemmas.{sent-ends, sent-goes, sent-more}

pub sent-step :
    (passed : ℕ → ℕ → Type 0) (h : HeapFields) (senders start count shelf first : ℕ) (p a w q : Pass) (block : Block) → p.errand.caller < senders
    → HasSent passed h senders start count p → passed p.errand.caller count → HasAllocated h p 3 block a → KeepsBlocks h a w
    → (owned_in a block.place ≡ Some (fresh_block a.errand.caller 3 block.place)
    → (b : PoolBlock) × (owned_in w block.place ≡ Some b) × (b.contents ≡ three_from first))
    → first ≡ first_word start p.errand.caller count → shelf ≡ turn_of 8 p.errand.caller count → HasHandedOver h w block shelf q
    → HasSent passed h senders start (count + 1) q
sent-step passed h senders start count shelf first p a w q block below has gate given keeps wrote is_first turn over =
    let c = p.errand.caller in
    let last = over.last in
    let to_w = goes-trans p a w given.moves.goes keeps.moves.goes in
    let way = goes-trans p w last to_w over.keeps.moves.goes in
    let fresh : owned_in a block.place ≡ Some (fresh_block a.errand.caller 3 block.place) =
    given.given ∙ ap (λ (k : ℕ). Some (fresh_block k 3 block.place)) (sym given.moves.goes.caller) in
    let (b, there, words) = wrote fresh in
    let handed = put-at h last q block.place block.need shelf b over.rest.0 over.called (over.same block.place ∙ there) in
    let at : IsHandedAt c (seen last) (seen q) (Put c block.place shelf) block.place b =
    subst (λ (k : ℕ). IsHandedAt k (seen last) (seen q) (Put k block.place shelf) block.place b) way.caller handed in
    let now =
    sent-more passed senders start count c block.place shelf (seen last) (seen q) b below (sent-goes passed h senders start count p last below has way) gate turn
    (words ∙ ap three_from is_first) at in
    let caller : q.errand.caller ≡ c = over.called.caller ∙ way.caller in
    let held : HoldsExactly last (block ∷ []) = over.keeps.holds (block ∷ []) (keeps.holds (block ∷ []) (given.holds has.between.nothing)) in
    let between : IsBetween h senders q = record {
      rest = over.rest;
      quiet = subst (λ (k : ℕ). IsQuiet senders 8 (own k (seen q))) (sym caller) now.quiet;
      within = subst (λ (k : ℕ). All (PutsWithin senders) (own k (seen q))) (sym caller) now.within;
      nothing = called-exact h last q (put block.place block.need shelf) 0 reply.Put (block ∷ []) [] over.keeps.moves.rest.0 over.rest.0 over.called (block, refl, refl) held;
    } in
    sent-ends passed h senders start (count + 1) c q caller between now
