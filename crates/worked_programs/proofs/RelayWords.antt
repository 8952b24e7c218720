-- A block that was written may lie on a shelf, and one that was taken from there has the word.
use Rattle.std.proofs.Common.{ℕ, ◌≡◌, ◌<◌, Some, sym, ap, ◌∙◌, subst}
use Rattle.heap_geometry.specs.declared.need.Need.{Need}
use Rattle.heap_geometry.specs.Need.{usable_words}
use Rattle.pool_model.specs.Owned.{if_of, owned_at}
use Rattle.pool_model.specs.Pool.{Block as PoolBlock, pool_of}
use Rattle.pool_model.proofs.OwnedLemmas.{of-self}
use Rattle.live_heap.specs.declared.block.Block.{Block}
use Rattle.live_heap.specs.declared.pass.Pass.{Pass}
use Rattle.live_heap.specs.Contents.{word_in, word_of}
use Rattle.live_heap.specs.Passes.{Owns, seen}
use Rattle.live_heap.specs.Shelves.{MayLieOn}
use Rattle.worked_programs.specs.Relay.{begins_with}

-- what a pass owns is its caller's in the pool
owned-there : (q : Pass) (block : Block) (owned : Owns q block) → owned_at q.errand.caller block.place (pool_of (seen q)) ≡ Some owned.0.0
owned-there q block owned = ap (if_of q.errand.caller) owned.0.1 ∙ of-self q.errand.caller owned.0.0 owned.0.2

pub may-lie :
    (word shelf : ℕ) (q : Pass) (block : Block) → Owns q block → 0 < usable_words block.need → word_in q block.place 0 ≡ Some word
    → MayLieOn (begins_with word) (seen q) q.errand.caller block.place shelf
may-lie word shelf q block owned enough holds lies found =
    let one : Some lies ≡ Some owned.0.0 = sym found ∙ owned-there q block owned in
    let same : lies ≡ owned.0.0 = cc in
    let need : lies.need ≡ block.need = ap (λ (b : PoolBlock). b.need) same ∙ owned.0.3 in
    (subst (λ (n : Need). 0 < usable_words n) (sym need) enough, ap (λ o. word_of o 0) (sym found) ∙ holds)

pub has-word :
    (word shelf : ℕ) (q : Pass) (block : Block) → Owns q block → MayLieOn (begins_with word) (seen q) q.errand.caller block.place shelf
    → (0 < usable_words block.need) × (word_in q block.place 0 ≡ Some word)
has-word word shelf q block owned lies =
    let there = owned-there q block owned in
    let begins = lies owned.0.0 there in
    (subst (λ (n : Need). 0 < usable_words n) owned.0.3 begins.0, ap (λ o. word_of o 0) there ∙ begins.1)
