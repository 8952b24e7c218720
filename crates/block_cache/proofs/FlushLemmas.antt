-- Blocks that are freed one after the other.
use Rattle.std.proofs.Common.{ℕ, ◌≡◌, ◌++◌, List, [], ◌∷◌, refl, sym, ◌∙◌, ap, subst, append_assoc}
use Rattle.live_heap.specs.declared.answers.FreeAnswer.{FreeAnswer}
use Rattle.live_heap.specs.declared.answers.FreeAnswer.TheVariants as answer
use Rattle.live_heap.specs.declared.block.Block.{Block}
use Rattle.live_heap.specs.Heaps.{HeapFields}
use Rattle.live_heap.specs.declared.pass.Pass.{Pass}
use Rattle.live_heap.specs.Answers.{FreeTells}
use Rattle.live_heap.specs.Passes.{IsOf}
use Rattle.block_cache.specs.Flushes.{Frees}

-- blocks that were freed, and one more behind them
pub frees-more :
    (h : HeapFields) (p q r : Pass) (blocks : List Block) (block : Block) (tries : ℕ) → Frees h p blocks tries q → IsOf h r
    → FreeTells q block tries answer.Freed r → Frees h p (blocks ++ block ∷ []) tries r
frees-more h p q r [] block tries frees of freed = (r, of, subst (λ (x : Pass). FreeTells x block tries answer.Freed r) frees freed, refl)
frees-more h p q r (b ∷ bs) block tries (next, is, first, rest) of freed = (next, is, first, frees-more h next q r bs block tries rest of freed)

-- the blocks that were freed stand in front of those that are left
pub freed-order : (all freed left : List Block) (block : Block) (rest : List Block) → all ≡ freed ++ left → left ≡ block ∷ rest
    → all ≡ (freed ++ block ∷ []) ++ rest
freed-order all freed left block rest is first =
    is ∙ ap (λ (xs : List Block). freed ++ xs) first ∙ sym (append_assoc freed (block ∷ []) rest)

-- a free that isn't interrupted has ended
pub not-busy :
    (p q : Pass) (block : Block) (tries : ℕ) (told : FreeAnswer) → (told ≡ answer.Busy → ⊥) → FreeTells p block tries told q
    → FreeTells p block tries answer.Freed q
not-busy p q block tries answer.Freed not tells = tells
not-busy p q block tries answer.Busy not tells = absurd (not refl)
