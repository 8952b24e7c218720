-- The blocks that the caller of a cache holds, in a list.
use Rattle.std.proofs.Common.{ℕ, ◌≡◌, ◌<◌, ◌+◌, ◌++◌, List, [], ◌∷◌, length, take, drop, slice_index_or, refl, sym, ap, ◌∙◌, subst, append-nil}
use Rattle.std.proofs.lemmas.List.{take-append-drop, drop_more}
use Rattle.errand_steps.specs.Begins.{IsIdle}
use Rattle.live_heap.specs.declared.block.Block.{Block}
use Rattle.live_heap.specs.Heaps.{HeapFields}
use Rattle.block_cache.specs.declared.cache.Cache.{Cache}
use Rattle.block_cache.specs.Caches.{Holds, HoldsBlock, IsCache}
use Rattle.block_cache.proofs.TogetherLemmas.{among-held, ordered}

-- a block that is taken out is held in front of the others
pub held-out :
    (c : Cache) (held rest : List Block) (number : ℕ) (block : Block) → number < length held → block ≡ slice_index_or held number block
    → rest ≡ take number held ++ drop (number + 1) held → Holds c held → Holds c (block ∷ rest)
held-out c held rest number block within is left holds =
    let split : held ≡ take number held ++ block ∷ drop (number + 1) held =
    sym (take-append-drop number held)
    ∙ ap (λ (xs : List Block). take number held ++ xs)
    (drop_more held number block within ∙ ap (λ (x : Block). x ∷ drop (number + 1) held) (sym is)) in
    subst (λ (xs : List Block). Holds c (block ∷ xs)) (sym left)
    ((ordered c (take number held) (drop (number + 1) held) block).0 (subst (Holds c) split holds))

-- a block that is held in front of others may be used
pub held-block : (h : HeapFields) (c : Cache) (rest : List Block) (block : Block) → IsCache h c → IsIdle c.pass.errand → Holds c (block ∷ rest)
    → HoldsBlock c block
held-block h c rest block is idle holds = (among-held h c (block ∷ rest) block is idle holds).1 ([], rest, refl)

pub held-at :
    (h : HeapFields) (c : Cache) (held : List Block) (number : ℕ) (block : Block) → number < length held → block ≡ slice_index_or held number block
    → IsCache h c → IsIdle c.pass.errand → Holds c held → HoldsBlock c block
held-at h c held number block within at is idle holds =
    held-block h c (take number held ++ drop (number + 1) held) block is idle (held-out c held _ number block within at refl holds)

-- a block that comes is held behind the others
pub held-more : (c : Cache) (held more : List Block) (block : Block) → more ≡ held ++ block ∷ [] → Holds c (block ∷ held) → Holds c more
held-more c held more block is holds =
    subst (Holds c) (sym is) ((ordered c held [] block).1 (subst (λ (xs : List Block). Holds c (block ∷ xs)) (sym (append-nil held)) holds))
