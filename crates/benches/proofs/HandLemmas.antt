-- The blocks in a hand, as one more comes in or one of them goes.
use Rattle.std.proofs.Common.{ℕ, zero, suc, ◌≡◌, ◌<◌, ◌↔◌, List, [], ◌∷◌, ◌++◌, length, slice_index_or, refl, sym, ap, subst, append-nil, ◌∙◌, take, drop, arith}
use Rattle.std.proofs.lemmas.List.{map-append}
use Rattle.std.proofs.lemmas.Grind.{common_steps}
use Rattle.std.specs.List.{remove}
use Rattle.live_heap.specs.declared.block.Block.{Block}
use Rattle.benches.specs.declared.heap.worker.Stamped.{Stamped}
use Rattle.benches.specs.Hands.{blocks_of}

-- a block of the hand between the others
record IsBetween (hand : List Stamped) (i : ℕ) (picked : Stamped) : Type 0 where
  pub before : List Block
  pub after : List Block
  pub all : blocks_of hand ≡ before ++ picked.block ∷ after
  pub others : blocks_of (remove hand i) ≡ before ++ after

between : (hand : List Stamped) (i : ℕ) (d : Stamped) → i < length hand → IsBetween hand i (slice_index_or hand i d)
between [] i d within = absurd (omega arith)
between (x ∷ xs) zero d within = record { before = []; after = blocks_of xs; all = refl; others = refl }
between (x ∷ xs) (suc i) d within =
    let r = between xs i d (omega arith) in
    record { before = x.block ∷ r.before; after = r.after; all = ap (λ l. x.block ∷ l) r.all; others = ap (λ l. x.block ∷ l) r.others }

module _
    (H : List Block → Type 0)
    (order : (before after : List Block) (block : Block) → H (before ++ block ∷ after) ↔ H (block ∷ before ++ after))
  where
    -- a block comes in behind the others
    pub holds-push : (held : Stamped) (hand : List Stamped) → H (held.block ∷ blocks_of hand) → H (blocks_of (hand ++ held ∷ []))
    holds-push held hand h =
        let blocks = blocks_of hand in
        subst H (sym (map-append (λ (other : Stamped). other.block) hand (held ∷ [])))
        ((order blocks [] held.block).1 (subst (λ l. H (held.block ∷ l)) (sym (append-nil blocks)) h))

    -- a block is picked and the others are left, as `remove` says it
    pub holds-picked :
        (hand : List Stamped) (i : ℕ) (held : Stamped) (rest : List Stamped) → i < length hand → held ≡ slice_index_or hand i held
        → rest ≡ remove hand i → H (blocks_of hand) → H (held.block ∷ blocks_of rest)
    holds-picked hand i held rest within value items h =
        let picked : Stamped = slice_index_or hand i held in
        let b = between hand i held within in
        let first : H (picked.block ∷ b.before ++ b.after) = (order b.before b.after picked.block).0 (subst H b.all h) in
        let left : H (picked.block ∷ blocks_of (remove hand i)) = subst (λ l. H (picked.block ∷ l)) (sym b.others) first in
        subst (λ (l : List Stamped). H (held.block ∷ blocks_of l)) (sym items)
        (subst (λ (x : Stamped). H (x.block ∷ blocks_of (remove hand i))) (sym value) left)

-- a slice that was written whole is what was written
pub written-whole : {X : Type 0} (xs ys : List X) (n : ℕ) → length xs ≡ n → length ys ≡ n → take n (xs ++ drop (length xs) ys) ≡ xs
written-whole xs ys n a b =
    let none : drop (length xs) ys ≡ [] = grind (arith, common_steps) in
    ap (λ l. take n (xs ++ l)) none ∙ (ap (take n) (append-nil xs) ∙ grind (arith, common_steps))
