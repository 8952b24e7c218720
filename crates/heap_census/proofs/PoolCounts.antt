-- Sums over the blocks of a pool.
use Rattle.std.proofs.Common.{ℕ, Bool, true, false, ◌≡◌, ◌+◌, [], ◌∷◌, refl, arith, ap, sym, inl, inr, ◌∙◌}
use Rattle.std.specs.Prelude.{◌==◌, if◌then◌else◌, count_by}
use Rattle.std.proofs.lemmas.Bool.{cases_eq, cond-true, cond-false, eq-eqb, ne_eqb}
use Rattle.std.proofs.lemmas.List.Sums.{sum_by-cons}
use Rattle.pool_model.specs.Pool.{Block, Pool, block_at}
use Rattle.pool_model.proofs.PoolLemmas.{Every, Pairs, Differ, every-map, block_at-here, block_at-past}
use Rattle.sound_state.specs.Sums.{sum_below}
use Rattle.sound_state.specs.Superblocks.{is_there}
use Rattle.sound_state.proofs.shared.SumLemmas.{sum-none, sum-plus}

-- what the blocks of a pool weigh together
abbrev pub over : (Block → ℕ) → Pool → ℕ
over f [] = 0
over f (block ∷ pool) = f block + over f pool

-- how many blocks of a pool pass a test
pub over-count : (p : Block → Bool) (pool : Pool) → over (λ b. if p b then 1 else 0) pool ≡ count_by p pool
over-count p [] = refl
over-count p (block ∷ pool) = omega (arith, sum_by-cons (λ b. if p b then 1 else 0) block pool, over-count p pool)

-- equal weights of a pool's blocks have equal sums
pub over-same : (f h : Block → ℕ) (pool : Pool) → Every (λ b. f b ≡ h b) pool → over f pool ≡ over h pool
over-same f h [] same = refl
over-same f h (block ∷ pool) same = omega (arith, same.0, over-same f h pool same.1)

over-none : (f : Block → ℕ) (pool : Pool) → Every (λ b. f b ≡ 0) pool → over f pool ≡ 0
over-none f [] none = refl
over-none f (block ∷ pool) none = omega (arith, none.0, over-none f pool none.1)

zeros : (pool : Pool) → over (λ b. 0) pool ≡ 0
zeros [] = refl
zeros (block ∷ pool) = omega (arith, zeros pool)

-- a sum over the blocks of a pool, or nothing
pub over-if : (b : Bool) (f : Block → ℕ) (pool : Pool) → (if b then over f pool else 0) ≡ over (λ x. if b then f x else 0) pool
over-if true f pool = refl
over-if false f pool = sym (zeros pool)

-- sums of sums over the blocks of a pool, in the other order
pub over-swap :
    (n : ℕ) (f : ℕ → Block → ℕ) (pool : Pool) → sum_below n (λ i. over (f i) pool) ≡ over (λ b. sum_below n (λ i. f i b)) pool
over-swap n f [] = sum-none n (λ i. 0) (λ i lt. refl)
over-swap n f (block ∷ pool) = omega (arith, sum-plus n (λ i. f i block) (λ i. over (f i) pool), over-swap n f pool)

-- a block is live at a place once, or none is
pub over-place :
    (place : ℕ) (pool : Pool) → Pairs Differ pool → is_there (block_at place pool) ≡ over (λ b. if b.place == place then 1 else 0) pool
over-place place [] differ = refl
over-place place (block ∷ pool) differ =
    elim (cases_eq block.place place) [
      | inl same ↦
          let there : is_there (block_at place (block ∷ pool)) ≡ 1 = ap is_there (block_at-here place block pool same) in
          let others : over (λ b. if b.place == place then 1 else 0) pool ≡ 0 =
          over-none (λ b. if b.place == place then 1 else 0) pool
          (every-map (Differ block) (λ b. (if b.place == place then 1 else 0) ≡ 0) pool
          (λ b apart. cond-false {A = ℕ} (b.place == place) 1 0 (ne_eqb b.place place (λ at. apart (same ∙ sym at)))) differ.0) in
          omega (arith, there, others, cond-true {A = ℕ} (block.place == place) 1 0 (eq-eqb block.place place same))
      | inr other ↦
          let past : is_there (block_at place (block ∷ pool)) ≡ is_there (block_at place pool) =
          ap is_there (block_at-past place block pool other) in
          omega (arith, past, over-place place pool differ.1, cond-false {A = ℕ} (block.place == place) 1 0 (ne_eqb block.place place other))
    ]
