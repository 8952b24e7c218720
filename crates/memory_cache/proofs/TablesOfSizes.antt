-- The tables of sizes tell what is computed.
use Rattle.std.proofs.Common.{ℕ, true, ◌≡◌, ◌<◌, ◌≤◌, refl, slice_index}
use Rattle.std.specs.Prelude.{nat_eq, nat_le, nat_lt}
use Rattle.std.proofs.lemmas.Bool.{agree_below, agree_below_at, eqb-true, leb-true, ltb-true}
use Rattle.memory_cache.specs.declared.sizes.TheConstants.{NUMBERS, PIECES}
use Rattle.memory_cache.specs.Sizes.{piece_words, size_number}

pieces-all : agree_below (λ n. nat_eq (slice_index PIECES n) (piece_words n)) (λ _. true) 257 ≡ true
unfolding piece_words
pieces-all = refl

pub pieces-is : (n : ℕ) → n < 257 → slice_index PIECES n ≡ piece_words n
pieces-is n within =
    eqb-true (slice_index PIECES n) (piece_words n) (agree_below_at (λ k. nat_eq (slice_index PIECES k) (piece_words k)) (λ _. true) 257 n pieces-all within)

numbers-all : agree_below (λ n. nat_eq (slice_index NUMBERS n) (size_number (piece_words n))) (λ _. true) 257 ≡ true
unfolding piece_words size_number
numbers-all = refl

pub numbers-is : (n : ℕ) → n < 257 → slice_index NUMBERS n ≡ size_number (piece_words n)
numbers-is n within =
    eqb-true (slice_index NUMBERS n) (size_number (piece_words n))
    (agree_below_at (λ k. nat_eq (slice_index NUMBERS k) (size_number (piece_words k))) (λ _. true) 257 n numbers-all within)

few-all : agree_below (λ n. nat_lt (slice_index NUMBERS n) 35) (λ _. true) 257 ≡ true
few-all = refl

pub numbers-few : (n : ℕ) → n < 257 → slice_index NUMBERS n < 35
numbers-few n within = ltb-true (slice_index NUMBERS n) 35 (agree_below_at (λ k. nat_lt (slice_index NUMBERS k) 35) (λ _. true) 257 n few-all within)

enough-all : agree_below (λ n. nat_le n (slice_index PIECES n)) (λ _. true) 257 ≡ true
enough-all = refl

pub pieces-enough : (n : ℕ) → n < 257 → n ≤ slice_index PIECES n
pieces-enough n within = leb-true n (slice_index PIECES n) (agree_below_at (λ k. nat_le k (slice_index PIECES k)) (λ _. true) 257 n enough-all within)
