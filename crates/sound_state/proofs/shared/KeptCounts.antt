-- How often descriptors are among those that a caller keeps.
use Rattle.std.proofs.Common.{ℕ, ◌≡◌, ◌≤◌, ◌+◌, List, [], ◌∷◌, length, refl, arith, ◌==◌, if◌then◌else◌}
use Rattle.sound_state.proofs.Common.{Kept, reserving, waiting, partly_used, on_its_way, kept_among, sum_below}
use Rattle.sound_state.proofs.shared.SumLemmas.{sum-none, sum-once, sum-plus}

-- how often d is among the kept descriptors
abbrev pub named_among : ℕ → List Kept → ℕ
named_among d [] = 0
named_among d (k ∷ rest) = (if k.desc == d then 1 else 0) + named_among d rest

-- kept descriptors are named no more often than their list is long
pub named-most : (n : ℕ) (ks : List Kept) → sum_below n (λ d. named_among d ks) ≤ length ks
named-most n [] = omega (arith, sum-none n (λ d. 0) (λ d lt. refl))
named-most n (k ∷ ks) =
    omega (
      arith,
      sum-plus n (λ d. if k.desc == d then 1 else 0) (λ d. named_among d ks),
      sum-once n k.desc,
      named-most n ks,
    )

-- each kept descriptor is kept in one of the states
kept-states-one :
    (d : ℕ) (k : Kept) (ks : List Kept)
    → kept_among reserving d (k ∷ ks) + kept_among waiting d (k ∷ ks) + kept_among partly_used d (k ∷ ks) + kept_among on_its_way d (k ∷ ks)
    ≡ (if k.desc == d then 1 else 0)
    + (kept_among reserving d ks + kept_among waiting d ks + kept_among partly_used d ks + kept_among on_its_way d ks)
kept-states-one d k ks = grind (arith)

pub kept-named :
    (d : ℕ) (ks : List Kept)
    → kept_among reserving d ks + kept_among waiting d ks + kept_among partly_used d ks + kept_among on_its_way d ks ≡ named_among d ks
kept-named d [] = refl
kept-named d (k ∷ ks) = omega (arith, kept-states-one d k ks, kept-named d ks)
