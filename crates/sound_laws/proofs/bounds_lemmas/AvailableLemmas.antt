-- The available descriptors are those that the next words lead through from the top one on.
use Rattle.std.proofs.Common.{ℕ, zero, suc, ◌≡◌, ◌<◌, ◌≤◌, ◌+◌, ◌*◌, List, [], ◌∷◌, length, refl, arith, ap, sym, subst, inl, inr, All}
use Rattle.std.proofs.lemmas.List.Elements.{All-head, All-tail}
use Rattle.std.proofs.lemmas.Bool.{cases_eq}
use Rattle.sound_state.proofs.Common.{Geometry, descriptor_count, occurs, Partials, Stacked, next_in, State, Lists, IsSoundWith, sum_below, callers_sum, away_of}
use Rattle.sound_state.proofs.Common.{errand_away}
use Rattle.word_table.specs.declared.name.WordName.TheVariants as name
use Rattle.sound_laws.specs.bounds.Alone.{led_from, available_in, away_in}
use Rattle.sound_state.proofs.shared.SumLemmas.{sum-most}
use Rattle.sound_state.proofs.shared.TallyLemmas.{occurs-all}

-- the indices that next words lead through from a stack's top are the stack's, where it has no more than the most
led-stack : (next : ℕ → ℕ) (most top : ℕ) (xs : List ℕ) → Stacked next top xs → length xs ≤ most → led_from next most top ≡ xs
led-stack next zero top [] stack few = refl
led-stack next zero top (x ∷ xs) stack few = absurd (let no : ⊥ = omega (arith, few) in no)
led-stack next (suc most) top [] stack few = rw stack refl
led-stack next (suc most) top (x ∷ xs) stack few =
    let rest = led-stack next most (next x) xs stack.1 (omega (arith, few)) in
    subst (λ t. led_from next (suc most) t ≡ x ∷ xs) (sym stack.0) (grind (arith, rest))

-- what occurs in a list is one of its elements
occurs-in : (n i : ℕ) (xs : List ℕ) → All (λ d. d < n) xs → 0 < occurs i xs → i < n
occurs-in n i [] all some = absurd (let no : ⊥ = omega (arith, some) in no)
occurs-in n i (x ∷ xs) all some =
    elim (cases_eq x i) [
      | inl same ↦ subst (λ j. j < n) same (All-head (λ d. d < n) x xs all)
      | inr differ ↦ occurs-in n i xs (All-tail (λ d. d < n) x xs all) (grind (arith, some, differ))
    ]

-- the available descriptors as the next words lead through them are those of the lists
pub available-is : (g : Geometry) (s : State) (l : Lists) → IsSoundWith g s l → available_in g s ≡ l.available
available-is g s l old =
    let n = descriptor_count g in
    let most : sum_below n (λ d. occurs d l.available) ≤ n * 1 =
    sum-most n (λ d. occurs d l.available) 1 (λ d lt. omega (arith, old.kept.once d lt)) in
    let all : sum_below n (λ d. occurs d l.available) ≡ length l.available =
    occurs-all n l.available (λ i some. occurs-in n i l.available old.listed.available_exist some) in
    led-stack (next_in s.word Partials) n (s.word name.DescHead) l.available old.listed.available (omega (arith, most, all))

-- a descriptor is away by the next words as often as by the lists
pub away-is : (g : Geometry) (s : State) (l : Lists) (d : ℕ) → IsSoundWith g s l → away_in g s d ≡ away_of g s l d
away-is g s l d old = ap (λ xs. occurs d xs + callers_sum g (errand_away d) s.errand) (available-is g s l old)
