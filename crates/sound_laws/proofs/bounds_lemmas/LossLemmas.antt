-- Callers lose no more than others win.
use Rattle.std.proofs.Common.{ℕ, ◌≡◌, ◌<◌, ◌≤◌, ◌*◌, List, [], ◌∷◌, length, refl, arith, ◌-◌, ◌^◌, All, count_by, min, eq-eqb}
use Rattle.std.proofs.lemmas.List.Elements.{All-head, All-tail}
use Rattle.sound_state.proofs.Common.{Geometry, State, sum_below, callers_sum}
use Rattle.sound_laws.specs.bounds.Contention.{is_by, lost_of, won_of}
use Rattle.sound_laws.specs.bounds.Wins.{Win, Wins}
use Rattle.sound_laws.specs.bounds.Won.{IsWon}
use Rattle.sound_state.proofs.shared.SumLemmas.{sum-same, term-sum}
use Rattle.sound_laws.proofs.bounds_lemmas.CountLemmas.{counts-first, count-one}

-- there are no more wins than those of each caller together
all-won : (n : ℕ) (xs : List Win) → All (λ x. x.caller < n) xs → length xs ≤ sum_below n (λ caller. count_by (is_by caller) xs)
all-won n [] all = omega arith
all-won n (x ∷ xs) all =
    let here : x.caller < n = All-head (λ y. y.caller < n) x xs all in
    omega (
      arith,
      counts-first n is_by x xs,
      all-won n xs (All-tail (λ y. y.caller < n) x xs all),
      term-sum n (λ caller. count_by (is_by caller) (x ∷ [])) x.caller here,
      count-one (is_by x.caller) x (eq-eqb x.caller x.caller refl),
    )

-- a count of wins that isn't at its end is their number
won-counted : (won count : ℕ) → won ≡ min count (2 ^ 64 - 1) → won < 2 ^ 64 - 1 → count ≡ won
won-counted won count is below = grind (arith, is, below)

more-times : (k a b c : ℕ) → a ≤ k * b → b ≤ c → a ≤ k * c
more-times k a b c most less = grind (arith, most, less)

pub losses-bounded :
    (g : Geometry) (s : State) (w : Wins) → IsWon g s w → ((caller : ℕ) → caller < g.callers → (s.errand caller).won < 2 ^ 64 - 1)
    → callers_sum g lost_of s.errand ≤ (g.callers - 1) * callers_sum g won_of s.errand
unfolding callers_sum
losses-bounded g s w won below =
    let noted = won.noted in
    let wins : length w.list ≤ sum_below g.callers (λ caller. (s.errand caller).won) =
    omega (
      arith,
      all-won g.callers w.list noted.callers,
      sum-same g.callers (λ caller. (s.errand caller).won) (λ caller. count_by (is_by caller) w.list)
          (λ caller has. won-counted (s.errand caller).won (count_by (is_by caller) w.list) (noted.won caller has) (below caller has)),
    ) in
    more-times (g.callers - 1) (sum_below g.callers (λ caller. (s.errand caller).lost)) (length w.list) (sum_below g.callers (λ caller. (s.errand caller).won))
    (omega (arith, won.contended.most)) wins
