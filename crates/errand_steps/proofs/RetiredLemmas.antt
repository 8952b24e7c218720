-- What a retired list is after a change.
use Rattle.std.proofs.Common.{ℕ, zero, suc, false, ◌≡◌, List, [], ◌∷◌, length, arith, ap, sym, refl, ◌∙◌}
use Rattle.std.specs.Prelude.{◌==◌, All, Contains}
use Rattle.std.proofs.lemmas.Bool.{cond_both, eq-eqb, true≢false}
use Rattle.std.proofs.lemmas.List.Elements.{All-head, All-tail, All-cons}
use Rattle.step_parts.specs.hazard.Retired.{without}

-- what is in a list whose first element is another one is in the rest
in-rest : (d x : ℕ) (xs : List ℕ) → Contains (x ∷ xs) d → (x == d) ≡ false → Contains xs d
in-rest d x xs (zero, within, is) other = absurd (true≢false (sym (eq-eqb x d is) ∙ other))
in-rest d x xs (suc k, within, is) other = (k, omega (arith, within), is)

-- a list without one of its elements has one less
pub without-length : (d : ℕ) (xs : List ℕ) → Contains xs d → suc (length (without d xs)) ≡ length xs
without-length d [] (k, within, is) = let no : ⊥ = omega (arith, within) in absurd no
without-length d (x ∷ xs) has =
    cond_both (x == d) xs (x ∷ without d xs) (λ l. suc (length l) ≡ suc (length xs))
    (λ e. refl)
    (λ e. ap suc (without-length d xs (in-rest d x xs has e)))

-- what holds of each element holds of each one that is left
pub without-all : (P : ℕ → Type 0) (d : ℕ) (xs : List ℕ) → All P xs → All P (without d xs)
without-all P d [] all = all
without-all P d (x ∷ xs) all =
    cond_both (x == d) xs (x ∷ without d xs) (λ l. All P l)
    (λ e. All-tail P x xs all)
    (λ e. All-cons P x (without d xs) (All-head P x xs all) (without-all P d xs (All-tail P x xs all)))
