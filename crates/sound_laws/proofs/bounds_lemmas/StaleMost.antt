-- No more than two words are ever stale for a caller: a caller expects no more.
use Rattle.std.proofs.Common.{ℕ, Bool, ◌≡◌, ◌<◌, ◌≤◌, ◌+◌, List, [], ◌∷◌, length, refl, arith, ap, inl, inr, ◌∙◌, ◌==◌, ◌||◌, if◌then◌else◌, eq-eqb}
use Rattle.std.specs.List.{list_any}
use Rattle.std.proofs.lemmas.Bool.{cases_Bool, cond-true}
use Rattle.sound_state.proofs.Common.{Geometry, word_count, word_name, Point, State, sum_below, one_if, word_index, word_index-word_name}
use Rattle.sound_laws.specs.bounds.Alone.{is_stale_by, stale_words}
use Rattle.errand_steps.specs.tables.Expected.{Expected}
use Rattle.sound_laws.specs.bounds.Expectations.{expects_of}
use Rattle.sound_laws.specs.bounds.Wins.{same_name}
use Rattle.sound_state.proofs.shared.SumLemmas.{sum-none, sum-least, sum-plus, sum-once}
use Rattle.sound_state.proofs.shared.TurnEffects.{one_if-most}
use Rattle.sound_laws.proofs.bounds_lemmas.SameNames.{same-name-is}

either-most : (a b : Bool) → one_if (a || b) ≤ one_if a + one_if b
either-most a b = grind (arith)

-- an expectation makes a word stale only at the one number that it has in the table
name-once : (g : Geometry) (s : State) (e : Expected) (k : ℕ) → k < word_count g
    → one_if (is_stale_by s (word_name g k) e) ≤ (if word_index g e.word == k then 1 else 0)
name-once g s e k lt =
    elim (cases_Bool (same_name e.word (word_name g k))) [
      | inl same ↦
          let is : word_index g e.word ≡ k = ap (word_index g) (same-name-is e.word (word_name g k) same) ∙ word_index-word_name g k lt in
          let one : (if word_index g e.word == k then 1 else 0) ≡ 1 = cond-true {A = ℕ} (word_index g e.word == k) 1 0 (eq-eqb (word_index g e.word) k is) in
          omega (arith, one, one_if-most (is_stale_by s (word_name g k) e))
      | inr differ ↦ let none : one_if (is_stale_by s (word_name g k) e) ≡ 0 = rw differ refl in omega (arith, none)
    ]

-- at most as many words are stale for expectations as these are
stale-by-most :
    (g : Geometry) (s : State) (es : List Expected) → sum_below (word_count g) (λ k. one_if (list_any (is_stale_by s (word_name g k)) es)) ≤ length es
stale-by-most g s [] = omega (arith, sum-none (word_count g) (λ k. 0) (λ k lt. refl))
stale-by-most g s (e ∷ es) =
    let n = word_count g in
    let one = λ (k : ℕ). one_if (is_stale_by s (word_name g k) e) in
    let rest = λ (k : ℕ). one_if (list_any (is_stale_by s (word_name g k)) es) in
    let first : sum_below n one ≤ sum_below n (λ k. if word_index g e.word == k then 1 else 0) =
    sum-least n one (λ k. if word_index g e.word == k then 1 else 0) (λ k lt. name-once g s e k lt) in
    let both : sum_below n (λ k. one_if (list_any (is_stale_by s (word_name g k)) (e ∷ es))) ≤ sum_below n (λ k. one k + rest k) =
    sum-least n (λ k. one_if (list_any (is_stale_by s (word_name g k)) (e ∷ es))) (λ k. one k + rest k)
    (λ k lt. either-most (is_stale_by s (word_name g k) e) (list_any (is_stale_by s (word_name g k)) es)) in
    omega (arith, first, both, sum-once n (word_index g e.word), sum-plus n one rest, stale-by-most g s es)

expects-few : (p : Point) → length (expects_of p) ≤ 2
unfolding expects_of
expects-few p = grind (arith)

pub stale-most : (g : Geometry) (s : State) (caller : ℕ) → stale_words g s caller ≤ 2
stale-most g s caller = omega (arith, stale-by-most g s (expects_of (s.errand caller).point), expects-few (s.errand caller).point)
