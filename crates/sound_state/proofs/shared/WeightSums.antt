-- Sums over the words and over the callers, compared word by word and caller by caller.
use Rattle.std.proofs.Common.{ℕ, ◌≡◌, ◌<◌, ◌≤◌, ◌+◌, ◌*◌, arith}
use Rattle.sound_state.proofs.Common.{Geometry, WordName, word_count, Exists, word_name, ErrandFields, sum_below, words_sum, callers_sum, word_name-Exists}
use Rattle.sound_state.proofs.shared.SumLemmas.{sum-least, sum-swap, sum-most-but, some-term, term-sum}

-- all words weigh at least as much by a second weight, where each of them does
pub words-least :
    (g : Geometry) (a b : WordName → ℕ → ℕ) (words : WordName → ℕ) → ((m : WordName) → Exists g m → a m (words m) ≤ b m (words m))
    → words_sum g a words ≤ words_sum g b words
unfolding words_sum
words-least g a b words least = grind (arith, least, sum-least, word_count, word_name, word_name-Exists)

-- some word weighs something by a second weight, where each that does by the first does so, and one does
pub words-some :
    (g : Geometry) (a b : WordName → ℕ → ℕ) (words : WordName → ℕ) → ((m : WordName) → 0 < a m (words m) → 0 < b m (words m))
    → 0 < words_sum g a words → 0 < words_sum g b words
unfolding words_sum
words-some g a b words weighs some =
    let (k, lt, here) = some-term (word_count g) (λ k. a (word_name g k) (words (word_name g k))) some in
    omega (arith, weighs (word_name g k) here, term-sum (word_count g) (λ k. b (word_name g k) (words (word_name g k))) k lt)

-- many weights together find no more in all words than these most, where they find no more in each
pub words-together :
    (g : Geometry) (n : ℕ) (weight : ℕ → WordName → ℕ → ℕ) (words most : WordName → ℕ)
    → ((m : WordName) → Exists g m → sum_below n (λ d. weight d m (words m)) ≤ most m)
    → sum_below n (λ d. words_sum g (weight d) words) ≤ sum_below (word_count g) (λ k. most (word_name g k))
unfolding words_sum
words-together g n weight words most each =
    let part = λ (d k : ℕ). weight d (word_name g k) (words (word_name g k)) in
    omega (
      arith,
      sum-swap n (word_count g) part,
      sum-least (word_count g) (λ k. sum_below n (λ d. part d k)) (λ k. most (word_name g k))
          (λ k lt. each (word_name g k) (word_name-Exists g k lt)),
    )

-- all callers weigh at least as much by a second weight where each does, and something where each that does so weighs something
pub callers-least :
    (g : Geometry) (a b : ErrandFields → ℕ) (errands : ℕ → ErrandFields) → ((e : ErrandFields) → a e ≤ b e)
    → callers_sum g a errands ≤ callers_sum g b errands
unfolding callers_sum
callers-least g a b errands least = sum-least g.callers (λ i. a (errands i)) (λ i. b (errands i)) (λ i lt. least (errands i))

pub callers-some :
    (g : Geometry) (a b : ErrandFields → ℕ) (errands : ℕ → ErrandFields) → ((e : ErrandFields) → 0 < a e → 0 < b e)
    → 0 < callers_sum g a errands → 0 < callers_sum g b errands
unfolding callers_sum
callers-some g a b errands weighs some =
    let (i, lt, here) = some-term g.callers (λ i. a (errands i)) some in
    omega (arith, weighs (errands i) here, term-sum g.callers (λ i. b (errands i)) i lt)

-- many weights together find at most k at each caller but one, where they find nothing at that one and at most k at each
pub callers-together :
    (g : Geometry) (n : ℕ) (weight : ℕ → ErrandFields → ℕ) (errands : ℕ → ErrandFields) (caller k : ℕ) → caller < g.callers
    → sum_below n (λ d. weight d (errands caller)) ≡ 0 → ((e : ErrandFields) → sum_below n (λ d. weight d e) ≤ k)
    → sum_below n (λ d. callers_sum g (weight d) errands) + k ≤ g.callers * k
unfolding callers_sum
callers-together g n weight errands caller k has none most =
    omega (
      arith,
      sum-swap n g.callers (λ d i. weight d (errands i)),
      sum-most-but g.callers (λ i. sum_below n (λ d. weight d (errands i))) k caller has none (λ i lt. most (errands i)),
    )
