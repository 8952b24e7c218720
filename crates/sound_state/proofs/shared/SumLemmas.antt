-- Sums over the numbers below a bound, over the words and over the callers.
use Rattle.std.proofs.Common.{ℕ, zero, suc, ◌≡◌, ◌≢◌, ◌<◌, ◌≤◌, ◌+◌, ◌*◌, List, [], ◌∷◌, length, refl, arith, inl, inr, subst, ap, sym, ◌∙◌, ◌==◌, if◌then◌else◌, eq-eqb}
use Rattle.std.proofs.Common.{ne_eqb}
use Rattle.std.proofs.lemmas.Bool.{cases_eq, cond-true, cond-false}
use Rattle.sound_state.proofs.Common.{Geometry, WordName, word_count, Exists, word_name, Writes, occurs, ErrandFields, Moves, sum_below, words_sum, callers_sum, word_index}
use Rattle.sound_state.proofs.Common.{word_index-within, word_name-word_index, word_index-word_name}

-- sums of equal terms are equal
pub sum-same : (n : ℕ) (f f' : ℕ → ℕ) → ((j : ℕ) → j < n → f' j ≡ f j) → sum_below n f' ≡ sum_below n f
sum-same zero f f' h = refl
sum-same (suc n) f f' h = omega (arith, sum-same n f f' (λ j lt. h j (omega arith)), h n (omega arith))

-- a sum of terms that are 0 is 0
pub sum-none : (n : ℕ) (f : ℕ → ℕ) → ((j : ℕ) → j < n → f j ≡ 0) → sum_below n f ≡ 0
sum-none zero f h = refl
sum-none (suc n) f h = omega (arith, sum-none n f (λ j lt. h j (omega arith)), h n (omega arith))

-- a sum in which one term changes changes by that term
pub sum-change :
    (n : ℕ) (f f' : ℕ → ℕ) (i : ℕ) → i < n → ((j : ℕ) → j < n → j ≢ i → f' j ≡ f j)
    → sum_below n f' + f i ≡ sum_below n f + f' i
sum-change zero f f' i lt h = omega arith
sum-change (suc n) f f' i lt h =
    elim (cases_eq n i) [
      | inl e ↦
          let same : sum_below n f' ≡ sum_below n f = sum-same n f f' (λ j jn. h j (omega arith) (omega arith)) in
          let P : ℕ → Type 0 = λ m. sum_below n f' + f' n + f m ≡ sum_below n f + f n + f' m in
          subst P e (omega arith)
      | inr ne ↦
          let at_n : f' n ≡ f n = h n (omega arith) ne in
          let rest : sum_below n f' + f i ≡ sum_below n f + f' i = sum-change n f f' i (omega arith) (λ j jn ji. h j (omega arith) ji) in
          omega arith
    ]

-- a sum whose terms but one are 0 is that one
pub sum-one : (n : ℕ) (f : ℕ → ℕ) (i : ℕ) → i < n → ((j : ℕ) → j < n → j ≢ i → f j ≡ 0) → sum_below n f ≡ f i
sum-one n f i lt h =
    let none : sum_below n (λ j. 0) ≡ 0 = sum-none n (λ j. 0) (λ j jn. refl) in
    omega (arith, none, sum-change n f (λ j. 0) i lt (λ j jn ne. sym (h j jn ne)))

-- a term is no more than its sum
pub term-sum : (n : ℕ) (f : ℕ → ℕ) (i : ℕ) → i < n → f i ≤ sum_below n f
term-sum zero f i lt = omega arith
term-sum (suc n) f i lt =
    elim (cases_eq n i) [
      | inl e ↦ let P : ℕ → Type 0 = λ m. f m ≤ sum_below n f + f n in subst P e (omega arith)
      | inr ne ↦ omega (arith, term-sum n f i (omega arith))
    ]

-- two terms are no more than their sum
pub two-terms : (n : ℕ) (f : ℕ → ℕ) (i j : ℕ) → i < n → j < n → i ≢ j → f i + f j ≤ sum_below n f
two-terms n f i j has_i has_j differ =
    let rest : ℕ → ℕ = λ k. if k == i then 0 else f k in
    let changed : sum_below n rest + f i ≡ sum_below n f + rest i =
    sum-change n f rest i has_i (λ k lt other. cond-false {A = ℕ} (k == i) 0 (f k) (ne_eqb k i other)) in
    let at_i : rest i ≡ 0 = cond-true {A = ℕ} (i == i) 0 (f i) (eq-eqb i i refl) in
    let at_j : rest j ≡ f j = cond-false {A = ℕ} (j == i) 0 (f j) (ne_eqb j i (λ same. differ (sym same))) in
    omega (arith, changed, at_i, at_j, term-sum n rest j has_j)

-- a sum that isn't 0 has a term that isn't
pub some-term : (n : ℕ) (f : ℕ → ℕ) → 0 < sum_below n f → (i : ℕ) × (i < n) × (0 < f i)
some-term zero f some = absurd (omega (arith, some))
some-term (suc n) f some =
    elim (cases_eq (f n) 0) [
      | inl none ↦ let rest = some-term n f (omega (arith, some, none)) in (rest.0, omega (arith, rest.1), rest.2)
      | inr here ↦ (n, omega arith, omega (arith, here))
    ]

-- a sum whose terms are no more than another's is no more than that
pub sum-least : (n : ℕ) (f f' : ℕ → ℕ) → ((j : ℕ) → j < n → f j ≤ f' j) → sum_below n f ≤ sum_below n f'
sum-least zero f f' h = omega arith
sum-least (suc n) f f' h = omega (arith, sum-least n f f' (λ j lt. h j (omega arith)), h n (omega arith))

-- a sum of terms that are no more, and one of which is less, is less
pub sum-less :
    (n : ℕ) (f f' : ℕ → ℕ) (i : ℕ) → i < n → ((j : ℕ) → j < n → f' j ≤ f j) → f' i + 1 ≤ f i → sum_below n f' + 1 ≤ sum_below n f
sum-less zero f f' i lt least less = absurd (let no : ⊥ = omega (arith, lt) in no)
sum-less (suc n) f f' i lt least less =
    elim (cases_eq i n) [
      | inl last ↦
          let rest = sum-least n f' f (λ j below. least j (omega arith)) in
          let one : f' n + 1 ≤ f n = subst (λ k. f' k + 1 ≤ f k) last less in
          omega (arith, rest, one)
      | inr differ ↦
          let rest = sum-less n f f' i (omega arith) (λ j below. least j (omega arith)) less in
          omega (arith, rest, least n (omega arith))
    ]

-- a sum of sums of two terms is the sum of both sums
pub sum-plus : (n : ℕ) (f f' : ℕ → ℕ) → sum_below n (λ j. f j + f' j) ≡ sum_below n f + sum_below n f'
sum-plus zero f f' = refl
sum-plus (suc n) f f' = omega (arith, sum-plus n f f')

-- a sum of ones is their number
pub sum-ones : (n : ℕ) → sum_below n (λ j. 1) ≡ n
sum-ones zero = refl
sum-ones (suc n) = omega (arith, sum-ones n)

-- a sum of terms that are at most k is at most k times their number
pub sum-most : (n : ℕ) (f : ℕ → ℕ) (k : ℕ) → ((j : ℕ) → j < n → f j ≤ k) → sum_below n f ≤ n * k
sum-most zero f k h = omega arith
sum-most (suc n) f k h = omega (arith, sum-most n f k (λ j lt. h j (omega arith)), h n (omega arith))

-- a sum of terms that are at most k, one of them 0, is at most k times the others
pub sum-most-but :
    (n : ℕ) (f : ℕ → ℕ) (k i : ℕ) → i < n → f i ≡ 0 → ((j : ℕ) → j < n → f j ≤ k) → sum_below n f + k ≤ n * k
sum-most-but n f k i lt none most =
    let f' = λ (j : ℕ). if j == i then k else f j in
    let here : f' i ≡ k = cond-true {A = ℕ} (i == i) k (f i) (eq-eqb i i refl) in
    let change = sum-change n f f' i lt (λ j jn ne. cond-false {A = ℕ} (j == i) k (f j) (ne_eqb j i ne)) in
    let each : sum_below n f' ≤ n * k =
    sum-most n f' k
    (λ j jn.
    elim (cases_eq j i) [
      | inl e ↦ omega (arith, cond-true {A = ℕ} (j == i) k (f j) (eq-eqb j i e))
      | inr ne ↦ omega (arith, cond-false {A = ℕ} (j == i) k (f j) (ne_eqb j i ne), most j jn)
    ]) in
    omega (arith, change, here, none, each)

-- a sum of sums is the same in the other order
pub sum-swap :
    (n m : ℕ) (f : ℕ → ℕ → ℕ) → sum_below n (λ i. sum_below m (f i)) ≡ sum_below m (λ j. sum_below n (λ i. f i j))
sum-swap zero m f = sym (sum-none m (λ j. 0) (λ j lt. refl))
sum-swap (suc n) m f = omega (arith, sum-swap n m f, sum-plus m (λ j. sum_below n (λ i. f i j)) (f n))

-- a number is counted once at most among those below a bound
one-never : (n x : ℕ) → n ≤ x → sum_below n (λ i. if x == i then 1 else 0) ≡ 0
one-never n x h =
    sum-none n (λ i. if x == i then 1 else 0) (λ i lt. cond-false {A = ℕ} (x == i) 1 0 (ne_eqb x i (λ e. let no : ⊥ = omega (arith, e) in no)))

pub sum-once : (n x : ℕ) → sum_below n (λ i. if x == i then 1 else 0) ≤ 1
sum-once zero x = omega arith
sum-once (suc n) x =
    elim (cases_eq x n) [
      | inl e ↦ omega (arith, one-never n x (omega (arith, e)), cond-true {A = ℕ} (x == n) 1 0 (eq-eqb x n e))
      | inr ne ↦ omega (arith, sum-once n x, cond-false {A = ℕ} (x == n) 1 0 (ne_eqb x n ne))
    ]

-- the numbers below a bound occur in a list no more often than it is long
pub sum-occurs : (n : ℕ) (xs : List ℕ) → sum_below n (λ i. occurs i xs) ≤ length xs
sum-occurs n [] = omega (arith, sum-none n (λ i. 0) (λ i lt. refl))
sum-occurs n (x ∷ xs) =
    omega (arith, sum-plus n (λ i. if x == i then 1 else 0) (λ i. occurs i xs), sum-once n x, sum-occurs n xs)

-- the sum of what words weigh
module _ (g : Geometry) (weight : WordName → ℕ → ℕ) (words : WordName → ℕ) where
  -- a write changes the words' sum by what the word weighs
  pub words-written :
      (name : WordName) (new : ℕ) (words' : WordName → ℕ) → Exists g name → Writes words name new words'
      → words_sum g weight words' + weight name (words name) ≡ words_sum g weight words + weight name new
  unfolding words_sum
  words-written name new words' exists w =
      let stands : word_name g (word_index g name) ≡ name = word_name-word_index g name exists in
      let changed =
      sum-change (word_count g) (λ k. weight (word_name g k) (words (word_name g k)))
      (λ k. weight (word_name g k) (words' (word_name g k))) (word_index g name) (word_index-within g name exists)
      (λ k lt ne.
      ap (weight (word_name g k)) (w.elsewhere (word_name g k) (λ q. ne (sym (word_index-word_name g k lt) ∙ ap (word_index g) q)))) in
      let P : WordName → Type 0 =
      λ m. words_sum g weight words' + weight m (words m) ≡ words_sum g weight words + weight m (words' m) in
      let f : words_sum g weight words' + weight name (words name) ≡ words_sum g weight words + weight name (words' name) =
      subst P stands changed in
      omega (arith, f, ap (weight name) w.here)

  -- words that are all the same weigh the same
  pub words-same : (words' : WordName → ℕ) → ((name : WordName) → words' name ≡ words name) → words_sum g weight words' ≡ words_sum g weight words
  unfolding words_sum
  words-same words' h = grind (arith, h, sum-same)

  -- words that weigh nothing weigh nothing together
  pub words-none : ((name : WordName) → weight name (words name) ≡ 0) → words_sum g weight words ≡ 0
  unfolding words_sum
  words-none h = sum-none (word_count g) (λ k. weight (word_name g k) (words (word_name g k))) (λ k lt. h (word_name g k))

  -- words of which one alone weighs something weigh what that one does
  pub words-one :
      (name : WordName) → Exists g name → ((other : WordName) → other ≢ name → weight other (words other) ≡ 0)
      → words_sum g weight words ≡ weight name (words name)
  unfolding words_sum
  words-one name exists h =
      let stands : word_name g (word_index g name) ≡ name = word_name-word_index g name exists in
      sum-one (word_count g) (λ k. weight (word_name g k) (words (word_name g k))) (word_index g name) (word_index-within g name exists)
      (λ k lt ne. h (word_name g k) (λ q. ne (sym (word_index-word_name g k lt) ∙ ap (word_index g) q))) ∙ ap (λ m. weight m (words m)) stands

-- an errand that goes on changes the callers' sum by what it weighs
pub callers-moved :
    (g : Geometry) (weight : ErrandFields → ℕ) (errands : ℕ → ErrandFields) (caller : ℕ) (e : ErrandFields) (errands' : ℕ → ErrandFields)
    → caller < g.callers → Moves errands caller e errands'
    → callers_sum g weight errands' + weight (errands caller) ≡ callers_sum g weight errands + weight e
unfolding callers_sum
callers-moved g weight errands caller e errands' has m =
    let changed = sum-change g.callers (λ i. weight (errands i)) (λ i. weight (errands' i)) caller has (λ i lt ne. ap weight (m.elsewhere i ne)) in
    omega (arith, changed, ap weight m.here)

-- callers that weigh nothing weigh nothing together
pub callers-none :
    (g : Geometry) (weight : ErrandFields → ℕ) (errands : ℕ → ErrandFields)
    → ((caller : ℕ) → caller < g.callers → weight (errands caller) ≡ 0) → callers_sum g weight errands ≡ 0
unfolding callers_sum
callers-none g weight errands h = sum-none g.callers (λ caller. weight (errands caller)) h
