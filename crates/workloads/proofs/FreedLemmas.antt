-- A lane that works alone frees what it allocates.
use Rattle.std.proofs.Common.{◌≡◌, ℕ, zero, suc, ◌/◌, ◌%◌, ◌<◌, ◌≤◌, ◌⊎◌, Bool, true, false, ◌||◌, cond, eqb, List, [], ◌∷◌, ◌++◌, refl, ◌∙◌, append_assoc, arith, inl, inr}
use Rattle.std.proofs.lemmas.Bool.{cases_lt, eq-eqb, ne_eqb}
use Rattle.std.proofs.lemmas.List.Elements.{All-nil, All-push}
use Rattle.std.proofs.lemmas.List.Sums.{fold-append}
use Rattle.std.specs.List.{All, fold}
use Rattle.rand_pcg.specs.Lcg.{Lcg}
use Rattle.trace_text.specs.declared.trace.Op.{Op}
use Rattle.trace_text.specs.declared.trace.Op.TheVariants.{Free}
use Rattle.workloads.specs.declared.kind.Kind.{Kind}
use Rattle.workloads.specs.declared.kind.Kind.TheVariants as kinds
use Rattle.workloads.specs.Draws.{draw, seeded_by}
use Rattle.workloads.specs.Held.{held_behind, is_held, AreFreed, frees_below}
use Rattle.workloads.specs.Lanes.{scalability, scalability_round, batch_allocs, batch_frees, batch, full_batches, threadtest, larson_round, larson_rounds, larson}
use Rattle.workloads.specs.Made.{rounds_of, lane_of, lanes_of, made}
use Rattle.workloads.proofs.HeldLemmas.{none_held, held_next}

-- whether a register holds a block after operations, by whether it held one before them
abbrev holds : ℕ → Bool → List Op → Bool
holds k was ops = fold (held_behind k) was ops

held-append : (k : ℕ) (before ops : List Op) → is_held k (before ++ ops) ≡ holds k (is_held k before) ops
unfolding is_held
held-append k before ops = fold-append (held_behind k) false before ops

held-holds : (k : ℕ) (ops : List Op) → is_held k ops ≡ holds k false ops
unfolding is_held
held-holds k ops = refl

freed-append : (before ops : List Op) → AreFreed before → AreFreed ops → AreFreed (before ++ ops)
freed-append before ops is also k = rw (held-append k before ops, is k, ← held-holds k ops) (also k)

freed-nil : AreFreed []
freed-nil k = none_held k

-- ---- one word at a time

taken_back : (test : Bool) → cond test false (test || false) ≡ false
taken_back true = refl
taken_back false = refl

round-freed : (g : Lcg) → AreFreed (scalability_round g).0
unfolding scalability_round is_held
round-freed g k = taken_back (eqb 0 k)

scalability-freed : (n : ℕ) (g : Lcg) → AreFreed (scalability n g).0
unfolding scalability
scalability-freed zero g = freed-nil
scalability-freed (suc n) g = freed-append _ _ (scalability-freed n g) (round-freed (scalability n g).1)

-- ---- batches

beyond : (n k : ℕ) → suc n ≤ k → eqb n k ≡ false
beyond n k below = ne_eqb n k (λ same. absurd (omega arith))

allocs-beyond : (n k : ℕ) (g : Lcg) → n ≤ k → is_held k (batch_allocs n g).0 ≡ false
unfolding batch_allocs
allocs-beyond zero k g below = none_held k
allocs-beyond (suc n) k g below = rw (held-append, beyond n k below) (allocs-beyond n k g (omega arith))

freed-stays : (test : Bool) → cond test false false ≡ false
freed-stays true = refl
freed-stays false = refl

or_last : (k n : ℕ) → k < suc n → (k < n) ⊎ (n ≡ k)
or_last k n below = elim (cases_lt k n) [ inl inside ↦ inl inside | inr past ↦ inr (omega arith) ]

frees-below : (n k : ℕ) (was : Bool) → k < n → holds k was (batch_frees n) ≡ false
unfolding batch_frees
frees-below zero k was below = absurd (omega arith)
frees-below (suc n) k was below =
    elim (or_last k n below) [
      | inl inside ↦ rw (fold-append, frees-below n k was inside) (freed-stays (eqb n k))
      | inr same ↦ rw (fold-append, eq-eqb n k same) refl
    ]

frees-beyond : (n k : ℕ) (was : Bool) → n ≤ k → holds k was (batch_frees n) ≡ was
unfolding batch_frees
frees-beyond zero k was below = refl
frees-beyond (suc n) k was below = rw (fold-append, beyond n k below) (frees-beyond n k was (omega arith))

batch-freed : (n : ℕ) (g : Lcg) → AreFreed (batch n g).0
unfolding batch
batch-freed n g k =
    rw held-append
    (elim (cases_lt k n) [
      | inl below ↦ frees-below n k _ below
      | inr beyond ↦ frees-beyond n k _ beyond ∙ allocs-beyond n k g beyond
    ])

full_batches-freed : (n : ℕ) (g : Lcg) → AreFreed (full_batches n g).0
unfolding full_batches
full_batches-freed zero g = freed-nil
full_batches-freed (suc n) g = freed-append _ _ (full_batches-freed n g) (batch-freed 64 (full_batches n g).1)

threadtest-freed : (n : ℕ) (g : Lcg) → AreFreed (threadtest n g).0
unfolding threadtest
threadtest-freed n g = freed-append _ _ (full_batches-freed (n / 64) g) (batch-freed (n % 64) (full_batches (n / 64) g).1)

-- ---- registers as they are drawn

rounds-beyond : (n k : ℕ) (g : Lcg) → 64 ≤ k → is_held k (larson_rounds n g).0 ≡ false
unfolding larson_rounds larson_round
rounds-beyond zero k g below = none_held k
rounds-beyond (suc n) k g below =
    let before = (larson_rounds n g).0 in
    let h = (larson_rounds n g).1 in
    let number = (draw h).0 in
    let other : eqb (number % 64) k ≡ false = ne_eqb (number % 64) k (λ same. absurd (omega arith)) in
    rw (← append_assoc, held_next, other) (rounds-beyond n k g below)

last-freed : (k n : ℕ) (now was : Bool) → n ≡ k → now ≡ was → holds k now (cond was (Free n ∷ []) []) ≡ false
last-freed k n now true same is = rw (eq-eqb n k same) refl
last-freed k n now false same is = is

still-freed : (k n : ℕ) (now was : Bool) → now ≡ false → holds k now (cond was (Free n ∷ []) []) ≡ false
still-freed k n now true is = rw is (freed-stays (eqb n k))
still-freed k n now false is = is

not-freed : (k n : ℕ) (now was : Bool) → suc n ≤ k → holds k now (cond was (Free n ∷ []) []) ≡ now
not-freed k n now true below = rw (beyond n k below) refl
not-freed k n now false below = refl

held-beyond : (n k : ℕ) (ops : List Op) (now : Bool) → n ≤ k → holds k now (frees_below n ops) ≡ now
unfolding frees_below
held-beyond zero k ops now below = refl
held-beyond (suc n) k ops now below = rw fold-append (not-freed k n _ (is_held n ops) below ∙ held-beyond n k ops now (omega arith))

held-below : (n k : ℕ) (ops : List Op) → k < n → holds k (is_held k ops) (frees_below n ops) ≡ false
unfolding frees_below
held-below zero k ops below = absurd (omega arith)
held-below (suc n) k ops below =
    elim (or_last k n below) [
      | inl inside ↦ rw fold-append (still-freed k n _ (is_held n ops) (held-below n k ops inside))
      | inr same ↦
          rw fold-append
          (last-freed k n _ (is_held n ops) same (held-beyond n k ops (is_held k ops) (omega arith) ∙ rw same refl))
    ]

larson-freed : (n : ℕ) (g : Lcg) → AreFreed (larson n g).0
unfolding larson
larson-freed n g k =
    let ops = (larson_rounds n g).0 in
    rw held-append
    (elim (cases_lt k 64) [
      | inl below ↦ held-below 64 k ops below
      | inr below ↦ held-beyond 64 k ops (is_held k ops) below ∙ rounds-beyond n k g below
    ])

-- ---- the lanes

lane-freed : (kind : Kind) (lane n : ℕ) (g : Lcg) → (kind ≡ kinds.Pipeline → ⊥) → AreFreed (lane_of kind lane n g).0
lane-freed kinds.Scalability lane n g alone = scalability-freed n g
lane-freed kinds.Threadtest lane n g alone = threadtest-freed n g
lane-freed kinds.Larson lane n g alone = larson-freed n g
lane-freed kinds.Pipeline lane n g alone = absurd (alone refl)

lanes-freed :
    (kind : Kind) (size lanes : ℕ) (g : Lcg) → (kind ≡ kinds.Pipeline → ⊥) → All AreFreed (lanes_of kind size lanes g).0
unfolding lanes_of
lanes-freed kind size zero g alone = All-nil AreFreed
lanes-freed kind size (suc lane) g alone =
    All-push AreFreed _ _ (lanes-freed kind size lane g alone) (lane-freed kind lane (rounds_of size lane) (lanes_of kind size lane g).1 alone)

-- no register of a lane that works alone holds a block at the end
pub made-freed : (kind : Kind) (size start : ℕ) → (kind ≡ kinds.Pipeline → ⊥) → All AreFreed (made kind size start).lanes
unfolding made
made-freed kind size start alone = lanes-freed kind size 8 (seeded_by start) alone
