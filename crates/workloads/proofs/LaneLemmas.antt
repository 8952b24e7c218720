-- What lanes do, one round more.
use Rattle.std.proofs.Common.{◌≡◌, ℕ, ◌+◌, ◌/◌, ◌%◌, List, [], ◌∷◌, ◌++◌, refl, append_assoc, add-one}
use Rattle.std.proofs.lemmas.Bool.{ne_eqb}
use Rattle.std.proofs.lemmas.List.{append-nil}
use Rattle.rand_pcg.specs.Lcg.{Lcg}
use Rattle.trace_text.specs.declared.trace.Op.{Op}
use Rattle.trace_text.specs.declared.trace.Op.TheVariants.{Alloc, Free, Check, Put, Take}
use Rattle.workloads.specs.Draws.{Draws, just, ◌>>=◌, draw, behind}
use Rattle.workloads.specs.Lanes.{scalability, scalability_round, batch_allocs, batch_frees, batch, full_batches, threadtest, produced, consumed, shelf_of, pipeline}
use Rattle.workloads.proofs.DrawLemmas.{followed, extended}

-- ---- one word at a time

pub scalability-more :
    (n : ℕ) (g h : Lcg) (ops : List Op) (y : List Op × Lcg) → (ops, h) ≡ scalability n g → y ≡ behind ops (scalability_round h)
    → y ≡ scalability (n + 1) g
unfolding scalability
scalability-more n g h ops y is e =
    rw add-one (followed (scalability n) (λ before. scalability_round >>= λ m. just (before ++ m)) g h ops y is e)

-- ---- batches

pub batch_allocs-start : (old : List Op) (g : Lcg) → (old, g) ≡ behind old (batch_allocs 0 g)
unfolding batch_allocs
batch_allocs-start old g = simp append-nil

abbrev next_alloc : ℕ → Draws (List Op)
next_alloc r = draw >>= λ v. just (Alloc r 7 v ∷ [])

pub batch_allocs-more :
    (r v : ℕ) (old ops : List Op) (g h k : Lcg) → (ops, h) ≡ behind old (batch_allocs r g) → (v, k) ≡ draw h
    → (ops ++ Alloc r 7 v ∷ [], k) ≡ behind old (batch_allocs (r + 1) g)
unfolding batch_allocs
batch_allocs-more r v old ops g h k is e =
    rw add-one (extended (batch_allocs r) (next_alloc r) old ops (Alloc r 7 v ∷ []) g h k is
    (followed draw (λ v. just (Alloc r 7 v ∷ [])) h k v (Alloc r 7 v ∷ [], k) e refl))

pub batch_frees-more :
    (r : ℕ) (old ops : List Op) → ops ≡ old ++ batch_frees r → (ops ++ Check r ∷ []) ++ Free r ∷ [] ≡ old ++ batch_frees (r + 1)
unfolding batch_frees
batch_frees-more r old ops is = rw (is, add-one) (simp append_assoc)

pub batch-both :
    (m : ℕ) (old allocs ops : List Op) (g h : Lcg) → (allocs, h) ≡ behind old (batch_allocs m g) → ops ≡ allocs ++ batch_frees m
    → (ops, h) ≡ behind old (batch m g)
unfolding batch
batch-both m old allocs ops g h is e =
    rw e (extended (batch_allocs m) (just (batch_frees m)) old allocs (batch_frees m) g h h is refl)

pub full_batches-more :
    (n : ℕ) (g h : Lcg) (ops : List Op) (y : List Op × Lcg) → (ops, h) ≡ full_batches n g → y ≡ behind ops (batch 64 h)
    → y ≡ full_batches (n + 1) g
unfolding full_batches
full_batches-more n g h ops y is e =
    rw add-one (followed (full_batches n) (λ before. batch 64 >>= λ m. just (before ++ m)) g h ops y is e)

pub threadtest-last :
    (n : ℕ) (g h : Lcg) (ops : List Op) (y : List Op × Lcg) → (ops, h) ≡ full_batches (n / 64) g → y ≡ behind ops (batch (n % 64) h)
    → y ≡ threadtest n g
unfolding threadtest
threadtest-last n g h ops y is e = followed (full_batches (n / 64)) (λ before. batch (n % 64) >>= λ m. just (before ++ m)) g h ops y is e

-- ---- pairs of lanes

pub produced-more :
    (pair n v shelf : ℕ) (ops : List Op) (g h k : Lcg) → (ops, h) ≡ produced pair n g → (v, k) ≡ draw h → shelf ≡ shelf_of pair n
    → ((ops ++ Alloc 0 3 v ∷ []) ++ Put 0 shelf ∷ [], k) ≡ produced pair (n + 1) g
unfolding produced
produced-more pair n v shelf ops g h k is e at_shelf =
    rw (add-one, append_assoc, at_shelf) (followed (produced pair n) (λ before. draw >>= λ v. just (before ++ Alloc 0 3 v ∷ Put 0 (shelf_of pair n) ∷ [])) g h ops _ is
    (followed draw (λ v. just (ops ++ Alloc 0 3 v ∷ Put 0 (shelf_of pair n) ∷ [])) h k v _ e refl))

pub consumed-more :
    (pair n shelf : ℕ) (ops : List Op) → ops ≡ consumed pair n → shelf ≡ shelf_of pair n
    → ((ops ++ Take 0 shelf ∷ []) ++ Check 0 ∷ []) ++ Free 0 ∷ [] ≡ consumed pair (n + 1)
unfolding consumed
consumed-more pair n shelf ops is at_shelf = rw (add-one, is, at_shelf) (simp append_assoc)

pub pipeline-even :
    (lane n : ℕ) (g : Lcg) → lane % 2 ≡ 0 → pipeline lane n g ≡ produced (lane / 2) n g
unfolding pipeline
pipeline-even lane n g even = rw even refl

pub pipeline-odd :
    (lane n : ℕ) (g : Lcg) → (lane % 2 ≡ 0 → ⊥) → (consumed (lane / 2) n, g) ≡ pipeline lane n g
unfolding pipeline
pipeline-odd lane n g odd = rw (ne_eqb (lane % 2) 0 odd) refl
