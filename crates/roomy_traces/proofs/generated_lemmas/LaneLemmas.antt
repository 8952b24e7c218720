-- A lane that works alone uses 64 registers, needs little at a time and allocates once a round.
use Rattle.std.proofs.Common.{ℕ, zero, suc, ◌+◌, ◌*◌, ◌/◌, ◌%◌, ◌<◌, ◌≤◌, ◌≡◌, Bool, true, false, cond, count_by, List, [], ◌∷◌, ◌++◌, refl, arith}
use Rattle.std.proofs.lemmas.List.Elements.{All-nil, All-cons, All-append}
use Rattle.std.proofs.lemmas.List.Sums.{sum_by-append}
use Rattle.std.specs.List.{All}
use Rattle.rand_pcg.specs.Lcg.{Lcg}
use Rattle.heap_geometry.specs.declared.limits.TheConstants.{SMALL_MOST}
use Rattle.trace_text.specs.declared.trace.Op.{Op}
use Rattle.trace_text.specs.declared.trace.Op.TheVariants.{Alloc, Free, Check}
use Rattle.workloads.specs.declared.kind.Kind.{Kind}
use Rattle.workloads.specs.declared.kind.Kind.TheVariants as kinds
use Rattle.workloads.specs.Draws.{Draws, draw}
use Rattle.workloads.specs.Held.{is_held, frees_below}
use Rattle.workloads.specs.Lanes.{scalability, scalability_round, batch_allocs, batch_frees, batch, full_batches, threadtest, given_back, larson_round, larson_rounds, larson}
use Rattle.workloads.specs.Made.{lane_of}
use Rattle.roomy_traces.specs.Roomy.{IsPlain, may_allocate}
use Rattle.roomy_traces.proofs.generated_lemmas.NarrowLemmas.{IsLow}

-- operations that are plain, on the first 64 registers, with at most so many allocations among them
pub record IsSlim (most : ℕ) (operations : List Op) : Type 0 where
  pub plain : All IsPlain operations
  pub low : All (IsLow 64) operations
  pub few : count_by may_allocate operations ≤ most

-- operations that are drawn: plain, on the first 64 registers, with at most so many allocations, whatever the draws
abbrev IsSlimDrawn : ℕ → Draws (List Op) → Type 0
IsSlimDrawn most operations = (g : Lcg) → IsSlim most (operations g).0

none : IsSlim 0 []
none = record { plain = All-nil IsPlain; low = All-nil (IsLow 64); few = omega arith }

alloc : (r need v : ℕ) → r < 64 → need ≤ SMALL_MOST → IsSlim 1 (Alloc r need v ∷ [])
alloc r need v low small =
    record {
      plain = All-cons IsPlain (Alloc r need v) [] small (All-nil IsPlain);
      low = All-cons (IsLow 64) (Alloc r need v) [] low (All-nil (IsLow 64));
      few = omega arith;
    }

free : (r : ℕ) → r < 64 → IsSlim 0 (Free r ∷ [])
free r low =
    record {
      plain = All-cons IsPlain (Free r) [] tt (All-nil IsPlain);
      low = All-cons (IsLow 64) (Free r) [] low (All-nil (IsLow 64));
      few = omega arith;
    }

check : (r : ℕ) → r < 64 → IsSlim 0 (Check r ∷ [])
check r low =
    record {
      plain = All-cons IsPlain (Check r) [] tt (All-nil IsPlain);
      low = All-cons (IsLow 64) (Check r) [] low (All-nil (IsLow 64));
      few = omega arith;
    }

-- two lists of slim operations, one behind the other, are slim: their allocations add up
joined : (m n most : ℕ) (before after : List Op) → m + n ≤ most → IsSlim m before → IsSlim n after → IsSlim most (before ++ after)
joined m n most before after below is also =
    record {
      plain = All-append IsPlain before after is.plain also.plain;
      low = All-append (IsLow 64) before after is.low also.low;
      few = omega (arith, sum_by-append (λ operation. cond (may_allocate operation) 1 0) before after, is.few, also.few);
    }

checked : (r : ℕ) → r < 64 → IsSlim 0 (Check r ∷ Free r ∷ [])
checked r low = joined 0 0 0 (Check r ∷ []) (Free r ∷ []) (omega arith) (check r low) (free r low)

-- ---- one word at a time

round-slim : IsSlimDrawn 1 scalability_round
unfolding scalability_round
round-slim g =
    joined 1 0 1 (Alloc 0 1 (draw g).0 ∷ []) (Free 0 ∷ []) (omega arith) (alloc 0 1 (draw g).0 (omega arith) (omega arith)) (free 0 (omega arith))

scalability-slim : (n : ℕ) → IsSlimDrawn n (scalability n)
unfolding scalability
scalability-slim zero g = none
scalability-slim (suc n) g = joined n 1 (suc n) _ _ (omega arith) (scalability-slim n g) (round-slim (scalability n g).1)

-- ---- batches

allocs-slim : (n : ℕ) → n ≤ 64 → IsSlimDrawn n (batch_allocs n)
unfolding batch_allocs
allocs-slim zero few g = none
allocs-slim (suc r) few g =
    joined r 1 (suc r) _ _ (omega arith) (allocs-slim r (omega arith) g)
    (alloc r 7 (draw (batch_allocs r g).1).0 (omega arith) (omega arith))

frees-slim : (n : ℕ) → n ≤ 64 → IsSlim 0 (batch_frees n)
unfolding batch_frees
frees-slim zero few = none
frees-slim (suc r) few = joined 0 0 0 _ _ (omega arith) (frees-slim r (omega arith)) (checked r (omega arith))

batch-slim : (n : ℕ) → n ≤ 64 → IsSlimDrawn n (batch n)
unfolding batch
batch-slim n few g = joined n 0 n _ _ (omega arith) (allocs-slim n few g) (frees-slim n few)

full_batches-slim : (n : ℕ) → IsSlimDrawn (n * 64) (full_batches n)
unfolding full_batches
full_batches-slim zero g = none
full_batches-slim (suc n) g =
    joined (n * 64) 64 (suc n * 64) _ _ (omega arith) (full_batches-slim n g) (batch-slim 64 (omega arith) (full_batches n g).1)

threadtest-slim : (n : ℕ) → IsSlimDrawn n (threadtest n)
unfolding threadtest
threadtest-slim n g =
    joined (n / 64 * 64) (n % 64) n _ _ (omega arith) (full_batches-slim (n / 64) g)
    (batch-slim (n % 64) (omega arith) (full_batches (n / 64) g).1)

-- ---- registers as they are drawn

given_back-slim : (r : ℕ) (was : Bool) → r < 64 → IsSlim 0 (given_back r was)
given_back-slim r true low = checked r low
given_back-slim r false low = none

larson_round-slim : (before : List Op) → IsSlimDrawn 1 (larson_round before)
unfolding larson_round
larson_round-slim before g =
    let number = (draw g).0 in
    let h = (draw g).1 in
    let need = (draw h).0 in
    let k = (draw h).1 in
    joined 0 1 1 _ _ (omega arith) (given_back-slim (number % 64) (is_held (number % 64) before) (omega arith))
    (alloc (number % 64) (need % 63 + 1) (draw k).0 (omega arith) (omega arith))

larson_rounds-slim : (n : ℕ) → IsSlimDrawn n (larson_rounds n)
unfolding larson_rounds
larson_rounds-slim zero g = none
larson_rounds-slim (suc n) g =
    joined n 1 (suc n) _ _ (omega arith) (larson_rounds-slim n g) (larson_round-slim (larson_rounds n g).0 (larson_rounds n g).1)

freed-slim : (r : ℕ) (was : Bool) → r < 64 → IsSlim 0 (cond was (Free r ∷ []) [])
freed-slim r true low = free r low
freed-slim r false low = none

below-slim : (n : ℕ) (operations : List Op) → n ≤ 64 → IsSlim 0 (frees_below n operations)
unfolding frees_below
below-slim zero operations few = none
below-slim (suc r) operations few =
    joined 0 0 0 _ _ (omega arith) (below-slim r operations (omega arith)) (freed-slim r (is_held r operations) (omega arith))

larson-slim : (n : ℕ) → IsSlimDrawn n (larson n)
unfolding larson
larson-slim n g = joined n 0 n _ _ (omega arith) (larson_rounds-slim n g) (below-slim 64 (larson_rounds n g).0 (omega arith))

-- ---- each kind

pub lane-slim : (kind : Kind) (lane n : ℕ) → (kind ≡ kinds.Pipeline → ⊥) → (g : Lcg) → IsSlim n (lane_of kind lane n g).0
lane-slim kinds.Scalability lane n alone g = scalability-slim n g
lane-slim kinds.Threadtest lane n alone g = threadtest-slim n g
lane-slim kinds.Larson lane n alone g = larson-slim n g
lane-slim kinds.Pipeline lane n alone g = absurd (alone refl)
