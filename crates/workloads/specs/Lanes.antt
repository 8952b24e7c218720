-- What a lane of each kind of workload does in its rounds.
use Rattle.std.specs.Prelude.{ℕ, zero, suc, ◌+◌, ◌*◌, ◌/◌, ◌%◌, Bool, ◌==◌, if◌then◌else◌, List, [], ◌∷◌, ◌++◌}
use Rattle.trace_text.specs.declared.trace.Op.{Op}
use Rattle.trace_text.specs.declared.trace.Op.TheVariants.{Alloc, Free, Check, Put, Take}
use Rattle.workloads.specs.Draws.{Draws, just, ◌>>=◌, draw}
use Rattle.workloads.specs.Held.{is_held, frees_below}

-- ---- one word at a time

-- a round: a word is allocated and freed
unfoldable pub scalability_round : Draws (List Op)
scalability_round = do
  v ← draw
  just (Alloc 0 1 v ∷ Free 0 ∷ [])

-- the rounds, one behind the other
unfoldable pub scalability : ℕ → Draws (List Op)
scalability zero = just []
scalability (suc n) = do
  before ← scalability n
  ops ← scalability_round
  just (before ++ ops)

-- ---- batches

-- the allocations of a batch, each into the next register
unfoldable pub batch_allocs : ℕ → Draws (List Op)
batch_allocs zero = just []
batch_allocs (suc r) = do
  before ← batch_allocs r
  v ← draw
  just (before ++ Alloc r 7 v ∷ [])

-- the blocks of a batch are checked and freed, each in turn
unfoldable pub batch_frees : ℕ → List Op
batch_frees zero = []
batch_frees (suc r) = batch_frees r ++ Check r ∷ Free r ∷ []

-- a batch of so many rounds
unfoldable pub batch : ℕ → Draws (List Op)
batch rounds = do
  allocs ← batch_allocs rounds
  just (allocs ++ batch_frees rounds)

-- full batches, one behind the other
unfoldable pub full_batches : ℕ → Draws (List Op)
full_batches zero = just []
full_batches (suc n) = do
  before ← full_batches n
  ops ← batch 64
  just (before ++ ops)

-- full batches, and one of the rounds that are left
unfoldable pub threadtest : ℕ → Draws (List Op)
threadtest rounds = do
  before ← full_batches (rounds / 64)
  ops ← batch (rounds % 64)
  just (before ++ ops)

-- ---- registers as they are drawn

-- the block of a register is checked and freed, where it holds one
abbrev pub given_back : ℕ → Bool → List Op
given_back r is_held = if is_held then Check r ∷ Free r ∷ [] else []

-- a round behind others: a register, a need and a value are drawn
unfoldable pub larson_round : List Op → Draws (List Op)
larson_round before = do
  number ← draw
  need ← draw
  v ← draw
  just (given_back (number % 64) (is_held (number % 64) before) ++ Alloc (number % 64) (need % 63 + 1) v ∷ [])

-- the rounds, one behind the other
unfoldable pub larson_rounds : ℕ → Draws (List Op)
larson_rounds zero = just []
larson_rounds (suc n) = do
  before ← larson_rounds n
  ops ← larson_round before
  just (before ++ ops)

-- the rounds, and then what is held is freed
unfoldable pub larson : ℕ → Draws (List Op)
larson rounds = do
  ops ← larson_rounds rounds
  just (ops ++ frees_below 64 ops)

-- ---- pairs of lanes

-- the shelf of a round of a pair: each pair has sixteen, which come round
abbrev pub shelf_of : ℕ → ℕ → ℕ
shelf_of pair round = 16 * pair + round % 16

-- the lane that puts
unfoldable pub produced : ℕ → ℕ → Draws (List Op)
produced pair zero = just []
produced pair (suc round) = do
  before ← produced pair round
  v ← draw
  just (before ++ Alloc 0 3 v ∷ Put 0 (shelf_of pair round) ∷ [])

-- the lane that takes
unfoldable pub consumed : ℕ → ℕ → List Op
consumed pair zero = []
consumed pair (suc round) = consumed pair round ++ Take 0 (shelf_of pair round) ∷ Check 0 ∷ Free 0 ∷ []

-- of two lanes the even one puts, and the other takes
unfoldable pub pipeline : ℕ → ℕ → Draws (List Op)
pipeline lane rounds =
    if lane % 2 == 0 then produced (lane / 2) rounds else just (consumed (lane / 2) rounds)
