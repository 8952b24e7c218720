-- What a caller remembers of an available descriptor, or of one that isn't available, it remembers of one that it guards or keeps.
use Rattle.std.proofs.Common.{ℕ, Some, ◌≡◌, ◌<◌, ◌≤◌, ◌+◌, List, ◌∷◌, refl, arith, ◌⊎◌, Contains, ne_eqb}
use Rattle.std.specs.List.{AllByRecursion}
use Rattle.sound_state.proofs.Common.{Geometry, descriptor_count, occurs, BlockPoint, Point, FitsPoint, pushed_by, State, Holding, holds_of, errand_has, Lists}
use Rattle.sound_state.proofs.Common.{recalls_of, block_holds, IsSoundWith, sum_below, callers_sum, guarded, block_recalls}
use Rattle.sound_state.proofs.Common.{Part, availables, part_of}
use Rattle.sound_state.proofs.shared.BackedRecalls.{AllRead, for-each}
use Rattle.sound_state.proofs.shared.HasLemmas.{kept-itself}
use Rattle.sound_state.proofs.shared.ListFacts.{contains-occurs}
use Rattle.sound_state.proofs.shared.PointLemmas.{fits-at, kept_places}
use Rattle.sound_state.proofs.shared.SumLemmas.{sum-plus, sum-least, term-sum}
use Rattle.sound_state.proofs.shared.RecallFrame.{Reads}
use Rattle.sound_state.proofs.shared.ShownLemmas.{IsListedPart}

-- a holding guards the descriptor, or keeps it
abbrev pub Has : Holding → ℕ → Type 0
Has h d = (h.hazard ≡ guarded d) ⊎ (1 ≤ kept_places d h.kept)

-- a descriptor whose part is read is
abbrev pub IsHeld : Holding → Part → Type 0
IsHeld h (availables d) = Has h d
IsHeld h p = Unit {0}

-- what is remembered at a point is of held descriptors
held-block : (p : BlockPoint) → AllByRecursion (Reads (IsHeld (block_holds p))) (block_recalls p)
held-block p = grind (arith, kept-itself)

held-at : (g : Geometry) (caller : ℕ) (p : Point) → FitsPoint g caller p → AllByRecursion (Reads (IsHeld (holds_of p))) (recalls_of p)
unfolding holds_of recalls_of
held-at g caller p fits = grind (arith, fits, held-block)

-- a caller has retired a descriptor of a sound state
module _
    (g : Geometry) (s : State) (l : Lists) (caller i d : ℕ) (old : IsSoundWith g s l) (has : caller < g.callers) (has_i : i < g.callers)
    (exists : d < descriptor_count g) (listed : Contains (s.errand caller).retired d) where
  -- nobody keeps a descriptor that is retired
  retired-unkept : 1 ≤ kept_places d (holds_of (s.errand i).point).kept → ⊥
  unfolding callers_sum
  retired-unkept keeps =
      let lists = λ (j : ℕ). occurs d (s.errand j).retired in
      let keeps_it = λ (j : ℕ). kept_places d (holds_of (s.errand j).point).kept in
      let both : sum_below g.callers (λ j. lists j + keeps_it j) ≡ sum_below g.callers lists + sum_below g.callers keeps_it =
      sum-plus g.callers lists keeps_it in
      let least : sum_below g.callers (λ j. lists j + keeps_it j) ≤ sum_below g.callers (λ j. errand_has d (s.errand j)) =
      sum-least g.callers (λ j. lists j + keeps_it j) (λ j. errand_has d (s.errand j)) (λ j lt. omega arith) in
      let once = old.kept.once d exists in
      let mine : lists caller ≤ sum_below g.callers lists = term-sum g.callers lists caller has in
      let its : keeps_it i ≤ sum_below g.callers keeps_it = term-sum g.callers keeps_it i has_i in
      omega (arith, once, both, least, mine, its, keeps, contains-occurs (s.errand caller).retired d listed)

  -- when it pushes it, nobody remembers it
  pushed-forgotten : pushed_by (s.errand caller).point ≡ Some d → Has (holds_of (s.errand i).point) d → ⊥
  pushed-forgotten pushes h1 = grind (arith, pushes, h1, retired-unkept)

  -- what others remember stays so when it is put in front of the available ones
  available-pushed :
      pushed_by (s.errand caller).point ≡ Some d → (k : ℕ) → Has (holds_of (s.errand i).point) k → occurs k (d ∷ l.available) ≤ occurs k l.available
  available-pushed pushes k keeps = grind (arith, pushes, keeps, pushed-forgotten, ne_eqb)

  one-pushed : pushed_by (s.errand caller).point ≡ Some d → (p : Part) → IsHeld (holds_of (s.errand i).point) p → IsListedPart l (d ∷ l.available) p
  one-pushed pushes p h = grind (arith, pushes, h, available-pushed)

pub recalls-pushed :
    (g : Geometry) (s : State) (l : Lists) (caller d : ℕ) → IsSoundWith g s l → caller < g.callers → d < descriptor_count g
    → Contains (s.errand caller).retired d → pushed_by (s.errand caller).point ≡ Some d → (i : ℕ) → i < g.callers
    → AllRead (IsListedPart l (d ∷ l.available)) (s.errand i).point
recalls-pushed g s l caller d old has exists listed pushes i has_i =
    for-each (Reads (IsHeld (holds_of (s.errand i).point))) (Reads (IsListedPart l (d ∷ l.available)))
    (λ r. one-pushed g s l caller i d old has has_i exists listed pushes (part_of r))
    (recalls_of (s.errand i).point) (held-at g i (s.errand i).point (fits-at g s l i (s.errand i).point old has_i refl))

-- the rest has no descriptor that the list doesn't have
one-popped : (l : Lists) (d : ℕ) (ys : List ℕ) → l.available ≡ d ∷ ys → (p : Part) → IsListedPart l ys p
one-popped l d ys is p = grind (arith, is)

pub recalls-popped :
    (l : Lists) (d : ℕ) (ys : List ℕ) → l.available ≡ d ∷ ys → (p : Point) → AllRead (IsListedPart l ys) p
recalls-popped l d ys is p = λ k r lt. one-popped l d ys is _
