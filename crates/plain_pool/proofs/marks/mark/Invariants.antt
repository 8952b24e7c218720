use Rattle.std.proofs.Common.{ℕ, ◌≡◌, ◌<◌, ◌≤◌, false}
use Rattle.std.specs.Prelude.{slice_index_or}
use Rattle.plain_pool.specs.Search.{IsMarked}
use Rattle.plain_pool.proofs.marks.mark.Given as goal

-- the numbers so far are marked, and the others are as they were
abbrev pub invariant-loop-k : goal.invariant-loop-k
invariant-loop-k l =
    record {
      inside : (j : ℕ) → l.first ≤ j → j < l.k → IsMarked l.marks j;
      below : (j : ℕ) → j < l.first → slice_index_or l.marks j false ≡ slice_index_or l.initial.marks j false;
      above : (j : ℕ) → l.k ≤ j → slice_index_or l.marks j false ≡ slice_index_or l.initial.marks j false;
    }
