-- The tallies of the classes, descriptor by descriptor and word by word.
use Rattle.std.proofs.Common.{ℕ, Bool, true, false, Option, Some, None, ◌≤◌, ◌+◌, ◌*◌, List, arith}
use Rattle.std.specs.Prelude.{if◌then◌else◌}
use Rattle.heap_geometry.specs.declared.limits.TheConstants.{MAX_COUNT}
use Rattle.packed_words.specs.declared.active.ActiveWord.{ActiveWord}
use Rattle.packed_words.specs.declared.active.ActiveWord.TheVariants.{Null, Held}
use Rattle.word_table.specs.declared.limits.TheConstants.{MOST_CREDITS}
use Rattle.errand_steps.specs.Steps.{State}
use Rattle.sound_state.specs.Superblocks.{anchor_for}
use Rattle.sound_state.proofs.shared.SumLemmas.{sum-most}
use Rattle.heap_census.specs.declared.tallies.SuperblockTally.{SuperblockTally}
use Rattle.heap_census.specs.Census.{active_in, offers}
use Rattle.heap_census.specs.Tallies.{AreTallies, AreWithin, IsSameTally, counted_by, named_by, anchored_in, anchored_tally, with_actives}

-- what counts only where a test says so is no more than what counts
either-most : (b : Bool) (w k : ℕ) → w ≤ k → (if b then w else 0) ≤ k
either-most true w k most = most
either-most false w k most = omega arith

pub anchored-most :
    (s : State) (n class : ℕ) → ((d : ℕ) → (anchor_for s d).count ≤ MAX_COUNT)
    → ((anchored_tally s n class).superblocks ≤ n) × ((anchored_tally s n class).free ≤ MAX_COUNT * n)
anchored-most s n class most = (
  omega (arith, sum-most n (λ d. if anchored_in s class d then 1 else 0) 1 (λ d lt. either-most (anchored_in s class d) 1 1 (omega arith))),
  omega (
    arith,
    sum-most n (λ d. if anchored_in s class d then (anchor_for s d).count else 0) MAX_COUNT
        (λ d lt. either-most (anchored_in s class d) (anchor_for s d).count MAX_COUNT (most d)),
  ),
)

-- the tallies by the first descriptors' anchors are within the number of these
pub tallies-within :
    (s : State) (tallies : List SuperblockTally) (d : ℕ) → ((k : ℕ) → (anchor_for s k).count ≤ MAX_COUNT) → AreTallies tallies (anchored_tally s d)
    → AreWithin tallies d
tallies-within s tallies d most are = record {
  classes = are.classes;
  superblocks = λ class lt. omega (arith, (are.each class lt).superblocks, (anchored-most s d class most).0);
  free = λ class lt. omega (arith, (are.each class lt).free, (anchored-most s d class most).1);
}

-- a tally with what the active words of the first processor heaps say is no more than their number and that of the descriptors allow
named-most : (o : Option ActiveWord) → named_by o ≤ 1
named-most None = omega arith
named-most (Some Null) = omega arith
named-most (Some (Held d credits)) = omega arith

counted-most : (s : State) (o : Option ActiveWord) → ((d : ℕ) → (anchor_for s d).count ≤ MAX_COUNT) → counted_by s o ≤ MAX_COUNT
counted-most s None most = omega arith
counted-most s (Some Null) most = omega arith
counted-most s (Some (Held d credits)) most = most d

pub actives-room :
    (s : State) (t u : SuperblockTally) (class descs heap : ℕ) → ((d : ℕ) → (anchor_for s d).count ≤ MAX_COUNT)
    → ((k : ℕ) → offers (active_in s k class) ≤ MOST_CREDITS) → IsSameTally t (anchored_tally s descs class) → IsSameTally u (with_actives s t class heap)
    → (u.superblocks ≤ descs + heap) × (u.free ≤ MAX_COUNT * (descs + heap)) × (u.reserved ≤ MOST_CREDITS * heap)
actives-room s t u class descs heap count offer anchored all =
    let most = anchored-most s descs class count in
    let named = sum-most heap (λ k. named_by (active_in s k class)) 1 (λ k lt. named-most (active_in s k class)) in
    let counted = sum-most heap (λ k. counted_by s (active_in s k class)) MAX_COUNT (λ k lt. counted-most s (active_in s k class) count) in
    let offered = sum-most heap (λ k. offers (active_in s k class)) MOST_CREDITS (λ k lt. offer k) in (
      omega (arith, most.0, named, anchored.superblocks, all.superblocks),
      omega (arith, most.1, counted, anchored.free, all.free),
      omega (arith, offered, anchored.reserved, all.reserved),
    )
