use Rattle.std.proofs.Common.{ℕ, ◌≡◌, ◌<◌, length}
use Rattle.std.specs.Prelude.{slice_index_or}
use Rattle.heap_geometry.specs.declared.limits.TheConstants.{CLASSES}
use Rattle.sound_state.specs.Lists.{Lists, IsListed}
use Rattle.heap_census.specs.Census.{IsClassCount, closed_state, no_blocks}
use Rattle.heap_census.proofs.counting.count_classes.Given as goal

-- the classes before the next one are counted
abbrev pub invariant-loop-class : goal.invariant-loop-class
invariant-loop-class l = record {
  classes : length l.counts ≡ CLASSES;
  each : (lists : Lists) → IsListed l.closed.geometry (closed_state l.closed).word lists → (class : ℕ) → class < l.class
      → IsClassCount l.closed lists class (slice_index_or l.counts class no_blocks);
}
