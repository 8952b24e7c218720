-- How the superblocks of a class are told by the words.
use Rattle.std.specs.Prelude.{ℕ, Bool, true, false, ◌≡◌, ◌≤◌, ◌<◌, ◌+◌, ◌*◌, ◌==◌, ◌&&◌, if◌then◌else◌, Option, Some, None, List, length, slice_index_or, slice_set}
use Rattle.heap_geometry.specs.declared.limits.TheConstants.{CLASSES, MAX_COUNT}
use Rattle.packed_words.specs.declared.active.ActiveWord.{ActiveWord}
use Rattle.packed_words.specs.declared.active.ActiveWord.TheVariants.{Null, Held}
use Rattle.packed_words.specs.declared.anchor.AnchorState.{AnchorState as Phase}
use Rattle.packed_words.specs.declared.anchor.AnchorState.TheVariants.{Active, Full, Partial, Empty}
use Rattle.errand_steps.specs.Steps.{State}
use Rattle.sound_state.specs.Sums.{sum_below}
use Rattle.sound_state.specs.Superblocks.{anchor_for, info_for}
use Rattle.heap_census.specs.declared.tallies.SuperblockTally.{SuperblockTally}
use Rattle.heap_census.specs.Census.{active_in, offers}

-- whether an anchor alone says that there is a superblock
abbrev pub is_anchored : Phase → Bool
is_anchored Active = false
is_anchored Full = true
is_anchored Partial = true
is_anchored Empty = false

-- whether a descriptor's anchor alone says that it has a superblock, and that one is of the class
abbrev pub anchored_in : State → ℕ → ℕ → Bool
anchored_in s class d = is_anchored (anchor_for s d).state && ((info_for s d).class == class)

-- a tally in which nothing is counted yet
abbrev pub nothing_yet : SuperblockTally
nothing_yet = record { superblocks = 0; free = 0; reserved = 0 }

-- what the first descriptors' anchors say of a class
abbrev pub anchored_tally : State → ℕ → ℕ → SuperblockTally
anchored_tally s descs class = record {
  superblocks = sum_below descs (λ d. if anchored_in s class d then 1 else 0);
  free = sum_below descs (λ d. if anchored_in s class d then (anchor_for s d).count else 0);
  reserved = 0;
}

-- how many superblocks an active word names, and how many free blocks the anchors of these count
abbrev pub named_by : Option ActiveWord → ℕ
named_by None = 0
named_by (Some Null) = 0
named_by (Some (Held d credits)) = 1

abbrev pub counted_by : State → Option ActiveWord → ℕ
counted_by s None = 0
counted_by s (Some Null) = 0
counted_by s (Some (Held d credits)) = (anchor_for s d).count

-- a tally with what an active word says
abbrev pub with_active : State → SuperblockTally → Option ActiveWord → SuperblockTally
with_active s t word = record {
  superblocks = t.superblocks + named_by word;
  free = t.free + counted_by s word;
  reserved = t.reserved + offers word;
}

-- a tally with what the active words of the class in the first processor heaps say
abbrev pub with_actives : State → SuperblockTally → ℕ → ℕ → SuperblockTally
with_actives s t class heaps = record {
  superblocks = t.superblocks + sum_below heaps (λ heap. named_by (active_in s heap class));
  free = t.free + sum_below heaps (λ heap. counted_by s (active_in s heap class));
  reserved = t.reserved + sum_below heaps (λ heap. offers (active_in s heap class));
}

-- two tallies have the same numbers
pub record IsSameTally (t u : SuperblockTally) : Type 0 where
  pub superblocks : t.superblocks ≡ u.superblocks
  pub free : t.free ≡ u.free
  pub reserved : t.reserved ≡ u.reserved

-- these are the tallies of the classes
pub record AreTallies (tallies : List SuperblockTally) (of : ℕ → SuperblockTally) : Type 0 where
  pub classes : length tallies ≡ CLASSES
  pub each : (class : ℕ) → class < CLASSES → IsSameTally (slice_index_or tallies class nothing_yet) (of class)

-- at most so many superblocks are counted in each class
pub record AreWithin (tallies : List SuperblockTally) (most : ℕ) : Type 0 where
  pub classes : length tallies ≡ CLASSES
  pub superblocks : (class : ℕ) → class < CLASSES → (slice_index_or tallies class nothing_yet).superblocks ≤ most
  pub free : (class : ℕ) → class < CLASSES → (slice_index_or tallies class nothing_yet).free ≤ MAX_COUNT * most

-- the tallies with one superblock more of the class, of which so many blocks are free
abbrev pub with_superblock : List SuperblockTally → ℕ → ℕ → List SuperblockTally
with_superblock tallies class free =
    let t = slice_index_or tallies class nothing_yet in
    slice_set tallies class (record { superblocks = t.superblocks + 1; free = t.free + free; reserved = t.reserved })

-- the tallies with what a descriptor's anchor says
abbrev pub with_anchored : State → List SuperblockTally → ℕ → List SuperblockTally
with_anchored s tallies d =
    if is_anchored (anchor_for s d).state
    then with_superblock tallies (info_for s d).class (anchor_for s d).count
    else tallies
