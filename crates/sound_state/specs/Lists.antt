-- The stacks of a heap as lists.
use Rattle.std.specs.Prelude.{ℕ, ◌<◌, ◌≤◌, List, All}
use Rattle.heap_geometry.specs.declared.geometry.Geometry.{Geometry}
use Rattle.heap_geometry.specs.declared.limits.TheConstants.{CLASSES}
use Rattle.packed_words.specs.Head.{head_of}
use Rattle.word_table.specs.declared.name.WordName.{WordName}
use Rattle.word_table.specs.declared.name.WordName.TheVariants as name
use Rattle.word_table.specs.Counts.{descriptor_count}
use Rattle.step_parts.specs.declared.stack.point.Pile.TheVariants.{Frames, Partials}
use Rattle.step_parts.specs.stack.Stacks.{Stacked, next_in}

-- the free frames, the available descriptors, and the partial superblocks of each class, from the top on
pub record Lists : Type 0 where
  pub frames : List ℕ
  pub available : List ℕ
  pub partials : ℕ → List ℕ

-- the lists are those that the heads and the next words make; every next word is 0 or names an index that the heap has
pub record IsListed (g : Geometry) (words : WordName → ℕ) (l : Lists) : Type 0 where
  pub nexts : (d : ℕ) → d < descriptor_count g → words (name.Next d) ≤ descriptor_count g
  pub frame_nexts : (f : ℕ) → f < g.frames → words (name.FrameNext f) ≤ g.frames
  pub frames : Stacked (next_in words Frames) (head_of (words name.FrameHead)).top l.frames
  pub frames_exist : All (λ f. f < g.frames) l.frames
  pub available : Stacked (next_in words Partials) (words name.DescHead) l.available
  pub available_exist : All (λ d. d < descriptor_count g) l.available
  pub partials :
      (class : ℕ) → class < CLASSES
      → Stacked (next_in words Partials) (head_of (words (name.ListHead class))).top (l.partials class)
  pub partials_exist : (class : ℕ) → class < CLASSES → All (λ d. d < descriptor_count g) (l.partials class)
