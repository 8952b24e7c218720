-- The words in memory while a heap is opened.
use Rattle.std.specs.Prelude.{ℕ, ◌≡◌, ◌<◌, List}
use Rattle.errand_steps.specs.Openings.{opening}
use Rattle.heap_geometry.specs.declared.geometry.Geometry.{Geometry}
use Rattle.live_heap.specs.placement.Writes.{word_at}
use Rattle.word_table.specs.Table.{Exists}
use Rattle.word_table.specs.declared.name.WordName.{WordName}
use Rattle.word_table.specs.declared.name.WordName.TheVariants.{Next, FrameNext}

-- a word that is no link of the two stacks
abbrev pub IsNoLink : WordName → Type 0
IsNoLink name = ((desc : ℕ) → ¬ (name ≡ Next desc)) × ((frame : ℕ) → ¬ (name ≡ FrameNext frame))

-- the links of so many descriptors and frames are as at opening, and what is no link is 0
pub record AreLinked (g : Geometry) (placed : List ℕ) (descs frames : ℕ) : Type 0 where
  pub nexts : (desc : ℕ) → desc < descs → Exists g (Next desc) → word_at g placed (Next desc) ≡ opening g (Next desc)
  pub frame_nexts : (frame : ℕ) → frame < frames → Exists g (FrameNext frame) → word_at g placed (FrameNext frame) ≡ opening g (FrameNext frame)
  pub others : (name : WordName) → Exists g name → IsNoLink name → word_at g placed name ≡ 0
