-- Which pieces of the arena a step is the first to use. A piece is a frame, or, behind the frames, a unit.
use Rattle.std.specs.Prelude.{ℕ, ◌≡◌, ◌<◌, ◌≤◌, ◌+◌, Option, Some, None}
use Rattle.heap_geometry.specs.declared.geometry.Geometry.{Geometry}
use Rattle.step_parts.specs.declared.superblock.point.BlockPoint.{BlockPoint}
use Rattle.step_parts.specs.declared.superblock.point.BlockPoint.TheVariants as block
use Rattle.step_parts.specs.declared.large.point.LargePoint.{LargePoint}
use Rattle.step_parts.specs.declared.large.point.LargePoint.TheVariants as large
use Rattle.errand_steps.specs.declared.point.Pieces.{Pieces}
use Rattle.errand_steps.specs.declared.point.Point.{Point}
use Rattle.errand_steps.specs.declared.point.Point.TheVariants as point

-- who is at this point is about to use the piece first: it links the blocks of a frame that it popped, or marks a run that it took
abbrev pub OpensBlock : BlockPoint → ℕ → Type 0
OpensBlock (block.LinkBlock at i) k = (i ≡ 0) × (k ≡ at.frame)
OpensBlock p k = ⊥

abbrev pub OpensLarge : Geometry → LargePoint → ℕ → Type 0
OpensLarge g (large.StoreRunPrefix place run) k = (g.frames + run.first ≤ k) × (k < g.frames + run.first + run.units)
OpensLarge g p k = ⊥

abbrev pub Opens : Geometry → Point → ℕ → Type 0
Opens g (point.Block p o) k = OpensBlock p k
Opens g (point.Large p o) k = OpensLarge g p k
Opens g p k = ⊥

-- the pieces are just those that a step at this point is the first to use, and the heap has them
abbrev pub AreOpened : Geometry → Point → Option Pieces → Type 0
AreOpened g p None = (k : ℕ) → Opens g p k → ⊥
AreOpened g p (Some x) =
    (x.first + x.count ≤ g.frames + g.units)
    × ((k : ℕ) → (Opens g p k → (x.first ≤ k) × (k < x.first + x.count)) × (x.first ≤ k → k < x.first + x.count → Opens g p k))
