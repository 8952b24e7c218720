-- The word that a caller's action is on exists in its heap.
use Rattle.std.proofs.Common.{ℕ, ◌<◌}
use Rattle.heap_geometry.specs.declared.geometry.Geometry.{Geometry}
use Rattle.heap_geometry.specs.Geometry.{IsChecked}
use Rattle.word_table.specs.Actions.{name_of}
use Rattle.word_table.specs.Table.{Exists}
use Rattle.step_parts.proofs.superblock_lemmas.PointLemmas as block
use Rattle.step_parts.proofs.stack_lemmas.PointLemmas as stack
use Rattle.step_parts.proofs.hazard_lemmas.PointLemmas as desc
use Rattle.step_parts.proofs.partial_lemmas.PointLemmas as partial
use Rattle.step_parts.proofs.large_lemmas.PointLemmas as large
use Rattle.errand_steps.specs.declared.point.Point.{Point}
use Rattle.errand_steps.specs.declared.point.Point.TheVariants.{Idle, Block, Stack, Desc, Partial, Large}
use Rattle.errand_steps.specs.Fits.{FitsPoint}
use Rattle.errand_steps.specs.Points.{plan_point_of}

pub plan-exists :
    (g : Geometry) (caller : ℕ) (p : Point) → IsChecked g → caller < g.callers → FitsPoint g caller p
    → Exists g (name_of (plan_point_of p))
unfolding plan_point_of
plan-exists g caller Idle checked has h = tt
plan-exists g caller (Block p o) checked has h = block.plan-exists g caller p checked has h.point
plan-exists g caller (Stack p o) checked has h = stack.plan-exists g caller p checked has h.point
plan-exists g caller (Desc p o) checked has h = desc.plan-exists g caller p checked has h.point
plan-exists g caller (Partial p o) checked has h = partial.plan-exists g caller p checked has h.point
plan-exists g caller (Large p o) checked has h = large.plan-exists g p checked h.point
