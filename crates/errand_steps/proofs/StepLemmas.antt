-- What follows a step fits.
use Rattle.std.proofs.Common.{ℕ, ◌≡◌, ◌<◌, ◌^◌, arith, subst, sym}
use Rattle.std.specs.Prelude.{IsTrue}
use Rattle.heap_geometry.specs.declared.geometry.Geometry.{Geometry}
use Rattle.heap_geometry.specs.Geometry.{IsChecked}
use Rattle.word_table.specs.declared.action.Found.{Found}
use Rattle.word_table.specs.Onwards.{told_onward}
use Rattle.step_parts.specs.declared.superblock.point.BlockPoint.{BlockPoint}
use Rattle.step_parts.specs.superblock.Points.{settle_block_of}
use Rattle.step_parts.proofs.superblock_lemmas.PointLemmas as block
use Rattle.step_parts.specs.declared.stack.point.StackPoint.{StackPoint}
use Rattle.step_parts.specs.stack.Points.{settle_stack_of}
use Rattle.step_parts.proofs.stack_lemmas.PointLemmas as stack
use Rattle.step_parts.specs.declared.hazard.point.DescPoint.{DescPoint}
use Rattle.step_parts.specs.hazard.Points.{settle_desc_of}
use Rattle.step_parts.proofs.hazard_lemmas.PointLemmas as desc
use Rattle.step_parts.specs.declared.partial.point.PartialPoint.{PartialPoint}
use Rattle.step_parts.specs.partial.Points.{settle_partial_of}
use Rattle.step_parts.proofs.partial_lemmas.PointLemmas as partial
use Rattle.step_parts.specs.declared.large.point.LargePoint.{LargePoint}
use Rattle.step_parts.specs.large.Points.{settle_large_of}
use Rattle.step_parts.proofs.large_lemmas.PointLemmas as large
use Rattle.errand_steps.specs.declared.continuation.Continuation.{Continuation}
use Rattle.errand_steps.specs.declared.point.Point.{Point}
use Rattle.errand_steps.specs.declared.point.Point.TheVariants.{Idle, Block, Stack, Desc, Partial, Large}
use Rattle.errand_steps.specs.Fits.{FitsContinuation, FitsPoint, spare_of, pushed_by}
use Rattle.errand_steps.specs.tables.Descs.{spare_of_desc, pushed_by_desc, goes_desc}
use Rattle.errand_steps.specs.Nexts.{next_of, enter_desc}
use Rattle.errand_steps.specs.tables.Blocks.{goes_block}
use Rattle.errand_steps.specs.tables.Stacks.{goes_stack}
use Rattle.errand_steps.specs.tables.Partials.{goes_partial}
use Rattle.errand_steps.specs.tables.LargeBlocks.{GoesLarge}
use Rattle.errand_steps.proofs.EnterLemmas.{GoesOnBlock, GoesOnStack, GoesOnDesc, GoesOnPartial, GoesOnLarge, spare_of_desc_exit, pushed_by_desc_exit, enters-block, enters-stack, enters-desc, enters-partial, enters-large}
use Rattle.errand_steps.proofs.NextLemmas.{Follows}

goes-block : (p : BlockPoint) (o : Continuation) (x : Found) → IsTrue (goes_block p o) → GoesOnBlock o (settle_block_of p x)
goes-block p o x goes = grind (arith)

goes-stack : (p : StackPoint) (o : Continuation) (x : Found) → IsTrue (goes_stack p o) → GoesOnStack o (settle_stack_of p x)
goes-stack p o x goes = grind (arith)

goes-desc : (p : DescPoint) (o : Continuation) (x : Found) → IsTrue (goes_desc p o) → GoesOnDesc o (settle_desc_of p x)
goes-desc p o x goes = grind (arith)

goes-partial : (p : PartialPoint) (o : Continuation) (x : Found) → IsTrue (goes_partial p o) → GoesOnPartial o (settle_partial_of p x)
goes-partial p o x goes = grind (arith)

goes-large : (p : LargePoint) (o : Continuation) (x : Found) → GoesLarge p o → GoesOnLarge o (settle_large_of p x)
goes-large p o x goes = grind (arith)

-- a step leaves how many spare entries the list may have, and which one is pushed
spare-settle : (p : DescPoint) (x : Found) → told_onward spare_of_desc spare_of_desc_exit (settle_desc_of p x) ≡ spare_of_desc p
spare-settle p x = grind (arith)

pushed-settle : (p : DescPoint) (x : Found) → told_onward pushed_by_desc pushed_by_desc_exit (settle_desc_of p x) ≡ pushed_by_desc p
pushed-settle p x = grind (arith)

-- what follows a step of a caller fits
pub follows-next :
    (g : Geometry) (caller : ℕ) (p : Point) (x : Found) → IsChecked g → x.value < 2 ^ 64 → FitsPoint g caller p
    → Follows g caller (spare_of p) (pushed_by p) (next_of p x)
unfolding next_of
follows-next g caller Idle x checked word h = grind (arith)
follows-next g caller (Block p o) x checked word h =
    enters-block g caller (settle_block_of p x) o checked (block.settle-fits g caller p x checked word h.point)
    (subst (λ s. FitsContinuation g caller s o) (sym (block.settle-seat p x)) h.continuation) (goes-block p o x h.goes)
follows-next g caller (Stack p o) x checked word h =
    enters-stack g caller (settle_stack_of p x) o (stack.settle-fits g caller p x checked word h.point)
    (subst (λ s. FitsContinuation g caller s o) (sym (stack.settle-seat p x)) h.continuation) (goes-stack p o x h.goes)
follows-next g caller (Desc p o) x checked word h =
    let follows = enters-desc g caller (settle_desc_of p x) o (desc.settle-fits g caller p x checked word h.point)
    (subst (λ s. FitsContinuation g caller s o) (sym (desc.settle-seat p x)) h.continuation) (goes-desc p o x h.goes) in
    subst (λ n. Follows g caller n (pushed_by_desc p) (enter_desc (settle_desc_of p x) o)) (spare-settle p x)
    (subst
    (λ d. Follows g caller (told_onward spare_of_desc spare_of_desc_exit (settle_desc_of p x)) d (enter_desc (settle_desc_of p x) o)) (pushed-settle p x) follows)
follows-next g caller (Partial p o) x checked word h =
    enters-partial g caller (settle_partial_of p x) o (partial.settle-fits g caller p x checked word h.point)
    (subst (λ s. FitsContinuation g caller s o) (sym (partial.settle-seat p x)) h.continuation) (goes-partial p o x h.goes)
follows-next g caller (Large p o) x checked word h =
    enters-large g caller (settle_large_of p x) o (large.settle-fits g p x checked word h.point) (goes-large p o x h.goes)
