-- At a large block, a usable word or a shelf each step is lost or leaves fewer steps to do.
use Rattle.std.proofs.Common.{ℕ, false, Some, ◌≡◌, ◌<◌, ◌+◌, ◌*◌, [], arith, subst, inl, inr, IsTrue}
use Rattle.std.proofs.lemmas.List.Elements.{All-head}
use Rattle.sound_state.proofs.Common.{Geometry, LargePoint, Continuation, Point, Large, next_of, plan_point_of, State, holds_of, Lists, IsOwned, IsSoundWithoutCounts}
use Rattle.sound_state.proofs.Common.{IsSoundWith}
use Rattle.heap_geometry.specs.declared.limits.TheConstants.{MAX_UNITS}
use Rattle.heap_geometry.specs.declared.need.Need.TheVariants as need
use Rattle.heap_geometry.specs.Geometry.{IsWithin}
use Rattle.packed_words.specs.declared.prefix.Prefix.TheVariants as prefix
use Rattle.packed_words.specs.Prefix.{prefix_word, prefix_of}
use Rattle.packed_words.proofs.ExactLemmas.{back}
use Rattle.packed_words.proofs.PrefixLemmas.{prefix-exact}
use Rattle.word_table.specs.declared.name.WordName.TheVariants as name
use Rattle.step_parts.specs.declared.large.point.LargePoint.TheVariants as large
use Rattle.step_parts.specs.large.Runs.{RunFields}
use Rattle.errand_steps.specs.tables.Holding.{Handed, Freed}
use Rattle.sound_laws.specs.bounds.StepsLeft.{steps_left}
use Rattle.sound_laws.proofs.bounds_lemmas.LeftDefs.{LessAt, LeavesLess}
use Rattle.sound_state.proofs.shared.ListFacts.{any-none, any-one}
use Rattle.sound_state.proofs.shared.OwnerLemmas.{only-owner}
use Rattle.sound_state.proofs.shared.PointLemmas.{fits-at, frees-at}
use Rattle.sound_state.proofs.shared.StepLemmas.{HoldsException}
use Rattle.sound_laws.proofs.bounds_lemmas.WordFinds.{says-at}

-- the load of a freed run's prefix word leaves fewer steps to do, where the word says that it is a run's
prefix-less :
    (g : Geometry) (place : ℕ) (run : RunFields) (o : Continuation) (v units : ℕ) → prefix_of v ≡ Some (prefix.Large units)
    → LessAt g (Large (large.LoadRunPrefix place run) o) v
unfolding plan_point_of next_of steps_left
prefix-less g place run o v units is = grind (arith, is)

-- a caller that begins to free a run excepts no block
run-excepts : (place : ℕ) (run : RunFields) (o : Continuation) (p : ℕ) → HoldsException (holds_of (Large (large.LoadRunPrefix place run) o)) p → ⊥
unfolding holds_of
run-excepts place run o p (inl a) = any-none (λ (b : Handed). b.place ≡ p) a
run-excepts place run o p (inr a) =
    let end : (place ≡ p) × IsTrue false =
    any-one (λ (b : Freed). (b.place ≡ p) × IsTrue b.overwritten)
    (record { place = place; need = need.Large run.units; overwritten = false }) a in
    let bad : IsTrue false = end.1 in absurd (cc)

-- a large prefix word says how many units the run has
run-word : (word units : ℕ) → IsWithin 1 MAX_UNITS units → word ≡ 2 * units + 1 → prefix_of word ≡ Some (prefix.Large units)
unfolding prefix_word
run-word word units fit is = back prefix-exact word (prefix.Large units) fit (omega (arith, is))

-- the prefix word of a run that is freed says that it is one
run-said :
    (g : Geometry) (s : State) (l : Lists) (caller place : ℕ) (run : RunFields) (o : Continuation) → IsSoundWith g s l → caller < g.callers
    → (s.errand caller).point ≡ Large (large.LoadRunPrefix place run) o → prefix_of (s.word (name.Arena place)) ≡ Some (prefix.Large run.units)
unfolding holds_of
run-said g s l caller place run o old has stands =
    let p : Point = Large (large.LoadRunPrefix place run) o in
    let fit = fits-at g s l caller p old has stands in
    let within : IsWithin 1 MAX_UNITS run.units = (fit.point.run.some, omega (arith, fit.point.run.within)) in
    let owned : IsOwned s caller place (need.Large run.units) =
    All-head (λ x. IsOwned s caller x.place x.need) (record { place = place; need = need.Large run.units; overwritten = false }) []
    (frees-at g s l caller p old has stands) in
    elim (old.tied.large place run.units owned.block.0 owned.block.1 owned.block.3) [
      | inl x ↦
          absurd
          (run-excepts place run o place
          (subst (λ q. HoldsException (holds_of q) place) stands (only-owner g s l caller place (need.Large run.units) old owned x)))
      | inr is ↦ run-word (s.word (name.Arena place)) run.units within is
    ]

-- in a sound state each step at a large block, a usable word or a shelf is lost or leaves less to do
pub large-leaves :
    (g : Geometry) (s : State) (caller : ℕ) (p : LargePoint) (o : Continuation) → IsSoundWithoutCounts g s → caller < g.callers
    → (s.errand caller).point ≡ Large p o → LeavesLess g s (Large p o)
unfolding plan_point_of next_of steps_left
large-leaves g s caller (large.LoadRunPrefix place run) o sound has stands =
    prefix-less g place run o (s.word (name.Arena place)) run.units (run-said g s sound.parts.0 caller place run o sound.parts.1 has stands)
large-leaves g s caller p o sound has stands = grind (arith, says-at g s caller (Large p o) sound has stands)
