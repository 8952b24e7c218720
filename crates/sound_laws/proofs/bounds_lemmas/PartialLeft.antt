-- At a partial superblock each step is lost, clears or leaves fewer steps to do.
use Rattle.std.proofs.Common.{ℕ, false, ◌≡◌, ◌<◌, ◌≤◌, [], refl, arith, sym, subst, IsTrue}
use Rattle.std.proofs.lemmas.Bool.{eq-eqb}
use Rattle.std.proofs.lemmas.Bool.Decides.{nat_tests}
use Rattle.std.proofs.lemmas.List.Elements.{All-head}
use Rattle.sound_state.proofs.Common.{Geometry, block_count_of, anchor_of, Site, PartialPoint, is_empty, Continuation, Point, Partial, next_of, plan_point_of, State}
use Rattle.sound_state.proofs.Common.{partly_used, holds_of, Lists, IsLocated, IsSo, located, recalls_of, IsSoundWithoutCounts, IsSoundWith, IsChained, superblock_of}
use Rattle.sound_state.proofs.Common.{anchor_for, is_bound, away_of, errand_keeps, kept_among}
use Rattle.word_table.specs.declared.name.WordName.TheVariants as name
use Rattle.step_parts.specs.declared.partial.point.PartialPoint.TheVariants as partial
use Rattle.sound_laws.specs.bounds.StepsLeft.{steps_left}
use Rattle.sound_laws.proofs.bounds_lemmas.LeftDefs.{LessAt, LeavesLess}
use Rattle.sound_state.proofs.shared.HasLemmas.{keeps-near, kept-itself}
use Rattle.sound_state.proofs.shared.PointLemmas.{fits-at, fits-now, so-at}
use Rattle.sound_laws.proofs.bounds_lemmas.WordFinds.{says-at}

-- the anchor of a taken superblock is EMPTY, or within the class
anchor-less :
    (g : Geometry) (at : Site) (o : Continuation) (v : ℕ) → (is_empty (anchor_of v).state ≡ false → (anchor_of v).avail < block_count_of at.seat.class)
    → LessAt g (Partial (partial.LoadGrantAnchor at) o) v
unfolding plan_point_of next_of steps_left
anchor-less g at o v within = grind (arith, nat_tests, within)

-- the anchor of a taken superblock is within its class, where it isn't EMPTY
taken-within :
    (g : Geometry) (s : State) (l : Lists) (caller : ℕ) (site : Site) (o : Continuation) → IsSoundWith g s l → caller < g.callers
    → (s.errand caller).point ≡ Partial (partial.LoadGrantAnchor site) o → is_empty (anchor_for s site.desc).state ≡ false
    → (anchor_for s site.desc).avail < block_count_of site.seat.class
unfolding holds_of recalls_of
taken-within g s l caller site o old has stands used =
    let p : Point = Partial (partial.LoadGrantAnchor site) o in
    let d : ℕ = site.desc in
    let fit = fits-at g s l caller p old has stands in
    let lies : IsLocated s d site.frame site.seat.class =
    All-head (IsSo g s l caller) (located d site.frame site.seat.class) [] (so-at g s l caller p old has stands) in
    let keeps : 1 ≤ errand_keeps partly_used d (s.errand caller) =
    subst (λ q. 1 ≤ kept_among partly_used d (holds_of q).kept) (sym stands) (kept-itself partly_used d site.seat.class) in
    let away : away_of g s l d ≡ 0 = keeps-near g s l caller d old has fit.point.desc keeps in
    let bound : IsTrue (is_bound g s l d) = rw (eq-eqb (away_of g s l d) 0 away, used) refl in
    let chained : IsChained (superblock_of g s d) = old.chained.chained d fit.point.desc bound in
    subst (λ c. (anchor_for s d).avail < block_count_of c) lies.class chained.avail

-- in a sound state each step at a partial superblock is lost, clears or leaves less to do
pub partial-leaves :
    (g : Geometry) (s : State) (caller : ℕ) (p : PartialPoint) (o : Continuation) → IsSoundWithoutCounts g s → caller < g.callers
    → (s.errand caller).point ≡ Partial p o → LeavesLess g s (Partial p o)
unfolding plan_point_of next_of steps_left
partial-leaves g s caller (partial.LoadGrantAnchor site) o sound has stands =
    anchor-less g site o (s.word (name.Anchor site.desc))
    (taken-within g s sound.parts.0 caller site o sound.parts.1 has stands)
partial-leaves g s caller p o sound has stands =
    grind (arith, nat_tests, fits-now g s caller (Partial p o) sound has stands, says-at g s caller (Partial p o) sound has stands)
