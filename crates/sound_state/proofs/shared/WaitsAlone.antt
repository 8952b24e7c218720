-- A superblock that waits to be installed has all its blocks reserved or held back.
use Rattle.std.proofs.Common.{ℕ, ◌≡◌, ◌<◌, ◌+◌, ◌-◌, arith, ap, ◌∙◌}
use Rattle.std.proofs.lemmas.List.Elements.{recursion_from_All}
use Rattle.sound_state.proofs.Common.{block_count_of, Geometry, anchor_of, Site, new_credits, ErrandFields, State, Continuation, Point, waiting, holds_of, Lists, IsSo}
use Rattle.sound_state.proofs.Common.{recalls_of, IsSoundWith, sum_below, callers_sum, anchor_for, info_for, superblock_of, reserved_of, reserved_among, errand_reserves}
use Rattle.sound_state.proofs.Common.{errand_keeps, anchor_of-anchor_word, new_anchor}
use Rattle.step_parts.specs.declared.superblock.point.BlockPoint.TheVariants as block
use Rattle.errand_steps.specs.declared.point.Point.TheVariants as point
use Rattle.sound_state.proofs.shared.PointLemmas.{fits-at, so-at}
use Rattle.sound_state.proofs.shared.SumLemmas.{term-sum}
use Rattle.sound_state.proofs.shared.TallyLemmas.{tally}
use Rattle.sound_state.proofs.shared.WrittenWords.{new_anchor-fits}

-- a caller that waits to install a superblock has reserved its first blocks, and holds block 0 back
install-reserves :
    (site : Site) (o : Continuation)
    → reserved_among site.desc (holds_of (point.Block (block.InstallSuperblock site) o)).credits ≡ new_credits site.seat.class + 1
unfolding holds_of
install-reserves site o = grind (arith)

pub install-waits :
    (e : ErrandFields) (site : Site) (o : Continuation) → e.point ≡ point.Block (block.InstallSuperblock site) o
    → errand_keeps waiting site.desc e ≡ 1
unfolding holds_of
install-waits e site o stands = rw stands (grind (arith))

-- a caller that waits to install a superblock has all that is reserved of it, and nothing of it is live
pub waits-alone :
    (g : Geometry) (s : State) (l : Lists) (i : ℕ) (site : Site) (o : Continuation) → IsSoundWith g s l → i < g.callers
    → (s.errand i).point ≡ point.Block (block.InstallSuperblock site) o
    → (reserved_of g s site.desc ≡ errand_reserves site.desc (s.errand i)) × (sum_below (superblock_of g s site.desc).size (superblock_of g s site.desc).live ≡ 0)
unfolding callers_sum holds_of recalls_of
waits-alone g s l i site o old has stands =
    let p : Point = point.Block (block.InstallSuperblock site) o in
    let d : ℕ = site.desc in
    let c : ℕ = site.seat.class in
    let so = recursion_from_All (IsSo g s l i) (recalls_of p) (so-at g s l i p old has stands) in
    let is : anchor_for s d ≡ new_anchor c = ap anchor_of so.0.1 ∙ anchor_of-anchor_word (new_anchor c) (new_anchor-fits c) in
    let all = tally (superblock_of g s d) (old.chained.chained d (fits-at g s l i p old has stands).point.desc so.1.0.0) in
    let size : block_count_of (info_for s d).class ≡ block_count_of c = ap block_count_of so.1.0.1.class in
    let count : (anchor_for s d).count ≡ (block_count_of c - 1) - (new_credits c + 1) = ap (λ x. x.count) is in
    let has_all : errand_reserves d (s.errand i) ≡ new_credits c + 1 =
    ap (λ q. reserved_among d (holds_of q).credits) stands ∙ install-reserves site o in
    let waits : errand_keeps waiting d (s.errand i) ≡ 1 = install-waits (s.errand i) site o stands in
    let credits = term-sum g.callers (λ j. errand_reserves d (s.errand j)) i has in
    let held = term-sum g.callers (λ j. errand_keeps waiting d (s.errand j)) i has in
    (omega (arith, all, size, count, has_all, waits, credits, held), omega (arith, all, size, count, has_all, waits, credits, held))
