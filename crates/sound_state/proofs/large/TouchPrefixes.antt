-- A word of the arena that is no block's prefix word in a frame at work: what is remembered of superblocks stays where it changes.
use Rattle.std.proofs.Common.{ℕ, ◌≡◌, ◌≢◌, ◌<◌, [], ◌∷◌, arith, ap, sym, subst, refl, ◌∙◌, IsTrue}
use Rattle.std.specs.List.{AllByRecursion}
use Rattle.std.proofs.lemmas.List.Elements.{recursion_from_All}
use Rattle.sound_state.proofs.Common.{Geometry, block_count_of, info_of, WordName, Site, descriptor_count, occurs, prefix_name, BlockPoint, Continuation, Point, State}
use Rattle.sound_state.proofs.Common.{errand_frames, waiting, holds_of, Lists, IsSo, IsLocated, recalls_of, IsSoundWith, info_for, is_bound, errand_keeps, kept_among}
use Rattle.sound_state.proofs.Common.{FitsBlock, block_recalls}
use Rattle.sound_state.proofs.Common.{Part}
use Rattle.word_table.specs.declared.name.WordName.TheVariants as name
use Rattle.step_parts.specs.declared.superblock.point.BlockPoint.TheVariants as block
use Rattle.errand_steps.specs.declared.point.Point.TheVariants as point
use Rattle.errand_steps.specs.tables.Blocks as holding
use Rattle.sound_state.proofs.shared.BackedRecalls.{AllRead}
use Rattle.sound_state.proofs.shared.MakingWeights.{making-waits}
use Rattle.sound_state.proofs.shared.PointLemmas.{fits-at, so-at}
use Rattle.sound_state.proofs.shared.RecallFrame.{Reads}
use Rattle.sound_state.proofs.shared.RecallTables.{IsElsewhere, reads-point}
use Rattle.sound_state.proofs.large.TouchEffects.{IsAwayWord, Stays}
use Rattle.sound_state.proofs.shared.WordFacts.{frame-of-within}

-- words that have the prefix words of bound superblocks' blocks, and of frames in which other callers make superblocks
pub record KeepsPrefixes (g : Geometry) (s : State) (l : Lists) (caller : ℕ) (words : WordName → ℕ) : Type 0 where
  pub away : (n : WordName) → IsAwayWord n → words n ≡ s.word n
  pub bound :
      (d i : ℕ) → d < descriptor_count g → IsTrue (is_bound g s l d) → i < block_count_of (info_for s d).class
      → words (prefix_name (info_for s d).frame (info_for s d).class i) ≡ s.word (prefix_name (info_for s d).frame (info_for s d).class i)
  pub making :
      (i f c k : ℕ) → i < g.callers → i ≢ caller → f < g.frames → 0 < errand_frames f (s.errand i) → ((d : ℕ) → errand_keeps waiting d (s.errand i) ≡ 0)
      → k < block_count_of c
      → words (prefix_name f c k) ≡ s.word (prefix_name f c k)

-- the prefix word of a block of a superblock at hand stays
at-hand :
    (g : Geometry) (s : State) (l : Lists) (caller : ℕ) (words : WordName → ℕ) → KeepsPrefixes g s l caller words → (at : Site) → at.desc < descriptor_count g
    → IsTrue (is_bound g s l at.desc) × IsLocated s at.desc at.frame at.seat.class → (i : ℕ) → i < block_count_of at.seat.class
    → words (prefix_name at.frame at.seat.class i) ≡ s.word (prefix_name at.frame at.seat.class i)
at-hand g s l caller words h at has here i within = grind (arith, h, has, here, within)

frame-in-hand : (f : ℕ) → 0 < occurs f (f ∷ [])
frame-in-hand f = grind (arith)

-- words that keep the prefix words of superblocks, bound or in the making
module _ (g : Geometry) (s : State) (l : Lists) (caller : ℕ) (words : WordName → ℕ) (h : KeepsPrefixes g s l caller words) where
  -- the prefix words of a frame in which another caller makes a superblock stay
  at-making :
      (i : ℕ) → i < g.callers → i ≢ caller → (p : Point) → (s.errand i).point ≡ p → (at : Site) → holds_of p ≡ holding.making at → at.frame < g.frames → (k : ℕ)
      → k < block_count_of at.seat.class → words (prefix_name at.frame at.seat.class k) ≡ s.word (prefix_name at.frame at.seat.class k)
  at-making i has other p stands at making within k lt =
      let holds : holds_of (s.errand i).point ≡ holding.making at = ap holds_of stands ∙ making in
      h.making i at.frame at.seat.class k has other within (subst (λ x. 0 < occurs at.frame x.frames) (sym holds) (frame-in-hand at.frame))
      (λ d. subst (λ x. kept_among waiting d x.kept ≡ 0) (sym holds) (making-waits d at)) lt

  block-reads :
      IsSoundWith g s l → (i : ℕ) → i < g.callers → i ≢ caller → (p : BlockPoint) (o : Continuation) → (s.errand i).point ≡ point.Block p o → FitsBlock g i p
      → AllByRecursion (IsSo g s l i) (block_recalls p) → AllByRecursion (Reads (Stays s words)) (block_recalls p)
  unfolding holds_of
  block-reads old i has other (block.LinkBlock at n) o stands fit so =
      grind (arith, h.away, fit, at-making i has other _ stands at refl fit.site.frame)
  block-reads old i has other (block.StoreInfo at) o stands fit so = grind (arith, h.away, at-making i has other _ stands at refl fit.frame)
  block-reads old i has other (block.StoreAnchor at) o stands fit so = grind (arith, h.away, at-making i has other _ stands at refl fit.frame)
  block-reads old i has other p o stands fit so = grind (arith, h.away, fit, so, at-hand g s l caller words h)

  -- outside of superblocks, only next words are read word by word
  elsewhere-stays : (q : Part) → IsElsewhere q → Stays s words q
  elsewhere-stays q is = grind (arith, h, is)

  -- all that the others read word by word stays
  pub prefixes-stay : IsSoundWith g s l → (i : ℕ) → i < g.callers → i ≢ caller → AllRead (Stays s words) (s.errand i).point
  unfolding recalls_of
  prefixes-stay old i has other =
      reads-point (Stays s words) (elsewhere-stays) (s.errand i).point
      (λ b o is.
      block-reads old i has other b o is (fits-at g s l i (point.Block b o) old has is).point
      (recursion_from_All (IsSo g s l i) (block_recalls b) (so-at g s l i (point.Block b o) old has is)))

pub info-frame : (g : Geometry) (s : State) (l : Lists) (d : ℕ) → IsSoundWith g s l → d < descriptor_count g → (info_for s d).frame < g.frames
info-frame g s l d old has = frame-of-within g (info_of (s.word (name.Info d))) (old.chained.infos d has)
