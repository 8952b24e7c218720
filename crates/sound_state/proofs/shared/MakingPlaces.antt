-- A frame of which a superblock is in the making: no superblock lies there, and no block is live.
use Rattle.std.proofs.Common.{ℕ, ◌≡◌, ◌≢◌, ◌<◌, ◌≤◌, arith, ap, subst, inl, inr, ◌∙◌, IsTrue}
use Rattle.std.proofs.lemmas.Bool.{cases_eq}
use Rattle.sound_state.proofs.Common.{frame_of, Geometry, Small, Need, descriptor_count, Site, place-found, pool_of, State, Point, errand_frames, fills_frame, waiting}
use Rattle.sound_state.proofs.Common.{holds_of, Lists, IsSoundWith, IsSoundWithoutCounts, callers_sum, info_for, is_bound, errand_keeps, IsLive, TooLarge, large-frame}
use Rattle.sound_state.proofs.Common.{IsPlaceFor, making}
use Rattle.heap_geometry.specs.declared.need.Need.TheVariants.{Large}
use Rattle.pool_model.specs.Pool.{Block}
use Rattle.sound_state.proofs.shared.FrameLemmas.{held-or-filled}
use Rattle.sound_state.proofs.shared.MakingWeights.{making-waits}
use Rattle.sound_state.proofs.shared.OverlapLemmas.{formed-at}
use Rattle.sound_state.proofs.shared.SumLemmas.{term-sum, two-terms}

-- a caller makes a superblock in the frame: it has the frame in its hand, and no superblock waits with it
pub record IsMaking (s : State) (caller f : ℕ) : Type 0 where
  pub hand : 0 < errand_frames f (s.errand caller)
  pub waits : (d : ℕ) → errand_keeps waiting d (s.errand caller) ≡ 0

pub is-making : (s : State) (caller : ℕ) (p : Point) (at : Site) → (s.errand caller).point ≡ p → holds_of p ≡ making at → IsMaking s caller at.frame
is-making s caller p at stands holds = grind (arith, stands, holds, making-waits)

-- no superblock lies in a frame of which a superblock is in the making
pub making-unbound :
    (g : Geometry) (s : State) (l : Lists) (caller f d : ℕ) → IsSoundWith g s l → caller < g.callers → f < g.frames → d < descriptor_count g
    → IsMaking s caller f → IsTrue (is_bound g s l d) → (info_for s d).frame ≢ f
unfolding callers_sum
making-unbound g s l caller f d old has in_heap exists mine bound at =
    let once = old.framed.once f in_heap in
    let hands = λ (i : ℕ). errand_frames f (s.errand i) in
    elim (held-or-filled g s l f d old bound at) [
      | inl one ↦
          let differ : one.0 ≢ caller =
          λ is.
          let some : 0 < errand_keeps waiting d (s.errand caller) = subst (λ i. 0 < errand_keeps waiting d (s.errand i)) is one.2 in
          let bad : ⊥ = omega (arith, some, mine.waits d) in bad in
          omega (arith, once, one.3, mine.hand, two-terms g.callers hands one.0 caller one.1 has differ)
      | inr one ↦
          omega
          (arith, once, one, mine.hand, term-sum g.callers hands caller has, term-sum (descriptor_count g) (fills_frame g s l f) d exists)
    ]

-- one caller alone makes a superblock in a frame
pub making-alone :
    (g : Geometry) (s : State) (l : Lists) (caller other f : ℕ) → IsSoundWith g s l → caller < g.callers → other < g.callers → f < g.frames
    → IsMaking s caller f → IsMaking s other f → other ≡ caller
unfolding callers_sum
making-alone g s l caller other f old has has_other in_heap mine theirs =
    let once = old.framed.once f in_heap in
    elim (cases_eq other caller) [
      | inl is ↦ is
      | inr differ ↦
          absurd
          (omega
          (arith, once, mine.hand, theirs.hand, two-terms g.callers (λ i. errand_frames f (s.errand i)) other caller has_other has differ))
    ]

-- the frame of a live small block is none of which a superblock is in the making
pub small-unmade :
    (g : Geometry) (s : State) (l : Lists) (caller f place class : ℕ) (b : Block) → IsSoundWith g s l → caller < g.callers → f < g.frames
    → IsMaking s caller f → IsLive s place b → b.need ≡ Small class → frame_of place ≢ f
small-unmade g s l caller f place class b old has in_heap mine live of at =
    let tied = old.tied.small place class b live of in
    making-unbound g s l caller f tied.0 old has in_heap tied.1.exists mine tied.1.bound (tied.1.located.frame ∙ at)

-- no block is live in a frame of which a superblock is in the making
pub live-unmade :
    (g : Geometry) (s : State) (l : Lists) (caller f place : ℕ) (b : Block) (n : Need) → IsSoundWithoutCounts g s → IsSoundWith g s l
    → caller < g.callers → f < g.frames → IsMaking s caller f → IsLive s place b → b.need ≡ n → frame_of place ≢ f
live-unmade g s l caller f place b (Small class) sound old has in_heap mine live of =
    small-unmade g s l caller f place class b old has in_heap mine live of
live-unmade g s l caller f place b (Large units) sound old has in_heap mine live of =
    λ stands.
    let behind : g.frames ≤ frame_of b.place = large-frame g b.need units b.place of (formed-at g s place b sound live).place in
    omega (arith, behind, stands, in_heap, ap frame_of (place-found place (pool_of s.history) b live))
live-unmade g s l caller f place b TooLarge sound old has in_heap mine live of =
    absurd (subst (λ n. IsPlaceFor g n b.place) of (formed-at g s place b sound live).place)
