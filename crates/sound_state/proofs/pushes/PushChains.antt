-- A won push: each frame stays in one place, and the superblocks keep their blocks in order.
use Rattle.std.proofs.Common.{ℕ, Bool, false, ◌≡◌, ◌≢◌, ◌<◌, ◌+◌, ◌-◌, ◌∷◌, refl, arith, ap, sym, subst, inl, inr, ◌∙◌, ◌==◌, not, if◌then◌else◌, IsTrue}
use Rattle.std.proofs.lemmas.Bool.{cases_eq}
use Rattle.sound_state.proofs.Common.{Geometry, block_count_of, block_place, AnchorFields, Site, occurs, ErrandFields, State, IsFramed, fills_frame, Lists}
use Rattle.sound_state.proofs.Common.{IsSoundWithoutCounts, IsSoundWith, Superblock, AreChained, IsChained, superblock_of, anchor_for, reserved_of, free_chain, live_at}
use Rattle.sound_state.proofs.Common.{is_there, chain_of-first}
use Rattle.sound_state.proofs.pushes.PushEffects.{Outcome, stays, unfills, empties, IsOutcome, Pushes, pushed_anchor, pushed_holds}
use Rattle.sound_state.proofs.pushes.PushFacts.{pushed-holds, pushed-write, pushed-info, pushed-anchor, pushed-waits, pushed-bound, pushed-bound-here, was-bound}
use Rattle.sound_state.proofs.pushes.PushFacts.{pushed-reserved, pushed-gone, pushed-there, pushed-live, pushed-bare, makes_empty}
use Rattle.sound_state.proofs.shared.HoldingEffects.{framed-but}
use Rattle.sound_state.proofs.shared.ListFacts.{occurs-past}
use Rattle.sound_state.proofs.shared.SuperblockEffects.{LieStill, BlockEffects, anchor-still, info-stays, next-stays, size-stays, superblock-stays, located-live}
use Rattle.sound_state.proofs.shared.SuperblockEffects.{live-after, rest-live, chained-after, held-same, first-used}

-- the chain of a push's superblock gains the freed block in front, where the superblock isn't made EMPTY
count-after : (out : Outcome) (i : ℕ) (a : AnchorFields) → makes_empty out ≡ false → (pushed_anchor out i a).count ≡ a.count + 1
count-after out i a stands = grind (arith, stands)

avail-after : (out : Outcome) (i : ℕ) (a : AnchorFields) → (pushed_anchor out i a).avail ≡ i
avail-after out i a = grind (arith)

count-room :
    (out : Outcome) (class : ℕ) (stored : Bool) (a : AnchorFields) → IsOutcome out class stored a → makes_empty out ≡ false
    → a.count + 1 < block_count_of class
count-room out class stored a is stands = grind (arith, is, stands)

-- a superblock whose chain gains in front a block that was live keeps its blocks in order
pub first-comes :
    (b b' : Superblock) (i : ℕ) → IsChained b → free_chain b' ≡ i ∷ free_chain b → i < b.size → b'.anchor.avail ≡ i → b.next i < b.size
    → b'.anchor.count < b.size → b'.waiting ≡ b.waiting → b'.next ≡ b.next → b'.size ≡ b.size → b.live i ≡ 1 → b'.live i ≡ 0
    → ((j : ℕ) → j < b.size → j ≢ i → b'.live j ≡ b.live j) → IsChained b'
first-comes b b' i old chain has avail link count waits next size was now others =
    let held = held-same b b' waits in
    let past : (j : ℕ) → j ≢ i → occurs j (free_chain b') ≡ occurs j (free_chain b) =
    λ j differ. ap (occurs j) chain ∙ occurs-past j i (free_chain b) (λ e. differ (sym e)) in
    record {
      avail = omega (arith, avail, has, size);
      within = λ j on.
          elim (cases_eq j i) [
            | inl same ↦ omega (arith, same, has, size)
            | inr differ ↦ omega (arith, old.within j (omega (arith, on, past j differ)), size)
          ];
      links = λ j on.
          let same_next : b'.next j ≡ b.next j = ap (λ f. f j) next in
          elim (cases_eq j i) [
            | inl same ↦ let here : b.next j ≡ b.next i = ap b.next same in omega (arith, same_next, here, link, size)
            | inr differ ↦ omega (arith, same_next, old.links j (omega (arith, on, past j differ)), size)
          ];
      once = λ j below.
          let lt : j < b.size = subst (λ z. j < z) size below in
          omega (arith, old.once j lt, first-used b' b i chain now was j (λ differ. sym (others j lt differ)), held j);
      some = omega (arith, count, size);
    }

-- a condition whose negation holds is false
bound-stays : (b : Bool) → IsTrue (not b) → b ≡ false
bound-stays b is = grind (arith, is)

module _
    {g : Geometry} {s : State} {l : Lists} {caller : ℕ} {at : Site} {i : ℕ} {stored : Bool} {a : AnchorFields} {out : Outcome} {e : ErrandFields}
    {s' : State} (h : Pushes g s l caller at i stored a out e s') where
  pushed-lie : LieStill s s'
  pushed-lie = anchor-still (pushed-write h)

  -- the freed block alone becomes free at a won push
  pushed-blocks : BlockEffects g s l caller at i s'
  pushed-blocks = record {
    site = h.site;
    bound = h.bound;
    located = h.located;
    index = h.index;
    still = pushed-lie;
    there = pushed-there h;
  }

  pub was-place : (j : ℕ) → (superblock_of g s at.desc).live j ≡ live_at s (block_place at.frame at.seat.class j)
  was-place = located-live g s at.desc at.frame at.seat.class h.located

  pub pushed-chain : makes_empty out ≡ false → free_chain (superblock_of g s' at.desc) ≡ i ∷ free_chain (superblock_of g s at.desc)
  pushed-chain stands =
      let next = (superblock_of g s at.desc).next in
      let k = (anchor_for s at.desc).count + reserved_of g s at.desc in
      let reserved = pushed-reserved h at.desc in
      let count : (anchor_for s' at.desc).count + reserved_of g s' at.desc ≡ k + 1 =
      omega (arith, ap (λ x. x.count) h.after, count-after out i a stands, ap (λ x. x.count) h.before, reserved) in
      let avail : (anchor_for s' at.desc).avail ≡ i = ap (λ x. x.avail) h.after ∙ avail-after out i a in
      let less : (k + 1) - 1 ≡ k = omega arith in
      let goes : next i ≡ (anchor_for s at.desc).avail = h.next ∙ sym (ap (λ x. x.avail) h.before) in
      rw (next-stays pushed-lie g at.desc, count, avail, chain_of-first next (k + 1) i (omega arith), less, goes) refl

  pushed-here-chained : IsSoundWithoutCounts g s → IsSoundWith g s l → makes_empty out ≡ false → IsChained (superblock_of g s' at.desc)
  pushed-here-chained sound old stands =
      let b = superblock_of g s at.desc in
      let chained : IsChained b = old.chained.chained at.desc h.site.desc h.bound in
      let size : b.size ≡ block_count_of at.seat.class = ap block_count_of h.located.class in
      first-comes b (superblock_of g s' at.desc) i chained (pushed-chain stands) (omega (arith, h.index, size))
      (ap (λ x. x.avail) h.after ∙ avail-after out i a) (omega (arith, h.next, ap (λ x. x.avail) h.before, chained.avail))
      (omega (arith, ap (λ x. x.count) h.after, count-after out i a stands, count-room out at.seat.class stored a h.goes stands, size))
      (pushed-waits h at.desc) (next-stays pushed-lie g at.desc) (size-stays pushed-lie g at.desc)
      (pushed-live h)
      (live-after pushed-blocks i ∙ ap is_there (pushed-gone h sound)) (rest-live pushed-blocks)

  -- all superblocks keep their blocks in order after a won push
  pub pushed-chained : IsSoundWithoutCounts g s → IsSoundWith g s l → AreChained g s' l
  pushed-chained sound old =
      chained-after pushed-blocks old (was-bound h)
      (λ bound.
      pushed-here-chained sound old
      (bound-stays (makes_empty out) (subst IsTrue (pushed-bound-here h) bound)))
      (λ d differ.
      superblock-stays pushed-lie g d (pushed-anchor h d differ)
      (pushed-reserved h d) (pushed-waits h d))

  -- a superblock that isn't made EMPTY fills its frame as before
  fills-still : (f : ℕ) → makes_empty out ≡ false → fills_frame g s' l f at.desc ≡ fills_frame g s l f at.desc
  fills-still f stands =
      let bound = pushed-bound-here h in
      rw (bound, stands, h.bound, pushed-waits h at.desc, info-stays pushed-lie at.desc) refl

module _
    {g : Geometry} {s : State} {l : Lists} {caller : ℕ} {at : Site} {i : ℕ} {stored : Bool} {a : AnchorFields} {e : ErrandFields} {s' : State} where
  -- the frame of a superblock that a push makes EMPTY goes to its caller's hand
  frame-goes :
      (out : Outcome) → Pushes g s l caller at i stored a out e s' → IsSoundWith g s l → (f : ℕ)
      → occurs f (pushed_holds out at stored).frames + fills_frame g s' l f at.desc ≡ fills_frame g s l f at.desc
  frame-goes stays h old f = omega (arith, fills-still h f refl)
  frame-goes unfills h old f = omega (arith, fills-still h f refl)
  frame-goes empties h old f =
      let now : fills_frame g s' l f at.desc ≡ 0 = rw (pushed-bound-here h) refl in
      let was : fills_frame g s l f at.desc ≡ (if at.frame == f then 1 else 0) = rw (h.bound, (pushed-bare h old).waiting, h.located.frame) refl in
      omega (arith, now, was)

module _
    {g : Geometry} {s : State} {l : Lists} {caller : ℕ} {at : Site} {i : ℕ} {stored : Bool} {a : AnchorFields} {out : Outcome} {e : ErrandFields}
    {s' : State} (h : Pushes g s l caller at i stored a out e s') where
  pub pushed-framed : IsSoundWith g s l → IsFramed g s' l
  pushed-framed old =
      framed-but (pushed-holds h) l at.desc h.site.desc (λ f d ne. rw (pushed-bound h d ne, pushed-waits h d, pushed-info h d) refl)
      (λ f. omega (arith, frame-goes out h old f)) old.framed
