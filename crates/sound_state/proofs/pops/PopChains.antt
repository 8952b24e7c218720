-- A won pop: the frames stay where they are, and the superblocks keep their blocks in order.
use Rattle.std.proofs.Common.{ℕ, ◌≡◌, ◌≢◌, ◌<◌, ◌≤◌, ◌+◌, ◌-◌, ◌∷◌, refl, arith, ap, sym, subst, ◌∙◌, IsTrue}
use Rattle.sound_state.proofs.Common.{Geometry, AnchorFields, Site, occurs, Share, ErrandFields, State, IsFramed, holds_before_pop, Lists, IsSoundWithoutCounts}
use Rattle.sound_state.proofs.Common.{IsSoundWith, Superblock, AreChained, IsChained, superblock_of, anchor_for, reserved_of, free_chain, is_there, taken_off, more_of}
use Rattle.sound_state.proofs.Common.{chain_of-first, occurs-here, occurs-more}
use Rattle.sound_state.proofs.pops.PopEffects.{Pops, popped_holds}
use Rattle.sound_state.proofs.pops.PopFacts.{popped-holds, popped-write, popped-anchor, popped-waits, popped-bound, popped-reserved, popped-credits, popped-first}
use Rattle.sound_state.proofs.pops.PopFacts.{popped-here, popped-there}
use Rattle.sound_state.proofs.shared.HoldingEffects.{framed-after}
use Rattle.sound_state.proofs.shared.SuperblockEffects.{LieStill, BlockEffects, anchor-still, info-stays, next-stays, size-stays, superblock-stays, live-after, rest-live}
use Rattle.sound_state.proofs.shared.SuperblockEffects.{chained-after, held-same, first-used}

-- a caller that pops has no frame in its hand, before and after
popping-no-frames : (f d class : ℕ) (share : Share) → occurs f (holds_before_pop d class share).frames ≡ 0
popping-no-frames f d class share = grind (arith)

has-frames : (f : ℕ) (at : Site) (i more : ℕ) → occurs f (popped_holds at i more).frames ≡ 0
has-frames f at i more = grind (arith)

-- a pop takes no more off the count than it is
taken-most : (share : Share) (a : AnchorFields) → taken_off share a ≤ a.count
taken-most share a = grind (arith)

-- a superblock that loses the first block of its chain, which becomes live, keeps its blocks in order
pub first-goes :
    (b b' : Superblock) (i : ℕ) → IsChained b → free_chain b ≡ i ∷ free_chain b' → b'.anchor.avail ≡ b.next i
    → b'.anchor.count ≤ b.anchor.count → b'.waiting ≡ b.waiting → b'.next ≡ b.next → b'.size ≡ b.size → b'.live i ≡ 1
    → ((j : ℕ) → j < b.size → j ≢ i → b'.live j ≡ b.live j) → IsChained b'
first-goes b b' i old chain avail count waits next size here others =
    let more : (j : ℕ) → occurs j (free_chain b') ≤ occurs j (free_chain b) = λ j.
    subst (λ xs. occurs j (free_chain b') ≤ occurs j xs) (sym chain) (occurs-more j i (free_chain b')) in
    let one : occurs i (free_chain b) ≡ 1 + occurs i (free_chain b') = ap (occurs i) chain ∙ occurs-here i (free_chain b') in
    let gone : b.live i ≡ 0 = omega (arith, old.once i (old.within i (omega (arith, one))), one) in
    let held = held-same b b' waits in
    record {
      avail = subst (λ z. b'.anchor.avail < z) (sym size) (subst (λ x. x < b.size) (sym avail) (old.links i (omega (arith, one))));
      within = λ j on. subst (λ z. j < z) (sym size) (old.within j (omega (arith, on, more j)));
      links = λ j on.
          subst (λ z. b'.next j < z) (sym size) (subst (λ f. f j < b.size) (sym next) (old.links j (omega (arith, on, more j))));
      once = λ j below.
          let has : j < b.size = subst (λ z. j < z) size below in
          omega (arith, old.once j has, first-used b b' i chain gone here j (others j has), held j);
      some = omega (arith, old.some, count, size);
    }

module _
    {g : Geometry} {s : State} {l : Lists} {caller : ℕ} {at : Site} {share : Share} {a : AnchorFields} {link words : ℕ} {e : ErrandFields}
    {s' : State} (h : Pops g s l caller at share a link words e s') where
  popped-lie : LieStill s s'
  popped-lie = anchor-still (popped-write h)

  -- each frame is in one place after a won pop
  pub popped-framed : IsSoundWith g s l → IsFramed g s' l
  popped-framed old =
      framed-after (popped-holds h) l
      (λ f d.
      let bound = popped-bound h d in
      let waits = popped-waits h d in
      rw (bound, waits, info-stays popped-lie d) refl)
      (λ f. has-frames f at a.avail (more_of share a) ∙ sym (popping-no-frames f at.desc at.seat.class share)) old.framed

  -- the popped block alone becomes live at a won pop
  popped-blocks : BlockEffects g s l caller at a.avail s'
  popped-blocks = record {
    site = h.site;
    bound = h.bound;
    located = h.located;
    index = h.fits.avail;
    still = popped-lie;
    there = popped-there h;
  }

  popped-count : (anchor_for s' at.desc).count + taken_off share a ≡ (anchor_for s at.desc).count
  popped-count =
      let now : (anchor_for s' at.desc).count ≡ a.count - taken_off share a = ap (λ x. x.count) h.after in
      let was : (anchor_for s at.desc).count ≡ a.count = ap (λ x. x.count) h.before in
      omega (arith, now, was, taken-most share a)

  -- the chain of the superblock loses its first block at a won pop
  popped-chain : free_chain (superblock_of g s at.desc) ≡ a.avail ∷ free_chain (superblock_of g s' at.desc)
  popped-chain =
      let next = (superblock_of g s at.desc).next in
      let k = (anchor_for s at.desc).count + reserved_of g s at.desc in
      let first : (anchor_for s at.desc).avail ≡ a.avail = ap (λ x. x.avail) h.before in
      let less : k - 1 ≡ (anchor_for s' at.desc).count + reserved_of g s' at.desc = omega (arith, popped-count, popped-credits h) in
      let goes : next a.avail ≡ (anchor_for s' at.desc).avail = h.next ∙ sym (ap (λ x. x.avail) h.after) in
      rw (next-stays popped-lie g at.desc, first, chain_of-first next k a.avail (omega (arith, popped-first h)), less, goes) refl

  popped-here-chained : IsSoundWith g s l → IsChained (superblock_of g s' at.desc)
  popped-here-chained old =
      first-goes (superblock_of g s at.desc) (superblock_of g s' at.desc) a.avail (old.chained.chained at.desc h.site.desc h.bound) popped-chain
      (ap (λ x. x.avail) h.after ∙ sym h.next) (omega (arith, popped-count)) (popped-waits h at.desc)
      (next-stays popped-lie g at.desc) (size-stays popped-lie g at.desc)
      (live-after popped-blocks a.avail ∙ ap is_there (popped-here h)) (rest-live popped-blocks)

  -- all superblocks keep their blocks in order after a won pop
  pub popped-chained : IsSoundWithoutCounts g s → IsSoundWith g s l → AreChained g s' l
  popped-chained sound old =
      chained-after popped-blocks old (λ d. subst IsTrue (popped-bound h d)) (λ bound. popped-here-chained old)
      (λ d differ.
      superblock-stays popped-lie g d (popped-anchor h d differ)
      (popped-reserved h d differ) (popped-waits h d))
