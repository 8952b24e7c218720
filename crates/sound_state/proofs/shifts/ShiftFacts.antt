-- What a step leaves that moves blocks between the count and what is reserved.
use Rattle.std.proofs.Common.{ℕ, ◌≡◌, ◌≢◌, ◌<◌, ◌+◌, refl, arith, ap, sym, subst, ◌∙◌, ◌==◌, IsTrue}
use Rattle.sound_state.proofs.Common.{Geometry, block_count_of, AnchorFields, is_empty, WordName, Site, ErrandFields, State, IsFramed, on_its_way, holds_of, Lists}
use Rattle.sound_state.proofs.Common.{IsSoundWith, words_sum, callers_sum, AreChained, IsChained, anchor_for, info_for, superblock_of, free_chain, is_bound, away_of}
use Rattle.sound_state.proofs.Common.{waiting_of, reserved_of, word_reserves, errand_keeps, pool_of}
use Rattle.word_table.specs.declared.name.WordName.TheVariants as name
use Rattle.sound_state.proofs.shared.HasLemmas.{bound-stands}
use Rattle.sound_state.proofs.shared.HoldingEffects.{HoldingEffects, waits-go, ways-go, credits-go, away-goes, framed-after}
use Rattle.sound_state.proofs.shared.SuperblockEffects.{of-each, LieStill, AnchorEffects, anchor-still, anchors-stay, field-stays, weights-stay, info-stays, infos-stay}
use Rattle.sound_state.proofs.shared.SuperblockEffects.{next-stays, size-stays, live-stays, same-chain-chained, held-same}
use Rattle.sound_state.proofs.shifts.ShiftEffects.{Shifts}

module _
    {g : Geometry} {s : State} {l : Lists} {caller : ℕ} {at : Site} {a b : AnchorFields} {e : ErrandFields} {s' : State}
    (h : Shifts g s l caller at a b e s') where
  pub shifted-holds : HoldingEffects g s caller (holds_of (s.errand caller).point) (holds_of e.point) e s'
  shifted-holds = record { in_heap = h.in_heap; moves = h.moves; retired = h.own.retired; before = refl; after = refl }

  pub shifted-write : AnchorEffects s at.desc s'
  shifted-write = record { elsewhere = h.elsewhere }

  shifted-lie : LieStill s s'
  shifted-lie = anchor-still shifted-write

  -- the info words of all descriptors stay, and all other descriptors' anchors
  pub shifted-info : (d : ℕ) → info_for s' d ≡ info_for s d
  shifted-info = info-stays shifted-lie

  pub shifted-anchor : (d : ℕ) → d ≢ at.desc → anchor_for s' d ≡ anchor_for s d
  shifted-anchor = anchors-stay shifted-write

  -- all tags stay at a shift, and all first available blocks
  pub shifted-tag : (d : ℕ) → (anchor_for s' d).tag ≡ (anchor_for s d).tag
  shifted-tag = field-stays shifted-write (λ x. x.tag) (ap (λ x. x.tag) h.after ∙ h.tag ∙ sym (ap (λ x. x.tag) h.before))

  shifted-avail : (d : ℕ) → (anchor_for s' d).avail ≡ (anchor_for s d).avail
  shifted-avail = field-stays shifted-write (λ x. x.avail) (ap (λ x. x.avail) h.after ∙ h.avail ∙ sym (ap (λ x. x.avail) h.before))

  pub shifted-empty : (d : ℕ) → is_empty (anchor_for s' d).state ≡ is_empty (anchor_for s d).state
  shifted-empty =
      field-stays shifted-write (λ x. is_empty x.state)
      (ap (λ x. is_empty x.state) h.after ∙ h.in_use
      ∙ sym (bound-stands (away_of g s l at.desc == 0) (is_empty (anchor_for s at.desc).state) h.bound))

  -- nothing waits or is on its way that wasn't before, so what is bound stays
  shifted-waits : (d : ℕ) → waiting_of g s' d ≡ waiting_of g s d
  shifted-waits d = omega (arith, waits-go shifted-holds d, h.waits d)

  pub shifted-ways : (d : ℕ) → callers_sum g (errand_keeps on_its_way d) s'.errand ≡ callers_sum g (errand_keeps on_its_way d) s.errand
  shifted-ways d = omega (arith, ways-go shifted-holds d, h.ways d)

  pub shifted-away : (d : ℕ) → away_of g s' l d ≡ away_of g s l d
  shifted-away d = omega (arith, away-goes shifted-holds l d, h.ways d)

  pub shifted-bound : (d : ℕ) → is_bound g s' l d ≡ is_bound g s l d
  shifted-bound d = rw (shifted-away d, shifted-empty d) refl

  -- words that weigh nothing at an anchor weigh the same after a shift
  pub shifted-words :
      (weight : WordName → ℕ → ℕ) → ((w : ℕ) → weight (name.Anchor at.desc) w ≡ 0) → words_sum g weight s'.word ≡ words_sum g weight s.word
  shifted-words = weights-stay shifted-write g

  -- the count and what is reserved of a superblock stay together
  pub shifted-together : (d : ℕ) → (anchor_for s' d).count + reserved_of g s' d ≡ (anchor_for s d).count + reserved_of g s d
  shifted-together =
      let words = λ (d : ℕ). shifted-words (word_reserves d) (λ w. refl) in
      of-each (λ k. (anchor_for s' k).count + reserved_of g s' k ≡ (anchor_for s k).count + reserved_of g s k) at.desc
      (omega (
        arith,
        credits-go shifted-holds at.desc,
        words at.desc,
        h.reserves,
        ap (λ x. x.count) h.after,
        ap (λ x. x.count) h.before,
      ))
      (λ d ne.
      omega (arith, credits-go shifted-holds d, words d, h.reserves_elsewhere d ne, ap (λ x. x.count) (shifted-anchor d ne)))

  -- each superblock has after a shift the chain that it had
  pub shifted-chain : (d : ℕ) → free_chain (superblock_of g s' d) ≡ free_chain (superblock_of g s d)
  shifted-chain d = rw (next-stays shifted-lie g d, shifted-together d, shifted-avail d) refl

  -- the count of each superblock stays below its size
  shifted-few : (d : ℕ) → (anchor_for s d).count < (superblock_of g s d).size → (anchor_for s' d).count < (superblock_of g s' d).size
  shifted-few =
      of-each (λ k. (anchor_for s k).count < (superblock_of g s k).size → (anchor_for s' k).count < (superblock_of g s' k).size) at.desc
      (λ old. omega (arith, size-stays shifted-lie g at.desc, ap block_count_of h.located.class, ap (λ x. x.count) h.after, h.some))
      (λ d ne old. omega (arith, old, ap (λ x. x.count) (shifted-anchor d ne), size-stays shifted-lie g d))

  -- all superblocks keep their blocks in order at a shift
  pub shifted-chained : IsSoundWith g s l → AreChained g s' l
  shifted-chained old = record {
    infos = infos-stay shifted-lie g l old.chained;
    chained = λ d has bound.
        let b = superblock_of g s d in
        let b' = superblock_of g s' d in
        let was : IsChained b = old.chained.chained d has (subst IsTrue (shifted-bound d) bound) in
        same-chain-chained b b' was (shifted-avail d) (shifted-chain d) (next-stays shifted-lie g d) (size-stays shifted-lie g d) (shifted-few d was.some)
        (λ j lt. omega (arith, ap (λ f. f j) (live-stays shifted-lie g (ap pool_of h.history) d), held-same b b' (shifted-waits d) j));
  }

  -- all frames stay where they are at a shift
  pub shifted-framed : IsSoundWith g s l → IsFramed g s' l
  shifted-framed old =
      framed-after shifted-holds l (λ f d. rw (shifted-bound d, shifted-waits d, shifted-info d) refl) h.frames old.framed
