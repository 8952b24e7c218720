-- What a won pop leaves, and how it changes the pool and what is reserved.
use Rattle.std.proofs.Common.{ℕ, false, Some, None, ◌≡◌, ◌≢◌, ◌<◌, ◌≤◌, ◌+◌, ◌-◌, refl, arith, ap, sym, subst, ◌∙◌, ◌==◌}
use Rattle.sound_state.proofs.Common.{Geometry, block_place, AnchorFields, is_empty, WordName, Site, occurs, Share, block_at, pool_of, ErrandFields, State, waiting}
use Rattle.sound_state.proofs.Common.{on_its_way, holds_before_pop, Status, reserving, Lists, IsSoundWithoutCounts, IsSoundWith, words_sum, callers_sum, anchor_for}
use Rattle.sound_state.proofs.Common.{info_for, superblock_of, free_chain, is_bound, away_of, waiting_of, reserved_of, word_reserves, errand_reserves, reserved_among}
use Rattle.sound_state.proofs.Common.{errand_keeps, kept_among, taken_off, popped_state, more_of, chain_of, chain_of-first, occurs-here, fresh_block, same_status}
use Rattle.word_table.specs.declared.name.WordName.TheVariants as name
use Rattle.sound_state.proofs.shared.HasLemmas.{bound-stands}
use Rattle.sound_state.proofs.shared.OverlapLemmas.{free-unlive}
use Rattle.sound_state.proofs.pops.PopEffects.{Pops, popped_holds, popped_place}
use Rattle.sound_state.proofs.shared.SumLemmas.{term-sum}
use Rattle.sound_state.proofs.shared.HoldingEffects.{HoldingEffects, waits-go, ways-go, credits-go, away-goes}
use Rattle.sound_state.proofs.shared.SuperblockEffects.{AnchorEffects, info-stays, anchor-still, anchors-stay, field-stays, weights-stay, given-here, given-there}

stands-popped : (share : Share) (a : AnchorFields) → is_empty a.state ≡ false → is_empty (popped_state share a) ≡ false
stands-popped share a is = grind (arith, is)

-- a caller that pops keeps nothing but what it reserves, before and after
had-kept :
    (status : Status) (d x class : ℕ) (share : Share) → same_status reserving status ≡ false → kept_among status d (holds_before_pop x class share).kept ≡ 0
had-kept status d x class share other = grind (arith, other)

popped-keeps-reserving :
    (status : Status) (d : ℕ) (at : Site) (i more : ℕ) → same_status reserving status ≡ false → kept_among status d (popped_holds at i more).kept ≡ 0
popped-keeps-reserving status d at i more other = grind (arith, other)

-- what a pop pays with is reserved of its superblock alone, and is what it takes off the count and one
popping-reserved : (d x class : ℕ) (share : Share) → d ≢ x → reserved_among d (holds_before_pop x class share).credits ≡ 0
popping-reserved d x class share ne = grind (arith, ne)

popped-reserves-here : (d : ℕ) (at : Site) (i more : ℕ) → d ≢ at.desc → reserved_among d (popped_holds at i more).credits ≡ 0
popped-reserves-here d at i more ne = grind (arith, ne)

takes-off : (class : ℕ) (at : Site) (i : ℕ) (share : Share) (a : AnchorFields)
    → reserved_among at.desc (popped_holds at i (more_of share a)).credits + 1
    ≡ reserved_among at.desc (holds_before_pop at.desc class share).credits + taken_off share a
takes-off class at i share a = grind (arith)

pub pays-one : (x class : ℕ) (share : Share) → 1 ≤ reserved_among x (holds_before_pop x class share).credits
pays-one x class share = grind (arith)

-- the first index of a chain is on it
first-occurs : (next : ℕ → ℕ) (k i : ℕ) → 0 < k → 0 < occurs i (chain_of next k i)
first-occurs next k i some =
    subst (λ xs. 0 < occurs i xs) (sym (chain_of-first next k i some)) (omega (arith, occurs-here i (chain_of next (k - 1) (next i))))

module _
    {g : Geometry} {s : State} {l : Lists} {caller : ℕ} {at : Site} {share : Share} {a : AnchorFields} {link words : ℕ} {e : ErrandFields}
    {s' : State} (h : Pops g s l caller at share a link words e s') where
  pub popped-holds : HoldingEffects g s caller (holds_before_pop at.desc at.seat.class share) (popped_holds at a.avail (more_of share a)) e s'
  popped-holds = record { in_heap = h.in_heap; moves = h.moves; retired = h.own.retired; before = h.holds_before; after = h.holds_after }

  pub popped-write : AnchorEffects s at.desc s'
  popped-write = record { elsewhere = h.elsewhere }

  -- the info words of all descriptors stay at a won pop, and all other descriptors' anchors
  pub popped-info : (d : ℕ) → info_for s' d ≡ info_for s d
  popped-info = info-stays (anchor-still popped-write)

  pub popped-anchor : (d : ℕ) → d ≢ at.desc → anchor_for s' d ≡ anchor_for s d
  popped-anchor = anchors-stay popped-write

  pub popped-empty : (d : ℕ) → is_empty (anchor_for s' d).state ≡ is_empty (anchor_for s d).state
  popped-empty =
      let was : is_empty (anchor_for s at.desc).state ≡ false =
      bound-stands (away_of g s l at.desc == 0) (is_empty (anchor_for s at.desc).state) h.bound in
      let stood : is_empty a.state ≡ false = subst (λ x. is_empty x.state ≡ false) h.before was in
      field-stays popped-write (λ x. is_empty x.state) (ap (λ x. is_empty x.state) h.after ∙ stands-popped share a stood ∙ sym was)

  -- nothing waits or is on its way that wasn't before a won pop, so what is bound stays
  kept-still :
      (status : Status) (d : ℕ) → same_status reserving status ≡ false
      → kept_among status d (popped_holds at a.avail (more_of share a)).kept ≡ kept_among status d (holds_before_pop at.desc at.seat.class share).kept
  kept-still status d other = popped-keeps-reserving status d at a.avail (more_of share a) other ∙ sym (had-kept status d at.desc at.seat.class share other)

  pub popped-waits : (d : ℕ) → waiting_of g s' d ≡ waiting_of g s d
  popped-waits d = omega (arith, waits-go popped-holds d, kept-still waiting d refl)

  pub popped-ways : (d : ℕ) → callers_sum g (errand_keeps on_its_way d) s'.errand ≡ callers_sum g (errand_keeps on_its_way d) s.errand
  popped-ways d = omega (arith, ways-go popped-holds d, kept-still on_its_way d refl)

  pub popped-away : (d : ℕ) → away_of g s' l d ≡ away_of g s l d
  popped-away d = omega (arith, away-goes popped-holds l d, kept-still on_its_way d refl)

  pub popped-bound : (d : ℕ) → is_bound g s' l d ≡ is_bound g s l d
  popped-bound d = rw (popped-away d, popped-empty d) refl

  -- words that weigh nothing at an anchor weigh the same after a won pop
  pub popped-words :
      (weight : WordName → ℕ → ℕ) → ((w : ℕ) → weight (name.Anchor at.desc) w ≡ 0) → words_sum g weight s'.word ≡ words_sum g weight s.word
  popped-words = weights-stay popped-write g

  pub popped-reserved : (d : ℕ) → d ≢ at.desc → reserved_of g s' d ≡ reserved_of g s d
  popped-reserved d ne =
      omega (
        arith,
        credits-go popped-holds d,
        popping-reserved d at.desc at.seat.class share ne,
        popped-reserves-here d at a.avail (more_of share a) ne,
        popped-words (word_reserves d) (λ w. refl),
      )

  pub popped-credits : reserved_of g s' at.desc + 1 ≡ reserved_of g s at.desc + taken_off share a
  popped-credits =
      omega (
        arith,
        credits-go popped-holds at.desc,
        takes-off at.seat.class at a.avail share a,
        popped-words (word_reserves at.desc) (λ w. refl),
      )

  -- a caller that is about to pop has a block of the superblock reserved
  pub popped-first : 0 < reserved_of g s at.desc
  unfolding callers_sum
  popped-first =
      omega (
        arith,
        ap (λ x. reserved_among at.desc x.credits) h.holds_before,
        term-sum g.callers (λ i. errand_reserves at.desc (s.errand i)) caller h.in_heap,
        pays-one at.desc at.seat.class share,
      )

  -- the popped block is free before the pop, and live after it; all other places are as they were
  pub popped-none : IsSoundWithoutCounts g s → IsSoundWith g s l → block_at (popped_place at a) (pool_of s.history) ≡ None
  popped-none sound is =
      let free : 0 < occurs (anchor_for s at.desc).avail (free_chain (superblock_of g s at.desc)) =
      first-occurs (superblock_of g s at.desc).next ((anchor_for s at.desc).count + reserved_of g s at.desc) (anchor_for s at.desc).avail
      (omega (arith, popped-first)) in
      let none = free-unlive g s sound l is at.desc (anchor_for s at.desc).avail h.site.desc h.bound free in
      subst (λ i. block_at (block_place at.frame at.seat.class i) (pool_of s.history) ≡ None) (ap (λ x. x.avail) h.before)
      (subst (λ c. block_at (block_place at.frame c (anchor_for s at.desc).avail) (pool_of s.history) ≡ None) h.located.class
      (subst (λ f. block_at (block_place f (info_for s at.desc).class (anchor_for s at.desc).avail) (pool_of s.history) ≡ None) h.located.frame none))

  pub popped-here : block_at (popped_place at a) (pool_of s'.history) ≡ Some (fresh_block caller words (popped_place at a))
  popped-here = given-here caller words (popped_place at a) s.history s'.history h.history

  pub popped-there : (p : ℕ) → p ≢ popped_place at a → block_at p (pool_of s'.history) ≡ block_at p (pool_of s.history)
  popped-there = given-there caller words (popped_place at a) s.history s'.history h.history
