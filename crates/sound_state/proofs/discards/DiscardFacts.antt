-- What a lost install leaves, and that nobody else has anything of its superblock.
use Rattle.std.proofs.Common.{ℕ, false, true≢false, None, ◌≡◌, ◌≢◌, ◌<◌, ◌+◌, ◌-◌, refl, arith, ap, sym, subst, ◌∙◌, IsTrue, ne_eqb}
use Rattle.sound_state.proofs.Common.{Geometry, block_count_of, block_place, anchor_of, Site, new_credits, block_at, pool_of, ErrandFields, State, waiting, on_its_way}
use Rattle.sound_state.proofs.Common.{Lists, IsSoundWith, sum_below, callers_sum, IsChained, info_for, superblock_of, is_bound, away_of, waiting_of, reserved_of}
use Rattle.sound_state.proofs.Common.{word_reserves, errand_reserves, reserved_among, errand_keeps, making}
use Rattle.word_table.specs.declared.name.WordName.TheVariants as name
use Rattle.sound_state.proofs.discards.DiscardEffects.{Discards}
use Rattle.sound_state.proofs.shared.OverlapLemmas.{there-none}
use Rattle.sound_state.proofs.shared.SumLemmas.{term-sum, words-same, two-terms}
use Rattle.sound_state.proofs.shared.HoldingEffects.{HoldingEffects, waits-go, ways-go, credits-go, away-goes}
use Rattle.sound_state.proofs.shared.MakingWeights.{it-here, it-elsewhere, making-ways, making-others, installing-waits, installing-others, installing-credits}
use Rattle.sound_state.proofs.shared.MakingWeights.{installing-apart, is_it, installing_holds}
use Rattle.sound_state.proofs.shared.TallyLemmas.{tally, held-back-once}
use Rattle.sound_state.proofs.shared.SuperblockEffects.{LieStill, info-stays}
use Rattle.sound_state.proofs.shared.SuperblocksStay.{SameDescs}

module _ {g : Geometry} {s : State} {l : Lists} {caller : ℕ} {at : Site} {e : ErrandFields} {s' : State} (h : Discards g s l caller at e s') where
  pub discarded-still : LieStill s s'
  discarded-still = record { words = λ n is. h.words n }

  -- the info words and the anchors of all descriptors stay at a lost install
  pub discarded-descs : SameDescs s s'
  discarded-descs = record {
    info = info-stays discarded-still;
    anchor = λ d. ap anchor_of (h.words (name.Anchor d));
  }

  pub discarded-holds : HoldingEffects g s caller (installing_holds at) (making at) e s'
  discarded-holds = record { in_heap = h.in_heap; moves = h.moves; retired = h.retired; before = h.holds_before; after = h.holds_after }

  -- the descriptor of a lost install is on its way, and doesn't wait any more
  pub discarded-ways : (d : ℕ) → callers_sum g (errand_keeps on_its_way d) s'.errand ≡ callers_sum g (errand_keeps on_its_way d) s.errand + is_it at d
  discarded-ways d = omega (arith, ways-go discarded-holds d, installing-others on_its_way at d refl, making-ways at d)

  pub discarded-away : (d : ℕ) → away_of g s' l d ≡ away_of g s l d + is_it at d
  discarded-away d = omega (arith, away-goes discarded-holds l d, installing-others on_its_way at d refl, making-ways at d)

  pub discarded-waits : (d : ℕ) → waiting_of g s' d + is_it at d ≡ waiting_of g s d
  discarded-waits d = omega (arith, waits-go discarded-holds d, installing-waits at d, making-others waiting at d refl)

  -- all superblocks but the one that isn't needed are bound as they were
  pub discarded-bound : (d : ℕ) → d ≢ at.desc → is_bound g s' l d ≡ is_bound g s l d
  discarded-bound d ne =
      let away : away_of g s' l d ≡ away_of g s l d = omega (arith, discarded-away d, it-elsewhere at d ne) in
      rw (away, discarded-descs.anchor d) refl

  pub discarded-unbound : is_bound g s' l at.desc ≡ false
  discarded-unbound =
      let some : away_of g s' l at.desc ≢ 0 =
      λ none. let bad : ⊥ = omega (arith, discarded-away at.desc, it-here at, none) in bad in
      rw (ne_eqb (away_of g s' l at.desc) 0 some) refl

  pub discarded-was : (d : ℕ) → IsTrue (is_bound g s' l d) → d ≢ at.desc
  discarded-was d bound same =
      let bad : IsTrue false = subst IsTrue (ap (is_bound g s' l) same ∙ discarded-unbound) bound in
      absurd (true≢false (sym bad))

  pub discarded-reserved : (d : ℕ) → d ≢ at.desc → reserved_of g s' d ≡ reserved_of g s d
  discarded-reserved d ne =
      omega (arith, credits-go discarded-holds d, installing-apart at d ne, words-same g (word_reserves d) s.word s'.word h.words)

  -- the superblock that isn't needed has nothing live, and nothing that another caller has reserved or keeps
  chain-at : IsSoundWith g s l → IsChained (superblock_of g s at.desc)
  chain-at is = is.chained.chained at.desc h.site.desc h.bound

  pub discarded-waited : IsSoundWith g s l → waiting_of g s at.desc ≡ 1
  discarded-waited is =
      (held-back-once (superblock_of g s at.desc) (chain-at is) (omega (arith, discarded-waits at.desc, it-here at))).2

  -- all blocks but one of a superblock that isn't needed are reserved by its caller, and that one is held back
  discarding-reserved : errand_reserves at.desc (s.errand caller) ≡ new_credits at.seat.class + 1
  discarding-reserved = ap (λ x. reserved_among at.desc x.credits) h.holds_before ∙ installing-credits at

  all-reserved :
      IsSoundWith g s l
      → (sum_below (superblock_of g s at.desc).size (superblock_of g s at.desc).live ≡ 0) × (reserved_of g s at.desc ≡ errand_reserves at.desc (s.errand caller))
  unfolding callers_sum
  all-reserved is =
      let b = superblock_of g s at.desc in
      let c = at.seat.class in
      let all = tally b (chain-at is) in
      let waited = discarded-waited is in
      let size : b.size ≡ block_count_of c = ap block_count_of h.located.class in
      let count : b.anchor.count ≡ (block_count_of c - 1) - (new_credits c + 1) = ap (λ x. x.count) h.anchor in
      let mine = term-sum g.callers (λ j. errand_reserves at.desc (s.errand j)) caller h.in_heap in
      (omega (arith, all, waited, size, count, discarding-reserved, mine), omega (arith, all, waited, size, count, discarding-reserved, mine))

  pub others-reserve : IsSoundWith g s l → (i : ℕ) → i < g.callers → i ≢ caller → errand_reserves at.desc (s.errand i) ≡ 0
  unfolding callers_sum
  others-reserve is i has ne =
      omega (arith, (all-reserved is).1, two-terms g.callers (λ j. errand_reserves at.desc (s.errand j)) i caller has h.in_heap ne)

  pub none-live : IsSoundWith g s l → (k : ℕ) → k < block_count_of (info_for s at.desc).class → (superblock_of g s at.desc).live k ≡ 0
  none-live is k below =
      omega (arith, (all-reserved is).0, term-sum (superblock_of g s at.desc).size (superblock_of g s at.desc).live k below)

  pub nothing-there :
      IsSoundWith g s l → (k : ℕ) → k < block_count_of (info_for s at.desc).class
      → block_at (block_place (info_for s at.desc).frame (info_for s at.desc).class k) (pool_of s.history) ≡ None
  nothing-there is k below =
      there-none (block_at (block_place (info_for s at.desc).frame (info_for s at.desc).class k) (pool_of s.history))
      (none-live is k below)
