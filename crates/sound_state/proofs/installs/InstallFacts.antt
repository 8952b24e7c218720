-- What a won install leaves, and how it changes the pool and what waits.
use Rattle.std.proofs.Common.{ℕ, Some, None, ◌≡◌, ◌≢◌, ◌<◌, ◌+◌, refl, arith, ap, sym, subst, ◌∙◌}
use Rattle.sound_state.proofs.Common.{Geometry, block_count_of, Null, Held, active_word, anchor_of, Site, active_name, occurs, new_credits, block_at, pool_of, ErrandFields}
use Rattle.sound_state.proofs.Common.{State, on_its_way, Lists, IsSoundWith, callers_sum, IsChained, anchor_for, info_for, superblock_of, free_chain, is_bound, away_of}
use Rattle.sound_state.proofs.Common.{waiting_of, reserved_of, word_reserves, reserved_among, errand_keeps, IsActiveWord, fresh_block}
use Rattle.word_table.specs.declared.name.WordName.TheVariants as name
use Rattle.sound_state.proofs.installs.InstallEffects.{Installs, installed_word, first_place, installed_holds}
use Rattle.sound_state.proofs.shared.OverlapLemmas.{there-none}
use Rattle.sound_state.proofs.shared.SumLemmas.{words-written}
use Rattle.sound_state.proofs.shared.HoldingEffects.{HoldingEffects, waits-go, ways-go, credits-go, away-goes}
use Rattle.sound_state.proofs.shared.MakingWeights.{is_it, it-here, it-elsewhere, installing-waits, installing-others, installing_holds}
use Rattle.sound_state.proofs.shared.SuperblockEffects.{IsLayWord, LieStill, info-stays, located-live, given-here, given-there}
use Rattle.sound_state.proofs.shared.TallyLemmas.{held-back-once}
use Rattle.sound_state.proofs.shared.WordFacts.{null-said, held-said}

-- the credits of an installed superblock go from the caller to the active word
credits-weigh :
    (d : ℕ) (at : Site) → IsActiveWord (Held at.desc (new_credits at.seat.class))
    → word_reserves d (active_name at.seat) (installed_word at)
    ≡ word_reserves d (active_name at.seat) (active_word Null) + reserved_among d (installing_holds at).credits
credits-weigh d at fits =
    let null = null-said in
    let held = held-said at.desc (new_credits at.seat.class) fits in
    rw (null, held) (grind (arith))

-- the first block of an installed superblock is held back before, and live after; all other places are as they were

module _
    {g : Geometry} {s : State} {l : Lists} {caller : ℕ} {at : Site} {words : ℕ} {e : ErrandFields} {s' : State}
    (h : Installs g s l caller at words e s') where
  pub installed-holds : HoldingEffects g s caller (installing_holds at) (installed_holds at) e s'
  installed-holds = record { in_heap = h.in_heap; moves = h.moves; retired = h.own.retired; before = h.holds_before; after = h.holds_after }

  pub installed-still : LieStill s s'
  installed-still = record { words = λ n is. h.writes.elsewhere n (λ same. subst IsLayWord same is) }

  -- the info words and the anchors of all descriptors stay at a won install
  pub installed-info : (d : ℕ) → info_for s' d ≡ info_for s d
  installed-info = info-stays installed-still

  pub installed-anchor : (d : ℕ) → anchor_for s' d ≡ anchor_for s d
  installed-anchor d = ap anchor_of (h.writes.elsewhere (name.Anchor d) (λ same. cc))

  pub installed-ways : (d : ℕ) → callers_sum g (errand_keeps on_its_way d) s'.errand ≡ callers_sum g (errand_keeps on_its_way d) s.errand
  installed-ways d = omega (arith, ways-go installed-holds d, installing-others on_its_way at d refl)

  installed-waits : (d : ℕ) → waiting_of g s' d + is_it at d ≡ waiting_of g s d
  installed-waits d = omega (arith, waits-go installed-holds d, installing-waits at d)

  pub installed-others : (d : ℕ) → d ≢ at.desc → waiting_of g s' d ≡ waiting_of g s d
  installed-others d differ = omega (arith, installed-waits d, it-elsewhere at d differ)

  pub installed-one : waiting_of g s' at.desc + 1 ≡ waiting_of g s at.desc
  installed-one = omega (arith, installed-waits at.desc, it-here at)

  pub installed-away : (d : ℕ) → away_of g s' l d ≡ away_of g s l d
  installed-away d = omega (arith, away-goes installed-holds l d, installing-others on_its_way at d refl)

  pub installed-bound : (d : ℕ) → is_bound g s' l d ≡ is_bound g s l d
  installed-bound d = rw (installed-away d, installed-anchor d) refl

  pub installed-reserved : (d : ℕ) → reserved_of g s' d ≡ reserved_of g s d
  installed-reserved d =
      omega (
        arith,
        credits-go installed-holds d,
        words-written g (word_reserves d) s.word (active_name at.seat) (installed_word at) s'.word h.exists h.writes,
        ap (word_reserves d (active_name at.seat)) h.before,
        credits-weigh d at h.fits,
      )

  pub installed-chain : IsSoundWith g s l → IsChained (superblock_of g s at.desc)
  installed-chain is = is.chained.chained at.desc h.site.desc h.bound

  pub installed-some : IsSoundWith g s l → 0 < block_count_of at.seat.class
  installed-some is =
      let chained = installed-chain is in
      subst (λ c. 0 < block_count_of c) h.located.class (omega (arith, chained.avail))

  -- a new superblock that is installed waited once, and its first block was neither free nor live
  pub installed-back :
      IsSoundWith g s l
      → (occurs 0 (free_chain (superblock_of g s at.desc)) ≡ 0) × ((superblock_of g s at.desc).live 0 ≡ 0) × (waiting_of g s at.desc ≡ 1)
  installed-back is = held-back-once (superblock_of g s at.desc) (installed-chain is) (omega (arith, installed-one))

  pub installed-none : IsSoundWith g s l → block_at (first_place at) (pool_of s.history) ≡ None
  installed-none is =
      there-none (block_at (first_place at) (pool_of s.history))
      (sym (located-live g s at.desc at.frame at.seat.class h.located 0) ∙ (installed-back is).1)

  pub installed-here : block_at (first_place at) (pool_of s'.history) ≡ Some (fresh_block caller words (first_place at))
  installed-here = given-here caller words (first_place at) s.history s'.history h.history

  pub installed-there : (p : ℕ) → p ≢ first_place at → block_at p (pool_of s'.history) ≡ block_at p (pool_of s.history)
  installed-there = given-there caller words (first_place at) s.history s'.history h.history
