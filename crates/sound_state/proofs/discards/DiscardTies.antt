-- After a lost install the words still show the pool of the events.
use Rattle.std.proofs.Common.{ℕ, ◌≡◌, ◌≢◌, ap, sym, subst, ◌∙◌, IsTrue, refl}
use Rattle.sound_state.proofs.Common.{Geometry, Need, Small, block_place, frame_of-block_place, Site, block_at, pool_of, ErrandFields, State, Lists, IsLocated, IsOwned}
use Rattle.sound_state.proofs.Common.{IsSoundWithoutCounts, IsSoundWith, info_for, IsTied, IsLive, IsBlockOfDesc}
use Rattle.word_table.specs.declared.name.WordName.TheVariants as name
use Rattle.step_parts.specs.superblock.Points.{IsBlockOf}
use Rattle.pool_model.specs.Pool.{Block}
use Rattle.sound_state.proofs.discards.DiscardEffects.{Discards}
use Rattle.sound_state.proofs.discards.DiscardFacts.{discarded-descs, discarded-bound, nothing-there, discarded-holds}
use Rattle.sound_state.proofs.shared.RecallFrame.{LiesAt}
use Rattle.sound_state.proofs.shared.TieLemmas.{blocks-stay, bare-owns, excepts-none, not-live, owned-stays, small-lies, block-stays}
use Rattle.sound_state.proofs.shared.HoldingEffects.{bare-before, bare-after}

module _ {g : Geometry} {s : State} {l : Lists} {caller : ℕ} {at : Site} {e : ErrandFields} {s' : State} (h : Discards g s l caller at e s') where
  -- no live block is one of the superblock that isn't needed
  pub not-its :
      IsSoundWithoutCounts g s → IsSoundWith g s l → (place class : ℕ) (b : Block) → IsLive s place b → b.need ≡ Small class → (d : ℕ)
      → IsBlockOfDesc g s l place class d → d ≢ at.desc
  not-its sound is place class b live small d of here =
      let lies =
      small-lies g s place class (info_for s at.desc).frame (info_for s at.desc).class b sound live small
      (sym of.located.frame ∙ ap (λ k. (info_for s k).frame) here) (sym of.located.class ∙ ap (λ k. (info_for s k).class) here) in
      not-live s (block_place (info_for s at.desc).frame (info_for s at.desc).class lies.0) place b (nothing-there h is lies.0 lies.1)
      lies.2 live

  -- nobody owns a block of the superblock that isn't needed
  pub own-apart :
      IsSoundWithoutCounts g s → IsSoundWith g s l → (i : ℕ) (site : Site) (k : ℕ) → IsBlockOf g i site k
      → IsOwned s i (block_place site.frame site.seat.class k) (Small site.seat.class) → LiesAt g s l site → site.desc ≢ at.desc
  own-apart sound is i site k fit owned so =
      not-its sound is (block_place site.frame site.seat.class k) site.seat.class owned.block.0 owned.block.1
      owned.block.3 site.desc
      (record {
        exists = fit.site.desc;
        bound = so.0;
        located =
            subst (λ f. IsLocated s site.desc f site.seat.class) (sym (frame_of-block_place site.frame site.seat.class k fit.index)) so.1;
      })

  -- a block that was owned is so after a lost install
  pub discarded-owned : (i place : ℕ) (n : Need) → IsOwned s i place n → IsOwned s' i place n
  discarded-owned i place n k = owned-stays s s' i place n (λ b live. ap (λ past. block_at place (pool_of past)) h.history ∙ live) k

  -- the words still show the pool after a lost install: no block changes
  pub discarded-tied : IsSoundWithoutCounts g s → IsSoundWith g s l → IsTied g s' l
  discarded-tied sound is =
      let owns = bare-owns s' caller e.point (bare-after (discarded-holds h) refl refl) in
      blocks-stay g s l l caller e s' h.moves
      (record { arena = λ place. h.words (name.Arena place); units = h.words name.Units; shelf = λ k. h.words (name.Shelf k) })
      (ap pool_of h.history)
      (λ place c b d live of its.
      block-stays g s l s' l place c d ((discarded-descs h).info d) (subst IsTrue (sym (discarded-bound h d (not-its sound is place c b live of d its)))) its)
      (λ place excepts. absurd (excepts-none (s.errand caller) place (bare-before (discarded-holds h) refl refl) excepts)) owns.0 owns.1 is.tied
