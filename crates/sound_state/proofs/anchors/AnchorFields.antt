-- The store of a new superblock's anchor keeps the chains, the frames, the places of descriptors, the lists and what is remembered.
use Rattle.std.proofs.Common.{ℕ, Bool, ◌≡◌, ◌≢◌, ◌<◌, refl, arith, ap, sym, subst, inl, inr, ◌∙◌, ◌==◌, ◌&&◌, if◌then◌else◌, IsTrue}
use Rattle.std.proofs.Math.Path.{fun_ext}
use Rattle.std.proofs.lemmas.Bool.{cases_eq}
use Rattle.sound_state.proofs.Common.{Geometry, block_count_of, block_place, Site, link_in, ErrandFields, State, IsFramed, fills_frame, Lists, IsListed, IsLocated}
use Rattle.sound_state.proofs.Common.{IsSoundWith, AreChained, IsChained, info_for, is_bound, live_at, superblock_of, waiting_of, AreMade, pool_of}
use Rattle.sound_state.proofs.anchors.AnchorFacts.{Anchors, anchored-holds, anchored-write, anchored-anchor, anchored-here, anchored-waits, anchored-bound}
use Rattle.sound_state.proofs.anchors.AnchorFacts.{anchored-reserved, anchored-credits, anchored-none, anchored-free}
use Rattle.sound_state.proofs.shared.FrameLemmas.{waiting-fills}
use Rattle.sound_state.proofs.shared.HoldingEffects.{framed-after}
use Rattle.sound_state.proofs.shared.MakingWeights.{it-here, it-elsewhere}
use Rattle.sound_state.proofs.shared.SuperblockEffects.{of-each, LieStill, anchor-still, info-stays, infos-stay, next-stays, size-stays, live-stays, located-live}
use Rattle.sound_state.proofs.anchors.NewSuperblocks.{new_superblock, new-chained}
use Rattle.sound_state.proofs.shared.ListEffects.{IsListWord, listed-kept}
use Rattle.sound_state.proofs.shared.SuperblocksStay.{same-superblock}

-- what isn't bound fills no frame
unbound-fill : (b : Bool) (n x f : ℕ) → (IsTrue b → ⊥) → ◌≡◌ {A = ℕ} (if b && (n == 0) && (x == f) then 1 else 0) 0
unbound-fill b n x f none = grind (arith, none)

module _ {g : Geometry} {s : State} {l : Lists} {caller : ℕ} {at : Site} {e : ErrandFields} {s' : State} (h : Anchors g s l caller at e s') where
  anchored-lie : LieStill s s'
  anchored-lie = anchor-still (anchored-write h)

  anchored-others-wait : (d : ℕ) → d ≢ at.desc → waiting_of g s' d ≡ waiting_of g s d
  anchored-others-wait d differ = omega (arith, anchored-waits h d, it-elsewhere at d differ)

  -- all superblocks but the new one stay
  pub anchored-superblock : (d : ℕ) → d ≢ at.desc → superblock_of g s' d ≡ superblock_of g s d
  anchored-superblock d differ =
      same-superblock _ _ _ _ _ _ _ _ _ _ _ _ (anchored-anchor h d differ) (anchored-reserved h d differ)
      (anchored-others-wait d differ) (next-stays anchored-lie g d) (live-stays anchored-lie g (ap pool_of h.history) d) (size-stays anchored-lie g d)

  -- the new superblock is as it was made
  pub anchored-new :
      IsSoundWith g s l → IsLocated s at.desc at.frame at.seat.class → superblock_of g s' at.desc ≡ new_superblock s at.frame at.seat.class
  anchored-new old lies =
      let d = at.desc in
      let none = anchored-none h old in
      let next =
      next-stays anchored-lie g d ∙ ap (λ x. link_in s.word x (info_for s d).class) lies.frame ∙ ap (λ x. link_in s.word at.frame x) lies.class in
      same-superblock _ _ _ _ _ _ _ _ _ _ _ _ (anchored-here h)
      (omega (arith, anchored-credits h, none.0)) (omega (arith, anchored-waits h d, it-here at, none.1)) next
      (live-stays anchored-lie g (ap pool_of h.history) d ∙ fun_ext (located-live g s d at.frame at.seat.class lies))
      (size-stays anchored-lie g d ∙ ap block_count_of lies.class)

  -- the chains of bound superblocks are in order after the store of an anchor
  pub anchored-chained :
      IsSoundWith g s l → IsLocated s at.desc at.frame at.seat.class → AreMade s at.frame at.seat.class (block_count_of at.seat.class)
      → ((i : ℕ) → i < block_count_of at.seat.class → live_at s (block_place at.frame at.seat.class i) ≡ 0) → AreChained g s' l
  anchored-chained old lies links_made unlive = record {
    infos = infos-stay anchored-lie g l old.chained;
    chained = λ d has bound.
        elim (cases_eq d at.desc) [
          | inl is ↦
              subst (λ k. IsChained (superblock_of g s' k)) (sym is)
              (subst IsChained (sym (anchored-new old lies))
              (new-chained s at.frame at.seat.class h.site.seat.class links_made unlive))
          | inr differ ↦
              subst IsChained (sym (anchored-superblock d differ))
              (old.chained.chained d has (subst IsTrue (anchored-bound h d differ) bound))
        ];
  }

  -- the new superblock waits and fills no frame, which stays in the caller's hand
  pub anchored-framed : IsSoundWith g s l → IsFramed g s' l
  anchored-framed old =
      framed-after (anchored-holds h) l
      (λ f.
      let waits : waiting_of g s' at.desc ≡ 1 =
      omega (arith, anchored-waits h at.desc, it-here at, (anchored-none h old).1) in
      let before : fills_frame g s l f at.desc ≡ 0 =
      unbound-fill (is_bound g s l at.desc) (waiting_of g s at.desc) (info_for s at.desc).frame f (anchored-free h old).bound in
      of-each (λ k. fills_frame g s' l f k ≡ fills_frame g s l f k) at.desc (waiting-fills g s' l at.desc f waits ∙ sym before)
      (λ d differ. rw (anchored-bound h d differ, anchored-others-wait d differ, info-stays anchored-lie d) refl))
      (λ f. refl) old.framed

  pub anchored-listed : IsSoundWith g s l → IsListed g s'.word l
  anchored-listed old =
      listed-kept g s.word s'.word l (λ n is. h.writes.elsewhere n (λ same. subst IsListWord same is)) old.listed
