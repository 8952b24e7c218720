-- After a won push the words still show the pool of the events, and the events are legal.
use Rattle.std.proofs.Common.{ℕ, Bool, true, ◌≡◌, ◌≢◌, ◌<◌, [], arith, ap, sym, subst, inl, inr, ◌∙◌, Any, IsTrue}
use Rattle.std.proofs.lemmas.Bool.{cases_eq}
use Rattle.sound_state.proofs.Common.{Geometry, Need, Small, block_count_of, frame_of, AnchorFields, Site, IsLegalWithoutCounts, ErrandFields, State, Holding, Lists}
use Rattle.sound_state.proofs.Common.{IsLocated, IsOwned, IsSoundWithoutCounts, IsSoundWith, superblock_of, is_bound, is_there, live_at, IsTied, IsLive, Caller}
use Rattle.sound_state.proofs.Common.{IsLegalEventWithoutCounts, EachAfter-push, Freed}
use Rattle.pool_model.specs.declared.event.Event.TheVariants.{Free as Frees}
use Rattle.pool_model.specs.Pool.{Block}
use Rattle.sound_state.proofs.pushes.PushChains.{was-place}
use Rattle.sound_state.proofs.pushes.PushEffects.{Outcome, stays, unfills, empties, Pushes, pushed_holds, pushed_place}
use Rattle.sound_state.proofs.pushes.PushFacts.{pushed-info, pushed-bound, pushed-bound-here, pushed-gone, pushed-there, pushed-bare, pushed-holds, pushed-write}
use Rattle.sound_state.proofs.shared.ListFacts.{any-none, any-one}
use Rattle.sound_state.proofs.shared.TieLemmas.{bare-owns, not-live, one-live, owned-stays, small-but, small-lies, Excepts, block-stays}
use Rattle.sound_state.proofs.shared.SuperblockEffects.{anchor-ties}
use Rattle.sound_state.proofs.shared.HoldingEffects.{bare-after}

module _
    {g : Geometry} {s : State} {l : Lists} {caller : ℕ} {at : Site} {i : ℕ} {stored : Bool} {a : AnchorFields} {e : ErrandFields} {s' : State} where
  -- no other block of a superblock that a push makes EMPTY is live
  no-other-live :
      Pushes g s l caller at i stored a empties e s' → IsSoundWithoutCounts g s → IsSoundWith g s l → (place class : ℕ) (b : Block) → IsLive s place b
      → b.need ≡ Small class → IsLocated s at.desc (frame_of place) class → place ≢ pushed_place at i → ⊥
  no-other-live h sound old place class b live of located differ =
      let lies =
      small-lies g s place class at.frame at.seat.class b sound live of (sym located.frame ∙ h.located.frame) (sym located.class ∙ h.located.class) in
      let apart : lies.0 ≢ i = λ is. differ (lies.2 ∙ ap (pushed_place at) is) in
      let within : lies.0 < (superblock_of g s at.desc).size = subst (λ c. lies.0 < block_count_of c) (sym h.located.class) lies.1 in
      let there : (superblock_of g s at.desc).live lies.0 ≡ 1 =
      was-place h lies.0 ∙ ap (live_at s) (sym lies.2) ∙ ap is_there live in
      let none = (pushed-bare h old).others lies.0 within apart in
      let bad : ⊥ = omega (arith, there, none) in bad

  -- the superblock of a live block is bound after a push
  its-bound :
      (out : Outcome) → Pushes g s l caller at i stored a out e s' → IsSoundWithoutCounts g s → IsSoundWith g s l → (place class : ℕ) (b : Block)
      → IsLive s place b → b.need ≡ Small class → IsLocated s at.desc (frame_of place) class → place ≢ pushed_place at i → IsTrue (is_bound g s' l at.desc)
  its-bound stays h sound old place class b live of located ne = pushed-bound-here h
  its-bound unfills h sound old place class b live of located ne = pushed-bound-here h
  its-bound empties h sound old place class b live of located ne = absurd (no-other-live h sound old place class b live of located ne)

-- a caller hands out and frees nothing after its push
pushed-hands : (out : Outcome) (at : Site) (stored : Bool) → (pushed_holds out at stored).hands ≡ []
pushed-hands out at stored = grind (arith)

pushed-frees : (out : Outcome) (at : Site) (stored : Bool) → (pushed_holds out at stored).frees ≡ []
pushed-frees out at stored = grind (arith)

module _
    {g : Geometry} {s : State} {l : Lists} {caller : ℕ} {at : Site} {i : ℕ} {stored : Bool} {a : AnchorFields} {out : Outcome} {e : ErrandFields}
    {s' : State} (h : Pushes g s l caller at i stored a out e s') where
  -- the event of a won push is legal: its caller owned the freed block
  pub pushed-legal : IsSoundWithoutCounts g s → IsLegalWithoutCounts g s'.history
  pushed-legal sound =
      subst (IsLegalWithoutCounts g) (sym h.history)
      (EachAfter-push (IsLegalEventWithoutCounts g) s.history (Frees caller (pushed_place at i)) sound.legal
      (h.in_heap, (h.owned.block.0, h.owned.block.1, h.owned.block.2)))

  -- a live block at the freed place is the caller's, and small
  pub is-freed : (place : ℕ) (b : Block) → IsLive s place b → place ≡ pushed_place at i → (b.owner ≡ Caller caller) × (b.need ≡ Small at.seat.class)
  is-freed place b live same =
      let is = one-live s (pushed_place at i) place h.owned.block.0 b h.owned.block.1 same live in
      (ap (λ (x : Block). x.owner) (sym is) ∙ h.owned.block.2, ap (λ (x : Block). x.need) (sym is) ∙ h.owned.block.3)

  -- another caller's block lies elsewhere than the freed one, and is still its own
  pub owned-elsewhere : (j place : ℕ) (n : Need) → j ≢ caller → IsOwned s j place n → place ≢ pushed_place at i
  owned-elsewhere j place n ne k same =
      let mine = is-freed place k.block.0 k.block.1 same in
      let both : Caller j ≡ Caller caller = sym k.block.2 ∙ mine.0 in
      ne (cc)

  pub pushed-still-owned : (j place : ℕ) (n : Need) → j ≢ caller → IsOwned s j place n → IsOwned s' j place n
  pushed-still-owned j place n ne k =
      owned-stays s s' j place n
      (λ b live.
      pushed-there h place (owned-elsewhere j place n ne k) ∙ live) k

  -- a caller that pushes excepts no block but the freed one
  pushed-excepts : (place : ℕ) → place ≢ pushed_place at i → Excepts (s.errand caller) place → Excepts e place
  pushed-excepts place ne (inl some) =
      absurd (any-none (λ x. x.place ≡ place) (subst (Any (λ x. x.place ≡ place)) (ap (λ (o : Holding). o.hands) h.holds_before) some))
  pushed-excepts place ne (inr some) =
      let its : Freed = record { place = pushed_place at i; need = Small at.seat.class; overwritten = true } in
      let one =
      any-one (λ (x : Freed). (x.place ≡ place) × IsTrue x.overwritten) its
      (subst (Any (λ (x : Freed). (x.place ≡ place) × IsTrue x.overwritten)) (ap (λ (o : Holding). o.frees) h.holds_before) some) in
      absurd (ne (sym one.0))

  -- the words still show the pool after a won push: only the freed block changes
  pub pushed-tied : IsSoundWithoutCounts g s → IsSoundWith g s l → IsTied g s' l
  pushed-tied sound old =
      let gone = λ (place : ℕ) (b : Block) (same : place ≡ pushed_place at i) (live : IsLive s' place b).
      not-live s' (pushed_place at i) place b (pushed-gone h sound) same live in
      let owns = bare-owns s' caller e.point (bare-after (pushed-holds h) (pushed-hands out at stored) (pushed-frees out at stored)) in
      small-but g s l l caller at.seat.class (λ place. place ≡ pushed_place at i) e s'
      (record {
        moves = h.moves;
        words = anchor-ties (pushed-write h);
        either = λ place. cases_eq place (pushed_place at i);
        there = pushed-there h;
        before = λ place b same live.
            let is = is-freed place b live same in record { owner = is.0; need = is.1 };
        after = λ place b same live. absurd (gone place b same live);
        fresh = λ place k v b same live of. gone place b same live;
        small = λ place c b same live of. absurd (gone place b same live);
        bound = λ place c b d ne live of its.
            block-stays g s l s' l place c d (pushed-info h d)
            (λ was.
            elim (cases_eq d at.desc) [
              | inl same ↦
                  subst (λ k. IsTrue (is_bound g s' l k)) (sym same)
                  (its-bound out h sound old place c b live of (subst (λ k. IsLocated s k (frame_of place) c) same its.located) ne)
              | inr differ ↦ subst IsTrue (sym (pushed-bound h d differ)) was
            ]) its;
        excepts = λ place ne x. inl (pushed-excepts place ne x);
        hands = owns.0;
        frees = owns.1;
      }) old.tied
