-- A lost install keeps the lists, the descriptors, the stock, the frames, the chains, the guards and the bounds of tags and turns.
use Rattle.std.proofs.Common.{ℕ, ◌≡◌, ◌≢◌, refl, arith, ap, sym, subst, inl, inr, ◌∙◌, All, IsTrue}
use Rattle.std.proofs.Math.Path.{fun_ext}
use Rattle.sound_state.proofs.Common.{Geometry, Site, ErrandFields, State, IsFramed, fills_frame, IsGuarded, on_its_way, IsKept, IsWithout, full_keeps, word_keeps, Lists}
use Rattle.sound_state.proofs.Common.{IsListed, IsSoundWith, word_stock, AreChained, superblock_of, is_bound, away_of, waiting_of, IsTurned, emptied_out, IsStocked}
use Rattle.sound_state.proofs.Common.{turn_unlisted, pool_of}
use Rattle.word_table.specs.declared.name.WordName.TheVariants as name
use Rattle.errand_steps.specs.tables.TurnStage.{not_needed}
use Rattle.sound_state.proofs.discards.DiscardEffects.{Discards}
use Rattle.sound_state.proofs.discards.DiscardFacts.{discarded-holds, discarded-still, discarded-descs, discarded-away, discarded-waits, discarded-bound, discarded-unbound}
use Rattle.sound_state.proofs.discards.DiscardFacts.{discarded-was, discarded-reserved, discarded-waited}
use Rattle.sound_state.proofs.shared.FrameLemmas.{waiting-fills}
use Rattle.sound_state.proofs.shared.SuperblockEffects.{of-each, infos-stay, live-stays, superblock-stays, same-chained}
use Rattle.sound_state.proofs.shared.GuardEffects.{guarded-clear}
use Rattle.sound_state.proofs.shared.SumLemmas.{words-same}
use Rattle.sound_state.proofs.shared.TurnEffects.{emptied-kept, head-tag, no-event, stage-weighs, turned-after, framed-weighs}
use Rattle.sound_state.proofs.shared.HoldingEffects.{places-go, stock-goes, framed-after}
use Rattle.sound_state.proofs.shared.MakingWeights.{it-elsewhere, making-places, making-stock}
use Rattle.sound_state.proofs.shared.SuperblocksStay.{actives-same, descs-kept, AreKept, keeps-one}
use Rattle.sound_state.proofs.shared.WeighLemmas.{full-same}

module _ {g : Geometry} {s : State} {l : Lists} {caller : ℕ} {at : Site} {e : ErrandFields} {s' : State} (h : Discards g s l caller at e s') where
  words-all : s'.word ≡ s.word
  words-all = fun_ext h.words

  pub discarded-listed : IsSoundWith g s l → IsListed g s'.word l
  discarded-listed old = subst (λ w. IsListed g w l) (sym words-all) old.listed

  pub discarded-kept : IsSoundWith g s l → IsKept g s' l
  discarded-kept old =
      let same = discarded-descs h in
      descs-kept g s caller e s' l l
      (record {
        moves = h.moves;
        descs = same;
        places = λ d.
            omega (
              arith,
              places-go (discarded-holds h) d,
              making-places at d,
              words-same g (word_keeps d) s.word s'.word h.words,
              ap (λ x. full_keeps x.state) (same.anchor d),
            );
        actives = actives-same g s l s'.word old.kept (λ heap class. h.words (name.Active heap class)) (λ heap class. h.words (name.Slot heap class));
        listed = old.kept.listed;
        available = old.kept.available;
        retired = subst (All (IsWithout s)) (sym h.retired) (old.kept.retired caller h.in_heap);
        own =
            subst (λ x. AreKept s x.kept) (sym h.holds_after) (keeps-one s at.desc at.seat.class on_its_way (inl (ap (λ x. x.state) h.anchor)));
      })
      old.kept

  pub discarded-stocked : IsSoundWith g s l → IsStocked g s' l
  discarded-stocked old = record {
    most = λ class has.
        omega (
          arith,
          old.stocked.most class has,
          full-same g s s' class (λ d. h.words (name.Anchor d)) (λ d. h.words (name.Info d)),
          stock-goes (discarded-holds h) class (h.stands_before.waits class) (h.stands_after.quiet.waits class),
          words-same g (word_stock class) s.word s'.word h.words,
          making-stock at class,
        );
  }

  discarded-others-wait : (d : ℕ) → d ≢ at.desc → waiting_of g s' d ≡ waiting_of g s d
  discarded-others-wait d differ = omega (arith, discarded-waits h d, it-elsewhere at d differ)

  -- each frame stays in one place at a lost install: that of the superblock stays in the caller's hand
  pub discarded-framed : IsSoundWith g s l → IsFramed g s' l
  discarded-framed old =
      let same = discarded-descs h in
      framed-after (discarded-holds h) l
      (λ f.
      let now : fills_frame g s' l f at.desc ≡ 0 = rw (discarded-unbound h) refl in
      let was : fills_frame g s l f at.desc ≡ 0 = waiting-fills g s l at.desc f (discarded-waited h old) in
      of-each (λ k. fills_frame g s' l f k ≡ fills_frame g s l f k) at.desc (now ∙ sym was)
      (λ d differ. rw (discarded-bound h d differ, discarded-others-wait d differ, same.info d) refl))
      (λ f. refl) old.framed

  -- all superblocks that are left after a lost install keep their blocks in order
  pub discarded-chained : IsSoundWith g s l → AreChained g s' l
  discarded-chained old =
      let still = discarded-still h in
      record {
        infos = infos-stay still g l old.chained;
        chained = λ d has bound.
            let differ : d ≢ at.desc = discarded-was h d bound in
            let was : IsTrue (is_bound g s l d) = subst IsTrue (discarded-bound h d differ) bound in
            let anchor = (discarded-descs h).anchor d in
            same-chained (superblock_of g s d) (superblock_of g s' d) (old.chained.chained d has was)
            (superblock-stays still g d anchor (discarded-reserved h d differ) (discarded-others-wait d differ))
            (λ i lt. ap (λ f. f i) (live-stays still g (ap pool_of h.history) d));
      }

  pub discarded-guarded : IsSoundWith g s l → IsGuarded g s'
  discarded-guarded old =
      guarded-clear g s caller e s' h.in_heap h.moves (λ i. h.words (name.Hazard i)) (ap (λ x. x.hazard) h.holds_before)
      (ap (λ x. x.hazard) h.holds_after)
      h.stands_after.quiet old.guarded

  pub discarded-turned : IsSoundWith g s l → IsTurned g s' l
  discarded-turned old =
      let turned = old.turned in
      let same = discarded-descs h in
      let p = h.stands_before in
      let q = h.stands_after in
      let before = framed-weighs (s.errand caller) p in
      let after = stage-weighs not_needed e q.stage refl in
      let unlisted : turn_unlisted (s.errand caller) ≡ 1 = rw p.stage refl in
      let events = no-event g caller s.history s'.history h.history in
      let now : emptied_out g s' l at.desc ≡ 0 = rw (same.anchor at.desc, h.anchor) (grind (arith)) in
      let was : emptied_out g s l at.desc ≡ 0 = rw h.anchor (grind (arith)) in
      let emptied_same =
      emptied-kept g s l s' l
      (of-each (λ k. emptied_out g s' l k ≡ emptied_out g s l k) at.desc (now ∙ sym was)
      (λ d differ.
      let away : away_of g s' l d ≡ away_of g s l d = omega (arith, discarded-away h d, it-elsewhere at d differ) in
      rw (away, same.anchor d) refl)) in
      turned-after g s l caller e s' l 0 0
      (record {
        in_heap = h.in_heap;
        moves = h.moves;
        events = events;
        counts = record {
          turns = omega (arith, turned.own_turns caller h.in_heap, events.gives, before.under_way, after.under_way, h.turns);
          lost =
              elim h.lost [
                | inl more ↦
                    omega (
                      arith,
                      turned.own_lost caller h.in_heap,
                      events.gives,
                      events.refuses caller,
                      before.unanswered,
                      after.discards,
                      after.unanswered,
                      h.turns,
                      more,
                    )
                | inr turns_most ↦ omega (arith, after.discards, after.unanswered, turns_most)
              ];
          answers =
              omega (arith, turned.own_answers caller h.in_heap, events.gives, events.refuses caller, before.unanswered, after.unanswered, h.turns);
        };
        anchor_tags = λ d has. omega (arith, ap (λ x. x.tag) (same.anchor d));
        frame_turns = omega (arith, head-tag (h.words name.FrameHead), after.unframed, h.turns);
        emptied = omega (arith, emptied_same, h.cleared);
        list_turns = λ class has.
            omega (arith, head-tag (h.words (name.ListHead class)), q.pops, unlisted, after.unlisted, h.turns, h.cleared);
      })
      turned
