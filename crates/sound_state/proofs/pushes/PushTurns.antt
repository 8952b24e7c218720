-- A won push keeps the lists, the guards, and the bounds of tags and turns.
use Rattle.std.proofs.Common.{ℕ, Bool, ◌≡◌, ◌<◌, ◌≤◌, ◌+◌, refl, arith, ap, sym, subst, inl, inr, ◌∙◌, ◌&&◌, ◌==◌}
use Rattle.std.proofs.lemmas.Bool.{cases_eq}
use Rattle.sound_state.proofs.Common.{Geometry, frame_of, frame_of-block_place, AnchorFields, is_empty, Site, descriptor_count, ErrandFields, State, IsGuarded, IsGuard}
use Rattle.sound_state.proofs.Common.{IsHazard, holds_of, Lists, IsListed, IsSoundWith, sum_below, anchor_for, away_of, IsTurned, emptied_out, if_stored}
use Rattle.word_table.specs.declared.name.WordName.TheVariants as name
use Rattle.sound_state.proofs.pushes.PushEffects.{Outcome, IsOutcome, Pushes, pushed_anchor, pushed_holds, pushed_place}
use Rattle.sound_state.proofs.pushes.PushFacts.{pushed-anchor, pushed-away}
use Rattle.sound_state.proofs.shared.GuardEffects.{guarded-after}
use Rattle.sound_state.proofs.shared.ListEffects.{IsListWord, listed-kept}
use Rattle.sound_state.proofs.shared.SumLemmas.{sum-change}
use Rattle.sound_state.proofs.shared.TurnEffects.{small-free-event, head-tag, no-turn-weighs, one_if-most, turned-after, counts-kept}

-- the caller's hazard word is as it was after its push, and guards what it did
hazard-goes :
    (out : Outcome) (at : Site) (stored : Bool) (a : AnchorFields) (w : ℕ) → IsOutcome out at.seat.class stored a
    → IsHazard (if_stored stored at.desc) w → IsHazard (pushed_holds out at stored).hazard w
hazard-goes out at stored a w is word = grind (arith, is, word)

guard-goes :
    (out : Outcome) (at : Site) (stored : Bool) (a : AnchorFields) → IsOutcome out at.seat.class stored a
    → IsGuard (pushed_holds out at stored).hazard → IsGuard (if_stored stored at.desc)
guard-goes out at stored a is guard = grind (arith, is, guard)

anchor-keeps_tag : (out : Outcome) (i : ℕ) (a : AnchorFields) → (pushed_anchor out i a).tag ≡ a.tag
anchor-keeps_tag out i a = grind (arith)

module _
    {g : Geometry} {s : State} {l : Lists} {caller : ℕ} {at : Site} {i : ℕ} {stored : Bool} {a : AnchorFields} {out : Outcome} {e : ErrandFields}
    {s' : State} (h : Pushes g s l caller at i stored a out e s') where
  pub pushed-listed : IsSoundWith g s l → IsListed g s'.word l
  pushed-listed old = listed-kept g s.word s'.word l (λ n is. h.elsewhere n (λ same. subst IsListWord same is)) old.listed

  pub pushed-guarded : IsSoundWith g s l → IsGuarded g s'
  pushed-guarded old =
      let is_before : (holds_of (s.errand caller).point).hazard ≡ if_stored stored at.desc = ap (λ x. x.hazard) h.holds_before in
      let is_after : (holds_of e.point).hazard ≡ (pushed_holds out at stored).hazard = ap (λ x. x.hazard) h.holds_after in
      guarded-after g s caller e s'
      (record {
        in_heap = h.in_heap;
        moves = h.moves;
        words = λ k. h.elsewhere (name.Hazard k) (λ same. cc);
        hazard = λ w was.
            subst (λ x. IsHazard x w) (sym is_after) (hazard-goes out at stored a w h.goes (subst (λ x. IsHazard x w) is_before was));
        guard = λ guard. subst IsGuard (sym is_before) (guard-goes out at stored a h.goes (subst IsGuard is_after guard));
        pushed = h.stands_after.quiet.pushed;
        passed = h.stands_after.quiet.passed;
        unread = h.stands_after.quiet.unread;
        spare = h.stands_after.quiet.spare;
      })
      old.guarded

  -- the tags of anchors stay at a won push
  pub pushed-tag : (d : ℕ) → (anchor_for s' d).tag ≡ (anchor_for s d).tag
  pushed-tag d =
      elim (cases_eq d at.desc) [
        | inl same ↦
            subst (λ k. (anchor_for s' k).tag ≡ (anchor_for s k).tag) (sym same)
            (ap (λ x. x.tag) h.after ∙ anchor-keeps_tag out i a ∙ sym (ap (λ x. x.tag) h.before))
        | inr ne ↦ ap (λ x. x.tag) (pushed-anchor h d ne)
      ]

  -- at most one superblock more is EMPTY after a won push
  pushed-emptied : sum_below (descriptor_count g) (emptied_out g s' l) ≤ sum_below (descriptor_count g) (emptied_out g s l) + 1
  pushed-emptied =
      let changed =
      sum-change (descriptor_count g) (emptied_out g s l) (emptied_out g s' l) at.desc h.site.desc
      (λ d lt ne. rw (pushed-away h d, pushed-anchor h d ne) refl) in
      omega (arith, changed, one_if-most ((away_of g s' l at.desc == 0) && is_empty (anchor_for s' at.desc).state))

  pub pushed-turned : IsSoundWith g s l → IsTurned g s' l
  pushed-turned old =
      let turned = old.turned in
      let before = no-turn-weighs (s.errand caller) h.stands_before.stage in
      let after = no-turn-weighs e h.stands_after.stage in
      let within : frame_of (pushed_place at i) < g.frames =
      subst (λ f. f < g.frames) (sym (frame_of-block_place at.frame at.seat.class i h.index)) h.site.frame in
      let events = small-free-event g caller (pushed_place at i) s.history s'.history within h.history in
      turned-after g s l caller e s' l 0 1
      (record {
        in_heap = h.in_heap;
        moves = h.moves;
        events = events;
        counts = counts-kept turned h.in_heap events h.own before after refl (omega arith);
        anchor_tags = λ d has. omega (arith, pushed-tag d);
        frame_turns = omega (arith, head-tag (h.elsewhere name.FrameHead (λ same. cc)), after.unframed, h.own.turns);
        emptied = omega (arith, pushed-emptied, h.own.cleared);
        list_turns = λ class has.
            omega (arith, head-tag (h.elsewhere (name.ListHead class) (λ same. cc)), h.stands_after.pops, after.unlisted, h.own.turns, h.own.cleared);
      })
      turned
