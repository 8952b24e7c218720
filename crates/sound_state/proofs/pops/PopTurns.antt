-- A won pop keeps the lists, the guards, and the bounds of tags and turns.
use Rattle.std.proofs.Common.{ℕ, true, false, ◌≡◌, ◌≤◌, ◌+◌, refl, arith, ap, sym, subst, inl, inr, ◌∙◌}
use Rattle.std.proofs.lemmas.Bool.{cases_eq}
use Rattle.sound_state.proofs.Common.{Geometry, AnchorFields, Site, Share, ErrandFields, State, IsGuarded, holds_before_pop, holds_of, Lists, IsListed}
use Rattle.sound_state.proofs.Common.{IsSoundWithoutCounts, IsSoundWith, anchor_for, IsTurned, more_of, clear}
use Rattle.word_table.specs.declared.name.WordName.TheVariants as name
use Rattle.sound_state.proofs.pops.PopEffects.{Pops, popped_holds, popped_place}
use Rattle.sound_state.proofs.pops.PopFacts.{popped-anchor, popped-empty, popped-away}
use Rattle.sound_state.proofs.shared.GuardEffects.{guarded-clear}
use Rattle.sound_state.proofs.shared.ListEffects.{IsListWord, listed-kept}
use Rattle.sound_state.proofs.shared.TurnEffects.{alloc-event, emptied-kept, head-tag, turned-after, small-served, stands-weighs, counts-kept}

-- the hazard word of a caller that pops is to be 0 before and after
before-clear : (d class : ℕ) (share : Share) → (holds_before_pop d class share).hazard ≡ clear
before-clear d class share = grind (arith)

after-clear : (at : Site) (i more : ℕ) → (popped_holds at i more).hazard ≡ clear
after-clear at i more = grind (arith)

module _
    {g : Geometry} {s : State} {l : Lists} {caller : ℕ} {at : Site} {share : Share} {a : AnchorFields} {link words : ℕ} {e : ErrandFields}
    {s' : State} (h : Pops g s l caller at share a link words e s') where
  pub popped-listed : IsSoundWith g s l → IsListed g s'.word l
  popped-listed old = listed-kept g s.word s'.word l (λ n is. h.elsewhere n (λ same. subst IsListWord same is)) old.listed

  pub popped-guarded : IsSoundWith g s l → IsGuarded g s'
  popped-guarded old =
      let was_clear : (holds_of (s.errand caller).point).hazard ≡ clear =
      ap (λ x. x.hazard) h.holds_before ∙ before-clear at.desc at.seat.class share in
      let is_clear : (holds_of e.point).hazard ≡ clear = ap (λ x. x.hazard) h.holds_after ∙ after-clear at a.avail (more_of share a) in
      guarded-clear g s caller e s' h.in_heap h.moves (λ i. h.elsewhere (name.Hazard i) (λ same. cc)) was_clear is_clear h.stands_after.quiet
      old.guarded

  -- the tags of anchors rise by one at most at a won pop
  popped-tags : (d : ℕ) → (anchor_for s' d).tag ≤ (anchor_for s d).tag + 1
  popped-tags d =
      elim (cases_eq d at.desc) [
        | inl same ↦
            subst (λ k. (anchor_for s' k).tag ≤ (anchor_for s k).tag + 1) (sym same)
            (omega (arith, ap (λ x. x.tag) h.before, ap (λ x. x.tag) h.after))
        | inr ne ↦ omega (arith, ap (λ x. x.tag) (popped-anchor h d ne))
      ]

  pub popped-turned : IsSoundWithoutCounts g s → IsSoundWith g s l → IsTurned g s' l
  popped-turned sound old =
      let turned = old.turned in
      let before = stands-weighs true (s.errand caller) h.stands_before in
      let after = stands-weighs false e h.stands_after in
      let events =
      alloc-event g caller words (popped_place at a) s.history s'.history (small-served words at.seat.class h.small) h.history in
      let emptied_same =
      emptied-kept g s l s' l
      (λ d. rw (popped-away h d, popped-empty h d) refl) in
      turned-after g s l caller e s' l 1 0
      (record {
        in_heap = h.in_heap;
        moves = h.moves;
        events = events;
        counts = counts-kept turned h.in_heap events h.own before after refl (omega arith);
        anchor_tags = λ d has. popped-tags d;
        frame_turns = omega (arith, head-tag (h.elsewhere name.FrameHead (λ same. cc)), before.unframed, after.unframed, h.own.turns);
        emptied = omega (arith, emptied_same, h.own.cleared);
        list_turns = λ class has.
            omega (arith, head-tag (h.elsewhere (name.ListHead class) (λ same. cc)), h.stands_after.pops, after.unlisted, h.own.turns, h.own.cleared);
      })
      turned
