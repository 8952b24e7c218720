-- A won install keeps the lists, the guards, and the bounds of tags and turns.
use Rattle.std.proofs.Common.{ℕ, false, refl, arith, ap, subst}
use Rattle.sound_state.proofs.Common.{Geometry, Site, ErrandFields, State, IsGuarded, Lists, IsListed, IsSoundWithoutCounts, IsSoundWith, IsTurned}
use Rattle.word_table.specs.declared.name.WordName.TheVariants as name
use Rattle.sound_state.proofs.installs.InstallEffects.{Installs, first_place}
use Rattle.sound_state.proofs.installs.InstallFacts.{installed-anchor, installed-away}
use Rattle.sound_state.proofs.shared.GuardEffects.{guarded-clear}
use Rattle.sound_state.proofs.shared.ListEffects.{IsListWord, listed-kept}
use Rattle.sound_state.proofs.shared.TurnEffects.{alloc-event, emptied-kept, head-tag, turned-after, small-served, stands-weighs, framed-weighs, counts-kept}

module _
    {g : Geometry} {s : State} {l : Lists} {caller : ℕ} {at : Site} {words : ℕ} {e : ErrandFields} {s' : State}
    (h : Installs g s l caller at words e s') where
  pub installed-listed : IsSoundWith g s l → IsListed g s'.word l
  installed-listed old = listed-kept g s.word s'.word l (λ n is. h.writes.elsewhere n (λ same. subst IsListWord same is)) old.listed

  pub installed-guarded : IsSoundWith g s l → IsGuarded g s'
  installed-guarded old =
      guarded-clear g s caller e s' h.in_heap h.moves (λ i. h.writes.elsewhere (name.Hazard i) (λ same. cc)) (ap (λ x. x.hazard) h.holds_before)
      (ap (λ x. x.hazard) h.holds_after) h.stands_after.quiet old.guarded

  pub installed-turned : IsSoundWithoutCounts g s → IsSoundWith g s l → IsTurned g s' l
  installed-turned sound old =
      let turned = old.turned in
      let before = framed-weighs (s.errand caller) h.stands_before in
      let after = stands-weighs false e h.stands_after in
      let events = alloc-event g caller words (first_place at) s.history s'.history (small-served words at.seat.class h.small) h.history in
      let emptied_same =
      emptied-kept g s l s' l (λ d. rw (installed-away h d, installed-anchor h d) refl) in
      turned-after g s l caller e s' l 1 0
      (record {
        in_heap = h.in_heap;
        moves = h.moves;
        events = events;
        counts = counts-kept turned h.in_heap events h.own before after refl (omega arith);
        anchor_tags = λ d has. omega (arith, ap (λ x. x.tag) (installed-anchor h d));
        frame_turns = omega (arith, head-tag (h.writes.elsewhere name.FrameHead (λ same. cc)), before.unframed, after.unframed, h.own.turns);
        emptied = omega (arith, emptied_same, h.own.cleared);
        list_turns = λ class has.
            omega (arith, head-tag (h.writes.elsewhere (name.ListHead class) (λ same. cc)), h.stands_after.pops, after.unlisted, h.own.turns, h.own.cleared);
      })
      turned
