-- A step that moves blocks between the count and what is reserved keeps the lists, the guards, the turns and the ties.
use Rattle.std.proofs.Common.{ℕ, ◌≡◌, refl, arith, ap, sym, subst, inl, ◌∙◌, IsTrue}
use Rattle.sound_state.proofs.Common.{Geometry, Need, AnchorFields, Site, block_at, pool_of, ErrandFields, State, IsGuarded, Lists, IsListed, IsOwned, IsSoundWith, IsTied}
use Rattle.sound_state.proofs.Common.{IsTurned, one_if, turn_unlisted}
use Rattle.word_table.specs.declared.name.WordName.TheVariants as name
use Rattle.sound_state.proofs.shifts.ShiftEffects.{Shifts}
use Rattle.sound_state.proofs.shifts.ShiftFacts.{shifted-info, shifted-tag, shifted-empty, shifted-away, shifted-bound, shifted-write}
use Rattle.sound_state.proofs.shared.GuardEffects.{guarded-clear}
use Rattle.sound_state.proofs.shared.ListEffects.{IsListWord, listed-kept}
use Rattle.sound_state.proofs.shared.TurnEffects.{emptied-kept, head-tag, no-event, turned-after, stands-weighs, counts-kept}
use Rattle.sound_state.proofs.shared.TieLemmas.{block-stays, blocks-stay, owned-stays}
use Rattle.sound_state.proofs.shared.SuperblockEffects.{anchor-ties}

module _
    {g : Geometry} {s : State} {l : Lists} {caller : ℕ} {at : Site} {a b : AnchorFields} {e : ErrandFields} {s' : State}
    (h : Shifts g s l caller at a b e s') where
  pub shifted-listed : IsSoundWith g s l → IsListed g s'.word l
  shifted-listed old = listed-kept g s.word s'.word l (λ n is. h.elsewhere n (λ same. subst IsListWord same is)) old.listed

  pub shifted-guarded : IsSoundWith g s l → IsGuarded g s'
  shifted-guarded old =
      guarded-clear g s caller e s' h.in_heap h.moves (λ i. h.elsewhere (name.Hazard i) (λ same. cc)) h.clear_before h.clear_after h.stands_after.quiet
      old.guarded

  pub shifted-turned : IsSoundWith g s l → IsTurned g s' l
  shifted-turned old =
      let turned = old.turned in
      let p = h.stands_before in
      let q = h.stands_after in
      let before = stands-weighs h.giving (s.errand caller) p in
      let after = stands-weighs h.giving e q in
      let unlisted : turn_unlisted e ≡ turn_unlisted (s.errand caller) = ap one_if h.partials in
      let events = no-event g caller s.history s'.history h.history in
      let emptied_same =
      emptied-kept g s l s' l (λ d. rw (shifted-away h d, shifted-empty h d) refl) in
      turned-after g s l caller e s' l 0 0
      (record {
        in_heap = h.in_heap;
        moves = h.moves;
        events = events;
        counts = counts-kept turned h.in_heap events h.own before after (omega arith) (omega arith);
        anchor_tags = λ d has. omega (arith, shifted-tag h d);
        frame_turns = omega (arith, head-tag (h.elsewhere name.FrameHead (λ same. cc)), before.unframed, after.unframed, h.own.turns);
        emptied = omega (arith, emptied_same, h.own.cleared);
        list_turns = λ class has.
            omega (arith, head-tag (h.elsewhere (name.ListHead class) (λ same. cc)), q.pops, unlisted, h.own.turns, h.own.cleared);
      })
      turned

  -- the pool stays at a shift, and so does what is owned
  pub shifted-owned : (i place : ℕ) (n : Need) → IsOwned s i place n → IsOwned s' i place n
  shifted-owned i place n = owned-stays s s' i place n (λ b live. ap (λ past. block_at place (pool_of past)) h.history ∙ live)

  -- no block changes at a shift, and the caller hands out and frees what it did
  pub shifted-tied : IsSoundWith g s l → IsTied g s' l
  shifted-tied old =
      blocks-stay g s l l caller e s' h.moves (anchor-ties (shifted-write h)) (ap pool_of h.history)
      (λ place c b d live of. block-stays g s l s' l place c d (shifted-info h d) (subst IsTrue (sym (shifted-bound h d))))
      (λ place x. inl (rw (h.hands, h.frees) x))
      (rw h.hands (λ k d lt. shifted-owned caller _ _ (old.tied.hands caller h.in_heap k d lt)))
      (rw h.frees (λ k d lt. shifted-owned caller _ _ (old.tied.frees caller h.in_heap k d lt))) old.tied
