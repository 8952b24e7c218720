-- The store of a new superblock's anchor keeps the stock of descriptors, the hazard words and the ties to the events.
use Rattle.std.proofs.Common.{ℕ, ◌≡◌, ◌≤◌, ◌+◌, refl, arith, ap, sym, subst, ◌∙◌, IsTrue}
use Rattle.sound_state.proofs.Common.{Geometry, Need, Site, block_at, pool_of, ErrandFields, State, IsGuarded, Lists, IsOwned, IsSoundWith, waits_in, IsTied, IsStocked}
use Rattle.word_table.specs.declared.name.WordName.TheVariants as name
use Rattle.errand_steps.specs.tables.Blocks.{block_turn_stage}
use Rattle.errand_steps.specs.tables.TurnStage.{frame_taken}
use Rattle.sound_state.proofs.anchors.AnchorFacts.{Anchors, MakesAnchor, anchored-holds, anchored-write, anchored-info, anchored-bound, anchored-free}
use Rattle.sound_state.proofs.shared.GuardEffects.{guarded-clear}
use Rattle.sound_state.proofs.shared.SuperblockEffects.{anchor-ties, of-each}
use Rattle.sound_state.proofs.shared.HoldingEffects.{bare-before, bare-after}
use Rattle.sound_state.proofs.shared.MakingWeights.{making-stock, it-elsewhere, it-here}
use Rattle.sound_state.proofs.shared.TieLemmas.{bare-owns, block-stays, blocks-stay, excepts-none, owned-stays}
use Rattle.sound_state.proofs.shared.TurnEffects.{IsQuiet, TurnWeighs, counts-kept, emptied-kept, head-tag, no-event, stage-weighs, turned-after}
use Rattle.sound_state.proofs.shared.KeptLemmas.{moved-stocked}
use Rattle.sound_state.proofs.anchors.AnchorKept.{anchors-move}
use Rattle.sound_state.proofs.shared.RecallTables.{bound-differs}
use Rattle.sound_state.proofs.anchors.AnchorFacts.{anchored-anchor, anchored-away, anchored-here, anchored-home}
use Rattle.sound_state.proofs.Common.{Block, BlockPoint, Continuation, IsTurned, anchor_for, away_of, emptied_out, errand_pops, lacks_partial, one_if}
use Rattle.sound_state.proofs.Common.{pops_left, turn_stage_of, turn_unlisted}

-- the store of a new superblock's anchor leaves as many descriptors out as may be
pub anchored-stocked :
    {g : Geometry} {s : State} {l : Lists} {caller : ℕ} {at : Site} {o : Continuation} {e : ErrandFields} {s' : State}
    → MakesAnchor g s l caller at o e s' → IsSoundWith g s l → IsStocked g s' l
anchored-stocked {g} {s} {l} {caller} {at} {o} {e} {s'} m old =
    let h = m.anchors in
    moved-stocked (anchors-move h old) (λ class. rw (anchored-free h old).full (grind (arith, making-stock at class)))
    (λ class. ap (waits_in class) m.here) (λ class. ap (waits_in class) m.after) old.stocked

pub anchored-guarded :
    {g : Geometry} {s : State} {l : Lists} {caller : ℕ} {at : Site} {o : Continuation} {e : ErrandFields} {s' : State}
    → MakesAnchor g s l caller at o e s' → IsSoundWith g s l → IsGuarded g s'
anchored-guarded {g} {s} {l} {caller} {at} {o} {e} {s'} m old =
    let h = m.anchors in
    let quiet : IsQuiet e.point = grind (arith, m.after) in
    guarded-clear g s caller e s' h.in_heap h.moves (λ i. h.writes.elsewhere (name.Hazard i) (λ is. cc)) (ap (λ x. x.hazard) h.holds_before)
    (ap (λ x. x.hazard) h.holds_after) quiet old.guarded

-- a caller that makes a superblock is in a turn
making-weighs : (e : ErrandFields) (b : BlockPoint) (o : Continuation) → e.point ≡ Block b o → block_turn_stage b ≡ frame_taken → TurnWeighs e 1 0 0
making-weighs e b o stands is = stage-weighs frame_taken e (ap turn_stage_of stands ∙ is) refl

-- the store of a new superblock's anchor keeps the bounds of tags and turns
pub anchored-turned :
    {g : Geometry} {s : State} {l : Lists} {caller : ℕ} {at : Site} {o : Continuation} {e : ErrandFields} {s' : State}
    → MakesAnchor g s l caller at o e s' → IsSoundWith g s l → IsTurned g s' l
anchored-turned {g} {s} {l} {caller} {at} {o} {e} {s'} m old =
    let h = m.anchors in
    let own = m.own in
    let turned = old.turned in
    let p = making-weighs (s.errand caller) _ o m.here refl in
    let q = making-weighs e _ o m.after refl in
    let unlisted : turn_unlisted (s.errand caller) ≡ 1 = ap (λ p. one_if (lacks_partial (turn_stage_of p))) m.here in
    let pops : errand_pops e ≡ 0 = ap pops_left m.after in
    let events = no-event g caller s.history s'.history h.history in
    let home = anchored-home h old in
    let one : away_of g s l at.desc ≡ 1 = omega (arith, anchored-away h at.desc, home, it-here at) in
    let out_0 : emptied_out g s l at.desc ≡ 0 = rw one refl in
    let out_1 : emptied_out g s' l at.desc ≡ 0 = rw (home, anchored-here h) refl in
    let emptied_same =
    emptied-kept g s l s' l
    (of-each (λ k. emptied_out g s' l k ≡ emptied_out g s l k) at.desc (out_1 ∙ sym out_0)
    (λ d differ.
    let away : away_of g s' l d ≡ away_of g s l d = omega (arith, anchored-away h d, it-elsewhere at d differ) in
    rw (away, anchored-anchor h d differ) refl)) in
    turned-after g s l caller e s' l 0 0
    (record {
      in_heap = h.in_heap;
      moves = h.moves;
      events = events;
      counts = counts-kept turned h.in_heap events own p q refl (omega arith);
      anchor_tags = λ d has.
          of-each (λ k. (anchor_for s' k).tag ≤ (anchor_for s k).tag + 0) at.desc
          (omega (arith, ap (λ a. a.tag) (anchored-here h)))
          (λ d differ. omega (arith, ap (λ a. a.tag) (anchored-anchor h d differ))) d;
      frame_turns = omega (arith, head-tag (h.writes.elsewhere name.FrameHead (λ is. cc)), q.unframed, own.turns);
      emptied = omega (arith, emptied_same, own.cleared);
      list_turns = λ class has.
          omega (arith, head-tag (h.writes.elsewhere (name.ListHead class) (λ is. cc)), unlisted, q.unlisted, pops, own.turns, own.cleared);
    })
    turned

module _ {g : Geometry} {s : State} {l : Lists} {caller : ℕ} {at : Site} {e : ErrandFields} {s' : State} (h : Anchors g s l caller at e s') where
  pub owned-anchored : (i place : ℕ) (n : Need) → IsOwned s i place n → IsOwned s' i place n
  owned-anchored i place n = owned-stays s s' i place n (λ b live. ap (λ past. block_at place (pool_of past)) h.history ∙ live)

  -- no block changes at the store of an anchor, and its caller is bare-handed
  pub anchored-tied : IsSoundWith g s l → IsTied g s' l
  anchored-tied old =
      let owns = bare-owns s' caller e.point (bare-after (anchored-holds h) refl refl) in
      blocks-stay g s l l caller e s' h.moves (anchor-ties (anchored-write h)) (ap pool_of h.history)
      (λ place c b d live of its.
      block-stays g s l s' l place c d (anchored-info h d)
      (subst IsTrue (sym (anchored-bound h d (bound-differs g s l at.desc (anchored-free h old).bound d its.bound)))) its)
      (λ place x. absurd (excepts-none (s.errand caller) place (bare-before (anchored-holds h) refl refl) x)) owns.0 owns.1 old.tied
