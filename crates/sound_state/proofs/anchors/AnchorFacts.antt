-- A step that stores the anchor of a new superblock: its descriptor gets it, and nothing else changes.
use Rattle.std.proofs.Common.{ℕ, true, ◌≡◌, ◌≢◌, ◌<◌, ◌≤◌, ◌+◌, refl, arith, ap, ◌∙◌}
use Rattle.sound_state.proofs.Common.{Geometry, anchor_of, anchor_word, WordName, Site, IsSiteOf, Writes, new_credits, ErrandFields, State, Moves, waiting, on_its_way}
use Rattle.sound_state.proofs.Common.{holds_of, errand_has, Lists, IsSoundWith, words_sum, callers_sum, anchor_for, info_for, is_bound, away_of, errand_away, errand_keeps}
use Rattle.sound_state.proofs.Common.{kept_among, waiting_of, word_reserves, reserved_of, anchor_of-anchor_word, new_anchor, making, IsSo}
use Rattle.std.specs.List.{AllByRecursion}
use Rattle.word_table.specs.declared.name.WordName.TheVariants as name
use Rattle.step_parts.specs.declared.superblock.point.BlockPoint.TheVariants as block
use Rattle.sound_state.proofs.shared.UnplacedLemmas.{IsUnplaced, way-unplaced}
use Rattle.sound_state.proofs.anchors.NewSuperblocks.{unbound-reserves}
use Rattle.sound_state.proofs.shared.SumLemmas.{callers-none, sum-least, term-sum}
use Rattle.sound_state.proofs.shared.HoldingEffects.{HoldingEffects, waits-go, ways-go, credits-go, away-goes}
use Rattle.sound_state.proofs.shared.MakingWeights.{is_it, it-elsewhere, installing_holds, making-others, installing-waits, installing-others, installing-credits}
use Rattle.sound_state.proofs.shared.MakingWeights.{installing-apart, it-here, making-ways}
use Rattle.sound_state.proofs.shared.SuperblockEffects.{AnchorEffects, anchor-still, anchors-stay, info-stays, weights-stay}
use Rattle.sound_state.proofs.shared.WrittenWords.{new_anchor-fits}
use Rattle.sound_state.proofs.Common.{AreMade, Block, Continuation, recalls_of, IsLocated, block_count_of, block_place, live_at}
use Rattle.sound_state.proofs.shared.CallerLemmas.{KeepsCounts}
use Rattle.sound_state.proofs.shared.RecallFrame.{LiesAt}

-- a caller stores the anchor of its new superblock, and all else stays
pub record Anchors (g : Geometry) (s : State) (l : Lists) (caller : ℕ) (at : Site) (e : ErrandFields) (s' : State) : Type 0 where
  pub in_heap : caller < g.callers
  pub moves : Moves s.errand caller e s'.errand
  pub site : IsSiteOf g caller at
  pub writes : Writes s.word (name.Anchor at.desc) (anchor_word (new_anchor at.seat.class)) s'.word
  pub history : s'.history ≡ s.history
  pub retired : e.retired ≡ (s.errand caller).retired
  pub holds_before : holds_of (s.errand caller).point ≡ making at
  pub holds_after : holds_of e.point ≡ installing_holds at

-- the store of the anchor of a superblock whose links are made, whose descriptor names it and none of whose blocks is live
pub record MakesAnchor
    (g : Geometry) (s : State) (l : Lists) (caller : ℕ) (at : Site) (o : Continuation) (e : ErrandFields) (s' : State) : Type 0 where
  pub anchors : Anchors g s l caller at e s'
  pub here : (s.errand caller).point ≡ Block (block.StoreAnchor at) o
  pub after : e.point ≡ Block (block.InstallSuperblock at) o
  pub own : KeepsCounts (s.errand caller) e
  pub lies : IsLocated s at.desc at.frame at.seat.class
  pub made : AreMade s at.frame at.seat.class (block_count_of at.seat.class)
  pub unlive : (i : ℕ) → i < block_count_of at.seat.class → live_at s (block_place at.frame at.seat.class i) ≡ 0
  pub recalls_after : LiesAt g s' l at → AllByRecursion (IsSo g s' l caller) (recalls_of e.point)

module _ {g : Geometry} {s : State} {l : Lists} {caller : ℕ} {at : Site} {e : ErrandFields} {s' : State} (h : Anchors g s l caller at e s') where
  pub anchored-holds : HoldingEffects g s caller (making at) (installing_holds at) e s'
  anchored-holds = record { in_heap = h.in_heap; moves = h.moves; retired = h.retired; before = h.holds_before; after = h.holds_after }

  pub anchored-write : AnchorEffects s at.desc s'
  anchored-write = record { elsewhere = h.writes.elsewhere }

  -- the other descriptors' anchors stay, and so does what all descriptors' info words say
  pub anchored-anchor : (d : ℕ) → d ≢ at.desc → anchor_for s' d ≡ anchor_for s d
  anchored-anchor = anchors-stay anchored-write

  pub anchored-here : anchor_for s' at.desc ≡ new_anchor at.seat.class
  anchored-here =
      ap anchor_of h.writes.here ∙ anchor_of-anchor_word (new_anchor at.seat.class) (new_anchor-fits at.seat.class)

  pub anchored-info : (d : ℕ) → info_for s' d ≡ info_for s d
  anchored-info = info-stays (anchor-still anchored-write)

  -- the descriptor of a new superblock waits after the store of its anchor, and isn't on its way any more
  pub anchored-waits : (d : ℕ) → waiting_of g s' d ≡ waiting_of g s d + is_it at d
  anchored-waits d = omega (arith, waits-go anchored-holds d, making-others waiting at d refl, installing-waits at d)

  pub anchored-ways : (d : ℕ) → callers_sum g (errand_keeps on_its_way d) s'.errand + is_it at d ≡ callers_sum g (errand_keeps on_its_way d) s.errand
  anchored-ways d = omega (arith, ways-go anchored-holds d, making-ways at d, installing-others on_its_way at d refl)

  pub anchored-away : (d : ℕ) → away_of g s' l d + is_it at d ≡ away_of g s l d
  anchored-away d = omega (arith, away-goes anchored-holds l d, making-ways at d, installing-others on_its_way at d refl)

  -- before the store of its new superblock's anchor a descriptor is on its way, and nowhere else
  on-its-way : errand_keeps on_its_way at.desc (s.errand caller) ≡ 1
  on-its-way = ap (λ x. kept_among on_its_way at.desc x.kept) h.holds_before ∙ making-ways at at.desc ∙ it-here at

  its-place : 1 ≤ callers_sum g (errand_has at.desc) s.errand
  unfolding callers_sum
  its-place = omega (arith, on-its-way, term-sum g.callers (λ i. errand_has at.desc (s.errand i)) caller h.in_heap)

  pub anchored-free : IsSoundWith g s l → IsUnplaced g s l at.desc
  anchored-free old = way-unplaced g s l caller at.desc old h.in_heap h.site.desc (omega (arith, on-its-way))

  -- after the store of its new superblock's anchor a descriptor isn't away
  pub anchored-home : IsSoundWith g s l → away_of g s' l at.desc ≡ 0
  unfolding callers_sum
  anchored-home old =
      let d = at.desc in
      let least : callers_sum g (errand_away d) s.errand ≤ callers_sum g (errand_has d) s.errand =
      sum-least g.callers (λ i. errand_away d (s.errand i)) (λ i. errand_has d (s.errand i)) (λ i lt. omega arith) in
      omega (arith, old.kept.once d h.site.desc, its-place, least, it-here at, anchored-away d)

  pub anchored-bound : (d : ℕ) → d ≢ at.desc → is_bound g s' l d ≡ is_bound g s l d
  anchored-bound d differ =
      let away : away_of g s' l d ≡ away_of g s l d = omega (arith, anchored-away d, it-elsewhere at d differ) in
      rw (away, anchored-anchor d differ) refl

  pub anchored-bound_here : IsSoundWith g s l → is_bound g s' l at.desc ≡ true
  anchored-bound_here old =
      rw (anchored-home old, anchored-here) refl

  pub anchored-words :
      (weight : WordName → ℕ → ℕ) → ((w : ℕ) → weight (name.Anchor at.desc) w ≡ 0) → words_sum g weight s'.word ≡ words_sum g weight s.word
  anchored-words = weights-stay anchored-write g

  -- other descriptors keep their reserved blocks, and of the new superblock all blocks but one are reserved
  pub anchored-reserved : (d : ℕ) → d ≢ at.desc → reserved_of g s' d ≡ reserved_of g s d
  anchored-reserved d differ = omega (arith, credits-go anchored-holds d, installing-apart at d differ, anchored-words (word_reserves d) (λ w. refl))

  pub anchored-credits : reserved_of g s' at.desc ≡ reserved_of g s at.desc + (new_credits at.seat.class + 1)
  anchored-credits = omega (arith, credits-go anchored-holds at.desc, installing-credits at, anchored-words (word_reserves at.desc) (λ w. refl))

  pub anchored-none : IsSoundWith g s l → (reserved_of g s at.desc ≡ 0) × (waiting_of g s at.desc ≡ 0)
  anchored-none old =
      let free = anchored-free old in (
        unbound-reserves g s l at.desc old free.bound (omega (arith, old.kept.once at.desc h.site.desc, its-place)),
        callers-none g (errand_keeps waiting at.desc) s.errand free.waiting,
      )
