-- What a won push leaves, and how it changes the pool.
use Rattle.std.proofs.Common.{ℕ, Bool, true, false, None, ◌≡◌, ◌≢◌, ◌<◌, ◌≤◌, refl, arith, ap, sym, subst, ◌∙◌, ◌==◌, ◌&&◌, not, IsTrue}
use Rattle.sound_state.proofs.Common.{Geometry, block_count_of, AnchorFields, is_empty, WordName, Site, block_at, pool_of, sound-of, ErrandFields, State, waiting}
use Rattle.sound_state.proofs.Common.{on_its_way, Status, partly_used, Lists, IsSoundWithoutCounts, IsSoundWith, sum_below, words_sum, callers_sum, Superblock, anchor_for}
use Rattle.sound_state.proofs.Common.{info_for, superblock_of, is_bound, is_there, away_of, waiting_of, reserved_of, word_reserves, reserved_among, errand_keeps}
use Rattle.sound_state.proofs.Common.{kept_among, pool_of-push, sound-differ, if_stored, same_status}
use Rattle.word_table.specs.declared.name.WordName.TheVariants as name
use Rattle.pool_model.specs.declared.event.Event.TheVariants.{Free}
use Rattle.pool_model.proofs.PoolLemmas.{block_at-without_other, block_at-without_same}
use Rattle.errand_steps.specs.tables.Blocks.{pushing}
use Rattle.sound_state.proofs.pushes.PushEffects.{Outcome, stays, unfills, empties, Pushes, pushed_anchor, pushed_holds, pushed_place}
use Rattle.sound_state.proofs.shared.HasLemmas.{bound-stands}
use Rattle.sound_state.proofs.shared.SumLemmas.{term-sum, two-terms}
use Rattle.sound_state.proofs.shared.HoldingEffects.{HoldingEffects, waits-go, ways-go, credits-go, away-goes}
use Rattle.sound_state.proofs.shared.SuperblockEffects.{of-each, AnchorEffects, info-stays, anchor-still, anchors-stay, weights-stay, located-live}
use Rattle.sound_state.proofs.shared.TallyLemmas.{tally}

-- a caller keeps nothing after its push but what is partly used, and has nothing reserved
pushed-keeps-partly :
    (status : Status) (d : ℕ) (out : Outcome) (at : Site) (stored : Bool) → same_status partly_used status ≡ false
    → kept_among status d (pushed_holds out at stored).kept ≡ 0
pushed-keeps-partly status d out at stored other = grind (arith, other)

pushed-reserves-none : (d : ℕ) (out : Outcome) (at : Site) (stored : Bool) → reserved_among d (pushed_holds out at stored).credits ≡ 0
pushed-reserves-none d out at stored = grind (arith)

-- whether a push with this outcome makes its superblock EMPTY
abbrev pub makes_empty : Outcome → Bool
makes_empty stays = false
makes_empty unfills = false
makes_empty empties = true

state-after : (out : Outcome) (i : ℕ) (a : AnchorFields) → is_empty a.state ≡ false → is_empty (pushed_anchor out i a).state ≡ makes_empty out
state-after out i a stood = grind (arith, stood)

-- a descriptor that is bound isn't away
bound-out : (b : Bool) (c : Bool) → IsTrue (b && not c) → b ≡ true
bound-out b c is = grind (arith, is)

-- a superblock that a push makes EMPTY: nothing of it is reserved, it doesn't wait, and no block but the freed one is live
pub record IsFreeBut (b : Superblock) (i : ℕ) : Type 0 where
  pub reserved : b.reserved ≡ 0
  pub waiting : b.waiting ≡ 0
  pub others : (j : ℕ) → j < b.size → j ≢ i → b.live j ≡ 0

module _
    {g : Geometry} {s : State} {l : Lists} {caller : ℕ} {at : Site} {i : ℕ} {stored : Bool} {a : AnchorFields} {out : Outcome} {e : ErrandFields}
    {s' : State} (h : Pushes g s l caller at i stored a out e s') where
  pub pushed-holds : HoldingEffects g s caller (pushing at i (if_stored stored at.desc)) (pushed_holds out at stored) e s'
  pushed-holds = record { in_heap = h.in_heap; moves = h.moves; retired = h.own.retired; before = h.holds_before; after = h.holds_after }

  pub pushed-write : AnchorEffects s at.desc s'
  pushed-write = record { elsewhere = h.elsewhere }

  -- the info words of all descriptors stay at a won push, and all other descriptors' anchors
  pub pushed-info : (d : ℕ) → info_for s' d ≡ info_for s d
  pushed-info = info-stays (anchor-still pushed-write)

  pub pushed-anchor : (d : ℕ) → d ≢ at.desc → anchor_for s' d ≡ anchor_for s d
  pushed-anchor = anchors-stay pushed-write

  -- nothing waits or is on its way after a won push that wasn't, and nothing else is reserved
  pub pushed-waits : (d : ℕ) → waiting_of g s' d ≡ waiting_of g s d
  pushed-waits d = omega (arith, waits-go pushed-holds d, pushed-keeps-partly waiting d out at stored refl)

  pub pushed-ways : (d : ℕ) → callers_sum g (errand_keeps on_its_way d) s'.errand ≡ callers_sum g (errand_keeps on_its_way d) s.errand
  pushed-ways d = omega (arith, ways-go pushed-holds d, pushed-keeps-partly on_its_way d out at stored refl)

  pub pushed-away : (d : ℕ) → away_of g s' l d ≡ away_of g s l d
  pushed-away d = omega (arith, away-goes pushed-holds l d, pushed-keeps-partly on_its_way d out at stored refl)

  -- words that weigh nothing at an anchor weigh the same after a won push
  pub pushed-words :
      (weight : WordName → ℕ → ℕ) → ((w : ℕ) → weight (name.Anchor at.desc) w ≡ 0) → words_sum g weight s'.word ≡ words_sum g weight s.word
  pushed-words = weights-stay pushed-write g

  pub pushed-reserved : (d : ℕ) → reserved_of g s' d ≡ reserved_of g s d
  pushed-reserved d = omega (arith, credits-go pushed-holds d, pushed-reserves-none d out at stored, pushed-words (word_reserves d) (λ w. refl))

  -- the superblock of a push isn't EMPTY before it
  pub pushed-stood : is_empty (anchor_for s at.desc).state ≡ false
  pushed-stood = bound-stands (away_of g s l at.desc == 0) (is_empty (anchor_for s at.desc).state) h.bound

  pub pushed-empty : is_empty (anchor_for s' at.desc).state ≡ makes_empty out
  pushed-empty =
      ap (λ x. is_empty x.state) h.after
      ∙ state-after out i a (sym (ap (λ x. is_empty x.state) h.before) ∙ pushed-stood)

  -- a won push leaves all other superblocks bound or not, and its own bound where that isn't made EMPTY
  pub pushed-bound : (d : ℕ) → d ≢ at.desc → is_bound g s' l d ≡ is_bound g s l d
  pushed-bound d ne =
      rw (pushed-away d, pushed-anchor d ne) refl

  pub pushed-bound-here : is_bound g s' l at.desc ≡ not (makes_empty out)
  pushed-bound-here =
      let was : (away_of g s l at.desc == 0) ≡ true = bound-out (away_of g s l at.desc == 0) (is_empty (anchor_for s at.desc).state) h.bound in
      rw (pushed-away at.desc, pushed-empty, was) refl

  -- a descriptor that is bound after a won push was so before, and its superblock wasn't made EMPTY
  pub was-bound : (d : ℕ) → IsTrue (is_bound g s' l d) → IsTrue (is_bound g s l d)
  was-bound =
      of-each (λ k. IsTrue (is_bound g s' l k) → IsTrue (is_bound g s l k)) at.desc (λ is. h.bound)
      (λ d ne. subst IsTrue (pushed-bound d ne))

  -- the freed block is gone after the push, and all other places are as they were
  pub pushed-gone : IsSoundWithoutCounts g s → block_at (pushed_place at i) (pool_of s'.history) ≡ None
  pushed-gone sound =
      rw (h.history, pool_of-push s.history (Free caller (pushed_place at i)))
      (block_at-without_same (pushed_place at i) (pool_of s.history) (sound-differ g (pool_of s.history) (sound-of g s.history sound.legal)))

  pub pushed-there : (p : ℕ) → p ≢ pushed_place at i → block_at p (pool_of s'.history) ≡ block_at p (pool_of s.history)
  pushed-there p ne =
      rw (h.history, pool_of-push s.history (Free caller (pushed_place at i))) (block_at-without_other (pushed_place at i) p (pool_of s.history) ne)

  -- a block that its caller pushes is live before, as one that it owns
  pub pushed-live : (superblock_of g s at.desc).live i ≡ 1
  pushed-live = located-live g s at.desc at.frame at.seat.class h.located i ∙ ap is_there h.owned.block.1

module _
    {g : Geometry} {s : State} {l : Lists} {caller : ℕ} {at : Site} {i : ℕ} {stored : Bool} {a : AnchorFields} {e : ErrandFields} {s' : State} where
  pub pushed-bare : Pushes g s l caller at i stored a empties e s' → IsSoundWith g s l → IsFreeBut (superblock_of g s at.desc) i
  pushed-bare h old =
      let b = superblock_of g s at.desc in
      let all = tally b (old.chained.chained at.desc h.site.desc h.bound) in
      let live = pushed-live h in
      let count : b.anchor.count ≡ a.count = ap (λ x. x.count) h.before in
      let size : b.size ≡ block_count_of at.seat.class = ap block_count_of h.located.class in
      let has : i < b.size = omega (arith, h.index, size) in
      let mine : b.live i ≤ sum_below b.size b.live = term-sum b.size b.live i has in
      record {
        reserved = omega (arith, all, live, count, size, mine, h.goes.0);
        waiting = omega (arith, all, live, count, size, mine, h.goes.0);
        others = λ j lt ne. omega (arith, all, live, count, size, h.goes.0, two-terms b.size b.live i j has lt (λ same. ne (sym same)));
      }
