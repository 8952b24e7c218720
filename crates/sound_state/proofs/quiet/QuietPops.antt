-- Loads on the way to a pop, and to the return of reserved blocks.
use Rattle.std.proofs.Common.{ℕ, Option, Some, None, ◌≡◌, ◌<◌, [], refl, arith, ap, sym, subst}
use Rattle.std.proofs.lemmas.List.Elements.{All-nil, All-cons}
use Rattle.sound_state.proofs.Common.{Geometry, AnchorFields, anchor_of, info_of, Site, SeatFields, info_in, occurs, Share, Continuation, At, Point, Block, event_of}
use Rattle.sound_state.proofs.Common.{next_of, plan_point_of, State, holds_of, holds_before_pop, IsSo, recalls_of, callers_sum, info_for, info_or_zero}
use Rattle.sound_state.proofs.Common.{anchor_for, superblock_of, free_chain, reserved_of, reserved_among, errand_reserves, InfoFields, info_within, anchor_in, after_info}
use Rattle.sound_state.proofs.Common.{after_anchor, occurs-here}
use Rattle.word_table.specs.declared.name.WordName.TheVariants as name
use Rattle.step_parts.specs.declared.superblock.point.BlockPoint.TheVariants as block
use Rattle.sound_state.specs.Recalls.{IsPopped}
use Rattle.sound_state.proofs.shared.PointLemmas.{so-at, recalled-at}
use Rattle.sound_state.proofs.quiet.QuietSteps.{LeadsQuietly, leads-on, onward, quietly}
use Rattle.sound_state.proofs.shared.SumLemmas.{term-sum}
use Rattle.sound_state.proofs.shared.KeepsSound.{KeepsSound}

-- an info word that is within the heap is what it says
pub info-said : (g : Geometry) (o : Option InfoFields) (info : InfoFields) → info_within g o ≡ Some info → info_or_zero o ≡ info
info-said g o info is = grind (arith, is)

-- what a descriptor's word leads to, by what it says
info-leads :
    (g : Geometry) (s : State) (caller : ℕ) (seat : SeatFields) (d : ℕ) (share : Share) (o : Continuation) (said : Option InfoFields) → caller < g.callers
    → (s.errand caller).point ≡ Block (block.LoadInfo seat d share) o → info_in seat.geometry (s.word (name.Info d)) ≡ said
    → LeadsQuietly g s caller (Block (block.LoadInfo seat d share) o) (At (Block (after_info seat d share said) o))
unfolding holds_of recalls_of
info-leads g s caller seat d share o None has stands is = leads-on g s caller _ _ has stands (grind (arith))
info-leads g s caller seat d share o (Some info) has stands is = record {
  plain = tt;
  holds = grind (arith);
  so = λ l old.
      let says : info_for s d ≡ info = info-said seat.geometry (info_of (s.word (name.Info d))) info is in
      let (bound, none) = recalled-at g s l caller (Block (block.LoadInfo seat d share) o) old has stands in
      All-cons (IsSo g s l caller) _ [] (bound.0, record { frame = ap (λ (x : InfoFields). x.frame) says; class = bound.1 })
      (All-nil (IsSo g s l caller));
}

-- the load of a descriptor's info word for a pop keeps the state sound
pub load_info-sound : (seat : SeatFields) (d : ℕ) (share : Share) (o : Continuation) → KeepsSound (Block (block.LoadInfo seat d share) o)
unfolding plan_point_of next_of event_of
load_info-sound seat d share o = quietly _ (grind (arith)) (λ g s caller has stands. info-leads g s caller seat d share o _ has stands refl)

-- a caller that is about to pop has a block reserved
before-reserves : (d class : ℕ) (share : Share) → 0 < reserved_among d (holds_before_pop d class share).credits
before-reserves d class share = grind (arith)

-- a superblock of which a caller has a block reserved has a reserved block
caller-reserves :
    (g : Geometry) (s : State) (caller d : ℕ) (p : Point) → caller < g.callers → (s.errand caller).point ≡ p
    → 0 < reserved_among d (holds_of p).credits → 0 < reserved_of g s d
unfolding callers_sum
caller-reserves g s caller d p has stands some =
    let own : errand_reserves d (s.errand caller) ≡ reserved_among d (holds_of p).credits =
    ap (λ q. reserved_among d (holds_of q).credits) stands in
    omega (arith, some, own, term-sum g.callers (λ i. errand_reserves d (s.errand i)) caller has)

chain-first :
    (g : Geometry) (s : State) (d : ℕ) → 0 < reserved_of g s d → 0 < occurs (anchor_for s d).avail (free_chain (superblock_of g s d))
chain-first g s d some = grind (arith, some, occurs-here)

-- an anchor that a load accepts is what its word says
pub anchor-said : (class word : ℕ) (a : AnchorFields) → anchor_in class word ≡ Some a → a ≡ anchor_of word
anchor-said class word a is = grind (arith, is)

-- what an anchor leads to that is read for a pop, by what it says
anchor-leads :
    (g : Geometry) (s : State) (caller : ℕ) (site : Site) (share : Share) (o : Continuation) (said : Option AnchorFields) → caller < g.callers
    → (s.errand caller).point ≡ Block (block.LoadAnchor site share) o → anchor_in site.seat.class (s.word (name.Anchor site.desc)) ≡ said
    → LeadsQuietly g s caller (Block (block.LoadAnchor site share) o) (At (Block (after_anchor site share said) o))
unfolding holds_of recalls_of
anchor-leads g s caller site share o None has stands is = leads-on g s caller _ _ has stands (grind (arith))
anchor-leads g s caller site share o (Some a) has stands is = record {
  plain = tt;
  holds = grind (arith);
  so = λ l old.
      let says : a ≡ anchor_for s site.desc = anchor-said site.seat.class (s.word (name.Anchor site.desc)) a is in
      let some : 0 < reserved_of g s site.desc =
      caller-reserves g s caller site.desc (Block (block.LoadAnchor site share) o) has stands (before-reserves site.desc site.seat.class share) in
      All-cons (IsSo g s l caller) _ (recalls_of (Block (block.LoadAnchor site share) o))
      (subst (IsPopped (superblock_of g s site.desc)) (sym says) (record { tag = omega arith; first = λ same. chain-first g s site.desc some }))
      (so-at g s l caller (Block (block.LoadAnchor site share) o) old has stands);
}

-- the load of an anchor for a pop keeps the state sound
pub load_anchor-sound : (site : Site) (share : Share) (o : Continuation) → KeepsSound (Block (block.LoadAnchor site share) o)
unfolding plan_point_of next_of event_of
load_anchor-sound site share o = quietly _ (grind (arith)) (λ g s caller has stands. anchor-leads g s caller site share o _ has stands refl)

-- the load of a link for a pop keeps the state sound
pub load_link-sound : (site : Site) (share : Share) (a : AnchorFields) (o : Continuation) → KeepsSound (Block (block.LoadLink site share a) o)
unfolding plan_point_of next_of event_of holds_of recalls_of
load_link-sound site share a o =
    quietly _ (grind (arith))
    (λ g s caller has stands. record {
      plain = tt;
      holds = grind (arith);
      so = λ l old.
          let p = Block (block.LoadLink site share a) o in
          let (so_pop, (bound, none)) = recalled-at g s l caller p old has stands in
          All-cons (IsSo g s l caller) _ (recalls_of p) (λ same. rw (bound.1.frame, bound.1.class) refl) (so-at g s l caller p old has stands);
    })

-- the load of an anchor for a return keeps the state sound
pub load_return-sound : (site : Site) (i more : ℕ) (o : Continuation) → KeepsSound (Block (block.LoadReturn site i more) o)
unfolding plan_point_of next_of event_of holds_of recalls_of
load_return-sound site i more o = onward _ (grind (arith)) (λ w. grind (arith))
