-- A won pop: what it changes, and that everything else stays.
use Rattle.std.proofs.Common.{ℕ, true, false, ◌≡◌, ◌≢◌, ◌<◌, ◌+◌, ◌-◌, [], ◌∷◌, ◌++◌, IsTrue, if◌then◌else◌, nat_lt}
use Rattle.std.specs.List.{AllByRecursion}
use Rattle.sound_state.proofs.Common.{Geometry, need_of, block_place, AnchorFields, WordName, Site, IsSiteOf, Share, ErrandFields, State, Moves, Holding, holds_before_pop}
use Rattle.sound_state.proofs.Common.{holds_of, Lists, IsLocated, recalls_of, anchor_for, is_bound, superblock_of, taken_off, popped_state, more_of, nothing}
use Rattle.sound_state.proofs.Common.{holds_after_pop, block_handed, IsSo}
use Rattle.heap_geometry.specs.declared.need.Need.TheVariants as need
use Rattle.word_table.specs.declared.name.WordName.TheVariants as name
use Rattle.word_table.specs.Sites.{IsAnchorOf}
use Rattle.pool_model.specs.declared.event.Event.TheVariants.{Alloc}
use Rattle.sound_state.proofs.shared.TurnEffects.{StandsIn}
use Rattle.sound_state.proofs.shared.CallerLemmas.{KeepsCounts}
use Rattle.sound_state.proofs.shared.RecallFrame.{LiesAt}

-- what a caller holds after a pop, with so many blocks reserved beside the one that it popped
abbrev pub popped_holds : Site → ℕ → ℕ → Holding
popped_holds at i more = if nat_lt 0 more then holds_after_pop at i more else record nothing { hands = block_handed at i }

-- the anchor after the pop of a block with this link
abbrev pub popped_anchor : Share → AnchorFields → ℕ → AnchorFields
popped_anchor share a link = record {
  avail = link;
  count = a.count - taken_off share a;
  state = popped_state share a;
  tag = a.tag + 1;
}

-- the place of the block that is popped
abbrev pub popped_place : Site → AnchorFields → ℕ
popped_place at a = block_place at.frame at.seat.class a.avail

-- a caller pops the first available block of a superblock, and all else stays
pub record Pops (g : Geometry) (s : State) (l : Lists) (caller : ℕ) (at : Site) (share : Share) (a : AnchorFields) (link words : ℕ)
    (e : ErrandFields) (s' : State) : Type 0 where
  pub in_heap : caller < g.callers
  pub moves : Moves s.errand caller e s'.errand
  pub site : IsSiteOf g caller at
  pub fits : IsAnchorOf at.seat.class a
  pub small : need_of words ≡ need.Small at.seat.class
  pub bound : IsTrue (is_bound g s l at.desc)
  pub located : IsLocated s at.desc at.frame at.seat.class
  pub before : anchor_for s at.desc ≡ a
  pub after : anchor_for s' at.desc ≡ popped_anchor share a link
  pub next : (superblock_of g s at.desc).next a.avail ≡ link
  pub elsewhere : (n : WordName) → n ≢ name.Anchor at.desc → s'.word n ≡ s.word n
  pub history : s'.history ≡ s.history ++ Alloc caller words (popped_place at a) ∷ []
  pub own : KeepsCounts (s.errand caller) e
  pub holds_before : holds_of (s.errand caller).point ≡ holds_before_pop at.desc at.seat.class share
  pub holds_after : holds_of e.point ≡ popped_holds at a.avail (more_of share a)
  pub recalls_after : LiesAt g s' l at → AllByRecursion (IsSo g s' l caller) (recalls_of e.point)
  pub stands_before : StandsIn true (s.errand caller).point
  pub stands_after : StandsIn false e.point
