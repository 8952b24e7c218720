-- A step that moves blocks of a superblock between its count and what is reserved: what it changes, and that everything else stays.
use Rattle.std.proofs.Common.{ℕ, Bool, false, ◌≡◌, ◌≢◌, ◌<◌, ◌≤◌, ◌+◌, ◌==◌, IsTrue, if◌then◌else◌, All}
use Rattle.std.specs.List.{AllByRecursion}
use Rattle.sound_state.proofs.Common.{Geometry, block_count_of, AnchorFields, is_empty, WordName, Site, IsSiteOf, occurs, ErrandFields, State, Moves, waiting, on_its_way}
use Rattle.sound_state.proofs.Common.{holds_of, IsKeptAs, full_keeps, Lists, IsLocated, recalls_of, turn_stage_of, stock_among, anchor_for, is_bound, IsSo}
use Rattle.sound_state.proofs.Common.{reserved_among, kept_among, clear, lacks_partial}
use Rattle.packed_words.specs.declared.anchor.AnchorState.TheVariants as phase
use Rattle.word_table.specs.declared.name.WordName.TheVariants as name
use Rattle.sound_state.proofs.shared.PointLemmas.{kept_places}
use Rattle.sound_state.proofs.shared.TurnEffects.{StandsIn}
use Rattle.sound_state.proofs.shared.CallerLemmas.{KeepsCounts}
use Rattle.sound_state.proofs.shared.RecallFrame.{LiesAt}

-- a caller that alone keeps a superblock moves blocks between its count and what it has reserved, and all else stays
pub record Shifts (g : Geometry) (s : State) (l : Lists) (caller : ℕ) (at : Site) (a b : AnchorFields) (e : ErrandFields) (s' : State) : Type 0 where
  pub in_heap : caller < g.callers
  pub moves : Moves s.errand caller e s'.errand
  pub site : IsSiteOf g caller at
  pub bound : IsTrue (is_bound g s l at.desc)
  pub located : IsLocated s at.desc at.frame at.seat.class
  pub before : anchor_for s at.desc ≡ a
  pub after : anchor_for s' at.desc ≡ b
  pub avail : b.avail ≡ a.avail
  pub tag : b.tag ≡ a.tag
  pub some : b.count < block_count_of at.seat.class
  pub in_use : is_empty b.state ≡ false
  pub full : b.state ≡ phase.Full → b.count ≡ 0
  pub elsewhere : (n : WordName) → n ≢ name.Anchor at.desc → s'.word n ≡ s.word n
  pub history : s'.history ≡ s.history
  pub own : KeepsCounts (s.errand caller) e
  pub reserves :
      b.count + reserved_among at.desc (holds_of e.point).credits
      ≡ a.count + reserved_among at.desc (holds_of (s.errand caller).point).credits
  pub reserves_elsewhere :
      (d : ℕ) → d ≢ at.desc → reserved_among d (holds_of e.point).credits ≡ reserved_among d (holds_of (s.errand caller).point).credits
  pub waits : (d : ℕ) → kept_among waiting d (holds_of e.point).kept ≡ kept_among waiting d (holds_of (s.errand caller).point).kept
  pub ways : (d : ℕ) → kept_among on_its_way d (holds_of e.point).kept ≡ kept_among on_its_way d (holds_of (s.errand caller).point).kept
  pub places :
      (d : ℕ) → kept_places d (holds_of e.point).kept + (if at.desc == d then full_keeps b.state else 0)
      ≡ kept_places d (holds_of (s.errand caller).point).kept + (if at.desc == d then full_keeps a.state else 0)
  pub stock :
      (class : ℕ) → stock_among class (holds_of e.point).kept + (if at.seat.class == class then full_keeps b.state else 0)
      ≡ stock_among class (holds_of (s.errand caller).point).kept + (if at.seat.class == class then full_keeps a.state else 0)
  pub has : 1 ≤ kept_places at.desc (holds_of (s.errand caller).point).kept
  pub frames : (f : ℕ) → occurs f (holds_of e.point).frames ≡ occurs f (holds_of (s.errand caller).point).frames
  pub hands : (holds_of e.point).hands ≡ (holds_of (s.errand caller).point).hands
  pub frees : (holds_of e.point).frees ≡ (holds_of (s.errand caller).point).frees
  pub clear_before : (holds_of (s.errand caller).point).hazard ≡ clear
  pub clear_after : (holds_of e.point).hazard ≡ clear
  pub kept_after : All (λ k. IsKeptAs s' k.status k.desc k.class) (holds_of e.point).kept
  pub recalls_after : LiesAt g s' l at → AllByRecursion (IsSo g s' l caller) (recalls_of e.point)
  pub giving : Bool
  pub stands_before : StandsIn giving (s.errand caller).point
  pub stands_after : StandsIn giving e.point
  pub partials : lacks_partial (turn_stage_of e.point) ≡ lacks_partial (turn_stage_of (s.errand caller).point)
