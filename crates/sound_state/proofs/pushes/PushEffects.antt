-- A won push: what it changes, and that everything else stays.
use Rattle.std.proofs.Common.{ℕ, Bool, true, ◌≡◌, ◌≢◌, ◌<◌, ◌≤◌, ◌+◌, [], ◌∷◌, ◌++◌, ◌⊎◌, IsTrue, if◌then◌else◌}
use Rattle.std.specs.List.{AllByRecursion}
use Rattle.sound_state.proofs.Common.{Geometry, block_count_of, block_place, AnchorFields, WordName, Site, IsSiteOf, ErrandFields, Point, State, Moves, Holding}
use Rattle.sound_state.proofs.Common.{partly_used, holds_of, Lists, IsLocated, IsOwned, recalls_of, turn_stage_of, anchor_for, is_bound, superblock_of}
use Rattle.sound_state.proofs.Common.{pops_left, HazardState, nothing, keep, clear, guarded, if_stored, out_of_turn, IsSo, IsEmptied}
use Rattle.heap_geometry.specs.declared.need.Need.TheVariants as need
use Rattle.packed_words.specs.declared.anchor.AnchorState.TheVariants as phase
use Rattle.word_table.specs.declared.name.WordName.TheVariants as name
use Rattle.word_table.specs.Sites.{IsAnchorOf}
use Rattle.pool_model.specs.declared.event.Event.TheVariants.{Free}
use Rattle.errand_steps.specs.tables.Holding.{owned}
use Rattle.errand_steps.specs.tables.Blocks.{pushing}
use Rattle.sound_state.proofs.shared.TurnEffects.{IsQuiet}
use Rattle.sound_state.proofs.shared.CallerLemmas.{KeepsCounts}

-- what a push does to its superblock: it stays ACTIVE or partial, it was FULL and isn't any more, or it becomes EMPTY
pub data Outcome : Type 0 where
  stays : Outcome
  unfills : Outcome
  empties : Outcome

-- when a push has this outcome; who makes its superblock EMPTY has stored its hazard word
abbrev pub IsOutcome : Outcome → ℕ → Bool → AnchorFields → Type 0
IsOutcome stays class stored a = (a.count + 1 < block_count_of class) × ((a.state ≡ phase.Active) ⊎ (a.state ≡ phase.Partial))
IsOutcome unfills class stored a = (a.count + 1 < block_count_of class) × (a.state ≡ phase.Full)
IsOutcome empties class stored a = (a.count + 1 ≡ block_count_of class) × (stored ≡ true)

-- the anchor after the push of this block
abbrev pub pushed_anchor : Outcome → ℕ → AnchorFields → AnchorFields
pushed_anchor stays i a = record { avail = i; count = a.count + 1; state = a.state; tag = a.tag }
pushed_anchor unfills i a = record { avail = i; count = a.count + 1; state = phase.Partial; tag = a.tag }
pushed_anchor empties i a = record { avail = i; count = a.count; state = phase.Empty; tag = a.tag }

-- what a caller holds after its push: its hazard word if stored, and the superblock that was FULL or the frame of one made EMPTY
abbrev pub hazard_after : Bool → HazardState
hazard_after stored = if stored then owned else clear

abbrev pub pushed_holds : Outcome → Site → Bool → Holding
pushed_holds stays at stored = record nothing { hazard = hazard_after stored }
pushed_holds unfills at stored = record nothing { kept = keep at.desc at.seat.class partly_used; hazard = hazard_after stored }
pushed_holds empties at stored = record nothing { frames = at.frame ∷ []; hazard = guarded at.desc }

-- the place of the block that is freed
abbrev pub pushed_place : Site → ℕ → ℕ
pushed_place at i = block_place at.frame at.seat.class i

-- a point of a free that scans and waits for nothing
pub record FreeStands (p : Point) : Type 0 where
  pub stage : turn_stage_of p ≡ out_of_turn
  pub pops : pops_left p ≤ 2
  pub quiet : IsQuiet p

-- a caller pushes its block onto the free blocks of a superblock, and all else stays
pub record Pushes (g : Geometry) (s : State) (l : Lists) (caller : ℕ) (at : Site) (i : ℕ) (stored : Bool) (a : AnchorFields) (out : Outcome)
    (e : ErrandFields) (s' : State) : Type 0 where
  pub in_heap : caller < g.callers
  pub moves : Moves s.errand caller e s'.errand
  pub site : IsSiteOf g caller at
  pub index : i < block_count_of at.seat.class
  pub fits : IsAnchorOf at.seat.class a
  pub goes : IsOutcome out at.seat.class stored a
  pub bound : IsTrue (is_bound g s l at.desc)
  pub located : IsLocated s at.desc at.frame at.seat.class
  pub owned : IsOwned s caller (pushed_place at i) (need.Small at.seat.class)
  pub before : anchor_for s at.desc ≡ a
  pub after : anchor_for s' at.desc ≡ pushed_anchor out i a
  pub next : (superblock_of g s at.desc).next i ≡ a.avail
  pub elsewhere : (n : WordName) → n ≢ name.Anchor at.desc → s'.word n ≡ s.word n
  pub history : s'.history ≡ s.history ++ Free caller (pushed_place at i) ∷ []
  pub own : KeepsCounts (s.errand caller) e
  pub holds_before : holds_of (s.errand caller).point ≡ pushing at i (if_stored stored at.desc)
  pub holds_after : holds_of e.point ≡ pushed_holds out at stored
  pub recalls_after : (out ≡ empties → IsEmptied g s' l at.desc) → AllByRecursion (IsSo g s' l caller) (recalls_of e.point)
  pub stands_before : FreeStands (s.errand caller).point
  pub stands_after : FreeStands e.point
