-- What a caller may hold between two steps.
use Rattle.std.specs.Prelude.{ℕ, Bool, List, [], ◌∷◌, true, if◌then◌else◌}
use Rattle.heap_geometry.specs.Place.{block_place}
use Rattle.heap_geometry.specs.declared.need.Need.TheVariants as need
use Rattle.heap_geometry.specs.declared.need.Need.{Need}
use Rattle.word_table.specs.Seats.{SeatFields}
use Rattle.word_table.specs.declared.seat.Site.{Site}
use Rattle.errand_steps.specs.Points.{site_of}
use Rattle.errand_steps.specs.declared.continuation.Continuation.TheVariants as continuation
use Rattle.errand_steps.specs.declared.continuation.Continuation.{Continuation}

-- in what state a descriptor is that a caller keeps
pub data Status : Type 0 where
  reserving : Status
  waiting : Status
  partly_used : Status
  on_its_way : Status

-- a descriptor that a caller keeps, and the class for which it does
pub record Kept : Type 0 where
  pub desc : ℕ
  pub class : ℕ
  pub status : Status

-- blocks of a superblock that a caller has reserved
pub record Reserved : Type 0 where
  pub desc : ℕ
  pub blocks : ℕ

-- a block that a caller hands out
pub record Handed : Type 0 where
  pub place : ℕ
  pub need : Need

-- a block that a caller frees, and whether its prefix word may be overwritten by a link already
pub record Freed : Type 0 where
  pub place : ℕ
  pub need : Need
  pub overwritten : Bool

-- what a caller's hazard word is, and whether it guards the descriptor that it names from being reused
pub data HazardState : Type 0 where
  -- the hazard word is 0, and guards nothing
  clear : HazardState
  -- the hazard word is anything, as a lost pop left it, and guards nothing
  left : HazardState
  -- the hazard word names this descriptor, and doesn't guard it yet: it may have been reused before the word was stored
  named : (d : ℕ) → HazardState
  -- the hazard word names this descriptor, and guards it
  guarded : (d : ℕ) → HazardState
  -- the hazard word is anything, as a free stored it, and guards whatever it names
  owned : HazardState

-- what a caller holds: the blocks that it has reserved; the descriptors that it keeps; the frames in its hand; the block that it hands out, and the one that it frees; and its hazard word
pub record Holding : Type 0 where
  pub credits : List Reserved
  pub kept : List Kept
  pub frames : List ℕ
  pub hands : List Handed
  pub frees : List Freed
  pub hazard : HazardState

abbrev pub nothing : Holding
nothing = record { credits = []; kept = []; frames = []; hands = []; frees = []; hazard = clear }

-- one descriptor kept in a state for a class; blocks of one superblock reserved
abbrev pub keep : ℕ → ℕ → Status → List Kept
keep d class status = record { desc = d; class = class; status = status } ∷ []

abbrev pub reserve : ℕ → ℕ → List Reserved
reserve d blocks = record { desc = d; blocks = blocks } ∷ []

-- the block of a superblock at hand that is handed out; a run of units that is handed out
abbrev pub block_handed : Site → ℕ → List Handed
block_handed at i =
    record { place = block_place at.frame at.seat.class i; need = need.Small at.seat.class } ∷ []

abbrev pub run_handed : ℕ → ℕ → List Handed
run_handed place units = record { place = place; need = need.Large units } ∷ []

-- a block that is freed; a block of a superblock at hand that is freed
abbrev pub freed : ℕ → Need → Bool → List Freed
freed place need overwritten = record { place = place; need = need; overwritten = overwritten } ∷ []

abbrev pub block_freed : Site → ℕ → List Freed
block_freed at i = freed (block_place at.frame at.seat.class i) (need.Small at.seat.class) true

-- what a caller holds by what waits behind a part: descriptors on their way or partly used, a block handed out, the hazard word
abbrev pub continuation_holds : SeatFields → Continuation → Holding
continuation_holds s (continuation.TakeFrame words d) = record nothing { kept = keep d s.class on_its_way }
continuation_holds s (continuation.GiveBlock words d frame i) = record nothing { hands = block_handed (site_of s d frame) i }
continuation_holds s (continuation.Discard words d) = record nothing { kept = keep d s.class on_its_way }
continuation_holds s (continuation.Remove d heap) = record nothing { hazard = guarded d }
continuation_holds s (continuation.ClearSecond first) = record nothing { kept = keep first s.class partly_used }
continuation_holds s (continuation.Retire d) = record nothing { kept = keep d s.class partly_used }
continuation_holds s (continuation.PushFirst first) = record nothing { kept = keep first s.class partly_used }
continuation_holds s (continuation.Finish stored) = record nothing { hazard = if stored then owned else clear }
continuation_holds s o = nothing

-- what a free holds that clears its hazard word, which names what it removed, or anything
abbrev pub cleared_holds : SeatFields → Continuation → Holding
cleared_holds s (continuation.Retire d) = record nothing { kept = keep d s.class partly_used; hazard = guarded d }
cleared_holds s o = record nothing { hazard = owned }

-- what a caller holds with one more partly used descriptor; with one more frame
abbrev pub with_partial : ℕ → ℕ → Holding → Holding
with_partial d class h = record h { kept = record { desc = d; class = class; status = partly_used } ∷ h.kept }

abbrev pub with_frame : ℕ → Holding → Holding
with_frame f h = record h { frames = f ∷ h.frames }
