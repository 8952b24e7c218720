-- What is said of each point in a superblock: who stands there and how far the call is, the event of its step, what the caller holds, remembers and expects, and how many steps are left.
use Rattle.std.specs.Prelude.{Bool, ℕ, Option, Some, None, false, ◌+◌, nat_lt, if◌then◌else◌, [], ◌∷◌, List, ◌-◌, ◌==◌, true}
use Rattle.heap_geometry.specs.Need.{block_count_of}
use Rattle.heap_geometry.specs.Place.{block_place}
use Rattle.heap_geometry.specs.declared.geometry.Geometry.{Geometry}
use Rattle.heap_geometry.specs.declared.need.Need.TheVariants as need
use Rattle.heap_geometry.specs.declared.need.Need.TheVariants.{Small}
use Rattle.packed_words.specs.Active.{active_word}
use Rattle.packed_words.specs.Anchor.{anchor_word, AnchorFields}
use Rattle.packed_words.specs.Info.{info_word}
use Rattle.packed_words.specs.declared.active.ActiveWord.TheVariants.{Held}
use Rattle.word_table.specs.Seats.{SeatFields}
use Rattle.word_table.specs.Sites.{info_at, active_name}
use Rattle.word_table.specs.declared.name.WordName.TheVariants as name
use Rattle.word_table.specs.declared.seat.Site.{Site}
use Rattle.step_parts.specs.superblock.Anchors.{new_credits, new_anchor}
use Rattle.step_parts.specs.superblock.Chains.{prefix_name}
use Rattle.step_parts.specs.superblock.Points.{seat_of_block}
use Rattle.step_parts.specs.declared.superblock.point.BlockPoint.TheVariants as block
use Rattle.step_parts.specs.declared.superblock.point.BlockPoint.{BlockPoint}
use Rattle.step_parts.specs.declared.superblock.point.Share.TheVariants.{Grant, Credit, LastCredit}
use Rattle.step_parts.specs.declared.superblock.point.Share.{Share}
use Rattle.pool_model.specs.declared.event.Event.TheVariants as event
use Rattle.pool_model.specs.declared.event.Event.{Event}
use Rattle.errand_steps.specs.Continuations.{is_alloc, is_free}
use Rattle.errand_steps.specs.Points.{asked}
use Rattle.errand_steps.specs.declared.continuation.Continuation.{Continuation}
use Rattle.errand_steps.specs.tables.CallStage.{StageOfCall, freeing, asking, block_given}
use Rattle.errand_steps.specs.tables.Expected.{Expected, none_active, expect}
use Rattle.errand_steps.specs.tables.Holding.{owned, freed}
use Rattle.errand_steps.specs.tables.Holding.{reserving, Holding, nothing, keep, reserve, block_handed, on_its_way, HazardState, block_freed, clear, guarded, waiting}
use Rattle.errand_steps.specs.tables.Lengths.{active_left, held_left}
use Rattle.errand_steps.specs.tables.Recall.{Recall, bound_for, pops, links, says, made, bound_here}
use Rattle.errand_steps.specs.tables.TurnStage.{TurnStage, at_active, partial_taken, out_of_turn, searching, frame_taken, offering}

-- the continuations that stand at a point of a superblock
abbrev pub goes_block : BlockPoint → Continuation → Bool
goes_block (block.LoadPrefix s frame i) o = is_free o
goes_block (block.LoadPushAnchor at i stored) o = is_free o
goes_block (block.StoreGuard at i a) o = is_free o
goes_block (block.LoadOwner at i a) o = is_free o
goes_block (block.StoreLink at i a stored heap) o = is_free o
goes_block (block.PushBlock at i a stored heap) o = is_free o
goes_block p o = is_alloc o

-- a pop and the install of a new superblock give a block, a push frees one
abbrev pub block_event : ℕ → ℕ → BlockPoint → Option Event
block_event caller need (block.PopBlock at share a prefix) = Some (event.Alloc caller need (block_place at.frame at.seat.class a.avail))
block_event caller need (block.InstallSuperblock at) = Some (event.Alloc caller need (block_place at.frame at.seat.class 0))
block_event caller need (block.PushBlock at i a stored heap) = Some (event.Free caller (block_place at.frame at.seat.class i))
block_event caller need p = None

-- the stage at which a block of a superblock is freed
abbrev pub block_freeing : Site → ℕ → StageOfCall
block_freeing at i = freeing (block_place at.frame at.seat.class i) (Small at.seat.class)

-- the stage of a call at a point of a superblock
abbrev pub block_stage : BlockPoint → Continuation → StageOfCall
block_stage (block.StorePrefix at i) o = block_given at i
block_stage (block.InstallCredits at i more) o = block_given at i
block_stage (block.LoadReturn at i more) o = block_given at i
block_stage (block.ReturnCredits at i more a) o = block_given at i
block_stage (block.LoadPrefix s frame i) o = freeing (block_place frame s.class i) (Small s.class)
block_stage (block.LoadPushAnchor at i stored) o = block_freeing at i
block_stage (block.StoreGuard at i a) o = block_freeing at i
block_stage (block.LoadOwner at i a) o = block_freeing at i
block_stage (block.StoreLink at i a stored heap) o = block_freeing at i
block_stage (block.PushBlock at i a stored heap) o = block_freeing at i
block_stage p o = asking (asked o) (seat_of_block p).class false

-- how far a turn is at a point in a superblock, for who has this share of one
abbrev pub share_turn_stage : Share → TurnStage
share_turn_stage (Grant more) = partial_taken
share_turn_stage share = at_active

abbrev pub block_turn_stage : BlockPoint → TurnStage
block_turn_stage (block.LoadActive s) = at_active
block_turn_stage (block.TakeCredit s d credits) = at_active
block_turn_stage (block.LoadInfo s d (Grant more)) = searching
block_turn_stage (block.LoadInfo s d share) = at_active
block_turn_stage (block.LoadAnchor at share) = share_turn_stage share
block_turn_stage (block.LoadLink at share a) = share_turn_stage share
block_turn_stage (block.PopBlock at share a prefix) = share_turn_stage share
block_turn_stage (block.InstallCredits at i more) = offering
block_turn_stage (block.InstallSuperblock at) = frame_taken
block_turn_stage (block.LinkBlock at i) = frame_taken
block_turn_stage (block.StoreInfo at) = frame_taken
block_turn_stage (block.StoreAnchor at) = frame_taken
block_turn_stage p = out_of_turn

-- what a caller holds before a pop: who took the last credit, or was granted more than one block, keeps the descriptor
abbrev pub holds_before_pop : ℕ → ℕ → Share → Holding
holds_before_pop d class Credit = record nothing { credits = reserve d 1 }
holds_before_pop d class LastCredit = record nothing { credits = reserve d 1; kept = keep d class reserving }
holds_before_pop d class (Grant more) = record nothing {
  credits = reserve d (more + 1);
  kept = if nat_lt 0 more then keep d class reserving else [];
}

-- what a caller holds after a pop, with more blocks reserved
abbrev pub holds_after_pop : Site → ℕ → ℕ → Holding
holds_after_pop at i more = record nothing {
  credits = reserve at.desc more;
  kept = keep at.desc at.seat.class reserving;
  hands = block_handed at i;
}

-- what a caller holds whose superblock is in the making
abbrev pub making : Site → Holding
making at = record nothing { kept = keep at.desc at.seat.class on_its_way; frames = at.frame ∷ [] }

-- what a free holds that knows its descriptor; where it stored its hazard word that guards the descriptor
abbrev pub pushing : Site → ℕ → HazardState → Holding
pushing at i hazard = record nothing { frees = block_freed at i; hazard = hazard }

abbrev pub if_stored : Bool → ℕ → HazardState
if_stored stored d = if stored then guarded d else clear

-- what a caller holds in a superblock
abbrev pub block_holds : BlockPoint → Holding
block_holds (block.LoadActive s) = nothing
block_holds (block.TakeCredit s d credits) = nothing
block_holds (block.LoadInfo s d share) = holds_before_pop d s.class share
block_holds (block.LoadAnchor at share) = holds_before_pop at.desc at.seat.class share
block_holds (block.LoadLink at share a) = holds_before_pop at.desc at.seat.class share
block_holds (block.PopBlock at share a prefix) = holds_before_pop at.desc at.seat.class share
block_holds (block.StorePrefix at i) = record nothing { hands = block_handed at i }
block_holds (block.InstallCredits at i more) = holds_after_pop at i more
block_holds (block.InstallSuperblock at) = record nothing {
  credits = reserve at.desc (new_credits at.seat.class + 1);
  kept = keep at.desc at.seat.class waiting;
  frames = at.frame ∷ [];
}
block_holds (block.LoadReturn at i more) = holds_after_pop at i more
block_holds (block.ReturnCredits at i more a) = holds_after_pop at i more
block_holds (block.LoadPrefix s frame i) = record nothing { frees = freed (block_place frame s.class i) (need.Small s.class) false }
block_holds (block.LoadPushAnchor at i stored) = pushing at i (if_stored stored at.desc)
block_holds (block.StoreGuard at i a) = pushing at i owned
block_holds (block.LoadOwner at i a) = pushing at i (guarded at.desc)
block_holds (block.StoreLink at i a stored heap) = pushing at i (if_stored stored at.desc)
block_holds (block.PushBlock at i a stored heap) = pushing at i (if_stored stored at.desc)
block_holds (block.LinkBlock at i) = making at
block_holds (block.StoreInfo at) = making at
block_holds (block.StoreAnchor at) = making at

-- what a caller remembers in a superblock
abbrev pub block_recalls : BlockPoint → List Recall
block_recalls (block.LoadInfo s d share) = bound_for d s.class ∷ []
block_recalls (block.LoadAnchor at share) = bound_here at
block_recalls (block.LoadLink at share a) = pops at.desc a ∷ bound_here at
block_recalls (block.PopBlock at share a prefix) = links at.desc a prefix ∷ pops at.desc a ∷ bound_here at
block_recalls (block.StorePrefix at i) = bound_here at
block_recalls (block.InstallCredits at i more) = bound_here at
block_recalls (block.InstallSuperblock at) = says (name.Anchor at.desc) (anchor_word (new_anchor at.seat.class)) ∷ bound_here at
block_recalls (block.LoadReturn at i more) = bound_here at
block_recalls (block.ReturnCredits at i more a) = bound_here at
block_recalls (block.LoadPushAnchor at i stored) = bound_here at
block_recalls (block.StoreGuard at i a) = bound_here at
block_recalls (block.LoadOwner at i a) = bound_here at
block_recalls (block.StoreLink at i a stored heap) = bound_here at
block_recalls (block.PushBlock at i a stored heap) = says (prefix_name at.frame at.seat.class i) a.avail ∷ bound_here at
block_recalls (block.LinkBlock at i) = made at.frame at.seat.class i ∷ []
block_recalls (block.StoreInfo at) = made at.frame at.seat.class (block_count_of at.seat.class) ∷ []
block_recalls (block.StoreAnchor at) =
    says (name.Info at.desc) (info_word (info_at at)) ∷ made at.frame at.seat.class (block_count_of at.seat.class) ∷ []
block_recalls p = []

-- who took the last credit, or was granted blocks, expects no superblock to be the active one
abbrev pub unless_credit : SeatFields → Share → List Expected
unless_credit s Credit = []
unless_credit s LastCredit = none_active s
unless_credit s (Grant more) = none_active s

-- a caller expects the anchor of a superblock to be the one that it read
abbrev pub anchor_still : ℕ → AnchorFields → List Expected → List Expected
anchor_still d a rest = expect (name.Anchor d) (anchor_word a) rest

-- what a caller expects in a superblock
abbrev pub block_expects : BlockPoint → List Expected
block_expects (block.TakeCredit s d credits) = expect (active_name s) (active_word (Held d credits)) []
block_expects (block.LoadInfo s d share) = unless_credit s share
block_expects (block.LoadAnchor at share) = unless_credit at.seat share
block_expects (block.LoadLink at share a) = anchor_still at.desc a (unless_credit at.seat share)
block_expects (block.PopBlock at share a prefix) = anchor_still at.desc a (unless_credit at.seat share)
block_expects (block.InstallCredits at i more) = none_active at.seat
block_expects (block.InstallSuperblock at) = none_active at.seat
block_expects (block.ReturnCredits at i more a) = anchor_still at.desc a []
block_expects (block.StoreGuard at i a) = anchor_still at.desc a []
block_expects (block.LoadOwner at i a) = anchor_still at.desc a []
block_expects (block.StoreLink at i a stored heap) = anchor_still at.desc a []
block_expects (block.PushBlock at i a stored heap) = anchor_still at.desc a []
block_expects (block.LinkBlock at i) = none_active at.seat
block_expects (block.StoreInfo at) = none_active at.seat
block_expects (block.StoreAnchor at) = none_active at.seat
block_expects p = []

-- the steps left in a superblock
abbrev pub block_left : Geometry → BlockPoint → ℕ
block_left g (block.LoadActive s) = active_left g s
block_left g (block.TakeCredit s d credits) = 7
block_left g (block.LoadInfo s d share) = 6
block_left g (block.LoadAnchor at share) = 5
block_left g (block.LoadLink at share a) = 4
block_left g (block.PopBlock at share a prefix) = 3
block_left g (block.StorePrefix at i) = 1
block_left g (block.InstallCredits at i more) = 2
block_left g (block.InstallSuperblock at) = 2
block_left g (block.LoadReturn at i more) = 7
block_left g (block.ReturnCredits at i more a) = 6
block_left g (block.LoadPrefix s frame i) = held_left g + 9
block_left g (block.LoadPushAnchor at i stored) = held_left g + 8
block_left g (block.StoreGuard at i a) = held_left g + 7
block_left g (block.LoadOwner at i a) = held_left g + 6
block_left g (block.StoreLink at i a stored heap) = held_left g + 5
block_left g (block.PushBlock at i a stored heap) = held_left g + 4
block_left g (block.LinkBlock at i) = block_count_of at.seat.class - i + 4
block_left g (block.StoreInfo at) = 4
block_left g (block.StoreAnchor at) = 3

-- whether a caller at the point is about to pop a block of d
abbrev pub pops_block : ℕ → BlockPoint → Bool
pops_block d (block.PopBlock at share a prefix) = at.desc == d
pops_block d p = false

-- whether a step from the point offers a superblock as the active one
abbrev pub is_offer : BlockPoint → Bool
is_offer (block.InstallCredits at i more) = true
is_offer (block.InstallSuperblock at) = true
is_offer p = false
