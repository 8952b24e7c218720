-- What is said of each point at a partial superblock: who stands there, what the caller holds, remembers and expects, and how many steps are left.
use Rattle.std.specs.Prelude.{Bool, List, [], ◌∷◌, ◌+◌, ℕ, ◌-◌}
use Rattle.heap_geometry.specs.declared.geometry.Geometry.{Geometry}
use Rattle.word_table.specs.Sites.{slot_name}
use Rattle.step_parts.specs.partial.Points.{slot_of}
use Rattle.step_parts.specs.declared.partial.point.PartialPoint.TheVariants as partial
use Rattle.step_parts.specs.declared.partial.point.PartialPoint.{PartialPoint}
use Rattle.errand_steps.specs.Continuations.{is_alloc, is_free, fills, is_finish, is_clearing}
use Rattle.errand_steps.specs.declared.continuation.Continuation.TheVariants as continuation
use Rattle.errand_steps.specs.declared.continuation.Continuation.{Continuation}
use Rattle.errand_steps.specs.tables.Blocks.{anchor_still}
use Rattle.errand_steps.specs.tables.Expected.{Expected, expect, continuation_expects}
use Rattle.errand_steps.specs.tables.Holding.{partly_used, guarded, Holding, nothing, keep, continuation_holds, with_partial}
use Rattle.errand_steps.specs.tables.Lengths.{slot_left, held_left, put_left, listed_left}
use Rattle.errand_steps.specs.tables.Recall.{Recall, located, in_use, emptied, continuation_recalls}
use Rattle.errand_steps.specs.tables.TurnStage.{TurnStage, partial_taken, continuation_turn_stage}

-- the continuations that stand at a point of a partial superblock
abbrev pub goes_partial : PartialPoint → Continuation → Bool
goes_partial (partial.LoadOwner s d) o = is_finish o
goes_partial (partial.PutSlot s d heap) o = fills o
goes_partial (partial.LoadHeldSlot s d heap) o = is_free o
goes_partial (partial.RemoveFromSlot s d heap) o = is_free o
goes_partial (partial.LoadListedAnchor s d) o = is_clearing o
goes_partial p o = is_alloc o

-- how far a turn is at a partial superblock
abbrev pub partial_turn_stage : PartialPoint → Continuation → TurnStage
partial_turn_stage (partial.LoadTakenInfo s d) o = partial_taken
partial_turn_stage (partial.StoreOwner at) o = partial_taken
partial_turn_stage (partial.LoadGrantAnchor at) o = partial_taken
partial_turn_stage (partial.Grant at a) o = partial_taken
partial_turn_stage p o = continuation_turn_stage o

-- what a caller holds at a partial superblock
abbrev pub partial_holds : PartialPoint → Continuation → Holding
partial_holds (partial.LoadTakenInfo s d) o = record nothing { kept = keep d s.class partly_used }
partial_holds (partial.StoreOwner at) o = record nothing { kept = keep at.desc at.seat.class partly_used }
partial_holds (partial.LoadGrantAnchor at) o = record nothing { kept = keep at.desc at.seat.class partly_used }
partial_holds (partial.Grant at a) o = record nothing { kept = keep at.desc at.seat.class partly_used }
partial_holds (partial.LoadOwner s d) o = with_partial d s.class (continuation_holds s o)
partial_holds (partial.PutSlot s d heap) o = with_partial d s.class (continuation_holds s o)
partial_holds (partial.LoadHeldSlot s d heap) o = record nothing { hazard = guarded d }
partial_holds (partial.RemoveFromSlot s d heap) o = record nothing { hazard = guarded d }
partial_holds (partial.LoadListedAnchor s d) o = with_partial d s.class (continuation_holds s o)
partial_holds p o = nothing

-- what a caller remembers at a partial superblock
abbrev pub partial_recalls : PartialPoint → Continuation → List Recall
partial_recalls (partial.StoreOwner at) o = located at.desc at.frame at.seat.class ∷ []
partial_recalls (partial.LoadGrantAnchor at) o = located at.desc at.frame at.seat.class ∷ []
partial_recalls (partial.Grant at a) o = in_use a ∷ located at.desc at.frame at.seat.class ∷ []
partial_recalls (partial.PutSlot s d heap) o = continuation_recalls s o
partial_recalls (partial.LoadHeldSlot s d heap) o = emptied d ∷ []
partial_recalls (partial.RemoveFromSlot s d heap) o = emptied d ∷ []
partial_recalls p o = []

-- what a caller expects at a partial superblock
abbrev pub partial_expects : PartialPoint → Continuation → List Expected
partial_expects (partial.LoadSlot s) o = continuation_expects s o
partial_expects (partial.TakeSlot s d) o = expect (slot_name s) (d + 1) (continuation_expects s o)
partial_expects (partial.LoadTakenInfo s d) o = continuation_expects s o
partial_expects (partial.StoreOwner at) o = continuation_expects at.seat o
partial_expects (partial.LoadGrantAnchor at) o = continuation_expects at.seat o
partial_expects (partial.Grant at a) o = anchor_still at.desc a (continuation_expects at.seat o)
partial_expects (partial.LoadOwner s d) o = continuation_expects s o
partial_expects (partial.PutSlot s d heap) o = continuation_expects s o
partial_expects (partial.LoadHeldSlot s d heap) o = continuation_expects s o
partial_expects (partial.RemoveFromSlot s d heap) o = expect (slot_of s heap) (d + 1) (continuation_expects s o)
partial_expects (partial.LoadListedAnchor s d) o = continuation_expects s o

-- the steps left at a partial superblock
abbrev pub partial_left : Geometry → PartialPoint → Continuation → ℕ
partial_left g (partial.LoadSlot s) o = slot_left g s
partial_left g (partial.TakeSlot s d) o = 10
partial_left g (partial.LoadTakenInfo s d) o = 9
partial_left g (partial.StoreOwner at) o = 8
partial_left g (partial.LoadGrantAnchor at) o = 7
partial_left g (partial.Grant at a) o = 6
partial_left g (partial.LoadOwner s d) o = put_left g s o + 5
partial_left g (partial.PutSlot s d heap) o = put_left g s o + 4
partial_left g (partial.LoadHeldSlot s d heap) o = held_left g
partial_left g (partial.RemoveFromSlot s d heap) o = held_left g - 1
partial_left g (partial.LoadListedAnchor s d) o = listed_left g o

-- how many pops of a class's list a free that made its superblock EMPTY may still make at a partial superblock
abbrev pub partial_pops : PartialPoint → Continuation → ℕ
partial_pops (partial.LoadHeldSlot s d heap) o = 2
partial_pops (partial.RemoveFromSlot s d heap) o = 2
partial_pops (partial.LoadListedAnchor s d) continuation.Clear = 1
partial_pops p o = 0
