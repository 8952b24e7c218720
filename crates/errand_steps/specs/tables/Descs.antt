-- What is said of each point at the descriptors or the hazard words: who stands there, what the caller holds, remembers and expects, how far its scan is, and how many steps are left.
use Rattle.std.specs.Prelude.{Bool, List, [], ◌∷◌, ℕ, ◌+◌, ◌-◌, ◌==◌, if◌then◌else◌, Option, Some, None}
use Rattle.heap_geometry.specs.declared.geometry.Geometry.{Geometry}
use Rattle.word_table.specs.Seats.{SeatFields}
use Rattle.word_table.specs.declared.name.WordName.TheVariants as name
use Rattle.step_parts.specs.declared.hazard.point.DescPoint.TheVariants as desc
use Rattle.step_parts.specs.declared.hazard.point.DescPoint.{DescPoint}
use Rattle.errand_steps.specs.Continuations.{is_alloc, clears, resumes}
use Rattle.errand_steps.specs.declared.continuation.Continuation.{Continuation}
use Rattle.errand_steps.specs.tables.Expected.{Expected, expect, continuation_expects}
use Rattle.errand_steps.specs.tables.Holding.{on_its_way, left, named, guarded, Holding, nothing, keep, cleared_holds}
use Rattle.errand_steps.specs.tables.Lengths.{frame_left, desc_left, resumed_left, cleared_left}
use Rattle.errand_steps.specs.tables.Recall.{Recall, says, noted, looked, continuation_recalls, resumed_recalls}

-- the continuations that stand at a point of the descriptors or the hazard words
abbrev pub goes_desc : DescPoint → Continuation → Bool
goes_desc (desc.ClearHazard s) o = clears o
goes_desc (desc.ReadHazard s held at) o = resumes o
goes_desc (desc.LoadHeadToPush s d) o = resumes o
goes_desc (desc.StoreNextDesc s d top) o = resumes o
goes_desc (desc.PushDesc s d top) o = resumes o
goes_desc p o = is_alloc o

-- what a caller holds at the descriptors or the hazard words
abbrev pub desc_holds : DescPoint → Continuation → Holding
desc_holds (desc.LoadDescHead s) o = record nothing { hazard = left }
desc_holds (desc.StoreHazard s d) o = record nothing { hazard = left }
desc_holds (desc.ReloadDescHead s d) o = record nothing { hazard = named d }
desc_holds (desc.LoadNextDesc s d) o = record nothing { hazard = guarded d }
desc_holds (desc.PopDesc s d next) o = record nothing { hazard = guarded d }
desc_holds (desc.ClearAfterPop s d) o = record nothing { kept = keep d s.class on_its_way; hazard = guarded d }
desc_holds (desc.ClearHazard s) o = cleared_holds s o
desc_holds p o = nothing

-- what a caller remembers at the descriptors or the hazard words
abbrev pub desc_recalls : DescPoint → Continuation → List Recall
desc_recalls (desc.LoadDescHead s) o = looked s.class ∷ []
desc_recalls (desc.StoreHazard s d) o = looked s.class ∷ []
desc_recalls (desc.ReloadDescHead s d) o = looked s.class ∷ []
desc_recalls (desc.LoadNextDesc s d) o = looked s.class ∷ []
desc_recalls (desc.PopDesc s d next) o = noted d next ∷ looked s.class ∷ []
desc_recalls (desc.ClearAfterPop s d) o = looked s.class ∷ []
desc_recalls (desc.ClearHazard s) o = continuation_recalls s o
desc_recalls (desc.ReadHazard s held at) o = resumed_recalls s o
desc_recalls (desc.LoadHeadToPush s d) o = resumed_recalls s o
desc_recalls (desc.StoreNextDesc s d top) o = resumed_recalls s o
desc_recalls (desc.PushDesc s d top) o = says (name.Next d) top ∷ resumed_recalls s o

-- a caller expects the top one of the available descriptors to be the one that it read
abbrev pub top_still : ℕ → SeatFields → Continuation → List Expected
top_still top s o = expect name.DescHead top (continuation_expects s o)

-- what a caller expects at the descriptors or the hazard words
abbrev pub desc_expects : DescPoint → Continuation → List Expected
desc_expects (desc.LoadDescHead s) o = continuation_expects s o
desc_expects (desc.StoreHazard s d) o = top_still (d + 1) s o
desc_expects (desc.ReloadDescHead s d) o = top_still (d + 1) s o
desc_expects (desc.LoadNextDesc s d) o = top_still (d + 1) s o
desc_expects (desc.PopDesc s d next) o = top_still (d + 1) s o
desc_expects (desc.ClearAfterPop s d) o = continuation_expects s o
desc_expects (desc.ClearHazard s) o = continuation_expects s o
desc_expects (desc.ReadHazard s held at) o = continuation_expects s o
desc_expects (desc.LoadHeadToPush s d) o = continuation_expects s o
desc_expects (desc.StoreNextDesc s d top) o = top_still top s o
desc_expects (desc.PushDesc s d top) o = top_still top s o

-- the steps left at the descriptors or the hazard words
abbrev pub desc_point_left : Geometry → DescPoint → Continuation → ℕ
desc_point_left g (desc.LoadDescHead s) o = desc_left g s
desc_point_left g (desc.StoreHazard s d) o = frame_left g s + 5
desc_point_left g (desc.ReloadDescHead s d) o = frame_left g s + 4
desc_point_left g (desc.LoadNextDesc s d) o = frame_left g s + 3
desc_point_left g (desc.PopDesc s d next) o = frame_left g s + 2
desc_point_left g (desc.ClearAfterPop s d) o = frame_left g s + 1
desc_point_left g (desc.ClearHazard s) o = cleared_left g o + 1
desc_point_left g (desc.ReadHazard s held at) o = g.callers - at + 3 + resumed_left g s o
desc_point_left g (desc.LoadHeadToPush s d) o = resumed_left g s o + 3
desc_point_left g (desc.StoreNextDesc s d top) o = resumed_left g s o + 2
desc_point_left g (desc.PushDesc s d top) o = resumed_left g s o + 1

-- 1 where a caller saw the class's list empty and has no descriptor yet
abbrev pub waits_in_desc : ℕ → DescPoint → ℕ
waits_in_desc class (desc.LoadDescHead s) = if s.class == class then 1 else 0
waits_in_desc class (desc.StoreHazard s d) = if s.class == class then 1 else 0
waits_in_desc class (desc.ReloadDescHead s d) = if s.class == class then 1 else 0
waits_in_desc class (desc.LoadNextDesc s d) = if s.class == class then 1 else 0
waits_in_desc class (desc.PopDesc s d next) = if s.class == class then 1 else 0
waits_in_desc class p = 0

-- how many hazard words a caller's scan has passed, and what the hazard words named that it noted
abbrev pub passed_by_desc : DescPoint → ℕ
passed_by_desc (desc.ReadHazard s held at) = at
passed_by_desc p = 0

abbrev pub held_by_desc : DescPoint → List ℕ
held_by_desc (desc.ReadHazard s held at) = held
held_by_desc p = []

-- how many entries the caller's list may have beyond its callers: one during a scan and the push after it
abbrev pub spare_of_desc : DescPoint → ℕ
spare_of_desc (desc.ReadHazard s held at) = 1
spare_of_desc (desc.LoadHeadToPush s d) = 1
spare_of_desc (desc.StoreNextDesc s d top) = 1
spare_of_desc (desc.PushDesc s d top) = 1
spare_of_desc p = 0

-- the retired descriptor that is on its way to the available ones
abbrev pub pushed_by_desc : DescPoint → Option ℕ
pushed_by_desc (desc.LoadHeadToPush s d) = Some d
pushed_by_desc (desc.StoreNextDesc s d top) = Some d
pushed_by_desc (desc.PushDesc s d top) = Some d
pushed_by_desc p = None
