-- The outcomes of lanes each of which runs through a cache of its own: those of a lane, but for what its magazines serve and keep.
use Rattle.std.specs.Prelude.{ℕ, suc, ◌+◌, ◌≡◌, ◌≢◌, ◌<◌, ◌∷◌, ◌++◌, List, [], Option, Some, None, length}
use Rattle.std.specs.List.{AllByRecursion}
use Rattle.heap_geometry.specs.declared.geometry.Geometry.{Geometry}
use Rattle.heap_geometry.specs.Need.{need_of, usable_words}
use Rattle.pool_model.specs.declared.event.Event.{Event}
use Rattle.pool_model.specs.Calls.{EventsOf, alloc_given}
use Rattle.pool_model.specs.Histories.{own, caller_of}
use Rattle.trace_text.specs.declared.trace.Op.{Op}
use Rattle.lane_outcomes.specs.declared.registers.HeldBlock.{HeldBlock}
use Rattle.lane_outcomes.specs.declared.outcome.Outcome.{Outcome}
use Rattle.trace_text.specs.Operations.{register_of}
use Rattle.lane_outcomes.specs.Deeds.{Deed, deed_of}
use Rattle.lane_outcomes.specs.Deeds as deed
use Rattle.lane_outcomes.specs.Lane.{Position, answered_after, filling, held_in, registers_after, spent_after, start, writing}
use Rattle.lane_outcomes.specs.Rows.{FitsRow, IsCopy, MayAsk, Setting}
use Rattle.lane_outcomes.specs.Standing.{setting_in}
use Rattle.lane_outcomes.specs.Magazines.{empty_magazines, emptying, freeing, is_kept, magazines_freed, magazines_given, served_by}

-- a lane between two operations: where it stands as a lane without a cache does, its magazines, and how many of its allocations they have served
pub record CachedPosition : Type 0 where
  pub base : Position
  pub magazines : List (List ℕ)
  pub hits : ℕ

-- a lane with a cache before its first operation: its magazines are empty, and have served nothing
abbrev pub cached_start : CachedPosition
cached_start = record { base = start; magazines = empty_magazines; hits = 0 }

-- the block at this place is given for a need, with these events: a magazine's last one, with none; or the heap's, if no magazine has one
abbrev pub IsGivenBy : Option ℕ → Setting → CachedPosition → ℕ → ℕ → List Event → Type 0
IsGivenBy (Some served) setting position need place calls = (place ≡ served) × (calls ≡ [])
IsGivenBy None setting position need place calls = MayAsk position.base need × EventsOf setting.caller (alloc_given need place) calls

abbrev pub IsGiven : Setting → CachedPosition → ℕ → ℕ → List Event → Type 0
IsGiven setting position need = IsGivenBy (served_by position.magazines (need_of need)) setting position need

-- an empty register is given a block for a need, which is filled from v on
abbrev pub GivenRow : Setting → CachedPosition → ℕ → ℕ → ℕ → ℕ → ℕ → List Event → Type 0
GivenRow setting position r need v words place piece =
    (held_in position.base.registers r ≡ None) × (words ≡ usable_words (need_of need))
    × (calls : List Event) × IsGiven setting position need place calls
    × (piece ≡ calls ++ filling setting.caller place words v)

-- a full register is given a block for another need, with the words of its own, which is freed: kept or given back, behind the allocation
abbrev pub ReplacedRow : Setting → ℕ → CachedPosition → ℕ → ℕ → ℕ → ℕ → List Event → Type 0
ReplacedRow setting depth position r need words place piece =
    (held : HeldBlock) × (held_in position.base.registers r ≡ Some held) × (need_of need ≢ held.need) × (words ≡ usable_words (need_of need))
    × (calls : List Event) × IsGiven setting position need place calls
    × (value : ℕ → ℕ) × IsCopy setting position.base held words value
    × (piece
    ≡ calls ++ writing setting.caller place words value
    ++ freeing setting.caller (is_kept depth (magazines_given position.magazines (need_of need)) held.need) held.place)

-- a full register's block is freed: kept or given back
abbrev pub FreedRow : Setting → ℕ → CachedPosition → ℕ → List Event → Type 0
FreedRow setting depth position r piece =
    (held : HeldBlock) × (held_in position.base.registers r ≡ Some held)
    × (piece ≡ freeing setting.caller (is_kept depth position.magazines held.need) held.place)

-- the operation may have this outcome, and then adds this piece to its lane's own events. A block is given by a magazine or by the heap, and only the heap
-- refuses one. All else is as without a cache
abbrev pub CachedBy : Setting → ℕ → CachedPosition → Op → Outcome → List Event → Deed → Type 0
CachedBy setting depth position operation result piece (deed.gives need v words place) =
    GivenRow setting position (register_of operation) need v words place piece
CachedBy setting depth position operation result piece (deed.replaces need words place) =
    ReplacedRow setting depth position (register_of operation) need words place piece
CachedBy setting depth position operation result piece deed.frees = FreedRow setting depth position (register_of operation) piece
CachedBy setting depth position operation result piece (deed.refuses need) =
    (served_by position.magazines (need_of need) ≡ None) × FitsRow setting position.base operation result piece
CachedBy setting depth position operation result piece (deed.spends need) =
    (served_by position.magazines (need_of need) ≡ None) × FitsRow setting position.base operation result piece
CachedBy setting depth position operation result piece done = FitsRow setting position.base operation result piece

abbrev pub CachedRow : Setting → ℕ → CachedPosition → Op → Outcome → List Event → Type 0
CachedRow setting depth position operation result piece = CachedBy setting depth position operation result piece (deed_of operation result)

-- the magazine's block that served an operation, if one did
abbrev pub served_with : List (List ℕ) → Deed → Option ℕ
served_with magazines (deed.gives need v words place) = served_by magazines (need_of need)
served_with magazines (deed.replaces need words place) = served_by magazines (need_of need)
served_with magazines done = None

abbrev pub served_for : List (List ℕ) → Op → Outcome → Option ℕ
served_for magazines operation result = served_with magazines (deed_of operation result)

-- an operation that was served is a hit, and not one of those that the heap answered
abbrev pub hit_of : Option ℕ → ℕ
hit_of None = 0
hit_of (Some place) = 1

abbrev pub answered_by : Option ℕ → ℕ → Op → Outcome → ℕ
answered_by None answered operation result = answered_after answered operation result
answered_by (Some place) answered operation result = answered

-- the magazines after an operation, whose register held this
abbrev pub magazines_by : ℕ → List (List ℕ) → Option HeldBlock → Deed → List (List ℕ)
magazines_by depth magazines held (deed.gives need v words place) = magazines_given magazines (need_of need)
magazines_by depth magazines held deed.frees = magazines_freed depth magazines held
magazines_by depth magazines held (deed.replaces need words place) = magazines_freed depth (magazines_given magazines (need_of need)) held
magazines_by depth magazines held done = magazines

abbrev pub magazines_after : ℕ → List (List ℕ) → List (Option HeldBlock) → Op → Outcome → List (List ℕ)
magazines_after depth magazines registers operation result =
    magazines_by depth magazines (held_in registers (register_of operation)) (deed_of operation result)

-- the lane after an operation with its outcome and the events that it added
abbrev pub cached_after : ℕ → CachedPosition → Op → Outcome → List Event → CachedPosition
cached_after depth position operation result piece =
    record {
      base =
          record {
            registers = registers_after position.base.registers operation result;
            done = position.base.done ++ piece;
            answered = answered_by (served_for position.magazines operation result) position.base.answered operation result;
            spent = spent_after position.base.spent result;
          };
      magazines = magazines_after depth position.magazines position.base.registers operation result;
      hits = position.hits + hit_of (served_for position.magazines operation result);
    }

-- the operations with these outcomes lead the lane from one state to another, one row after the other
abbrev pub CachedWalks : Setting → ℕ → CachedPosition → List Op → List Outcome → CachedPosition → Type 0
CachedWalks setting depth from [] [] to = to ≡ from
CachedWalks setting depth from (operation ∷ operations) (result ∷ results) to =
    (piece : List Event) × CachedRow setting depth from operation result piece
    × CachedWalks setting depth (cached_after depth from operation result piece) operations results to
CachedWalks setting depth from [] (result ∷ results) to = ⊥
CachedWalks setting depth from (operation ∷ operations) [] to = ⊥

-- the outcomes of a lane fit its operations and a history: with the frees of the blocks that are left in magazines they use up all events of the lane; so many allocations were served
pub record CachedFits (setting : Setting) (depth : ℕ) (operations : List Op) (results : List Outcome) (hits : ℕ) : Type 0 where
  pub end : CachedPosition
  pub walks : CachedWalks setting depth cached_start operations results end
  pub all_used : own setting.caller setting.history ≡ end.base.done ++ emptying setting.caller end.magazines
  pub hits_are : hits ≡ end.hits

-- each lane's outcomes fit, the lanes being numbered from `lane` on, and these allocations were served in all of them
abbrev pub CachedLanesFit : Geometry → List Event → ℕ → ℕ → ℕ → List (List Op) → List (List Outcome) → ℕ → Type 0
CachedLanesFit g history lost depth lane [] [] hits = hits ≡ 0
CachedLanesFit g history lost depth lane (operations ∷ lanes) (results ∷ outcomes) hits =
    (these : ℕ) × (others : ℕ) × (hits ≡ these + others)
    × CachedFits (setting_in history lane g.turn_limit lost) depth operations results these
    × CachedLanesFit g history lost depth (suc lane) lanes outcomes others
CachedLanesFit g history lost depth lane [] (results ∷ outcomes) hits = ⊥
CachedLanesFit g history lost depth lane (operations ∷ lanes) [] hits = ⊥

-- the outcomes and the number of allocations served fit the lanes and the history, and no event has another caller
pub record CachedOutcomesFit (g : Geometry) (history : List Event) (lost depth : ℕ) (lanes : List (List Op)) (outcomes : List (List Outcome)) (hits : ℕ) : Type 0 where
  pub lanes_fit : CachedLanesFit g history lost depth 0 lanes outcomes hits
  pub callers : AllByRecursion (λ event. caller_of event < length lanes) history
