-- What a row says, by what its operation does to blocks: the one file of proofs that goes through the operations.
use Rattle.std.proofs.Common.{ℕ, ◌≡◌, ◌≢◌, ◌≤◌, ◌+◌, ◌%◌, ◌^◌, List, [], ◌∷◌, ◌++◌, Bool, true, false, Option, Some, None, refl, ap, ◌∙◌, append_assoc, arith}
use Rattle.std.specs.List.{AllByRecursion}
use Rattle.heap_geometry.specs.Need.{need_of, usable_words}
use Rattle.pool_model.specs.Calls.{EventsOf, alloc_given, alloc_refused}
use Rattle.pool_model.specs.declared.event.Event.{Event}
use Rattle.pool_model.specs.declared.event.Event.TheVariants.{Free, Put, TakeNone, Write}
use Rattle.pool_model.specs.Histories.{Begins}
use Rattle.trace_text.specs.declared.trace.Op.{Op}
use Rattle.trace_text.specs.declared.trace.Op.TheVariants as op
use Rattle.lane_outcomes.specs.declared.registers.HeldBlock.{HeldBlock}
use Rattle.lane_outcomes.specs.declared.outcome.Outcome.{Outcome}
use Rattle.lane_outcomes.specs.declared.outcome.Outcome.TheVariants as outcome
use Rattle.lane_outcomes.specs.Cached.{CachedBy, CachedPosition, CachedRow, FreedRow, GivenRow, ReplacedRow}
use Rattle.trace_text.specs.Operations.{register_of}
use Rattle.lane_outcomes.specs.Deeds.{Deed, deed_of}
use Rattle.lane_outcomes.specs.Deeds as deed
use Rattle.lane_outcomes.specs.Lane.{Position, filling, held_in, writing}
use Rattle.lane_outcomes.specs.Rows.{FitsRow, IsCopy, IsSpent, MayAsk, Moment, RowAt, Setting, TakeRow}
use Rattle.lane_outcomes.proofs.FollowLemmas.{IsStill}
use Rattle.lane_outcomes.proofs.WalkLemmas.{all-map, all-writing}

-- an event of a caller's that gives no block, frees none and hands none over, and is no answer to an allocation
abbrev pub IsMild : ℕ → Event → Type 0
IsMild caller (Write by place i v) = by ≡ caller
IsMild caller (TakeNone by shelf) = by ≡ caller
IsMild caller event = ⊥

mild-still : (caller : ℕ) (event : Event) → IsMild caller event → IsStill caller event
mild-still caller (Write by place i v) mild = mild
mild-still caller (TakeNone by shelf) mild = mild
mild-still caller event mild = absurd mild

pub stills-mild : (caller : ℕ) (events : List Event) → AllByRecursion (IsMild caller) events → AllByRecursion (IsStill caller) events
stills-mild caller events = all-map (IsMild caller) (IsStill caller) events (mild-still caller)

none-mild : (caller : ℕ) (piece : List Event) → piece ≡ [] → AllByRecursion (IsMild caller) piece
none-mild caller piece none = rw none tt

-- what a row says where a block is given, or given in place of another, or freed
abbrev pub Dealt : Setting → Position → Option HeldBlock → Deed → List Event → Type 0
Dealt setting position slot (deed.gives need v words place) piece =
    (slot ≡ None) × MayAsk position need × (words ≡ usable_words (need_of need))
    × (calls : List Event) × EventsOf setting.caller (alloc_given need place) calls
    × (piece ≡ calls ++ filling setting.caller place words v)
Dealt setting position slot (deed.replaces need words place) piece =
    (held : HeldBlock) × (slot ≡ Some held) × (need_of need ≢ held.need) × MayAsk position need × (words ≡ usable_words (need_of need))
    × (calls : List Event) × EventsOf setting.caller (alloc_given need place) calls
    × (value : ℕ → ℕ) × IsCopy setting position held words value
    × (piece ≡ calls ++ writing setting.caller place words value ++ Free setting.caller held.place ∷ [])
Dealt setting position slot deed.frees piece = (held : HeldBlock) × (slot ≡ Some held) × (piece ≡ Free setting.caller held.place ∷ [])
Dealt setting position slot done piece = ⊥

-- such a row is one of its operation
pub dealt-row :
    (setting : Setting) (position : Position) (piece : List Event) (operation : Op) (slot : Option HeldBlock) (result : Outcome)
    → Dealt setting position slot (deed_of operation result) piece → RowAt setting position operation slot result piece
dealt-row setting position piece (op.Alloc r need v) slot (outcome.Given words place) (empty, may, words_are, calls, events, is) =
    rw empty (may, words_are, calls, events, is)
dealt-row setting position piece (op.Resize r need) slot (outcome.Resized words place)
    (held, full, differ, may, words_are, calls, events, value, copy, is) = rw full (differ, may, words_are, calls, events, value, copy, is)
dealt-row setting position piece (op.Free r) slot outcome.Freed (held, full, is) = rw full is
dealt-row setting position piece (op.Put r shelf) slot outcome.Put row = absurd row
dealt-row setting position piece (op.Take r shelf) slot (outcome.Took words place need) row = absurd row
dealt-row setting position piece operation slot result row = absurd row

-- what any row says: of a block that is given or freed; of the events of an allocation that was given none; of a block that is handed over; or that each
-- stays where it is
abbrev pub Hands : Setting → Position → Option HeldBlock → Deed → List Event → Type 0
Hands setting position slot (deed.refuses need) piece = EventsOf setting.caller (alloc_refused need) piece
Hands setting position slot (deed.spends need) piece = IsSpent setting position need piece position.spent
Hands setting position slot deed.lays piece =
    (held : HeldBlock) × (slot ≡ Some held) × (shelf : ℕ) × (piece ≡ Put setting.caller held.place shelf ∷ [])
Hands setting position slot (deed.takes words place need) piece = (shelf : ℕ) × TakeRow setting position shelf None (outcome.Took words place need) piece
Hands setting position slot deed.stays piece = AllByRecursion (IsMild setting.caller) piece
Hands setting position slot done piece = Dealt setting position slot done piece

pub row-hands :
    (setting : Setting) (position : Position) (piece : List Event) (operation : Op) (slot : Option HeldBlock) (result : Outcome)
    → RowAt setting position operation slot result piece → Hands setting position slot (deed_of operation result) piece
row-hands setting position piece (op.Alloc r need v) None (outcome.Given words place) (may, words_are, calls, events, is) =
    (refl, may, words_are, calls, events, is)
row-hands setting position piece (op.Free r) (Some held) outcome.Freed row = (held, refl, row)
row-hands setting position piece (op.Resize r need) (Some held) (outcome.Resized words place) (differ, may, words_are, calls, events, value, copy, is) =
    (held, refl, differ, may, words_are, calls, events, value, copy, is)
row-hands setting position piece (op.Put r shelf) (Some held) outcome.Put row = (held, refl, shelf, row)
row-hands setting position piece (op.Take r shelf) None (outcome.Took words place need) row = (shelf, row)
row-hands setting position piece (op.Alloc r need v) (Some held) outcome.Skipped row = none-mild setting.caller piece row
row-hands setting position piece (op.Alloc r need v) None outcome.Refused row = row.1
row-hands setting position piece (op.Alloc r need v) None outcome.Spent row = row
row-hands setting position piece (op.Free r) None outcome.Skipped row = none-mild setting.caller piece row
row-hands setting position piece (op.Fill r v) None outcome.Skipped row = none-mild setting.caller piece row
row-hands setting position piece (op.Fill r v) (Some held) outcome.Filled row =
    rw row (all-writing (IsMild setting.caller) setting.caller held.place held.words (λ i. (v + i) % 2 ^ 64) (λ i n. refl))
row-hands setting position piece (op.Check r) None outcome.Skipped row = none-mild setting.caller piece row
row-hands setting position piece (op.Check r) (Some held) (outcome.Sum total) row = none-mild setting.caller piece row.0
row-hands setting position piece (op.Put r shelf) None outcome.Skipped row = none-mild setting.caller piece row
row-hands setting position piece (op.Put r shelf) (Some held) outcome.ShelfFull row = none-mild setting.caller piece row.0
row-hands setting position piece (op.Take r shelf) (Some held) outcome.Skipped row = none-mild setting.caller piece row
row-hands setting position piece (op.Take r shelf) None outcome.ShelfEmpty row = rw row (refl, tt)
row-hands setting position piece (op.Resize r need) None outcome.Skipped row = none-mild setting.caller piece row
row-hands setting position piece (op.Resize r need) (Some held) (outcome.Kept words place) row = none-mild setting.caller piece row.0
row-hands setting position piece (op.Resize r need) (Some held) outcome.Refused row = row.2
row-hands setting position piece (op.Resize r need) (Some held) outcome.Spent row = row.1
row-hands setting position piece operation None result row = absurd row
row-hands setting position piece operation (Some held) result row = absurd row

-- only an allocation and a resize are refused, or find no turn left, and only by the heap
refused-at :
    (setting : Setting) (position : Position) (piece : List Event) (operation : Op) (slot : Option HeldBlock)
    → RowAt setting position operation slot outcome.Refused piece
    → (need : ℕ) × (deed_of operation outcome.Refused ≡ deed.refuses need) × EventsOf setting.caller (alloc_refused need) piece
refused-at setting position piece (op.Alloc r need v) None row = (need, refl, row.1)
refused-at setting position piece (op.Resize r need) (Some held) row = (need, refl, row.2)
refused-at setting position piece operation None row = absurd row
refused-at setting position piece operation (Some held) row = absurd row

spent-at :
    (setting : Setting) (position : Position) (piece : List Event) (operation : Op) (slot : Option HeldBlock)
    → RowAt setting position operation slot outcome.Spent piece
    → (need : ℕ) × (deed_of operation outcome.Spent ≡ deed.spends need) × IsSpent setting position need piece position.spent
spent-at setting position piece (op.Alloc r need v) None row = (need, refl, row)
spent-at setting position piece (op.Resize r need) (Some held) row = (need, refl, row.1)
spent-at setting position piece operation None row = absurd row
spent-at setting position piece operation (Some held) row = absurd row

pub row-refused :
    (setting : Setting) (depth : ℕ) (position : CachedPosition) (operation : Op) (piece : List Event)
    → CachedRow setting depth position operation outcome.Refused piece
    → (need : ℕ) × (deed_of operation outcome.Refused ≡ deed.refuses need) × EventsOf setting.caller (alloc_refused need) piece
row-refused setting depth position (op.Alloc r need v) piece row = refused-at setting position.base piece (op.Alloc r need v) (held_in position.base.registers r) row.1
row-refused setting depth position (op.Resize r need) piece row = refused-at setting position.base piece (op.Resize r need) (held_in position.base.registers r) row.1
row-refused setting depth position operation piece row =
    refused-at setting position.base piece operation (held_in position.base.registers (register_of operation)) row

pub row-spent :
    (setting : Setting) (depth : ℕ) (position : CachedPosition) (operation : Op) (piece : List Event)
    → CachedRow setting depth position operation outcome.Spent piece
    → (need : ℕ) × (deed_of operation outcome.Spent ≡ deed.spends need) × IsSpent setting position.base need piece position.base.spent
row-spent setting depth position (op.Alloc r need v) piece row = spent-at setting position.base piece (op.Alloc r need v) (held_in position.base.registers r) row.1
row-spent setting depth position (op.Resize r need) piece row = spent-at setting position.base piece (op.Resize r need) (held_in position.base.registers r) row.1
row-spent setting depth position operation piece row =
    spent-at setting position.base piece operation (held_in position.base.registers (register_of operation)) row

-- what a row adds, also through a cache
abbrev pub Adds : Setting → ℕ → CachedPosition → ℕ → Deed → List Event → Type 0
Adds setting depth position r (deed.gives need v words place) piece = GivenRow setting position r need v words place piece
Adds setting depth position r (deed.replaces need words place) piece = ReplacedRow setting depth position r need words place piece
Adds setting depth position r deed.frees piece = FreedRow setting depth position r piece
Adds setting depth position r done piece = Hands setting position.base (held_in position.base.registers r) done piece

adds-by :
    (setting : Setting) (depth : ℕ) (position : CachedPosition) (operation : Op) (result : Outcome) (piece : List Event) (done : Deed)
    → (FitsRow setting position.base operation result piece → Hands setting position.base (held_in position.base.registers (register_of operation)) done piece)
    → CachedBy setting depth position operation result piece done → Adds setting depth position (register_of operation) done piece
adds-by setting depth position operation result piece (deed.gives need v words place) hands row = row
adds-by setting depth position operation result piece (deed.replaces need words place) hands row = row
adds-by setting depth position operation result piece deed.frees hands row = row
adds-by setting depth position operation result piece (deed.refuses need) hands row = hands row.1
adds-by setting depth position operation result piece (deed.spends need) hands row = hands row.1
adds-by setting depth position operation result piece deed.lays hands row = hands row
adds-by setting depth position operation result piece (deed.takes words place need) hands row = hands row
adds-by setting depth position operation result piece deed.stays hands row = hands row

pub row-adds :
    (setting : Setting) (depth : ℕ) (position : CachedPosition) (operation : Op) (result : Outcome) (piece : List Event)
    → CachedRow setting depth position operation result piece → Adds setting depth position (register_of operation) (deed_of operation result) piece
row-adds setting depth position operation result piece =
    adds-by setting depth position operation result piece (deed_of operation result)
    (row-hands setting position.base piece operation (held_in position.base.registers (register_of operation)) result)

-- the setting with a longer history, and more exchanges lost
abbrev pub later : Setting → List Event → ℕ → Setting
later setting rest lost = record setting { history = setting.history ++ rest; lost = lost }

-- a beginning of a history is one of a longer history
pub begins-longer : (before history rest : List Event) → Begins before history → Begins before (history ++ rest)
begins-longer before history rest (more, is) =
    (more ++ rest, ap (λ xs. xs ++ rest) is ∙ append_assoc before more rest)

-- a moment in a history is one in a longer history
abbrev pub moment-later : (setting : Setting) (rest : List Event) (lost : ℕ) (done : List Event) → Moment setting done → Moment (later setting rest lost) done
moment-later setting rest lost done moment =
    record {
      before = moment.before;
      begins = begins-longer moment.before setting.history rest moment.begins;
      own_done = moment.own_done;
    }

spent-later :
    (setting : Setting) (rest : List Event) (lost : ℕ) → setting.lost ≤ lost → (position : Position) (need : ℕ) (piece : List Event) (spent : Bool)
    → IsSpent setting position need piece spent → IsSpent (later setting rest lost) position need piece spent
spent-later setting rest lost more position need piece true row = row
spent-later setting rest lost more position need piece false row =
    (row.0, omega (arith, row.1), moment-later setting rest lost (position.done ++ piece) row.2, row.3)

pub copy-later :
    (setting : Setting) (rest : List Event) (lost : ℕ) (position : Position) (held : HeldBlock) (words : ℕ) (value : ℕ → ℕ)
    → IsCopy setting position held words value → IsCopy (later setting rest lost) position held words value
copy-later setting rest lost position held words value copy =
    record { moment = moment-later setting rest lost position.done copy.moment; block = copy.block; live = copy.live; each = copy.each }

-- a row that fits a setting fits one with a longer history and more exchanges lost
pub later-at :
    (setting : Setting) (rest : List Event) (lost : ℕ) → setting.lost ≤ lost
    → (position : Position) (operation : Op) (slot : Option HeldBlock) (result : Outcome) (piece : List Event)
    → RowAt setting position operation slot result piece → RowAt (later setting rest lost) position operation slot result piece
later-at setting rest lost more position (op.Alloc r need v) None outcome.Spent piece row = spent-later setting rest lost more position need piece position.spent row
later-at setting rest lost more position (op.Check r) (Some held) (outcome.Sum total) piece row =
    (row.0, moment-later setting rest lost position.done row.1, row.2, row.3, row.4)
later-at setting rest lost more position (op.Put r shelf) (Some held) outcome.ShelfFull piece row =
    (row.0, moment-later setting rest lost position.done row.1, row.2)
later-at setting rest lost more position (op.Take r shelf) None (outcome.Took words place need) piece row =
    (row.0, moment-later setting rest lost position.done row.1, row.2, begins-longer (row.1.before ++ piece) setting.history rest row.3, row.4, row.5, row.6)
later-at setting rest lost more position (op.Resize r need) (Some held) (outcome.Resized words place) piece row =
    (row.0, row.1, row.2, row.3, row.4, row.5, copy-later setting rest lost position held words row.5 row.6, row.7)
later-at setting rest lost more position (op.Resize r need) (Some held) outcome.Spent piece row =
    (row.0, spent-later setting rest lost more position need piece position.spent row.1)
later-at setting rest lost more position operation None result piece row = row
later-at setting rest lost more position operation (Some held) result piece row = row
