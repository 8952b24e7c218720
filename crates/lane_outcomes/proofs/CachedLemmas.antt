-- Along a lane's operations through a cache its registers and its magazines hold its blocks, at each moment of the history.
use Rattle.std.proofs.Common.{ℕ, ◌≡◌, ◌+◌, ◌%◌, ◌^◌, ◌∷◌, ◌++◌, List, [], Bool, Option, Some, None, length, replicate, set, refl, sym, ◌∙◌, subst, add-zero, add_assoc, append_assoc}
use Rattle.std.proofs.lemmas.List.{length-replicate, set-set}
use Rattle.std.specs.List.{AllByRecursion}
use Rattle.heap_geometry.specs.declared.geometry.Geometry.{Geometry}
use Rattle.heap_geometry.specs.declared.limits.TheConstants.{CLASSES}
use Rattle.heap_geometry.specs.Need.{need_of}
use Rattle.pool_model.specs.declared.event.Event.{Event}
use Rattle.pool_model.specs.Pool.{pool_of}
use Rattle.pool_model.specs.Legal.{IsLegalWithoutCounts}
use Rattle.trace_text.specs.declared.limits.TheConstants.{REGISTERS}
use Rattle.trace_text.specs.declared.trace.Op.{Op}
use Rattle.lane_outcomes.specs.declared.registers.HeldBlock.{HeldBlock}
use Rattle.lane_outcomes.specs.declared.outcome.Outcome.{Outcome}
use Rattle.lane_outcomes.specs.Lane.{held_in, registers_after, writing}
use Rattle.lane_outcomes.specs.LaneCounts.{as_one, count_with, lane_freed, lane_given, words_freed, words_given}
use Rattle.lane_outcomes.specs.Rows.{Moment, Setting}
use Rattle.lane_outcomes.specs.Standing.{HoldsOwn}
use Rattle.lane_outcomes.proofs.FollowLemmas.{IsStill, KeepsAt, keeps-start, keeps-stills}
use Rattle.lane_outcomes.specs.Cached.{CachedPosition, CachedRow, CachedWalks, cached_after, cached_start, magazines_by}
use Rattle.lane_outcomes.specs.Magazines.{freeing, is_kept, kept_from, magazines_given, served_by}
use Rattle.lane_outcomes.proofs.KeepingLemmas.{keeps-handed, keeps-laid, keeps-lifted, keeps-settled, keeps-taken}
use Rattle.lane_outcomes.proofs.KeptLemmas.{given-long, kept-nothing, magazines-long}
use Rattle.lane_outcomes.proofs.SlotLemmas.{slots}
use Rattle.trace_text.specs.Operations.{register_of}
use Rattle.lane_outcomes.specs.Deeds.{Deed, deed_of, freed_by, given_by, registers_by}
use Rattle.lane_outcomes.proofs.SlotRows.{Adds, row-adds, stills-mild}
use Rattle.lane_outcomes.proofs.WalkLemmas.{all-refused, spent-looks, stills-looks}
use Rattle.lane_outcomes.specs.Deeds as deed

-- the lane's magazines hold what it keeps, at a position
abbrev pub Stands : (ℕ → ℕ) → Setting → CachedPosition → ℕ → ℕ → Type 0
Stands f setting position got gone =
    KeepsAt f setting.history setting.caller position.base.done (kept_from 0 position.magazines) position.base.registers got gone

module _ (f : ℕ → ℕ) (g : Geometry) (setting : Setting) (depth : ℕ) (position : CachedPosition) (piece : List Event) (got gone : ℕ) (legal : IsLegalWithoutCounts g setting.history) (long : length position.magazines ≡ CLASSES) (keeps : Stands f setting position got gone) where
  abbrev KeepsBy : ℕ → Deed → Type 0
  KeepsBy r done =
      let held : Option HeldBlock = held_in position.base.registers r in
      KeepsAt f setting.history setting.caller (position.base.done ++ piece) (kept_from 0 (magazines_by depth position.magazines held done))
      (registers_by position.base.registers r done) (got + count_with f (given_by done)) (gone + count_with f (freed_by held done))

  still-keeps :
      AllByRecursion (IsStill setting.caller) piece
      → KeepsAt f setting.history setting.caller (position.base.done ++ piece) (kept_from 0 position.magazines) position.base.registers (got + 0) (gone + 0)
  still-keeps stills =
      rw (add-zero got, add-zero gone)
      (keeps-stills f g setting.history setting.caller legal position.base.done piece (kept_from 0 position.magazines) position.base.registers got gone stills keeps)

  -- so they do after an operation, by what it does to blocks
  deed-keeps : (r : ℕ) (done : Deed) → Adds setting depth position r done piece → KeepsBy r done
  deed-keeps r (deed.gives need v words place) (empty, words_are, calls, given, is) =
      rw (add-zero gone)
      (keeps-handed f g setting legal position position.base.done r need words place (λ i. (v + i) % 2 ^ 64) calls piece [] position.base.registers got gone
      words_are given is keeps)
  deed-keeps r (deed.replaces need words place) (held, full, differ, words_are, calls, given, value, copy, is) =
      let done : List Event = position.base.done in
      let made : List Event = calls ++ writing setting.caller place words value in
      let magazines : List (List ℕ) = magazines_given position.magazines (need_of need) in
      let stacks : Bool = is_kept depth magazines held.need in
      let new : Option HeldBlock = Some (record { place = place; words = words; need = need_of need }) in
      rw (full, is, ← append_assoc done made (freeing setting.caller stacks held.place), ← set-set position.base.registers r None new)
      (keeps-settled f g setting legal (done ++ made) depth magazines held (set (set position.base.registers r None) r new) (got + f words) (gone + f held.words)
      stacks (given-long (served_by position.magazines (need_of need)) position.magazines (need_of need) ∙ long) refl
      (keeps-handed f g setting legal position done r need words place value calls made (held ∷ []) (set position.base.registers r None) got (gone + f held.words)
      words_are given refl
      (keeps-lifted f g setting legal done r held (kept_from 0 position.magazines) position.base.registers got gone full keeps)))
  deed-keeps r deed.frees (held, full, is) =
      rw (full, is, add-zero got)
      (keeps-settled f g setting legal position.base.done depth position.magazines held (set position.base.registers r None) got (gone + f held.words)
      (is_kept depth position.magazines held.need) long refl
      (keeps-lifted f g setting legal position.base.done r held (kept_from 0 position.magazines) position.base.registers got gone full keeps))
  deed-keeps r deed.lays (held, full, shelf, is) =
      rw (is, add-zero got, add-zero gone)
      (keeps-laid f g setting legal position.base.done shelf held (kept_from 0 position.magazines) (set position.base.registers r None) got gone
      (keeps-lifted f g setting legal position.base.done r held (kept_from 0 position.magazines) position.base.registers got gone full keeps))
  deed-keeps r (deed.takes words place need) (shelf, row) =
      rw (add-zero got, add-zero gone)
      (keeps-taken f g setting legal position.base r shelf words place need (kept_from 0 position.magazines) position.base.registers piece got gone row keeps)
  deed-keeps r (deed.refuses need) events = still-keeps (all-refused (IsStill setting.caller) setting.caller need piece (λ class. refl) refl events)
  deed-keeps r (deed.spends need) spent = still-keeps (stills-looks setting.caller piece (spent-looks setting position.base need piece position.base.spent spent))
  deed-keeps r deed.stays milds = still-keeps (stills-mild setting.caller piece milds)

pub cached-row-keeps :
    (f : ℕ → ℕ) (g : Geometry) (setting : Setting) (depth : ℕ) (position : CachedPosition) (operation : Op) (result : Outcome) (piece : List Event) (got gone : ℕ)
    → IsLegalWithoutCounts g setting.history → length position.magazines ≡ CLASSES → CachedRow setting depth position operation result piece
    → Stands f setting position got gone
    → Stands f setting (cached_after depth position operation result piece) (got + count_with f (words_given operation result))
    (gone + count_with f (words_freed position.base.registers operation result))
cached-row-keeps f g setting depth position operation result piece got gone legal long row keeps =
    deed-keeps f g setting depth position piece got gone legal long keeps (register_of operation) (deed_of operation result)
    (row-adds setting depth position operation result piece row)

-- the lane's magazines hold what it keeps, to the end of a walk
pub walk-keeps :
    (f : ℕ → ℕ) (g : Geometry) (setting : Setting) (depth : ℕ) (from to : CachedPosition) (operations : List Op) (results : List Outcome) (got gone : ℕ)
    → IsLegalWithoutCounts g setting.history → length from.magazines ≡ CLASSES → CachedWalks setting depth from operations results to
    → Stands f setting from got gone
    → Stands f setting to (got + lane_given f operations results) (gone + lane_freed f from.base.registers operations results)
walk-keeps f g setting depth from to [] [] got gone legal long walks keeps = rw (walks, add-zero got, add-zero gone) keeps
walk-keeps f g setting depth from to (operation ∷ operations) (result ∷ results) got gone legal long (piece, row, walks) keeps =
    rw (
      ← add_assoc got (count_with f (words_given operation result)) (lane_given f operations results),
      ← add_assoc gone (count_with f (words_freed from.base.registers operation result)) (lane_freed f (registers_after from.base.registers operation result) operations results),
    )
    (walk-keeps f g setting depth (cached_after depth from operation result piece) to operations results (got + count_with f (words_given operation result))
    (gone + count_with f (words_freed from.base.registers operation result)) legal
    (magazines-long depth from.magazines (held_in from.base.registers (register_of operation)) (deed_of operation result) ∙ long) walks
    (cached-row-keeps f g setting depth from operation result piece got gone legal long row keeps))
walk-keeps f g setting depth from to operations results got gone legal long walks keeps = absurd walks

-- a lane before its first operation
pub starts-keeping : (f : ℕ → ℕ) (setting : Setting) → Stands f setting cached_start 0 0
starts-keeping f setting =
    subst (λ kept. KeepsAt f setting.history setting.caller [] kept (replicate REGISTERS None) 0 0) (sym (kept-nothing 0 CLASSES))
    (keeps-start f setting.history setting.caller)

pub lane-keeps :
    (f : ℕ → ℕ) (g : Geometry) (setting : Setting) (depth : ℕ) (operations : List Op) (results : List Outcome) (position : CachedPosition)
    → IsLegalWithoutCounts g setting.history → CachedWalks setting depth cached_start operations results position
    → Stands f setting position (0 + lane_given f operations results) (0 + lane_freed f (replicate REGISTERS None) operations results)
lane-keeps f g setting depth operations results position legal walks =
    let none : List ℕ = [] in
    walk-keeps f g setting depth cached_start position operations results 0 0 legal (length-replicate CLASSES none) walks (starts-keeping f setting)

-- the registers and the magazines hold the lane's blocks
pub lane-holds :
    (g : Geometry) (setting : Setting) (depth : ℕ) (operations : List Op) (results : List Outcome) (position : CachedPosition)
    → IsLegalWithoutCounts g setting.history → CachedWalks setting depth cached_start operations results position
    → (moment : Moment setting position.base.done)
    → HoldsOwn (pool_of moment.before) setting.caller (slots (kept_from 0 position.magazines) position.base.registers)
lane-holds g setting depth operations results position legal walks moment =
    (lane-keeps as_one g setting depth operations results position legal walks moment.before moment.begins moment.own_done).holds
