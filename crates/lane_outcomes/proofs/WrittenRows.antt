-- Along a lane's operations, also through a cache, each block that it is given is filled.
use Rattle.std.proofs.Common.{ℕ, ◌≡◌, List, [], ◌∷◌, ◌++◌, Bool, true, false, Option, Some, None, sym, ◌∙◌, ap, subst}
use Rattle.std.specs.List.{AllByRecursion}
use Rattle.heap_geometry.specs.Need.{need_of, usable_words}
use Rattle.pool_model.specs.declared.event.Event.{Event}
use Rattle.pool_model.specs.declared.event.Event.TheVariants.{Alloc, Free, Put, Take}
use Rattle.pool_model.proofs.HistoryLemmas.{push-append}
use Rattle.trace_text.specs.declared.trace.Op.{Op}
use Rattle.lane_outcomes.specs.declared.outcome.Outcome.{Outcome}
use Rattle.lane_outcomes.specs.Cached.{CachedPosition, CachedWalks, IsGivenBy}
use Rattle.trace_text.specs.Operations.{register_of}
use Rattle.lane_outcomes.specs.Deeds.{Deed, deed_of}
use Rattle.lane_outcomes.specs.Deeds as deed
use Rattle.lane_outcomes.specs.Lane.{writing}
use Rattle.lane_outcomes.specs.Magazines.{freeing, is_kept, magazines_given, served_by}
use Rattle.lane_outcomes.specs.Rows.{Setting}
use Rattle.lane_outcomes.proofs.LanesLemmas.{walk-kept}
use Rattle.lane_outcomes.proofs.SlotRows.{Adds, IsMild, row-adds}
use Rattle.lane_outcomes.proofs.WalkLemmas.{IsGiven, all-looks, all-map, all-refused, all-writing, given-of, spent-looks}
use Rattle.lane_outcomes.proofs.WrittenBlocks.{FillsFrom, IsFilled, IsNoAlloc, filled-append, filled-given, filled-one, from-append, no_part}

mild-none : (caller : ℕ) (event : Event) → IsMild caller event → IsNoAlloc event
mild-none caller (Alloc by need place) mild = mild
mild-none caller event mild = tt

pub filled-all : (events : List Event) → AllByRecursion IsNoAlloc events → IsFilled events
filled-all [] none part left = (tt, left)
filled-all (event ∷ events) none part left = filled-append (event ∷ []) events (filled-one event none.0) (filled-all events none.1) part left

filled-made :
    (caller need words place : ℕ) (value : ℕ → ℕ) (calls : List Event) → words ≡ usable_words (need_of need) → IsGiven caller need place calls
    → IsFilled (calls ++ writing caller place words value)
filled-made caller need words place value calls words_are given =
    let fill : List Event = writing caller place words value in
    let whole : calls ++ fill ≡ given.looked ++ Alloc caller need place ∷ fill =
    ap (λ es. es ++ fill) given.whole ∙ push-append given.looked fill (Alloc caller need place) in
    subst IsFilled (sym whole)
    (filled-append given.looked (Alloc caller need place ∷ fill) (filled-all given.looked (all-looks IsNoAlloc caller given.looked (λ class. tt) given.look))
    (filled-given caller need place words value words_are))

filled-handed :
    (setting : Setting) (position : CachedPosition) (need words place : ℕ) (value : ℕ → ℕ) (calls : List Event) (served : Option ℕ)
    → words ≡ usable_words (need_of need) → IsGivenBy served setting position need place calls → IsFilled (calls ++ writing setting.caller place words value)
filled-handed setting position need words place value calls None words_are given =
    filled-made setting.caller need words place value calls words_are (given-of setting.caller need place (need_of need) calls given.1)
filled-handed setting position need words place value calls (Some at) words_are given =
    subst (λ es. IsFilled (es ++ writing setting.caller place words value)) (sym given.1)
    (filled-all (writing setting.caller place words value) (all-writing IsNoAlloc setting.caller place words value (λ i n. tt)))

filled-freeing : (caller : ℕ) (keeps : Bool) (place : ℕ) → IsFilled (freeing caller keeps place)
filled-freeing caller true place part none = (tt, none)
filled-freeing caller false place part none = filled-one (Free caller place) tt part none

module _ (setting : Setting) (depth : ℕ) where
  deed-filled : (position : CachedPosition) (r : ℕ) (done : Deed) (piece : List Event) → Adds setting depth position r done piece → IsFilled piece
  deed-filled position r (deed.gives need v words place) piece (empty, words_are, calls, given, is) =
      subst IsFilled (sym is) (filled-handed setting position need words place _ calls (served_by position.magazines (need_of need)) words_are given)
  deed-filled position r (deed.replaces need words place) piece (held, full, differ, words_are, calls, given, value, copy, is) =
      let keeps = is_kept depth (magazines_given position.magazines (need_of need)) held.need in
      subst IsFilled (sym is)
      (filled-append (calls ++ writing setting.caller place words value) (freeing setting.caller keeps held.place)
      (filled-handed setting position need words place value calls (served_by position.magazines (need_of need)) words_are given)
      (filled-freeing setting.caller keeps held.place))
  deed-filled position r deed.frees piece (held, full, is) =
      subst IsFilled (sym is) (filled-freeing setting.caller (is_kept depth position.magazines held.need) held.place)
  deed-filled position r deed.lays piece (held, full, shelf, is) = subst IsFilled (sym is) (filled-one (Put setting.caller held.place shelf) tt)
  deed-filled position r (deed.takes words place need) piece (shelf, row) = subst IsFilled (sym row.0) (filled-one (Take setting.caller shelf place) tt)
  deed-filled position r (deed.refuses need) piece events =
      filled-all piece (all-refused IsNoAlloc setting.caller need piece (λ class. tt) tt events)
  deed-filled position r (deed.spends need) piece spent =
      filled-all piece (all-looks IsNoAlloc setting.caller piece (λ class. tt) (spent-looks setting position.base need piece position.base.spent spent))
  deed-filled position r deed.stays piece milds = filled-all piece (all-map (IsMild setting.caller) IsNoAlloc piece (mild-none setting.caller) milds)

  pub walk-filled :
      (from to : CachedPosition) (operations : List Op) (results : List Outcome) → CachedWalks setting depth from operations results to
      → FillsFrom no_part from.base.done → FillsFrom no_part to.base.done
  walk-filled =
      walk-kept setting depth (λ at. FillsFrom no_part at.base.done)
      (λ at operation result piece row filled.
      from-append no_part at.base.done piece filled
      (deed-filled at (register_of operation) (deed_of operation result) piece (row-adds setting depth at operation result piece row)))
