-- No lane of a trace that is roomy through caches runs out of turns.
use Rattle.std.proofs.Common.{ℕ, suc, false, count_by, get_or, ◌≡◌, ◌+◌, ◌<◌, ◌≤◌, List, [], ◌∷◌, ◌++◌, Option, Some, None, cond, length, refl, ◌∙◌, ap, arith}
use Rattle.std.specs.List.{AllByRecursion}
use Rattle.std.proofs.lemmas.List.{length-replicate}
use Rattle.std.proofs.lemmas.List.Sums.{sum_by-append, sum_by-cons}
use Rattle.std.proofs.lemmas.List.Elements.{recursion_from_All}
use Rattle.heap_geometry.specs.declared.geometry.Geometry.{Geometry}
use Rattle.heap_geometry.specs.declared.limits.TheConstants.{CLASSES}
use Rattle.pool_model.specs.declared.event.Event.{Event}
use Rattle.pool_model.specs.Counts.{is_alloc}
use Rattle.pool_model.specs.Histories.{own}
use Rattle.trace_text.specs.declared.limits.TheConstants.{REGISTERS}
use Rattle.trace_text.specs.declared.trace.Op.{Op}
use Rattle.trace_text.specs.declared.trace.Trace.{Trace}
use Rattle.lane_outcomes.specs.Lane.{held_in}
use Rattle.trace_text.specs.Operations.{register_of}
use Rattle.lane_outcomes.specs.Deeds.{deed_of}
use Rattle.lane_outcomes.specs.declared.outcome.Outcome.{Outcome}
use Rattle.lane_outcomes.specs.Cached.{CachedFits, CachedLanesFit, CachedOutcomesFit, CachedPosition, CachedWalks, answered_by, cached_after, cached_start, served_for}
use Rattle.lane_outcomes.specs.Magazines.{emptying}
use Rattle.lane_outcomes.specs.Rows.{Setting, gives_another_small}
use Rattle.lane_outcomes.specs.Standing.{setting_in}
use Rattle.lane_outcomes.proofs.KeptLemmas.{magazines-long}
use Rattle.roomy_traces.specs.Roomy.{IsPlain, may_allocate}
use Rattle.roomy_traces.specs.Through.{IsRoomyThrough}
use Rattle.roomy_traces.proofs.LaneLemmas.{count-begins}
use Rattle.roomy_traces.proofs.SpentLemmas.{AreFewOthers, IsUnspent, answered-step, few-others, given-asked, row-unspent, spent-stays}
use Rattle.roomy_traces.proofs.SerialRows.{asks}
use Rattle.roomy_traces.proofs.through_lemmas.CountLemmas.{AreNeeds, cached-counts, emptying-none, needs-after, needs-start}
use Rattle.lane_outcomes.proofs.LanesLemmas.{cached-lane}

-- each lane's outcomes fit
pub cached-many :
    (g : Geometry) (history : List Event) (lost depth first : ℕ) (lanes : List (List Op)) (outcomes : List (List Outcome)) (hits : ℕ)
    → CachedLanesFit g history lost depth first lanes outcomes hits → length outcomes ≡ length lanes
cached-many g history lost depth first [] [] hits fit = refl
cached-many g history lost depth first [] (results ∷ outcomes) hits fit = absurd fit
cached-many g history lost depth first (operations ∷ lanes) [] hits fit = absurd fit
cached-many g history lost depth first (operations ∷ lanes) (results ∷ outcomes) hits (these, others, all, one, more) =
    ap suc (cached-many g history lost depth (suc first) lanes outcomes others more)

-- each lane's operations are plain
pub plain-through : (depth : ℕ) (trace : Trace) → IsRoomyThrough depth trace → (k : ℕ) → k < length trace.lanes → AllByRecursion IsPlain (get_or trace.lanes k [])
plain-through depth trace roomy k below = recursion_from_All IsPlain (get_or trace.lanes k []) (roomy.plain k [] below)

-- a walk is given at most a block by the heap for each allocation and each resize
walk-allocs_through :
    (setting : Setting) (depth : ℕ) (from to : CachedPosition) (operations : List Op) (results : List Outcome) → AllByRecursion IsPlain operations
    → AreNeeds from.base.registers → length from.magazines ≡ CLASSES → CachedWalks setting depth from operations results to
    → count_by is_alloc to.base.done ≤ count_by is_alloc from.base.done + count_by may_allocate operations
walk-allocs_through setting depth from to [] [] plain needs long walks =
    let same : count_by is_alloc to.base.done ≡ count_by is_alloc from.base.done = ap (λ (p : CachedPosition). count_by is_alloc p.base.done) walks in omega arith
walk-allocs_through setting depth from to [] (result ∷ results) plain needs long walks = absurd walks
walk-allocs_through setting depth from to (operation ∷ operations) [] plain needs long walks = absurd walks
walk-allocs_through setting depth from to (operation ∷ operations) (result ∷ results) plain needs long walks =
    let c = cached-counts setting depth from operation result walks.0 plain.0 needs long walks.1 in
    omega (
      arith,
      c.counts.gives,
      c.gives,
      given-asked operation result,
      sum_by-append (λ e. cond (is_alloc e) 1 0) from.base.done walks.0,
      sum_by-cons (λ o. cond (may_allocate o) 1 0) operation operations,
      walk-allocs_through setting depth (cached_after depth from operation result walks.0) to operations results plain.1
          (needs-after from.base.registers operation result plain.0 needs)
          (magazines-long depth from.magazines (held_in from.base.registers (register_of operation)) (deed_of operation result) ∙ long) walks.2,
    )

allocs-through :
    (setting : Setting) (depth : ℕ) (operations : List Op) (results : List Outcome) (hits : ℕ) → AllByRecursion IsPlain operations
    → CachedFits setting depth operations results hits → count_by is_alloc (own setting.caller setting.history) ≤ count_by may_allocate operations
allocs-through setting depth operations results hits plain fits =
    let none : List ℕ = [] in
    let empties : List Event = emptying setting.caller fits.end.magazines in
    let all : count_by is_alloc fits.end.base.done ≤ 0 + count_by may_allocate operations =
    walk-allocs_through setting depth cached_start fits.end operations results plain (needs-start REGISTERS) (length-replicate CLASSES none) fits.walks in
    let same : count_by is_alloc (own setting.caller setting.history) ≡ count_by is_alloc (fits.end.base.done ++ empties) = ap (count_by is_alloc) fits.all_used in
    omega (arith, all, same, sum_by-append (λ e. cond (is_alloc e) 1 0) fits.end.base.done empties, emptying-none setting.caller fits.end.magazines)

answered-by_step :
    (by : Option ℕ) (answered : ℕ) (operation : Op) (result : Outcome) → answered_by by answered operation result ≤ answered + asks operation
answered-by_step None answered operation result = answered-step answered operation result
answered-by_step (Some place) answered operation result = omega arith

walk-unspent_through :
    (setting : Setting) (depth others : ℕ) (from to : CachedPosition) (operations : List Op) (results : List Outcome) → AllByRecursion IsPlain operations
    → AreFewOthers setting others → from.base.answered + count_by may_allocate operations + others ≤ setting.turn_limit → from.base.spent ≡ false
    → CachedWalks setting depth from operations results to → AllByRecursion IsUnspent results
walk-unspent_through setting depth others from to [] [] plain few room fresh walks = tt
walk-unspent_through setting depth others from to [] (result ∷ results) plain few room fresh walks = absurd walks
walk-unspent_through setting depth others from to (operation ∷ operations) [] plain few room fresh walks = absurd walks
walk-unspent_through setting depth others from to (operation ∷ operations) (result ∷ results) plain few room fresh walks =
    let all : count_by may_allocate (operation ∷ operations) ≡ asks operation + count_by may_allocate operations =
    sum_by-cons (λ o. cond (may_allocate o) 1 0) operation operations in
    let here : IsUnspent result =
    row-unspent setting depth from others operation result walks.0 few (omega (arith, room, all)) fresh walks.1 in
    let next : CachedPosition = cached_after depth from operation result walks.0 in
    let step : next.base.answered ≤ from.base.answered + asks operation =
    answered-by_step (served_for from.magazines operation result) from.base.answered operation result in (
      here,
      walk-unspent_through setting depth others next to operations results plain.1 few (omega (arith, room, all, step))
          (spent-stays from.base.spent result here ∙ fresh) walks.2,
    )

-- no outcome is want of a turn
pub never-spent_through :
    (trace : Trace) (history : List Event) (lost depth : ℕ) (outcomes : List (List Outcome)) (hits : ℕ) → IsRoomyThrough depth trace
    → CachedOutcomesFit trace.heap history lost depth trace.lanes outcomes hits → (k : ℕ) → k < length trace.lanes
    → AllByRecursion IsUnspent (get_or outcomes k [])
never-spent_through trace history lost depth outcomes hits roomy fit k below =
    let fits = cached-lane trace.heap history lost depth trace.lanes outcomes hits fit.lanes_fit in
    let mine = fits k below in
    walk-unspent_through (setting_in history k trace.heap.turn_limit lost) depth (count_by (gives_another_small k) history) cached_start mine.1.end
    (get_or trace.lanes k []) (get_or outcomes k []) (plain-through depth trace roomy k below)
    (λ before begins. count-begins (gives_another_small k) before history begins)
    (omega (
      arith,
      roomy.turns,
      few-others history trace.lanes fit.callers
          (λ t within.
          allocs-through (setting_in history t trace.heap.turn_limit lost) depth (get_or trace.lanes t []) (get_or outcomes t []) (fits t within).0
          (plain-through depth trace roomy t within) (fits t within).1)
          k below,
    ))
    refl mine.1.walks
