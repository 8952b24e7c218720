-- No lane of a trace that is roomy through caches is refused.
use Rattle.std.proofs.Common.{ℕ, count_by, get_or, ◌+◌, ◌<◌, ◌≤◌, List, [], ◌∷◌, length, sym, ◌∙◌, subst, arith}
use Rattle.std.specs.Prelude.{flat_map}
use Rattle.std.specs.List.{AllByRecursion}
use Rattle.std.proofs.lemmas.List.{length-replicate}
use Rattle.heap_geometry.specs.declared.limits.TheConstants.{CLASSES}
use Rattle.pool_model.specs.declared.event.Event.{Event}
use Rattle.pool_model.specs.Counts.{is_alloc, is_free}
use Rattle.pool_model.specs.Histories.{own, Begins}
use Rattle.pool_model.specs.Legal.{IsLegal}
use Rattle.trace_text.specs.declared.limits.TheConstants.{REGISTERS}
use Rattle.trace_text.specs.Traces.{IsTrace}
use Rattle.trace_text.specs.declared.trace.Op.{Op}
use Rattle.trace_text.specs.declared.trace.Trace.{Trace}
use Rattle.lane_outcomes.specs.declared.outcome.Outcome.{Outcome}
use Rattle.lane_outcomes.specs.Cached.{CachedOutcomesFit, CachedPosition, CachedWalks, cached_after, cached_start}
use Rattle.lane_outcomes.specs.Magazines.{emptying}
use Rattle.lane_outcomes.specs.Rows.{Setting}
use Rattle.lane_outcomes.specs.Standing.{setting_in}
use Rattle.roomy_traces.specs.Roomy.{IsPlain, no_blocks}
use Rattle.roomy_traces.specs.Through.{IsRoomyThrough, most_kept, none_kept}
use Rattle.roomy_traces.proofs.LaneLemmas.{own-begins}
use Rattle.lane_outcomes.proofs.WalkLemmas.{all-append, all-frees}
use Rattle.roomy_traces.proofs.PieceLemmas.{IsTame}
use Rattle.roomy_traces.proofs.MostHeldLemmas.{IsUnrefusing}
use Rattle.roomy_traces.proofs.RefuseLemmas.{lane-ranges, none-refused}
use Rattle.roomy_traces.proofs.RegisterLemmas.{alike-start}
use Rattle.roomy_traces.proofs.through_lemmas.MagazineLemmas.{start-counts}
use Rattle.roomy_traces.proofs.through_lemmas.CountLemmas.{cached-tame, needs-start}
use Rattle.roomy_traces.proofs.through_lemmas.MostKeptLemmas.{IsBeside, walk-holds_through}
use Rattle.roomy_traces.proofs.through_lemmas.UnspentLemmas.{never-spent_through, plain-through}
use Rattle.lane_outcomes.proofs.LanesLemmas.{cached-lane}

-- a lane before its first operation stands beside the lane computed on its own
pub beside-start : IsBeside cached_start no_blocks none_kept
beside-start =
    let none : List ℕ = [] in
    record { alike = alike-start; needs = needs-start REGISTERS; long = length-replicate CLASSES none; counts = start-counts }

-- a lane's events refuse small needs alone
walk-tame_through :
    (setting : Setting) (depth : ℕ) (from to : CachedPosition) (operations : List Op) (results : List Outcome) → AllByRecursion IsPlain operations
    → CachedWalks setting depth from operations results to → AllByRecursion IsTame from.base.done → AllByRecursion IsTame to.base.done
walk-tame_through setting depth from to [] [] plain walks tame = subst (λ (p : CachedPosition). AllByRecursion IsTame p.base.done) (sym walks) tame
walk-tame_through setting depth from to [] (result ∷ results) plain walks tame = absurd walks
walk-tame_through setting depth from to (operation ∷ operations) [] plain walks tame = absurd walks
walk-tame_through setting depth from to (operation ∷ operations) (result ∷ results) plain walks tame =
    walk-tame_through setting depth (cached_after depth from operation result walks.0) to operations results plain.1 walks.2
    (all-append IsTame from.base.done walks.0 tame (cached-tame setting depth from operation result walks.0 plain.0 walks.1))

module _ (trace : Trace) (history : List Event) (lost depth : ℕ) (outcomes : List (List Outcome)) (hits : ℕ) (named : IsTrace trace)
    (roomy : IsRoomyThrough depth trace) (fit : CachedOutcomesFit trace.heap history lost depth trace.lanes outcomes hits) where
  tame-through : (k : ℕ) → k < length trace.lanes → AllByRecursion IsTame (own k history)
  tame-through k below =
      let fits = cached-lane trace.heap history lost depth trace.lanes outcomes hits fit.lanes_fit k below in
      let end : CachedPosition = fits.1.end in
      subst (AllByRecursion IsTame) (sym fits.1.all_used)
      (all-append IsTame end.base.done (emptying k end.magazines)
      (walk-tame_through (setting_in history k trace.heap.turn_limit lost) depth cached_start end (get_or trace.lanes k []) (get_or outcomes k [])
      (plain-through depth trace roomy k below) fits.1.walks tt)
      (all-frees IsTame k (flat_map (λ magazine. magazine) end.magazines) (λ place. tt)))

  -- up to a refusal a lane's events leave it and its magazines at most their most blocks
  most-through :
      (before : List Event) → Begins before history → (k : ℕ) → k < length trace.lanes → AllByRecursion IsUnrefusing (own k before)
      → count_by is_alloc (own k before) ≤ count_by is_free (own k before) + most_kept depth no_blocks none_kept (get_or trace.lanes k [])
  most-through before begins k below none =
      let fits = cached-lane trace.heap history lost depth trace.lanes outcomes hits fit.lanes_fit k below in
      let holds = walk-holds_through (setting_in history k trace.heap.turn_limit lost) depth cached_start fits.1.end no_blocks none_kept
      (get_or trace.lanes k []) (get_or outcomes k []) (plain-through depth trace roomy k below) (lane-ranges trace named k below)
      (never-spent_through trace history lost depth outcomes hits roomy fit k below) beside-start fits.1.walks in
      let mine : Begins (own k before) (own k history) = own-begins k before history begins in
      omega (arith, holds.bounded (own k before) (mine.0, sym holds.whole ∙ sym fits.1.all_used ∙ mine.1) none)

  -- no event of the trace is a refusal
  pub never-refused_through : IsLegal trace.heap history → AllByRecursion IsUnrefusing history
  never-refused_through legal =
      none-refused trace.heap history trace.lanes (most_kept depth no_blocks none_kept) legal fit.callers tame-through most-through roomy.frames
      named.heap.callers.0
