-- The outcomes of a lane through a cache are those of the lane computed on its own, and its magazines serve what they serve there.
use Rattle.std.proofs.Common.{ℕ, suc, get_or, ◌≡◌, ◌+◌, ◌<◌, List, [], ◌∷◌, ◌++◌, Option, length, map, refl, sym, ◌∙◌, ap, subst, inl, inr, arith, append_assoc}
use Rattle.std.specs.List.{AllByRecursion}
use Rattle.std.proofs.lemmas.List.{get_or-map, length-map, same_lists}
use Rattle.std.proofs.lemmas.List.Sums.{sum_by-cons}
use Rattle.heap_geometry.specs.declared.geometry.Geometry.{Geometry}
use Rattle.pool_model.specs.declared.event.Event.{Event}
use Rattle.pool_model.specs.Histories.{own}
use Rattle.pool_model.specs.Legal.{IsLegal, IsLegalWithoutCounts}
use Rattle.pool_model.proofs.HistoryLemmas.{legal-weaker}
use Rattle.trace_text.specs.declared.limits.TheConstants.{REGISTERS}
use Rattle.trace_text.specs.Traces.{IsOp, IsTrace}
use Rattle.trace_text.specs.declared.trace.Op.{Op}
use Rattle.trace_text.specs.declared.trace.Trace.{Trace}
use Rattle.lane_outcomes.specs.declared.outcome.Outcome.{Outcome}
use Rattle.lane_outcomes.specs.Cached.{CachedFits, CachedLanesFit, CachedOutcomesFit, CachedPosition, CachedRow, CachedWalks, cached_after, cached_start}
use Rattle.lane_outcomes.specs.LaneCounts.{as_one, lane_freed, lane_given}
use Rattle.lane_outcomes.specs.Magazines.{emptying, kept_from}
use Rattle.lane_outcomes.specs.Rows.{Setting}
use Rattle.lane_outcomes.specs.Standing.{setting_in}
use Rattle.lane_outcomes.proofs.CachedLemmas.{Stands, cached-row-keeps, starts-keeping}
use Rattle.roomy_traces.specs.Roomy.{Filled, IsPlain, filled_in, no_blocks, serial_after}
use Rattle.roomy_traces.specs.Serial.{serial_end, serial_from, serial_outcome, serial_outcomes, without_place}
use Rattle.roomy_traces.specs.Through.{IsRoomyThrough, kept_after, none_kept, serial_hits, served_from}
use Rattle.roomy_traces.proofs.LaneLemmas.{HasMoment, all-begins, all-ends, all-own, moment-of}
use Rattle.roomy_traces.proofs.SpentLemmas.{IsUnspent}
use Rattle.roomy_traces.proofs.RegisterLemmas.{IsAlike, own_by}
use Rattle.roomy_traces.proofs.SerialRows.{IsAnswered, row-serial}
use Rattle.roomy_traces.proofs.BalanceLemmas.{row-balance}
use Rattle.roomy_traces.proofs.MostHeldLemmas.{IsUnrefusing, answered-or, row-refuses}
use Rattle.roomy_traces.proofs.RefuseLemmas.{lane-ranges}
use Rattle.roomy_traces.proofs.through_lemmas.FilledLemmas.{AreFilled, filled-at, filled-start, row-contains}
use Rattle.roomy_traces.proofs.through_lemmas.MostKeptLemmas.{GoesBeside, IsBeside, goes-beside}
use Rattle.roomy_traces.proofs.through_lemmas.SlotLemmas.{once-kept}
use Rattle.roomy_traces.proofs.through_lemmas.UnrefusedLemmas.{beside-start, never-refused_through}
use Rattle.roomy_traces.proofs.through_lemmas.UnspentLemmas.{cached-many, never-spent_through, plain-through}
use Rattle.lane_outcomes.proofs.LanesLemmas.{Adds, cached-lane, walk-adds}
use Rattle.trace_text.specs.Operations.{register_of}

-- a lane through a cache stands beside the lane computed on its own, with what its blocks contain
record StandsThrough (g : Geometry) (setting : Setting) (legal : IsLegalWithoutCounts g setting.history) (position : CachedPosition) (filled : List (Option Filled)) (kept : List ℕ) : Type 0 where
  pub beside : IsBeside position filled kept
  pub has : AreFilled setting.history setting.caller position.base.done position.base.registers filled
  pub got : ℕ
  pub gone : ℕ
  pub keeps : Stands as_one setting position got gone

stands-start : (g : Geometry) (setting : Setting) (legal : IsLegalWithoutCounts g setting.history) → StandsThrough g setting legal cached_start no_blocks none_kept
stands-start g setting legal =
    record {
      beside = beside-start;
      has = filled-start setting.history setting.caller REGISTERS no_blocks;
      got = 0;
      gone = 0;
      keeps = starts-keeping as_one setting;
    }

-- a walk without want of a turn or a block has the outcomes of the lane computed on its own, ends with its registers, and was served as often
pub record IsSerialThrough (depth : ℕ) (from to : CachedPosition) (filled : List (Option Filled)) (kept : List ℕ) (operations : List Op) (results : List Outcome) : Type 0 where
  pub outcomes : map without_place results ≡ serial_from filled operations
  pub balance :
      (f : ℕ → ℕ) → lane_given f operations results + own_by f from.base.registers ≡ lane_freed f from.base.registers operations results + own_by f to.base.registers
  pub alike : IsAlike to.base.registers (serial_end filled operations)
  pub hits : to.hits ≡ from.hits + served_from depth filled kept operations

module _ (g : Geometry) (setting : Setting) (legal : IsLegalWithoutCounts g setting.history) (depth : ℕ) where
  walk-serial :
      (from to : CachedPosition) (filled : List (Option Filled)) (kept : List ℕ) (operations : List Op) (results : List Outcome)
      → AllByRecursion IsPlain operations → AllByRecursion IsOp operations → AllByRecursion IsUnspent results → AllByRecursion IsUnrefusing to.base.done
      → own setting.caller setting.history ≡ to.base.done ++ emptying setting.caller to.magazines → CachedWalks setting depth from operations results to
      → StandsThrough g setting legal from filled kept → IsSerialThrough depth from to filled kept operations results
  walk-serial from to filled kept [] [] plain ranges unspent unrefusing all_used walks stands =
      record {
        outcomes = refl;
        balance = λ f. ap (λ (p : CachedPosition). 0 + own_by f p.base.registers) (sym walks);
        alike = subst (λ (p : CachedPosition). IsAlike p.base.registers filled) (sym walks) stands.beside.alike;
        hits = omega (arith, ap (λ (p : CachedPosition). p.hits) walks);
      }
  walk-serial from to filled kept [] (result ∷ results) plain ranges unspent unrefusing all_used walks stands = absurd walks
  walk-serial from to filled kept (operation ∷ operations) [] plain ranges unspent unrefusing all_used walks stands = absurd walks
  walk-serial from to filled kept (operation ∷ operations) (result ∷ results) plain ranges unspent unrefusing all_used (piece, row, walks) stands =
      let caller = setting.caller in
      let history = setting.history in
      let done : List Event = from.base.done in
      let next : CachedPosition = cached_after depth from operation result piece in
      let adds : Adds next to = walk-adds setting depth next to operations results walks in
      let quiet : AllByRecursion IsUnrefusing piece =
      all-ends IsUnrefusing done piece
      (all-begins IsUnrefusing (done ++ piece) adds.0 (subst (AllByRecursion IsUnrefusing) adds.1 unrefusing)) in
      let answered : IsAnswered result =
      elim (answered-or result unspent.0) [
        | inl answer ↦ answer
        | inr refused ↦
            absurd (row-refuses setting depth from operation piece (subst (λ (r : Outcome). CachedRow setting depth from operation r piece) refused row) quiet)
      ] in
      let goes : GoesBeside depth from filled kept operation result piece =
      goes-beside setting depth from filled kept operation result piece plain.0 answered row stands.beside in
      let keeps_after = cached-row-keeps as_one g setting depth from operation result piece stands.got stands.gone legal stands.beside.long row stands.keeps in
      let behind : List Event = adds.0 ++ emptying caller to.magazines in
      let own_is : own caller history ≡ (done ++ piece) ++ behind =
      all_used ∙ ap (λ (xs : List Event). xs ++ emptying caller to.magazines) adds.1 ∙ append_assoc (done ++ piece) adds.0 (emptying caller to.magazines) in
      let before : HasMoment caller history done = moment-of caller history done (piece ++ behind) (own_is ∙ append_assoc done piece behind) in
      let after : HasMoment caller history (done ++ piece) = moment-of caller history (done ++ piece) behind own_is in
      let has = row-contains g setting legal depth from filled stands.got stands.gone stands.beside.alike stands.beside.long stands.keeps before stands.has operation
      result piece plain.0 ranges.0 answered row
      (λ part more is.
      moment-of caller history (done ++ part) (more ++ behind)
      (own_is ∙ ap (λ (xs : List Event). (done ++ xs) ++ behind) is ∙ ap (λ (xs : List Event). xs ++ behind) (sym (append_assoc done part more))
      ∙ append_assoc (done ++ part) more behind))
      (once-kept history caller (done ++ piece) (kept_from 0 next.magazines) next.base.registers _ _ keeps_after after) in
      let serial = row-serial setting depth from filled operation result piece plain.0 answered stands.beside.alike row in
      let now = filled-at history caller done from.base.registers filled (register_of operation) _ _ refl refl stands.has in
      let stands_after : StandsThrough g setting legal next (serial_after filled operation) (kept_after depth kept (filled_in filled operation) operation) =
      record { beside = goes.beside; has = has; got = _; gone = _; keeps = keeps_after } in
      let later = walk-serial next to (serial_after filled operation) (kept_after depth kept (filled_in filled operation) operation) operations results plain.1
      ranges.1 unspent.1 unrefusing all_used walks stands_after in
      record {
        outcomes =
            ap (λ o. o ∷ map without_place results) (serial.outcome_is now)
            ∙ ap (λ os. serial_outcome (filled_in filled operation) operation ∷ os) later.outcomes;
        balance = λ f. omega (
          arith,
          row-balance f setting depth from operation result piece plain.0 ranges.0 stands.beside.alike.many row,
          later.balance f,
        );
        alike = later.alike;
        hits = omega (arith, later.hits, goes.hits);
      }

module _ (trace : Trace) (history : List Event) (lost depth : ℕ) (outcomes : List (List Outcome)) (hits : ℕ) (named : IsTrace trace)
    (roomy : IsRoomyThrough depth trace) (legal : IsLegal trace.heap history)
    (fit : CachedOutcomesFit trace.heap history lost depth trace.lanes outcomes hits) where
  -- each lane has the outcomes of the lane computed on its own, ends with its registers, and was served as often
  pub lane-serial_through :
      (k : ℕ) (these : ℕ) → k < length trace.lanes
      → (fits : CachedFits (setting_in history k trace.heap.turn_limit lost) depth (get_or trace.lanes k []) (get_or outcomes k []) these)
      → IsSerialThrough depth cached_start fits.end no_blocks none_kept (get_or trace.lanes k []) (get_or outcomes k [])
  lane-serial_through k these below fits =
      let setting : Setting = setting_in history k trace.heap.turn_limit lost in
      let weaker = legal-weaker trace.heap history legal in
      walk-serial trace.heap setting weaker depth cached_start fits.end no_blocks none_kept (get_or trace.lanes k []) (get_or outcomes k [])
      (plain-through depth trace roomy k below) (lane-ranges trace named k below) (never-spent_through trace history lost depth outcomes hits roomy fit k below)
      (all-begins IsUnrefusing fits.end.base.done (emptying k fits.end.magazines)
      (subst (AllByRecursion IsUnrefusing) fits.all_used
      (all-own IsUnrefusing k history (never-refused_through trace history lost depth outcomes hits named roomy fit legal))))
      fits.all_used fits.walks (stands-start trace.heap setting weaker)

  -- the outcomes are those of the lanes computed on their own, but for the places
  pub outcomes-serial_through : map (map without_place) outcomes ≡ map serial_outcomes trace.lanes
  outcomes-serial_through =
      let many : length outcomes ≡ length trace.lanes = cached-many trace.heap history lost depth 0 trace.lanes outcomes hits fit.lanes_fit in
      same_lists (map (map without_place) outcomes) (map serial_outcomes trace.lanes)
      (length-map outcomes (map without_place) ∙ many ∙ sym (length-map trace.lanes serial_outcomes))
      (λ k d below.
      let within : k < length outcomes = omega (arith, below, length-map outcomes (map without_place)) in
      let inside : k < length trace.lanes = omega (arith, within, many) in
      let fits = cached-lane trace.heap history lost depth trace.lanes outcomes hits fit.lanes_fit k inside in
      get_or-map (map without_place) outcomes k [] d within
      ∙ (lane-serial_through k fits.0 inside fits.1).outcomes
      ∙ sym (get_or-map serial_outcomes trace.lanes k [] d inside))

  -- so many allocations were served
  lanes-hits :
      (first : ℕ) (lanes : List (List Op)) (results : List (List Outcome)) (all : ℕ) → CachedLanesFit trace.heap history lost depth first lanes results all
      → ((k these : ℕ) → k < length lanes
      → CachedFits (setting_in history (first + k) trace.heap.turn_limit lost) depth (get_or lanes k []) (get_or results k []) these
      → these ≡ served_from depth no_blocks none_kept (get_or lanes k []))
      → all ≡ serial_hits depth lanes
  lanes-hits first [] [] all fits each = fits
  lanes-hits first [] (one ∷ results) all fits each = absurd fits
  lanes-hits first (operations ∷ lanes) [] all fits each = absurd fits
  lanes-hits first (operations ∷ lanes) (one ∷ results) all (these, others, both, fit_one, more) each =
      let at_first : first + 0 ≡ first = omega arith in
      let here : these ≡ served_from depth no_blocks none_kept operations =
      each 0 these (omega arith) (subst (λ n. CachedFits (setting_in history n trace.heap.turn_limit lost) depth operations one these) (sym at_first) fit_one) in
      let rest : others ≡ serial_hits depth lanes =
      lanes-hits (suc first) lanes results others more
      (λ k served below fits.
      let next : suc first + k ≡ first + suc k = omega arith in
      each (suc k) served (omega arith)
      (subst (λ n. CachedFits (setting_in history n trace.heap.turn_limit lost) depth (get_or lanes k []) (get_or results k []) served) next fits)) in
      omega (arith, both, here, rest, sum_by-cons (served_from depth no_blocks none_kept) operations lanes)

  pub lane-hits_through :
      (k : ℕ) (these : ℕ) → k < length trace.lanes
      → CachedFits (setting_in history k trace.heap.turn_limit lost) depth (get_or trace.lanes k []) (get_or outcomes k []) these
      → these ≡ served_from depth no_blocks none_kept (get_or trace.lanes k [])
  lane-hits_through k these below fits = omega (arith, fits.hits_are, (lane-serial_through k these below fits).hits)

  pub hits-serial_through : hits ≡ serial_hits depth trace.lanes
  hits-serial_through =
      lanes-hits 0 trace.lanes outcomes hits fit.lanes_fit
      (λ k these below fits.
      let same : 0 + k ≡ k = omega arith in
      lane-hits_through k these below
      (subst (λ n. CachedFits (setting_in history n trace.heap.turn_limit lost) depth (get_or trace.lanes k []) (get_or outcomes k []) these) same fits))
