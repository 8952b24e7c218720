-- What lanes, also through caches, were given less what they freed is what is live.
use Rattle.std.proofs.Common.{ℕ, suc, ◌≡◌, ◌+◌, ◌*◌, ◌^◌, ◌≤◌, ◌∷◌, ◌++◌, List, [], None, length, replicate, refl, sym, ◌∙◌, ap, subst, arith, append-nil}
use Rattle.std.proofs.Math.Pow.{pow_mono}
use Rattle.heap_geometry.specs.declared.geometry.Geometry.{Geometry}
use Rattle.heap_geometry.specs.declared.limits.TheConstants.{CLASSES, LARGE_MOST}
use Rattle.heap_geometry.specs.declared.need.Need.{Need}
use Rattle.heap_geometry.specs.declared.need.Need.TheVariants.{Small, Large, TooLarge}
use Rattle.heap_geometry.specs.Need.{IsNeed, need_of, usable_words}
use Rattle.pool_model.specs.declared.event.Event.{Event}
use Rattle.pool_model.specs.Legal.{IsLegalWithoutCounts}
use Rattle.pool_model.specs.Pool.{pool_of}
use Rattle.pool_model.proofs.NeedOfLemmas.{need_of-within}
use Rattle.trace_text.specs.declared.limits.TheConstants.{MAX_LANES, REGISTERS}
use Rattle.trace_text.specs.declared.trace.Op.{Op}
use Rattle.lane_outcomes.specs.declared.outcome.Outcome.{Outcome}
use Rattle.lane_outcomes.specs.Cached.{CachedFits, CachedLanesFit, CachedOutcomesFit, CachedPosition, CachedWalks, cached_after, cached_start}
use Rattle.lane_outcomes.specs.LaneCounts.{AreHeld, as_one, as_words, count_with, lane_freed, lane_given, lanes_freed, lanes_given}
use Rattle.lane_outcomes.specs.Magazines.{kept_from}
use Rattle.lane_outcomes.specs.Rows.{Setting}
use Rattle.lane_outcomes.specs.Standing.{setting_in}
use Rattle.lane_outcomes.proofs.CachedLemmas.{lane-keeps}
use Rattle.lane_outcomes.proofs.KeepingLemmas.{keeps-emptied}
use Rattle.lane_outcomes.proofs.FollowLemmas.{amount, freed_by, given_to}
use Rattle.lane_outcomes.proofs.KeptLemmas.{kept-emptied}
use Rattle.lane_outcomes.proofs.MeasureLemmas.{free_at, give_at, measure, measured}
use Rattle.lane_outcomes.proofs.TallyLemmas.{partition, sum_from}
use Rattle.lane_outcomes.proofs.SlotRows.{Adds, row-adds}
use Rattle.trace_text.specs.Operations.{register_of}
use Rattle.lane_outcomes.specs.Deeds.{Deed, deed_of, given_by}
use Rattle.lane_outcomes.specs.Deeds as deed

-- no block has more words than a large one may have
words-bound : (n : Need) → IsNeed n → usable_words n ≤ LARGE_MOST
words-bound (Small class) within =
    let below : class + 1 ≤ CLASSES = omega arith in
    let power : 2 ^ (class + 1) ≤ 2 ^ CLASSES = pow_mono below in
    omega arith
words-bound (Large units) within = omega (arith, within.1)
words-bound TooLarge within = omega arith

-- no block counts more than LARGE_MOST
abbrev pub IsFew : (ℕ → ℕ) → Type 0
IsFew f = (need : ℕ) → f (usable_words (need_of need)) ≤ LARGE_MOST

pub few-ones : IsFew as_one
few-ones need = omega arith

pub few-words : IsFew as_words
few-words need = words-bound (need_of need) (need_of-within need)

-- what the lanes were given is not too much to count, and less what they freed it is what is live
pub record IsBalanced (f : ℕ → ℕ) (history : List Event) (lanes : List (List Op)) (outcomes : List (List Outcome)) : Type 0 where
  pub total : measure f (pool_of history) + lanes_freed f lanes outcomes ≡ lanes_given f lanes outcomes
  pub few : lanes_given f lanes outcomes ≤ LARGE_MOST * 2 ^ 64 * MAX_LANES

-- a lane's outcomes and its events differ by what magazines served and kept, and of that nothing is left
lane-balance :
    (f : ℕ → ℕ) (g : Geometry) (setting : Setting) (depth : ℕ) (operations : List Op) (results : List Outcome) (hits : ℕ)
    → IsLegalWithoutCounts g setting.history → CachedFits setting depth operations results hits
    → given_to f setting.history setting.caller + lane_freed f (replicate REGISTERS None) operations results
    ≡ lane_given f operations results + freed_by f setting.history setting.caller
lane-balance f g setting depth operations results hits legal fits =
    let end : CachedPosition = fits.end in
    let emptied = keeps-emptied f g setting legal end.base.done (kept_from 0 end.magazines) end.base.registers _ _
    (lane-keeps f g setting depth operations results end legal fits.walks) in
    let all = fits.all_used ∙ ap (λ xs. end.base.done ++ xs) (sym (kept-emptied setting.caller 0 end.magazines)) in
    let none : amount f [] ≡ 0 = refl in
    omega (arith, (emptied setting.history ([], sym (append-nil setting.history)) all).balance, none)

-- each operation is given at most one block, of a need
few-by :
    (f : ℕ → ℕ) (setting : Setting) (depth : ℕ) (position : CachedPosition) (r : ℕ) (done : Deed) (piece : List Event) → IsFew f
    → Adds setting depth position r done piece → count_with f (given_by done) ≤ LARGE_MOST
few-by f setting depth position r (deed.gives need v words place) piece few row = subst (λ n. f n ≤ LARGE_MOST) (sym row.1) (few need)
few-by f setting depth position r (deed.replaces need words place) piece few row = subst (λ n. f n ≤ LARGE_MOST) (sym row.3) (few need)
few-by f setting depth position r done piece few row = omega arith

cached-few-lane :
    (f : ℕ → ℕ) (setting : Setting) (depth : ℕ) (from to : CachedPosition) (operations : List Op) (results : List Outcome) → IsFew f
    → CachedWalks setting depth from operations results to → lane_given f operations results ≤ LARGE_MOST * length results
cached-few-lane f setting depth from to [] [] few walks = omega arith
cached-few-lane f setting depth from to (operation ∷ operations) (result ∷ results) few walks =
    omega (
      arith,
      few-by f setting depth from (register_of operation) (deed_of operation result) walks.0 few (row-adds setting depth from operation result walks.0 walks.1),
      cached-few-lane f setting depth (cached_after depth from operation result walks.0) to operations results few walks.2,
    )
cached-few-lane f setting depth from to operations results few walks = absurd walks

-- all lanes: given less freed is the same by their outcomes and by their events
lanes-balance :
    (f : ℕ → ℕ) (g : Geometry) (history : List Event) (lost depth lane : ℕ) (lanes : List (List Op)) (outcomes : List (List Outcome)) (hits : ℕ)
    → IsLegalWithoutCounts g history → CachedLanesFit g history lost depth lane lanes outcomes hits
    → sum_from (given_to f history) lane (length lanes) + lanes_freed f lanes outcomes
    ≡ lanes_given f lanes outcomes + sum_from (freed_by f history) lane (length lanes)
lanes-balance f g history lost depth lane [] [] hits legal fit = refl
lanes-balance f g history lost depth lane (operations ∷ lanes) (results ∷ outcomes) hits legal (these, others, all, one, more) =
    omega (
      arith,
      lane-balance f g (setting_in history lane g.turn_limit lost) depth operations results these legal one,
      lanes-balance f g history lost depth (suc lane) lanes outcomes others legal more,
    )
lanes-balance f g history lost depth lane lanes outcomes hits legal fit = absurd fit

-- and not too much is given
few-lanes :
    (f : ℕ → ℕ) (g : Geometry) (history : List Event) (lost depth lane : ℕ) (lanes : List (List Op)) (outcomes : List (List Outcome)) (hits : ℕ)
    → IsFew f → AreHeld outcomes → CachedLanesFit g history lost depth lane lanes outcomes hits
    → lanes_given f lanes outcomes ≤ LARGE_MOST * 2 ^ 64 * length lanes
few-lanes f g history lost depth lane [] [] hits few held fit = omega arith
few-lanes f g history lost depth lane (operations ∷ lanes) (results ∷ outcomes) hits few held (these, others, all, one, more) =
    omega (
      arith,
      held.0,
      cached-few-lane f (setting_in history lane g.turn_limit lost) depth cached_start one.end operations results few one.walks,
      few-lanes f g history lost depth (suc lane) lanes outcomes others few held.1 more,
    )
few-lanes f g history lost depth lane lanes outcomes hits few held fit = absurd fit

-- what is live and what the lanes freed are together what they were given
pub cached-total :
    (f : ℕ → ℕ) (g : Geometry) (history : List Event) (lost depth : ℕ) (lanes : List (List Op)) (outcomes : List (List Outcome)) (hits : ℕ)
    → IsLegalWithoutCounts g history → CachedOutcomesFit g history lost depth lanes outcomes hits
    → measure f (pool_of history) + lanes_freed f lanes outcomes ≡ lanes_given f lanes outcomes
cached-total f g history lost depth lanes outcomes hits legal fit =
    let balance = lanes-balance f g history lost depth 0 lanes outcomes hits legal fit.lanes_fit in
    let gives = partition (give_at f) (length lanes) [] history fit.callers in
    let frees = partition (free_at f) (length lanes) [] history fit.callers in
    omega (arith, balance, gives, frees, measured f g history legal)

pub cached-balanced :
    (f : ℕ → ℕ) (g : Geometry) (history : List Event) (lost depth : ℕ) (lanes : List (List Op)) (outcomes : List (List Outcome)) (hits : ℕ)
    → IsFew f → length lanes ≤ MAX_LANES → AreHeld outcomes → IsLegalWithoutCounts g history
    → CachedOutcomesFit g history lost depth lanes outcomes hits → IsBalanced f history lanes outcomes
cached-balanced f g history lost depth lanes outcomes hits few few_lanes held legal fit =
    record {
      total = cached-total f g history lost depth lanes outcomes hits legal fit;
      few = omega (arith, few-lanes f g history lost depth 0 lanes outcomes hits few held fit.lanes_fit, few_lanes);
    }
