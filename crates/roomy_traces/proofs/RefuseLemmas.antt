-- No lane of a roomy trace is refused.
use Rattle.std.proofs.Common.{ℕ, get_or, sum_by, count_by, ◌≡◌, ◌+◌, ◌*◌, ◌<◌, ◌≤◌, List, [], ◌∷◌, ◌++◌, length, refl, sym, ◌∙◌, ap, subst, arith, zero-add, eq-eqb}
use Rattle.std.specs.List.{AllByRecursion}
use Rattle.std.proofs.lemmas.Bool.{le-leb}
use Rattle.std.proofs.lemmas.List.Elements.{recursion_from_All}
use Rattle.heap_geometry.specs.declared.geometry.Geometry.{Geometry}
use Rattle.heap_geometry.specs.declared.limits.TheConstants.{CLASSES, SMALL_MOST}
use Rattle.heap_geometry.specs.declared.need.Need.TheVariants.{Small}
use Rattle.heap_geometry.specs.Need.{need_of}
use Rattle.pool_model.specs.declared.event.Event.{Event}
use Rattle.pool_model.specs.declared.event.Event.TheVariants.{Refuse}
use Rattle.pool_model.specs.Counts.{is_alloc, is_free}
use Rattle.pool_model.specs.Histories.{caller_of, own, Begins}
use Rattle.pool_model.specs.Pool.{pool_of}
use Rattle.pool_model.specs.Legal.{IsLegal, IsLegalEventWithoutCounts, IsLegalWithoutCounts, IsCountedFor, IsCrowded}
use Rattle.pool_model.proofs.CountLemmas.{length-live}
use Rattle.pool_model.proofs.HistoryLemmas.{kept, push-append, own-append, EachAfter-cut, legal-weaker}
use Rattle.trace_text.specs.Traces.{IsOp, IsTrace}
use Rattle.trace_text.specs.declared.trace.Op.{Op}
use Rattle.trace_text.specs.declared.trace.Trace.{Trace}
use Rattle.lane_outcomes.proofs.TallyLemmas.{sum_from}
use Rattle.roomy_traces.proofs.LaneLemmas.{sum-lanes, sum_from-both, by-caller, all-begins, all-ends, all-own}
use Rattle.lane_outcomes.proofs.WalkLemmas.{all-append}
use Rattle.roomy_traces.proofs.PieceLemmas.{IsTame}
use Rattle.roomy_traces.proofs.MostHeldLemmas.{IsUnrefusing}
use Rattle.roomy_traces.proofs.FrameLemmas.{crowded-live}

-- each lane's operations are in their ranges
pub lane-ranges : (trace : Trace) → IsTrace trace → (k : ℕ) → k < length trace.lanes → AllByRecursion IsOp (get_or trace.lanes k [])
lane-ranges trace named k below = recursion_from_All IsOp (get_or trace.lanes k []) (named.ops k [] below)

-- up to a refusal each lane's events leave it at most so many blocks
abbrev pub AreBounded : List (List Op) → (List Op → ℕ) → List Event → Type 0
AreBounded lanes most history =
    (before : List Event) → Begins before history → (k : ℕ) → k < length lanes → AllByRecursion IsUnrefusing (own k before)
    → count_by is_alloc (own k before) ≤ count_by is_free (own k before) + most (get_or lanes k [])

-- so few blocks are live up to a refusal
few-live :
    (g : Geometry) (history before : List Event) (lanes : List (List Op)) (most : List Op → ℕ) → IsLegal g history
    → AllByRecursion (λ event. caller_of event < length lanes) history → AreBounded lanes most history → Begins before history
    → AllByRecursion IsUnrefusing before → length (pool_of before) ≤ sum_by most lanes
few-live g history before lanes most legal all_callers bounded begins none =
    let n : ℕ = length lanes in
    let callers : AllByRecursion (λ event. caller_of event < n) before =
    all-begins (λ event. caller_of event < n) before begins.0
    (subst (AllByRecursion (λ event. caller_of event < n)) begins.1 all_callers) in
    let legal_before : IsLegalWithoutCounts g before =
    EachAfter-cut (IsLegalEventWithoutCounts g) before begins.0
    (subst (IsLegalWithoutCounts g) begins.1 (legal-weaker g history legal)) in
    let given : ℕ → ℕ = λ k. count_by is_alloc (own k before) in
    let freed : ℕ → ℕ = λ k. count_by is_free (own k before) in
    let mine : ℕ → ℕ = λ k. most (get_or lanes k []) in
    let together : sum_from given 0 n ≤ sum_from freed 0 n + sum_from mine 0 n =
    sum_from-both given freed mine 0 n
    (λ k from below. bounded before begins k (omega (arith, below)) (all-own IsUnrefusing k before none)) in
    let all_most : sum_from mine 0 n ≤ sum_by most lanes =
    sum-lanes mine most [] 0 lanes
    (λ k below. let same : mine (0 + k) ≡ mine k = ap mine (zero-add k) in omega arith) in
    omega (
      arith,
      together,
      all_most,
      by-caller is_alloc n before callers,
      by-caller is_free n before callers,
      length-live g before legal_before,
    )

-- each lane's events refuse small needs alone
abbrev pub AreTame : List (List Op) → List Event → Type 0
AreTame lanes history = (k : ℕ) → k < length lanes → AllByRecursion IsTame (own k history)

-- small blocks serve a small need
pub small-need : (need : ℕ) → need ≤ SMALL_MOST → (class : ℕ) × (need_of need ≡ Small class)
unfolding need_of
small-need need small = rw (le-leb need SMALL_MOST small) (_, refl)

-- where there is a frame for each block that the lanes have at their fullest, no event is a refusal
module _ (g : Geometry) (history : List Event) (lanes : List (List Op)) (most : List Op → ℕ) (legal : IsLegal g history)
    (callers : AllByRecursion (λ event. caller_of event < length lanes) history) (tame : AreTame lanes history) (bounded : AreBounded lanes most history)
    (frames : sum_by most lanes + g.heaps * CLASSES + g.callers ≤ g.frames) (some : 0 < g.callers) where
  event-tame : (before rest : List Event) (event : Event) → history ≡ before ++ event ∷ rest → IsTame event
  event-tame before rest event is =
      let caller : ℕ = caller_of event in
      let below : caller < length lanes =
      (all-ends (λ e. caller_of e < length lanes) before (event ∷ rest)
      (subst (AllByRecursion (λ e. caller_of e < length lanes)) is callers)).0 in
      let hers : own caller (event ∷ rest) ≡ event ∷ own caller rest = rw (eq-eqb (caller_of event) caller refl) refl in
      let whole : own caller history ≡ own caller before ++ (event ∷ own caller rest) =
      ap (own caller) is ∙ own-append caller before (event ∷ rest) ∙ ap (λ xs. own caller before ++ xs) hers in
      (all-ends IsTame (own caller before) (event ∷ own caller rest)
      (subst (AllByRecursion IsTame) whole (tame caller below))).0

  -- the first refusal would find too many frames bare
  no-refusal :
      (before rest : List Event) (caller need : ℕ) → history ≡ before ++ Refuse caller need ∷ rest → AllByRecursion IsUnrefusing before → ⊥
  no-refusal before rest caller need is none =
      let small : need ≤ SMALL_MOST = event-tame before rest (Refuse caller need) is in
      let class = small-need need small in
      let counted : IsCountedFor g (pool_of before) (need_of need) = (legal before rest (Refuse caller need) is).1 in
      let crowded : IsCrowded g (pool_of before) = subst (IsCountedFor g (pool_of before)) class.1 counted in
      omega (
        arith,
        crowded-live g (pool_of before) crowded,
        few-live g history before lanes most legal callers bounded (Refuse caller need ∷ rest, is) none,
        frames,
        some,
      )

  event-unrefusing : (before rest : List Event) (event : Event) → history ≡ before ++ event ∷ rest → AllByRecursion IsUnrefusing before → IsUnrefusing event
  event-unrefusing before rest (Refuse caller need) is none = no-refusal before rest caller need is none
  event-unrefusing before rest event is none = tt

  pub none-refused : AllByRecursion IsUnrefusing history
  none-refused =
      kept (λ before event. Begins (before ++ event ∷ []) history) (AllByRecursion IsUnrefusing) history
      (λ before event begins so_far.
      let is : history ≡ before ++ event ∷ begins.0 = begins.1 ∙ push-append before begins.0 event in
      all-append IsUnrefusing before (event ∷ []) so_far (event-unrefusing before begins.0 event is so_far, tt))
      (λ before rest event is. (rest, is ∙ sym (push-append before rest event)))
      tt
