-- The outcomes of lanes fit the one history of their heap, once that is closed.
use Rattle.std.proofs.Common.{ℕ, suc, ◌≡◌, ◌<◌, ◌≤◌, ◌+◌, List, [], ◌∷◌, ◌++◌, length, append_assoc, get_or, refl, sym, ap, ◌∙◌, subst, inl, inr, arith, zero-add}
use Rattle.std.specs.Prelude.{Contains, replicate, sum}
use Rattle.std.specs.List.{AllByRecursion}
use Rattle.std.proofs.lemmas.Bool.{cases_lt}
use Rattle.std.proofs.lemmas.List.{append-nil, append_cancel_left, get_or-replicate, length-replicate}
use Rattle.std.proofs.lemmas.List.Sums.{sum_by-cons}
use Rattle.std.proofs.lemmas.List.Elements.{All-get_or}
use Rattle.heap_geometry.specs.declared.geometry.Geometry.{Geometry}
use Rattle.pool_model.specs.declared.event.Event.{Event}
use Rattle.pool_model.specs.Histories.{caller_of, own}
use Rattle.pool_model.specs.Legal.{IsLegal}
use Rattle.pool_model.proofs.HistoryLemmas.{own-append}
use Rattle.pool_model.proofs.OwnerLemmas.{own-none}
use Rattle.errand_steps.specs.Errands.{ErrandFields}
use Rattle.sound_laws.specs.bounds.Contention.{lost_of}
use Rattle.sound_state.specs.Sums.{callers_sum}
use Rattle.sound_state.proofs.shared.SumLemmas.{term-sum}
use Rattle.step_machine.specs.Cores.{CoreFields, errand_at}
use Rattle.step_machine.proofs.CoreLemmas.{core-sound}
use Rattle.trace_text.specs.declared.trace.OrderRun.{OrderRun}
use Rattle.trace_text.specs.declared.trace.Trace.{Trace}
use Rattle.trace_text.specs.Traces.{IsTrace}
use Rattle.lane_outcomes.specs.declared.outcome.Outcome.{Outcome}
use Rattle.lane_outcomes.specs.declared.outcome.Outcome.TheVariants as outcome
use Rattle.lane_outcomes.specs.Fits.{Fits, OutcomesFit}
use Rattle.lane_outcomes.specs.Rows.{Setting}
use Rattle.lane_outcomes.specs.Standing.{setting_in}
use Rattle.live_heap.specs.Heaps.{HeapFields}
use Rattle.live_heap.specs.declared.pass.Pass.{Pass}
use Rattle.live_heap.specs.Endings.{ClosedFields, HasClosed, HasTakenIn, IsResting, machine_of}
use Rattle.live_heap.specs.Passes.{IsFresh, seen}
use Rattle.trace_lane.proofs.FitLemmas.{lane-spent}
use Rattle.lane_runner.specs.Driven.{IsDriven}
use Rattle.lane_runner.specs.Running.{operations_in}
use Rattle.lane_runner.specs.Passes.{HaveRun}
use Rattle.lane_runner.proofs.RunLanes.{element_at}
use Rattle.lane_outcomes.specs.Cached.{CachedFits, CachedLanesFit, CachedOutcomesFit}
use Rattle.trace_text.specs.declared.trace.Op.{Op}
use Rattle.lane_runner.proofs.Numbered.{at-least-one}
use Rattle.lane_outcomes.proofs.LaterLemmas.{cached-fits-later}
use Rattle.lane_outcomes.proofs.RoomLemmas.{fits-room, outcomes-plain}

-- each event of a legal history has a caller of the heap; and where those from a number on have none, it has one below
pub events-below :
    (g : Geometry) (count : ℕ) (history before events : List Event) → IsLegal g history → history ≡ before ++ events
    → ((k : ℕ) → count ≤ k → k < g.callers → own k events ≡ []) → AllByRecursion (λ event. caller_of event < count) events
events-below g count history before [] legal is none = tt
events-below g count history before (event ∷ events) legal is none = (
  elim (cases_lt (caller_of event) count) [
    | inl lt ↦ lt
    | inr least ↦
        let has : caller_of event < g.callers = (legal before events event is).0.0 in
        absurd ((own-none (caller_of event) event events (none (caller_of event) least has)).0 refl)
  ],
  events-below g count history (before ++ event ∷ []) events legal (is ∙ sym (append_assoc before (event ∷ []) events))
      (λ k least has. (own-none k event events (none k least has)).1),
)

-- a lane on a machine that was told to have no turn left has taken as many turns as the limit
pub driven-taken :
    (trace : Trace) (orders : List OrderRun) (c : CoreFields) (outcomes : List (List Outcome)) (lane : ℕ) → IsDriven trace orders c outcomes
    → lane < length trace.lanes → Contains (get_or outcomes lane []) outcome.Spent → (errand_at c.errands lane).turns ≡ trace.heap.turn_limit
driven-taken trace orders c outcomes lane driven lt told = lane-spent (driven.ended lane lt).rule told.0 refl told.1 told.2

-- lanes each of which fits
lanes-fit :
    (g : Geometry) (history : List Event) (lost depth base : ℕ) (lanes : List (List Op)) (outcomes : List (List Outcome)) (hits : List ℕ)
    → length outcomes ≡ length lanes → length hits ≡ length lanes
    → ((k : ℕ) → k < length lanes
    → CachedFits (setting_in history (base + k) g.turn_limit lost) depth (get_or lanes k []) (get_or outcomes k []) (get_or hits k 0))
    → CachedLanesFit g history lost depth base lanes outcomes (sum hits)
lanes-fit g history lost depth base [] [] [] same counts each = refl
lanes-fit g history lost depth base [] [] (n ∷ hits) same counts each = absurd (omega (arith, counts))
lanes-fit g history lost depth base (operations ∷ lanes) [] hits same counts each = absurd (omega (arith, same))
lanes-fit g history lost depth base [] (results ∷ outcomes) hits same counts each = absurd (omega (arith, same))
lanes-fit g history lost depth base (operations ∷ lanes) (results ∷ outcomes) [] same counts each = absurd (omega (arith, counts))
lanes-fit g history lost depth base (operations ∷ lanes) (results ∷ outcomes) (n ∷ hits) same counts each = (
  n,
  sum hits,
  sum_by-cons (λ k. k) n hits,
  subst (λ k. CachedFits (setting_in history k g.turn_limit lost) depth operations results n) (let here : base + 0 ≡ base = omega arith in here)
      (each 0 (omega arith)),
  lanes-fit g history lost depth (suc base) lanes outcomes hits (omega (arith, same)) (omega (arith, counts))
      (λ k lt.
      subst (λ m. CachedFits (setting_in history m g.turn_limit lost) depth (get_or lanes k []) (get_or outcomes k []) (get_or hits k 0))
      (let next : base + suc k ≡ suc base + k = omega arith in next) (each (suc k) (omega (arith, lt)))),
)

pub cached-fit :
    (g : Geometry) (history : List Event) (lost depth : ℕ) (lanes : List (List Op)) (outcomes : List (List Outcome)) (hits : List ℕ)
    → length outcomes ≡ length lanes → length hits ≡ length lanes
    → ((k : ℕ) → k < length lanes → CachedFits (setting_in history k g.turn_limit lost) depth (get_or lanes k []) (get_or outcomes k []) (get_or hits k 0))
    → AllByRecursion (λ event. caller_of event < length lanes) history → CachedOutcomesFit g history lost depth lanes outcomes (sum hits)
cached-fit g history lost depth lanes outcomes hits same counts each callers = record {
  lanes_fit =
      lanes-fit g history lost depth 0 lanes outcomes hits same counts
      (λ k lt.
      subst (λ n. CachedFits (setting_in history n g.turn_limit lost) depth (get_or lanes k []) (get_or outcomes k []) (get_or hits k 0)) (sym (zero-add k))
      (each k lt));
  callers = callers;
}

-- and without caches
pub plain-fit :
    (g : Geometry) (history : List Event) (lost : ℕ) (lanes : List (List Op)) (outcomes : List (List Outcome)) → length outcomes ≡ length lanes
    → ((k : ℕ) → k < length lanes → Fits (setting_in history k g.turn_limit lost) (get_or lanes k []) (get_or outcomes k []))
    → AllByRecursion (λ event. caller_of event < length lanes) history → OutcomesFit g history lost lanes outcomes
plain-fit g history lost lanes outcomes same each callers =
    let n = length lanes in
    let none : List ℕ = replicate n 0 in
    (outcomes-plain g history lost lanes outcomes (sum none)
    (cached-fit g history lost 0 lanes outcomes none same (length-replicate n 0)
    (λ k lt.
    let setting : Setting = setting_in history k g.turn_limit lost in
    subst (CachedFits setting 0 (get_or lanes k []) (get_or outcomes k [])) (sym (get_or-replicate n k 0 0 lt))
    (fits-room setting (get_or lanes k []) (get_or outcomes k []) (each k lt))) callers)).0

-- how a lane has ended over its pass: its outcomes and hits fit what the pass has seen; and where it was told to have no turn left, it has taken all
pub record HasFitted (h : HeapFields) (depth : ℕ) (operations : List Op) (lane : ℕ) (p : Pass) (outcomes : List Outcome) (hits : ℕ) : Type 0 where
  pub caller : p.errand.caller ≡ lane
  pub fits : CachedFits (setting_in (seen p) lane h.layout.turn_limit p.errand.lost) depth operations outcomes hits
  pub spent : Contains outcomes outcome.Spent → p.errand.turns ≡ h.layout.turn_limit

-- passes with which a heap was closed, and how their lanes have ended
module _ (trace : Trace) (h : HeapFields) (depth : ℕ) (passes : List Pass) (outcomes : List (List Outcome)) (hits : List ℕ) (c : ClosedFields) (is : IsTrace trace) (laid : h.layout ≡ trace.heap) (all : length passes ≡ trace.heap.callers) (fitted : (lane : ℕ) (p : Pass) → lane < length trace.lanes → p ≡ get_or passes lane p → HasFitted h depth (operations_in trace lane) lane p (get_or outcomes lane []) (get_or hits lane 0)) (closed : HasClosed h passes c) (rests : IsResting c) where
  layout : c.geometry ≡ trace.heap
  layout = closed.heap ∙ laid

  few : length trace.lanes ≤ trace.heap.callers
  few = at-least-one (length trace.lanes) trace.heap.callers is.callers

  abbrev lost_by : ℕ
  lost_by = callers_sum c.geometry lost_of (errand_at c.errands)

  pass-at : (k : ℕ) → k < length passes → (p : Pass) × (p ≡ get_or passes k p) × HasTakenIn c p
  pass-at k lt =
      let it = element_at passes k lt in
      (it.0, it.1, subst (HasTakenIn c) (sym it.1) (All-get_or (HasTakenIn c) passes k it.0 lt closed.each))

  -- the pass of a lane, as the closed heap has taken it in: others' events followed what it had seen
  record IsBehind (lane : ℕ) : Type 0 where
    p : Pass
    ended : HasFitted h depth (operations_in trace lane) lane p (get_or outcomes lane []) (get_or hits lane 0)
    errand : errand_at c.errands lane ≡ p.errand
    rest : List Event
    whole : c.events ≡ seen p ++ rest
    none : own lane rest ≡ []

  behind : (lane : ℕ) → lane < length trace.lanes → IsBehind lane
  behind lane lt =
      let (p, there, t) = pass-at lane (omega (arith, lt, few, all)) in
      let e = fitted lane p lt there in
      let rest : List Event = t.seen_before.0 in
      let same : own lane c.events ≡ own lane (seen p) = subst (λ k. own k c.events ≡ own k (seen p)) e.caller t.events in
      record {
        p = p;
        ended = e;
        errand = ap (errand_at c.errands) (sym e.caller) ∙ t.errand;
        rest = rest;
        whole = t.seen_before.1;
        none =
            append_cancel_left (own lane (seen p)) (own lane rest) []
            (sym (own-append lane (seen p) rest) ∙ ap (own lane) (sym t.seen_before.1) ∙ same ∙ sym (append-nil (own lane (seen p))));
      }

  fits-at :
      (lane : ℕ) → lane < length trace.lanes
      → CachedFits (setting_in c.events lane trace.heap.turn_limit lost_by) depth (get_or trace.lanes lane []) (get_or outcomes lane []) (get_or hits lane 0)
  unfolding callers_sum
  fits-at lane lt =
      let b = behind lane lt in
      let p = b.p in
      let results = get_or outcomes lane [] in
      let has : lane < c.geometry.callers = subst (λ (g : Geometry). lane < g.callers) (sym layout) (omega (arith, lt, few)) in
      let lost : p.errand.lost ≤ lost_by =
      subst (λ (f : ErrandFields). f.lost ≤ lost_by) b.errand (term-sum c.geometry.callers (λ k. lost_of (errand_at c.errands k)) lane has) in
      let Is : Setting → Type 0 = λ setting. CachedFits setting depth (operations_in trace lane) results (get_or hits lane 0) in
      subst (λ (g : Geometry). Is (setting_in c.events lane g.turn_limit lost_by)) laid
      (subst (λ history. Is (setting_in history lane h.layout.turn_limit lost_by)) (sym b.whole)
      (cached-fits-later (setting_in (seen p) lane h.layout.turn_limit p.errand.lost) b.rest lost_by depth (operations_in trace lane) results
      (get_or hits lane 0) lost b.none b.ended.fits))

  pub lanes-taken :
      (lane : ℕ) → lane < length trace.lanes → Contains (get_or outcomes lane []) outcome.Spent
      → (errand_at c.errands lane).turns ≡ trace.heap.turn_limit
  lanes-taken lane lt told =
      let b = behind lane lt in
      ap (λ (f : ErrandFields). f.turns) b.errand ∙ b.ended.spent told ∙ ap (λ (g : Geometry). g.turn_limit) laid

  pub lanes-closed :
      length outcomes ≡ length trace.lanes → length hits ≡ length trace.lanes
      → ((k : ℕ) (p : Pass) → length trace.lanes ≤ k → k < length passes → p ≡ get_or passes k p → IsFresh h p × (p.errand.caller ≡ k))
      → CachedOutcomesFit trace.heap c.events (callers_sum c.geometry lost_of (errand_at c.errands)) depth trace.lanes outcomes (sum hits)
  lanes-closed lists counts fresh =
      cached-fit trace.heap c.events lost_by depth trace.lanes outcomes hits lists counts fits-at
      (events-below c.geometry (length trace.lanes) c.events [] c.events (core-sound (machine_of c rests.steps) rests.core).legal refl
      (λ k least has.
      let below : k < length passes = omega (arith, has, all, ap (λ (g : Geometry). g.callers) layout) in
      let (p, there, t) = pass-at k below in
      let is_fresh = fresh k p least below there in
      subst (λ n. own n c.events ≡ own n (seen p)) is_fresh.1 t.events ∙ ap (own k) is_fresh.0.nothing_seen))

-- lanes over their passes alone
module _ (trace : Trace) (h : HeapFields) (passes : List Pass) (outcomes : List (List Outcome)) (c : ClosedFields) (is : IsTrace trace) (laid : h.layout ≡ trace.heap) (run : HaveRun trace h passes outcomes) (closed : HasClosed h passes c) (rests : IsResting c) where
  abbrev no_hits : List ℕ
  no_hits = replicate (length trace.lanes) 0

  fitted :
      (lane : ℕ) (p : Pass) → lane < length trace.lanes → p ≡ get_or passes lane p
      → HasFitted h 0 (operations_in trace lane) lane p (get_or outcomes lane []) (get_or no_hits lane 0)
  fitted lane p lt there =
      let e = run.each lane p lt there in
      let results = get_or outcomes lane [] in
      subst (HasFitted h 0 (operations_in trace lane) lane p results) (sym (get_or-replicate (length trace.lanes) lane 0 0 lt))
      (record {
        caller = e.caller;
        fits = fits-room (setting_in (seen p) lane h.layout.turn_limit p.errand.lost) (operations_in trace lane) results e.fit;
        spent = e.spent;
      })

  pub all-taken :
      (lane : ℕ) → lane < length trace.lanes → Contains (get_or outcomes lane []) outcome.Spent
      → (errand_at c.errands lane).turns ≡ trace.heap.turn_limit
  all-taken = lanes-taken trace h 0 passes outcomes no_hits c is laid run.all fitted closed rests

  pub closed-fit : OutcomesFit trace.heap c.events (callers_sum c.geometry lost_of (errand_at c.errands)) trace.lanes outcomes
  closed-fit =
      (outcomes-plain trace.heap c.events (callers_sum c.geometry lost_of (errand_at c.errands)) trace.lanes outcomes (sum no_hits)
      (lanes-closed trace h 0 passes outcomes no_hits c is laid run.all fitted closed rests run.lists (length-replicate (length trace.lanes) 0) run.rest)).0
