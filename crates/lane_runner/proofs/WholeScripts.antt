-- The whole calls of a lane are the calls of its script, whoever makes them.
use Rattle.std.proofs.Common.{ℕ, List, None, replicate}
use Rattle.sound_laws.specs.events.Made.{LeadsBy, Made}
use Rattle.trace_text.specs.declared.limits.TheConstants.{REGISTERS}
use Rattle.trace_text.specs.declared.trace.Op.{Op}
use Rattle.lane_outcomes.specs.declared.outcome.Outcome.{Outcome}
use Rattle.live_heap.specs.Heaps.{HeapFields}
use Rattle.live_heap.specs.declared.pass.Pass.{Pass}
use Rattle.live_heap.specs.Passes.{seen}
use Rattle.live_heap.specs.Whole.{IsAtRest}
use Rattle.block_cache.specs.declared.cache.Cache.{Cache}
use Rattle.block_cache.specs.Whole.{HoldsAt, RestsAt}
use Rattle.lane_engine.specs.Caches.{IsCachedCall}
use Rattle.lane_engine.specs.Callers.{IsCall}
use Rattle.trace_lane.specs.Made.{calls_made}
use Rattle.trace_lane.specs.Scripts.{Scripts}
use Rattle.trace_lane.proofs.AnswerLemmas.{owned-need}
use Rattle.trace_lane.proofs.CallerLemmas.{Owns}
use Rattle.lane_engine.proofs.KeptLemmas.{cached-laws}
use Rattle.lane_engine.proofs.LeadsLemmas.{leads-of}
use Rattle.trace_lane.proofs.OwnLemmas.{empty-holds}
use Rattle.trace_lane.proofs.ScriptLemmas.{all-script, caller-script}
use Rattle.trace_lane.proofs.MadeLemmas.{made-calls}
use Rattle.lane_runner.specs.Passes.{HasMadeCalls, WholeAt}
use Rattle.lane_runner.specs.Threads.{HasEndedThrough}
use Rattle.lane_runner.proofs.Numbered.{fresh-idle}
use Rattle.lane_runner.proofs.PassLemmas.{caller_at, rests-caller, whole-call}

-- of a pass
pub made-script :
    (h : HeapFields) (operations : List Op) (lane : ℕ) (outcomes : List Outcome) (p : Pass) (calls : HasMadeCalls h operations lane outcomes p)
    → (made : List Made) × LeadsBy (WholeAt h) calls.first made p × Scripts (replicate REGISTERS None) operations outcomes (calls_made made)
made-script h operations lane outcomes p calls =
    let first = calls.first in
    let rests : IsAtRest h first = (calls.fresh.of, fresh-idle h first calls.fresh) in
    let (made, all, leads) = made-calls (WholeAt h) (replicate REGISTERS None) operations outcomes first p calls.made in
    let by_caller = leads-of (WholeAt h) (IsCall h.layout) caller_at (IsAtRest h)
    (λ q r call answer rests one. (whole-call h q r call answer rests one.0 one.1 one.2, one.2)) made first p rests leads in (
      made,
      leads,
      caller-script h.layout operations outcomes (replicate REGISTERS None) made (caller_at first) (caller_at p) (rests-caller h first rests)
          (empty-holds (Owns (caller_at first))) all by_caller.0,
    )

-- and of a cache
pub through-script :
    (h : HeapFields) (depth : ℕ) (operations : List Op) (lane : ℕ) (outcomes : List Outcome) (c : Cache)
    → (ended : HasEndedThrough h depth operations lane outcomes c)
    → (made : List Made) × LeadsBy (IsCachedCall h) ended.first made ended.through.ran
    × Scripts (replicate REGISTERS None) operations outcomes (calls_made made)
through-script h depth operations lane outcomes c ended =
    let first = ended.first in
    let ran = ended.through.ran in
    let (made, all, leads) = made-calls (IsCachedCall h) (replicate REGISTERS None) operations outcomes first ran ended.through.made in (
      made,
      leads,
      all-script (cached-laws h) (RestsAt h) (λ s t call answer one. one.0.after)
          (λ s place need rests held. owned-need h.layout (seen s.pass) s.pass.errand.caller place need rests.0.hand.of.served.legal held.0.0) operations outcomes
          (replicate REGISTERS None) made first ran ended.opened.rests (empty-holds (HoldsAt first)) all leads,
    )
