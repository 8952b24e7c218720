-- The outcomes of lanes through caches fit the history of their closed heap.
use Rattle.std.proofs.Common.{ℕ, ◌≡◌, ◌<◌, ◌+◌, ◌^◌, List, [], ◌++◌, length, get_or, refl, take, sym, ap, ◌∙◌, subst, arith}
use Rattle.std.specs.Prelude.{Contains, sum}
use Rattle.heap_geometry.specs.declared.geometry.Geometry.{Geometry}
use Rattle.pool_model.specs.Histories.{own}
use Rattle.sound_laws.specs.bounds.Contention.{lost_of}
use Rattle.sound_state.specs.Sums.{callers_sum}
use Rattle.step_machine.specs.Cores.{errand_at}
use Rattle.live_heap.specs.Heaps.{HeapFields}
use Rattle.live_heap.specs.declared.pass.Pass.{Pass}
use Rattle.live_heap.specs.Endings.{ClosedFields, HasClosed, IsResting}
use Rattle.live_heap.specs.Passes.{seen}
use Rattle.trace_text.specs.declared.trace.Op.{Op}
use Rattle.trace_text.specs.declared.trace.Trace.{Trace}
use Rattle.trace_text.specs.Traces.{IsTrace}
use Rattle.lane_outcomes.specs.declared.outcome.Outcome.{Outcome}
use Rattle.lane_outcomes.specs.declared.outcome.Outcome.TheVariants as outcome
use Rattle.lane_outcomes.specs.Lane.{start}
use Rattle.lane_outcomes.specs.Standing.{setting_in}
use Rattle.lane_runner.specs.Running.{operations_in}
use Rattle.trace_lane.proofs.OwnLemmas.{empty-holds}
use Rattle.block_cache.specs.Whole.{HoldsAt}
use Rattle.lane_runner.proofs.CallLemmas.{caller_in, pass-rests, through_cache, view_in}
use Rattle.lane_runner.proofs.PassLemmas.{frees-added}
use Rattle.block_cache.specs.declared.cache.Cache.{Cache}
use Rattle.block_cache.specs.Caches.{stacks_in}
use Rattle.block_cache.specs.Magazines.{leaving}
use Rattle.lane_outcomes.specs.Cached.{CachedOutcomesFit, CachedPosition, CachedWalks, cached_start}
use Rattle.lane_outcomes.specs.Magazines.{emptying}
use Rattle.lane_outcomes.proofs.LaterLemmas.{cached-walks-later}
use Rattle.lane_runner.specs.Threads.{HasEndedThrough, HaveRunThrough, IsOpened}
use Rattle.lane_runner.proofs.Places.{emptying-leaves, freed_of, no-places, places_in}
use Rattle.std.proofs.lemmas.List.{take_all}
use Rattle.trace_lane.proofs.RowLemmas.{setting_at}
use Rattle.trace_lane.proofs.ThroughLemmas.{stands_at}
use Rattle.lane_outcomes.proofs.SpentLemmas.{told-through}
use Rattle.trace_lane.proofs.WalkLemmas.{Stands, all-walk}
use Rattle.lane_runner.proofs.ClosedFits.{HasFitted, lanes-closed, lanes-taken}
use Rattle.lane_outcomes.specs.Rows.{Setting}

-- a new cache stands before the first operation
opened-stands : (h : HeapFields) (depth lane : ℕ) (c : Cache) → IsOpened h depth lane c → Stands (through_cache h depth) c start
opened-stands h depth lane c is = record {
  stands = (is.rests, is.deep);
  done = ap (own c.pass.errand.caller) is.fresh.nothing_seen;
  answered = refl;
  spent = λ spent. absurd (cc);
  holds = empty-holds (HoldsAt c);
}

opened-start : (h : HeapFields) (depth lane : ℕ) (c : Cache) → IsOpened h depth lane c → stands_at (view_in c) start 0 ≡ cached_start
opened-start h depth lane c is =
    ap (λ (ms : List (List ℕ)). let p : CachedPosition = record { base = start; magazines = ms; hits = 0 } in p) (no-places h c is.rests.0 is.empty)

-- a lane that has ended: its outcomes and hits fit what its cache's pass has seen
pub ended-fitted :
    (h : HeapFields) (depth : ℕ) (operations : List Op) (lane : ℕ) (outcomes : List Outcome) (c : Cache) → HasEndedThrough h depth operations lane outcomes c
    → HasFitted h depth operations lane c.pass outcomes c.hits
ended-fitted h depth operations lane outcomes c e =
    let first = e.first in
    let opened = e.opened in
    let ran = e.through.ran in
    let few : 0 + length outcomes < 2 ^ 64 = let f = e.few in let all = e.all in omega arith in
    let walked = all-walk (through_cache h depth) operations outcomes first ran start 0 (opened-stands h depth lane first opened) e.through.made in
    let at_rest = walked.stands.stands.0 in
    let moved = (frees-added h (leaving (stacks_in ran)) ran.pass c.pass (pass-rests h ran at_rest) e.through.emptied.frees).moved in
    let caller = ran.pass.errand.caller in
    let number = first.pass.errand.caller in
    let ops = take (length outcomes) operations in
    let end = stands_at (view_in ran) walked.end walked.served in
    let setting : Setting = setting_in (seen c.pass) number h.layout.turn_limit c.pass.errand.lost in
    let heap : ran.pass.errand.geometry ≡ h.layout = at_rest.0.hand.of.served.own_errand.geometry in
    let walks : CachedWalks setting depth cached_start operations outcomes end =
    subst (λ os. CachedWalks setting depth cached_start os outcomes end)
    (take_all (length outcomes) operations (let all = e.all in omega (arith, all)))
    (subst (λ at. CachedWalks setting depth at ops outcomes end) (opened-start h depth lane first opened)
    (subst
    (λ history. CachedWalks (setting_in history number h.layout.turn_limit c.pass.errand.lost) depth (stands_at (view_in first) start 0) ops outcomes end)
    (sym moved.seen)
    (cached-walks-later (setting_at h.layout (caller_in first) (caller_in ran)) moved.rest c.pass.errand.lost depth moved.lost
    (stands_at (view_in first) start 0) end ops outcomes walked.walks))) in
    subst (λ k. HasFitted h depth operations k c.pass outcomes c.hits) opened.caller
    (record {
      caller = moved.same_caller ∙ walked.moved.same_caller;
      fits = record {
        end = end;
        walks = walks;
        all_used =
            subst (λ k. own k (seen c.pass) ≡ walked.end.done ++ emptying k (places_in ran)) walked.moved.same_caller
            (moved.own_events ∙ ap (λ xs. xs ++ freed_of caller (leaving (stacks_in ran))) walked.stands.done
            ∙ ap (λ xs. walked.end.done ++ xs) (emptying-leaves caller ran));
        hits_are = e.through.emptied.hits ∙ walked.counts opened.no_hits few;
      };
      spent = λ told.
          moved.at_limit
          (walked.stands.spent (told-through setting depth cached_start end operations outcomes told.0 walks told.1 told.2)
          ∙ ap (λ (g : Geometry). g.turn_limit) (sym heap)) ∙ ap (λ (g : Geometry). g.turn_limit) heap;
    })

module _ (trace : Trace) (h : HeapFields) (depth : ℕ) (passes : List Pass) (outcomes : List (List Outcome)) (hits : List ℕ) (c : ClosedFields) (is : IsTrace trace) (laid : h.layout ≡ trace.heap) (run : HaveRunThrough trace h depth passes outcomes hits) (closed : HasClosed h passes c) (rests : IsResting c) where
  fitted :
      (lane : ℕ) (p : Pass) → lane < length trace.lanes → p ≡ get_or passes lane p
      → HasFitted h depth (operations_in trace lane) lane p (get_or outcomes lane []) (get_or hits lane 0)
  fitted lane p lt there =
      let e = run.each lane p lt there in
      let operations = operations_in trace lane in
      let results = get_or outcomes lane [] in
      subst (λ q. HasFitted h depth operations lane q results (get_or hits lane 0)) (sym e.pass)
      (subst (HasFitted h depth operations lane e.cache.pass results) (sym e.counted) (ended-fitted h depth operations lane results e.cache e.ended))

  -- a lane that was told to have no turn left has taken them all
  pub all-taken :
      (lane : ℕ) → lane < length trace.lanes → Contains (get_or outcomes lane []) outcome.Spent
      → (errand_at c.errands lane).turns ≡ trace.heap.turn_limit
  all-taken = lanes-taken trace h depth passes outcomes hits c is laid run.all fitted closed rests

  pub closed-fit :
      CachedOutcomesFit trace.heap c.events (callers_sum c.geometry lost_of (errand_at c.errands)) depth trace.lanes outcomes (sum hits)
  closed-fit = lanes-closed trace h depth passes outcomes hits c is laid run.all fitted closed rests run.lists run.counts run.rest
