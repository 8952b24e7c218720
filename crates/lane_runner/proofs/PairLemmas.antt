-- One step of each loop over lanes through caches.
use Rattle.std.proofs.Common.{ℕ, suc, ◌≡◌, ◌+◌, List, [], ◌∷◌, ◌++◌, Vec, Global, length, append_assoc, refl, sym, ap, ◌∙◌, subst, arith}
use Rattle.std.proofs.lemmas.List.{length-append}
use Rattle.crossbeam_utils.specs.declared.cache_padded.CachePadded.{CachePadded}
use Rattle.crossbeam_utils.specs.Padded.{padded_value}
use Rattle.trace_text.specs.declared.trace.Trace.{Trace}
use Rattle.lane_outcomes.specs.declared.outcome.Outcome.{Outcome}
use Rattle.live_heap.specs.Heaps.{HeapFields}
use Rattle.live_heap.specs.declared.pass.Pass.{Pass}
use Rattle.live_heap.specs.Passes.{AreFrom, IsFresh}
use Rattle.lane_runner.specs.Running.{operations_in}
use Rattle.lane_runner.proofs.Numbered.{down-pop, down-push, from-pop, push-long}
use Rattle.lane_runner.specs.declared.run_lanes.CacheThread.{CacheThread}
use Rattle.lane_runner.specs.Threads.{AreDone, AreEnded, AreReady, HasEndedThrough, HasEndedWith, IsDone, IsPaired, IsReady, passes_behind}
use Rattle.lane_runner.proofs.ThreadLemmas.{ended-push}

-- the last one of new passes is taken out
module _ (h : HeapFields) (passes others : List Pass) (p : Pass) (last : passes ≡ others ++ p ∷ []) (fresh : AreFrom h 0 passes) where
  popped : AreFrom h 0 others × IsFresh h p × (p.errand.caller ≡ 0 + length others)
  popped = from-pop h 0 others p (subst (AreFrom h 0) last fresh)

  pub pair-others : AreFrom h 0 others
  pair-others = popped.0

  pub pair-fresh : IsFresh h p × (p.errand.caller ≡ length others)
  pair-fresh = (popped.1, popped.2 ∙ omega arith)

-- the lane of the pass that was taken out is ready
pub pair-thread :
    (trace : Trace) (h : HeapFields) (depth : ℕ) (passes others : List Pass) (p : Pass) (threads : List (CachePadded CacheThread)) (t : CacheThread)
    (padded : CachePadded CacheThread)
    → passes ≡ others ++ p ∷ [] → padded_value padded ≡ t → (t.lane.caller ≡ length others) × IsPaired trace h depth t
    → AreReady trace h depth (length passes) threads → AreReady trace h depth (length others) (threads ++ padded ∷ [])
pair-thread trace h depth passes others p threads t padded last is new readies =
    let k = length others in
    down-push (λ k t. IsReady trace h depth k (padded_value t)) k threads padded
    (subst (λ n. AreReady trace h depth n threads) (push-long passes others p last ∙ omega arith) readies)
    (subst (IsReady trace h depth k) (sym is) (record { number = new.0; paired = new.1 }))

-- the passes of lanes that have made no step: one more, and one that is given back
pub behind-push : (threads : List (CachePadded CacheThread)) (t : CachePadded CacheThread) → passes_behind (threads ++ t ∷ []) ≡ (padded_value t).cache.pass ∷ passes_behind threads
behind-push [] t = refl
behind-push (u ∷ threads) t = ap (λ (l : List Pass). l ++ (padded_value u).cache.pass ∷ []) (behind-push threads t)

pub behind-pop :
    (passes : List Pass) (threads rest : List (CachePadded CacheThread)) (t : CachePadded CacheThread) (p : Pass) → threads ≡ rest ++ t ∷ []
    → p ≡ (padded_value t).cache.pass → (passes ++ p ∷ []) ++ passes_behind rest ≡ passes ++ passes_behind threads
behind-pop passes threads rest t p last same =
    append_assoc passes (p ∷ []) (passes_behind rest)
    ∙ ap (λ (q : Pass). passes ++ q ∷ passes_behind rest) same
    ∙ ap (λ (l : List Pass). passes ++ l) (sym (behind-push rest t) ∙ ap passes_behind (sym last))

-- a lane's pass, its outcomes and its hits are taken back
module _ (trace : Trace) (h : HeapFields) (depth : ℕ) (threads rest : List (CachePadded CacheThread)) (t : CachePadded CacheThread) (passes : List Pass) (outcomes : List (Vec Outcome Global)) (hits : List ℕ) (last : threads ≡ rest ++ t ∷ []) (done : AreDone trace h depth (length passes) threads) (ended : AreEnded trace h depth 0 passes outcomes hits) where
  popped-done : IsDone trace h depth (length passes) (padded_value t) × AreDone trace h depth (suc (length passes)) rest
  popped-done =
      down-pop (λ k t. IsDone trace h depth k (padded_value t)) (length passes) rest t (subst (AreDone trace h depth (length passes)) last done)

  pub back-one : IsDone trace h depth (length passes) (padded_value t)
  back-one = popped-done.0

  pub back-ended :
      (p : Pass) (o : Vec Outcome Global) (n : ℕ) → p ≡ (padded_value t).cache.pass → o ≡ (padded_value t).lane.outcomes
      → n ≡ (padded_value t).cache.hits
      → AreEnded trace h depth 0 (passes ++ p ∷ []) (outcomes ++ o ∷ []) (hits ++ n ∷ [])
  back-ended p o n same_pass same_outcomes same_hits =
      let k = length passes in
      let one : HasEndedWith h depth (operations_in trace k) k p o.items n = record {
        cache = (padded_value t).cache;
        pass = same_pass;
        counted = same_hits;
        ended =
            subst (λ (r : Vec Outcome Global). HasEndedThrough h depth (operations_in trace k) k r.items (padded_value t).cache) (sym same_outcomes)
            popped-done.0.ended;
      } in
      ended-push trace h depth 0 passes outcomes hits p o n ended
      (subst (λ m. HasEndedWith h depth (operations_in trace m) m p o.items n) (omega arith) one)

  pub back-done : (p : Pass) → AreDone trace h depth (length (passes ++ p ∷ [])) rest
  back-done p = subst (λ n. AreDone trace h depth n rest) (omega (arith, length-append passes (p ∷ []))) popped-done.1
