-- Lanes through caches on threads: how they are run and taken back.
use Rattle.std.proofs.Common.{ℕ, zero, suc, ◌≡◌, ◌<◌, ◌+◌, List, [], ◌∷◌, ◌++◌, None, Vec, Global, length, map, max, get_or, replicate, refl, sym, ap, ◌∙◌, subst, arith}
use Rattle.std.specs.Prelude.{All}
use Rattle.std.proofs.lemmas.List.{length-map}
use Rattle.std.proofs.lemmas.List.Elements.{All-cons, All-nil}
use Rattle.crossbeam_utils.specs.declared.cache_padded.CachePadded.{CachePadded}
use Rattle.crossbeam_utils.specs.Padded.{padded_value}
use Rattle.errand_steps.specs.Begins.{IsIdle}
use Rattle.sound_laws.specs.events.Made.{LeadsBy}
use Rattle.trace_text.specs.declared.limits.TheConstants.{REGISTERS}
use Rattle.trace_text.specs.declared.trace.Op.{Op}
use Rattle.trace_text.specs.declared.trace.Trace.{Trace}
use Rattle.trace_text.specs.Traces.{IsTrace}
use Rattle.lane_outcomes.specs.declared.outcome.Outcome.{Outcome}
use Rattle.lane_outcomes.specs.Passed.{AllPassed}
use Rattle.live_heap.specs.declared.block.Block.{Block}
use Rattle.live_heap.specs.Heaps.{HeapFields}
use Rattle.live_heap.specs.declared.pass.Pass.{Pass}
use Rattle.live_heap.specs.Passes.{IsOf, view}
use Rattle.trace_lane.proofs.MadeLemmas.{made-of}
use Rattle.trace_lane.specs.Paths.{FirstPassed}
use Rattle.lane_runner.specs.Running.{operations_in}
use Rattle.lane_runner.proofs.CallLemmas.{call-lent}
use Rattle.lane_runner.proofs.Numbered.{all-gone, down-done, down-find}
use Rattle.block_cache.specs.declared.cache.Cache.{Cache}
use Rattle.block_cache.specs.Caches.{stacks_in}
use Rattle.block_cache.specs.Magazines.{leaving}
use Rattle.lane_engine.specs.Caches.{HasEndedAt, IsCachedCall, frees_of}
use Rattle.lane_runner.specs.declared.run_lanes.CacheThread.{CacheThread}
use Rattle.lane_runner.specs.Threads.{AreDone, AreEnded, AreReady, HasEndedThrough, HasEndedWith, HasRunOn, HaveRunThrough, IsDone, IsPaired, IsReady}

pub ready-paired : (trace : Trace) (h : HeapFields) (depth k : ℕ) (t : CacheThread) → IsReady trace h depth k t → IsPaired trace h depth t
ready-paired trace h depth k t is = is.paired

-- a thread has run its lane
pub ready-done :
    (passed : ℕ → ℕ → Type 0) (trace : Trace) (h : HeapFields) (depth k : ℕ) (t u : CacheThread) → IsReady trace h depth k t
    → HasRunOn passed trace h t u → IsDone trace h depth k u
ready-done passed trace h depth k t u is ran = record {
  ended =
      subst (λ n. HasEndedThrough h depth (operations_in trace n) n u.lane.outcomes.items u.cache) is.number
      (record { first = t.cache; opened = is.paired.opened; through = ran.through; all = ran.all; few = ran.few });
}

pub ready-passed :
    (passed : ℕ → ℕ → Type 0) (trace : Trace) (h : HeapFields) (depth k : ℕ) (t u : CacheThread) → IsReady trace h depth k t
    → HasRunOn passed trace h t u → FirstPassed passed k (length (operations_in trace k))
ready-passed passed trace h depth k t u is ran =
    subst (λ n. FirstPassed passed n (length (operations_in trace n))) is.number ran.gate

-- what all threads have made of their lanes
module _ (passed : ℕ → ℕ → Type 0) (trace : Trace) (h : HeapFields) (depth : ℕ) (xs ys : List (CachePadded CacheThread)) (same : length ys ≡ length xs) (all : length xs ≡ length trace.lanes) (readies : AreReady trace h depth 0 xs) (ran : (i : ℕ) (d : CachePadded CacheThread) → i < length xs → HasRunOn passed trace h (padded_value (get_or xs i d)) (padded_value (get_or ys i d))) where
  pub threads-done : (length ys ≡ length trace.lanes) × AreDone trace h depth 0 ys
  threads-done = (
    same ∙ all,
    down-done (λ k t. IsReady trace h depth k (padded_value t)) (λ k t. IsDone trace h depth k (padded_value t))
        (λ t u. HasRunOn passed trace h (padded_value t) (padded_value u))
        (λ k t u. ready-done passed trace h depth k (padded_value t) (padded_value u)) 0 xs ys same ran readies,
  )

  pub threads-gone : AllPassed passed trace.lanes
  threads-gone =
      let gone =
      down-done (λ k t. IsReady trace h depth k (padded_value t)) (λ k t. FirstPassed passed k (length (operations_in trace k)))
      (λ t u. HasRunOn passed trace h (padded_value t) (padded_value u))
      (λ k t u. ready-passed passed trace h depth k (padded_value t) (padded_value u)) 0 xs ys same ran readies in
      all-gone passed trace (λ k lt.
      (down-find (λ k (t : CachePadded CacheThread). FirstPassed passed k (length (operations_in trace k))) 0 ys k (omega arith)
      (omega (arith, lt, same, all)) gone).1)

-- the lanes that have ended, with one more
pub ended-push :
    (trace : Trace) (h : HeapFields) (depth k : ℕ) (ps : List Pass) (os : List (Vec Outcome Global)) (ns : List ℕ) (p : Pass) (o : Vec Outcome Global) (n : ℕ)
    → AreEnded trace h depth k ps os ns
    → HasEndedWith h depth (operations_in trace (k + length ps)) (k + length ps) p o.items n
    → AreEnded trace h depth k (ps ++ p ∷ []) (os ++ o ∷ []) (ns ++ n ∷ [])
ended-push trace h depth k [] [] [] p o n all one = (subst (λ m. HasEndedWith h depth (operations_in trace m) m p o.items n) (omega arith) one, tt)
ended-push trace h depth k (q ∷ ps) (r ∷ os) (m ∷ ns) p o n all one = (
  all.0,
  ended-push trace h depth (suc k) ps os ns p o n all.1
      (subst (λ m. HasEndedWith h depth (operations_in trace m) m p o.items n) (omega arith) one),
)
ended-push trace h depth k ps os ns p o n all one = absurd all

pub ended-count :
    (trace : Trace) (h : HeapFields) (depth k : ℕ) (ps : List Pass) (os : List (Vec Outcome Global)) (ns : List ℕ) → AreEnded trace h depth k ps os ns
    → (length os ≡ length ps) × (length ns ≡ length ps)
ended-count trace h depth k [] [] [] all = (refl, refl)
ended-count trace h depth k (p ∷ ps) (o ∷ os) (n ∷ ns) all =
    let rest = ended-count trace h depth (suc k) ps os ns all.1 in (ap suc rest.0, ap suc rest.1)
ended-count trace h depth k ps os ns all = absurd all

-- the lane of this number, among those that have ended
pub ended-at :
    (trace : Trace) (h : HeapFields) (depth k : ℕ) (ps : List Pass) (os : List (Vec Outcome Global)) (ns : List ℕ) (i : ℕ) (p : Pass)
    → AreEnded trace h depth k ps os ns → i < length ps → p ≡ get_or ps i p
    → HasEndedWith h depth (operations_in trace (k + i)) (k + i) p (get_or (map (λ (o : Vec Outcome Global). o.items) os) i []) (get_or ns i 0)
ended-at trace h depth k [] [] [] i p all lt there = absurd (omega (arith, lt))
ended-at trace h depth k (q ∷ ps) (o ∷ os) (n ∷ ns) zero p all lt there =
    subst (λ m. HasEndedWith h depth (operations_in trace m) m p o.items n) (omega arith)
    (subst (λ r. HasEndedWith h depth (operations_in trace k) k r o.items n) (sym there) all.0)
ended-at trace h depth k (q ∷ ps) (o ∷ os) (n ∷ ns) (suc i) p all lt there =
    subst (λ m. HasEndedWith h depth (operations_in trace m) m p (get_or (map (λ (o : Vec Outcome Global). o.items) os) i []) (get_or ns i 0)) (omega arith)
    (ended-at trace h depth (suc k) ps os ns i p all.1 (omega (arith, lt)) there)
ended-at trace h depth k ps os ns i p all lt there = absurd all

-- what follows for the pass of each is so of all passes
ended-all :
    (trace : Trace) (h : HeapFields) (depth : ℕ) (P : Pass → Type 0)
    → ((operations : List Op) (lane : ℕ) (p : Pass) (outcomes : List Outcome) (hits : ℕ) → HasEndedWith h depth operations lane p outcomes hits → P p)
    → (k : ℕ) (ps : List Pass) (os : List (Vec Outcome Global)) (ns : List ℕ) → AreEnded trace h depth k ps os ns → All P ps
ended-all trace h depth P follows k [] [] [] all = All-nil P
ended-all trace h depth P follows k (p ∷ ps) (o ∷ os) (n ∷ ns) all =
    All-cons P p ps (follows (operations_in trace k) k p o.items n all.0) (ended-all trace h depth P follows (suc k) ps os ns all.1)
ended-all trace h depth P follows k ps os ns all = absurd all

pub ended-idle :
    (trace : Trace) (h : HeapFields) (depth k : ℕ) (ps : List Pass) (os : List (Vec Outcome Global)) (ns : List ℕ) → AreEnded trace h depth k ps os ns
    → All (λ p. IsOf h p × IsIdle p.errand) ps
ended-idle trace h depth =
    ended-all trace h depth (λ p. IsOf h p × IsIdle p.errand)
    (λ operations lane p outcomes hits e.
    let rests = e.ended.through.rests in subst (λ (q : Pass). IsOf h q × IsIdle q.errand) (sym e.pass) (rests.0.hand.of, rests.1))

frees-lent : (h : HeapFields) (blocks : List Block) (p q : Pass) → LeadsBy (HasEndedAt h) p (frees_of blocks) q → (view q).lent ≡ (view p).lent
frees-lent h [] p q same = ap (λ (x : Pass). (view x).lent) same
frees-lent h (block ∷ blocks) p q (t, ((steps, called), ends), leads) = frees-lent h blocks t q leads ∙ called.lent

-- a lane that has ended through its cache has no block's words out
pub through-home :
    (h : HeapFields) (depth : ℕ) (operations : List Op) (lane : ℕ) (outcomes : List Outcome) (c : Cache)
    → HasEndedThrough h depth operations lane outcomes c → c.pass.out ≡ 0
through-home h depth operations lane outcomes c e =
    let first = e.first in
    let ran = e.through.ran in
    let same : (view c.pass).lent ≡ (view first.pass).lent =
    frees-lent h (leaving (stacks_in ran)) ran.pass c.pass e.through.emptied.frees
    ∙ (made-of (IsCachedCall h) (IsCachedCall h) (λ x. x) (λ (x : Cache). (view x.pass).lent ≡ (view first.pass).lent)
    (λ x y call answer same called. (called, call-lent h x y call answer called ∙ same)) (replicate REGISTERS None) operations outcomes first ran refl
    e.through.made).1 in
    sym e.through.rests.0.hand.of.counted ∙ ap length same ∙ e.opened.fresh.of.counted ∙ e.opened.fresh.home

pub ended-home :
    (trace : Trace) (h : HeapFields) (depth k : ℕ) (ps : List Pass) (os : List (Vec Outcome Global)) (ns : List ℕ) → AreEnded trace h depth k ps os ns
    → All (λ p. p.out ≡ 0) ps
ended-home trace h depth =
    ended-all trace h depth (λ p. p.out ≡ 0)
    (λ operations lane p outcomes hits e.
    subst (λ (q : Pass). q.out ≡ 0) (sym e.pass) (through-home h depth operations lane outcomes e.cache e.ended))

-- the lanes of a trace have run
one-each : (n : ℕ) → 0 < n → max 1 n ≡ n
one-each n some_one = omega (arith, some_one)

pub have-run :
    (trace : Trace) (h : HeapFields) (depth : ℕ) (ps : List Pass) (os : List (Vec Outcome Global)) (ns : List ℕ) → IsTrace trace → 0 < length trace.lanes
    → length ps ≡ length trace.lanes → AreEnded trace h depth 0 ps os ns
    → HaveRunThrough trace h depth ps (map (λ (o : Vec Outcome Global). o.items) os) ns
have-run trace h depth ps os ns is some_lane all ended =
    let counts = ended-count trace h depth 0 ps os ns ended in
    record {
      all = all ∙ sym (one-each (length trace.lanes) some_lane) ∙ sym is.callers;
      lists = length-map os (λ (o : Vec Outcome Global). o.items) ∙ counts.0 ∙ all;
      counts = counts.1 ∙ all;
      each = λ lane p lt there.
          subst
          (λ n. HasEndedWith h depth (operations_in trace n) n p (get_or (map (λ (o : Vec Outcome Global). o.items) os) lane []) (get_or ns lane 0))
          (omega arith) (ended-at trace h depth 0 ps os ns lane p ended (omega (arith, lt, all)) there);
      rest = λ k p least lt there. absurd (omega (arith, least, lt, all));
    }
