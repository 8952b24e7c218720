use Rattle.std.proofs.Common.{ℕ, ◌≡◌, ◌++◌, ◌∷◌, [], List, Vec, Global, length, length-append, rules, vec_len, sym, ap, ◌∙◌, subst, arith}
use Rattle.errand_steps.specs.Begins.{IsIdle}
use Rattle.lane_outcomes.specs.declared.outcome.Outcome.{Outcome}
use Rattle.live_heap.specs.declared.pass.Pass.{Pass}
use Rattle.lane_runner.proofs.Numbered.{push-long}
use Rattle.block_cache.specs.Caches.{cached_in}
use Rattle.lane_runner.specs.declared.run_lanes.CacheThread.{CacheThread}
use Rattle.lane_runner.specs.Threads.{AreDone, AreEnded}
use Rattle.lane_runner.proofs.PairLemmas.{back-done, back-ended, back-one}
use Rattle.lane_runner.proofs.ThreadLemmas.{ended-count}
use Rattle.lane_runner.proofs.run_lanes.take_back.Goals as goal

pub push_reserved-requires : goal.push_reserved-requires
push_reserved-requires c =
    let i = c.loop-thread.invariant in
    let run = c.loop-thread.run in
    let many = ended-count c.args._trace.now c.args._heap.now c.args._depth 0 run.passes.items run.outcomes.items run.hits.items i.ended in
    let long = push-long c.loop-thread.threads.items c.pop.new.self.items c.in-Some.thread c.in-Some.ensures.items in
    let len : length run.hits.items ≡ vec_len run.hits = search rules in
    omega (arith, many.1, long, len, i.all, i.room_of_hits, c.requires.room.1)

pub close-requires-clause-idle : goal.close-requires-clause-idle
close-requires-clause-idle c =
    let i = c.loop-thread.invariant in
    let run = c.loop-thread.run in
    let done = back-one c.args._trace.now c.args._heap.now c.args._depth c.loop-thread.threads.items c.pop.new.self.items c.in-Some.thread
    run.passes.items run.outcomes.items run.hits.items c.in-Some.ensures.items i.left i.ended in
    subst (λ (u : CacheThread). IsIdle u.cache.pass.errand) (sym c.into_inner-cache.ensures) done.ended.through.rests.1

pub close-requires-clause-empty : goal.close-requires-clause-empty
close-requires-clause-empty c =
    let i = c.loop-thread.invariant in
    let run = c.loop-thread.run in
    let done = back-one c.args._trace.now c.args._heap.now c.args._depth c.loop-thread.threads.items c.pop.new.self.items c.in-Some.thread
    run.passes.items run.outcomes.items run.hits.items c.in-Some.ensures.items i.left i.ended in
    let empty = done.ended.through.emptied.empty in
    let Q : CacheThread → Type 0 = λ u. cached_in u.cache ≡ [] in
    let ended = done.ended in
    subst Q (sym c.into_inner-cache.ensures) empty

pub push_reserved-requires-in-Some-2 : goal.push_reserved-requires-in-Some-2
push_reserved-requires-in-Some-2 c =
    let i = c.loop-thread.invariant in
    let run = c.loop-thread.run in
    let many = ended-count c.args._trace.now c.args._heap.now c.args._depth 0 run.passes.items run.outcomes.items run.hits.items i.ended in
    let long = push-long c.loop-thread.threads.items c.pop.new.self.items c.in-Some.thread c.in-Some.ensures.items in
    let len : length run.outcomes.items ≡ vec_len run.outcomes = search rules in
    omega (arith, many.0, long, len, i.all, i.room_too, c.requires.room.0)

pub loop-thread-preserved : goal.loop-thread-preserved
loop-thread-preserved c =
    let trace = c.args._trace.now in
    let h = c.args._heap.now in
    let depth = c.args._depth in
    let i = c.loop-thread.invariant in
    let threads = c.loop-thread.threads.items in
    let rest = c.pop.new.self.items in
    let t = c.in-Some.thread in
    let passes = c.loop-thread.run.passes.items in
    let outcomes = c.loop-thread.run.outcomes.items in
    let hits = c.loop-thread.run.hits.items in
    let last : threads ≡ rest ++ t ∷ [] = c.in-Some.ensures.items in
    let p : Pass = c.close.result in
    let o : Vec Outcome Global = c.into_outcomes.result in
    let n : ℕ = c.hits.result in
    let inner = c.into_inner-cache.ensures in
    let ended = back-ended trace h depth threads rest t passes outcomes hits last i.left i.ended p o n
    (c.close.ensures ∙ ap (λ (u : CacheThread). u.cache.pass) inner)
    (c.into_outcomes.ensures ∙ ap (λ (u : CacheThread). u.lane.outcomes) inner)
    (c.hits.ensures ∙ ap (λ (u : CacheThread). u.cache.hits) inner) in
    let done = back-done trace h depth threads rest t passes outcomes hits last i.left i.ended p in
    let now_hits = c.push_reserved.ensures.items in
    let now = c.push_reserved-in-Some.ensures.items in
    let now_too = c.push_reserved-in-Some-2.ensures.items in
    record {
      left = subst (λ (ps : List Pass). AreDone trace h depth (length ps) rest) (sym now) done;
      all = omega (arith, i.all, push-long threads rest t last, ap length now, length-append passes (p ∷ []));
      ended =
          subst (λ (ps : List Pass). AreEnded trace h depth 0 ps c.push_reserved-in-Some-2.new.self.items c.push_reserved.new.self.items) (sym now)
          (subst (λ (os : List (Vec Outcome Global)). AreEnded trace h depth 0 (passes ++ p ∷ []) os c.push_reserved.new.self.items) (sym now_too)
          (subst (λ (ns : List ℕ). AreEnded trace h depth 0 (passes ++ p ∷ []) (outcomes ++ o ∷ []) ns) (sym now_hits) ended));
      room = c.push_reserved-in-Some.ensures.capacity ∙ i.room;
      room_too = c.push_reserved-in-Some-2.ensures.capacity ∙ i.room_too;
      room_of_hits = c.push_reserved.ensures.capacity ∙ i.room_of_hits;
    }
