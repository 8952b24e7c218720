use Rattle.std.proofs.Common.{◌≡◌, ◌++◌, ◌∷◌, [], List, length, length-append, append_assoc, rules, vec_len, sym, ap, ◌∙◌, subst, arith}
use Rattle.crossbeam_utils.specs.declared.cache_padded.CachePadded.{CachePadded}
use Rattle.live_heap.specs.declared.pass.Pass.{Pass}
use Rattle.lane_runner.proofs.Numbered.{push-long}
use Rattle.lane_runner.specs.declared.run_lanes.CacheThread.{CacheThread}
use Rattle.lane_runner.specs.Threads.{AreReady, passes_behind}
use Rattle.lane_runner.proofs.PairLemmas.{behind-push, pair-fresh, pair-others, pair-thread}
use Rattle.lane_runner.proofs.run_lanes.open_threads.Goals as goal

pub open_thread-requires-clause-fresh : goal.open_thread-requires-clause-fresh
open_thread-requires-clause-fresh c =
    let fresh = pair-fresh c.args.heap.now c.loop-pass.passes.items c.pop.new.self.items c.in-Some.pass c.in-Some.ensures.items
    c.loop-pass.invariant.passes in
    let many : length c.pop.new.self.items ≡ vec_len c.pop.new.self = search rules in
    let len : c.len-in-Some.result ≡ vec_len c.pop.new.self = c.len-in-Some.ensures in
    (fresh.0, fresh.1 ∙ (many ∙ sym len))

pub loop-pass-preserved : goal.loop-pass-preserved
loop-pass-preserved c =
    let trace = c.args.trace.now in
    let h = c.args.heap.now in
    let depth = c.args.depth in
    let i = c.loop-pass.invariant in
    let passes = c.loop-pass.passes.items in
    let others = c.pop.new.self.items in
    let p = c.in-Some.pass in
    let threads = c.loop-pass.threads.items in
    let t = c.in-Ok.thread in
    let padded = c.new.result in
    let last : passes ≡ others ++ p ∷ [] = c.in-Some.ensures.items in
    let new = c.in-Ok.ensures.opened in
    let now = c.push_reserved.ensures.items in
    let many : length c.pop.new.self.items ≡ vec_len c.pop.new.self = search rules in
    let len : c.len-in-Some.result ≡ vec_len c.pop.new.self = c.len-in-Some.ensures in
    record {
      passes = pair-others h passes others p last i.passes;
      all = omega (arith, i.all, push-long passes others p last, ap length now, length-append threads (padded ∷ []));
      threads =
          subst (λ (l : List (CachePadded CacheThread)). AreReady trace h depth (length others) l) (sym now)
          (pair-thread trace h depth passes others p threads t padded last c.new.ensures (new.0 ∙ (len ∙ sym many), new.1) i.threads);
      whole =
          ap (λ (l : List (CachePadded CacheThread)). others ++ passes_behind l) now
          ∙ ap (λ (l : List Pass). others ++ l) (behind-push threads padded)
          ∙ ap (λ (u : CacheThread). others ++ u.cache.pass ∷ passes_behind threads) c.new.ensures
          ∙ ap (λ (q : Pass). others ++ q ∷ passes_behind threads) c.in-Ok.ensures.pass
          ∙ sym (append_assoc others (p ∷ []) (passes_behind threads)) ∙ ap (λ (l : List Pass). l ++ passes_behind threads) (sym last) ∙ i.whole;
      back =
          omega (arith, i.back, push-long passes others p last, ap length now, length-append threads (padded ∷ []), c.pop.ensures.capacity);
      room = omega (arith, i.room, c.push_reserved.ensures.capacity);
    }
