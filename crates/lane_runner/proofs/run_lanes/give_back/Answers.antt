use Rattle.std.proofs.Common.{◌≡◌, ◌++◌, ◌∷◌, [], List, length, length-append, ap, ◌∙◌, arith}
use Rattle.live_heap.specs.declared.pass.Pass.{Pass}
use Rattle.lane_runner.specs.Threads.{passes_behind}
use Rattle.lane_runner.specs.declared.run_lanes.CacheThread.{CacheThread}
use Rattle.lane_runner.proofs.Numbered.{push-long}
use Rattle.lane_runner.proofs.PairLemmas.{behind-pop}
use Rattle.lane_runner.proofs.run_lanes.give_back.Goals as goal

pub loop-thread-preserved : goal.loop-thread-preserved
loop-thread-preserved c =
    let i = c.loop-thread.invariant in
    let passes = c.loop-thread.passes.items in
    let threads = c.loop-thread.threads.items in
    let rest = c.pop.new.self.items in
    let t = c.in-Some.thread in
    let last : threads ≡ rest ++ t ∷ [] = c.in-Some.ensures.items in
    let p : Pass = c.leave.result in
    let same = c.leave.ensures ∙ ap (λ (u : CacheThread). u.cache.pass) c.into_inner-cache.ensures in
    let now = c.push_reserved.ensures.items in
    record {
      all =
          ap (λ (l : List Pass). l ++ passes_behind rest) now
          ∙ behind-pop passes threads rest t p last same ∙ i.all;
      room = omega (arith, i.room, push-long threads rest t last, ap length now, length-append passes (p ∷ []), c.push_reserved.ensures.capacity);
    }
