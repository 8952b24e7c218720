use Rattle.std.proofs.Common.{inl, inr, refl}
use Rattle.block_cache.specs.Caches.{stacks_in}
use Rattle.block_cache.specs.Magazines.{leaving}
use Rattle.worked_programs.specs.declared.embedded.TheConstants.{TRIES}
use Rattle.worked_programs.specs.declared.embedded.Stop.{Stop}
use Rattle.worked_programs.specs.Reuse.{HasStoppedWork}
use Rattle.worked_programs.proofs.EmbeddedCalls.{err-as}
use Rattle.worked_programs.proofs.ReuseCalls.{frees-idle}
use Rattle.worked_programs.proofs.reuse.work.Goals as goal

pub returns-in-Freed-clause-worked : goal.returns-in-Freed-clause-worked
returns-in-Freed-clause-worked c =
    let mid = c.rounds.new.cache in
    let d = c.flush.new.self in
    let flushed = c.in-Freed.ensures.tells in
    record {
      mid = mid;
      rounds = c.in_ok-sum.ensures.made;
      sum_is = c.in_ok-sum.ensures.sum;
      flushed = flushed;
      hits = c.flush.ensures.hits;
      rests =
          (c.flush.ensures.cache, frees-idle c.args.heap.now mid.pass d.pass (leaving (stacks_in mid)) TRIES c.in_ok-sum.ensures.rests.1 flushed.1);
      empty = c.flush.ensures.empty c.in-Freed.is;
    }

pub returns-in_err-sum-clause-stopped : goal.returns-in_err-sum-clause-stopped
returns-in_err-sum-clause-stopped c =
    let after = c.rounds.new.cache in
    err-as c.from_residual.result c.in_err-sum.field-0.0 (λ (s : Stop). HasStoppedWork c.args.heap.now c.args.cache.now s after) c.from_residual.ensures.1
    (inl c.in_err-sum.ensures.stopped)

pub returns-in-Busy-clause-stopped : goal.returns-in-Busy-clause-stopped
returns-in-Busy-clause-stopped c = inr (c.rounds.new.cache, c.in_ok-sum.ensures.made, c.in-Busy.ensures.tells, refl)
