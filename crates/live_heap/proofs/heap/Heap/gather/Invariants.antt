use Rattle.std.proofs.Common.{◌≡◌, ◌+◌, ◌-◌, ◌^◌, List, [], ◌++◌, length, All, vec_len}
use Rattle.std.specs.Prelude.{None, min, sum_by}
use Rattle.errand_steps.specs.Begins.{IsIdle}
use Rattle.live_heap.specs.declared.pass.Pass.{Pass}
use Rattle.live_heap.specs.Endings.{IsIn}
use Rattle.live_heap.specs.Passes.{IsOf}
use Rattle.live_heap.proofs.heap.Heap.gather.Given as goal

abbrev pub invariant-loop-pass : goal.invariant-loop-pass
invariant-loop-pass g l = record {
  among : (taken : List Pass) × (l.fn.passes.items ≡ l.passes.items ++ taken) × All (IsIn l.seat.me.0) taken;
  table : l.seat.region ≡ l.self.region;
  empty : l.seat.me.1 ≡ [];
  settled : l.seat.me.0.lays ≡ None;
  home : l.seat.me.0.lent ≡ [];
  count : length l.seat.me.0.callers + length l.passes.items ≡ l.self.layout.callers;
  others : All (λ p. IsOf l.self p × IsIdle p.errand × (p.out ≡ 0)) l.passes.items;
  idle : All (λ x. IsIdle x.errand) l.seat.me.0.callers;
  won_is : l.won ≡ min (sum_by (λ x. x.errand.won) l.seat.me.0.callers) (2 ^ 64 - 1);
  lost_is : l.lost ≡ min (sum_by (λ x. x.errand.lost) l.seat.me.0.callers) (2 ^ 64 - 1);
}

abbrev pub decreases-loop-pass : goal.decreases-loop-pass
decreases-loop-pass g l = vec_len l.passes
