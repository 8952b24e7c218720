use Rattle.std.proofs.Common.{◌<◌, vec_len, vec_capacity}
use Rattle.errand_steps.specs.Begins.{IsBusy}
use Rattle.live_heap.specs.Hands.{IsHand}
use Rattle.heap_scripts.proofs.stepped.go_on.Given as goal

abbrev pub invariant-loop : goal.invariant-loop
invariant-loop l = record {
  hand : IsHand l.heap l.pass l.blocks.items;
  busy : IsBusy l.pass.errand;
  room : vec_len l.blocks < vec_capacity l.blocks;
}
