use Rattle.std.proofs.Common.{◌≡◌, take, length}
use Rattle.std.specs.Vec.{vec_capacity, vec_len}
use Rattle.store_runner.specs.Scripts.{values_of}
use Rattle.store_runner.proofs.script.values.Given as goal

abbrev pub invariant-loop-i : goal.invariant-loop-i
invariant-loop-i l = record {
  room : (vec_len l.values ≡ l.i) × (vec_capacity l.values ≡ length l.pairs);
  values : l.values.items ≡ values_of (take l.i l.pairs);
}
