use Rattle.std.proofs.Common.{◌≡◌, ◌-◌, length}
use Rattle.pool_model.specs.Pool.{block_at, pool_of}
use Rattle.step_machine.specs.Seen.{seen}
use Rattle.step_machine.proofs.SeenLemmas.{seen_before}
use Rattle.step_machine.proofs.seen.seen_at.Given as goal

abbrev pub invariant-loop-back : goal.invariant-loop-back
invariant-loop-back l = seen_before l.events (length l.events - l.back) l.place l.last ≡ seen (block_at l.place (pool_of l.events))
