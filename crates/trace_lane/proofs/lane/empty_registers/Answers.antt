use Rattle.std.proofs.Common.{ℕ, ◌≡◌, None, replicate, ap, ◌∙◌, arith}
use Rattle.trace_lane.proofs.Common.{REGISTERS}
use Rattle.trace_lane.proofs.lane.empty_registers.Goals as goal

pub returns : goal.returns
returns g c = let all : c.loop.counter ≡ REGISTERS = omega arith in c.loop.invariant ∙ ap (λ (n : ℕ). replicate n None) all
