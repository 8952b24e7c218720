use Rattle.std.proofs.Common.{◌≡◌, length, sym, ap, ◌∙◌, arith}
use Rattle.std.proofs.lemmas.List.{set_past}
use Rattle.trace_text.specs.declared.limits.TheConstants.{REGISTERS}
use Rattle.lane_outcomes.proofs.registers.Registers.set.Goals as goal

pub returns-else-r-lt-REGISTERS : goal.returns-else-r-lt-REGISTERS
returns-else-r-lt-REGISTERS c =
    let size : length c.args.self.now ≡ REGISTERS = ap length (sym c.self.view_is) ∙ c.self.invariant in
    sym (set_past c.args.self.now c.args.r c.args.held (omega arith))
