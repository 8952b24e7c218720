use Rattle.std.proofs.Common.{rules, arith}
use Rattle.std.proofs.lemmas.Grind.{common_steps}
use Rattle.trace_lane.proofs.PartLemmas.{taken-out}
use Rattle.trace_lane.proofs.lane.registers.take_out.Goals as goal

pub returns-clause-taken : goal.returns-clause-taken
returns-clause-taken g c =
    taken-out g.B.Token.place_of g.B.Token.need_of c.args.registers.now.items _ c.args.r c.take.result (grind (arith, common_steps)) (search rules)
