use Rattle.std.proofs.Common.{rules}
use Rattle.trace_lane.proofs.PartLemmas.{set-block}
use Rattle.trace_lane.proofs.lane.registers.put_in.Goals as goal

pub returns-clause-held : goal.returns-clause-held
returns-clause-held g c = set-block g.B.Token.place_of g.B.Token.need_of c.args.registers.now.items _ c.args.r c.args.block (search rules)
