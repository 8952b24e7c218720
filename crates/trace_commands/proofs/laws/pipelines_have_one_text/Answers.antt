use Rattle.trace_commands.proofs.PipeLemmas.{piped-text}
use Rattle.trace_commands.proofs.laws.pipelines_have_one_text.Goals as goal

pub returns : goal.returns
returns g c = piped-text (g.G.Gate.passed c.args._gate.now)
