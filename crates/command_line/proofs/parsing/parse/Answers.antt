use Rattle.std.proofs.Common.{◌∙◌, map, string_bytes, rules, ap}
use Rattle.clap.specs.Words.{takes}
use Rattle.command_line.proofs.parsing.parse.Goals as goal

pub returns-in-Err-clause-usage : goal.returns-in-Err-clause-usage
returns-in-Err-clause-usage c usage taken =
    c.no_command.ensures (search rules)
    (c.in-Err.ensures.passes (ap (λ app. takes app (map string_bytes c.args.words.now)) c.in_ok-parser.ensures.app ∙ taken))
