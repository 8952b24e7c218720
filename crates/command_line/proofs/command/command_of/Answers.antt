use Rattle.command_line.proofs.CommandLemmas.{only_found}
use Rattle.command_line.proofs.WordLemmas.{four-elements, one-element, two-elements}
use Rattle.command_line.proofs.command.command_of.Goals as goal

pub returns-in-len1-clause-only : goal.returns-in-len1-clause-only
returns-in-len1-clause-only c =
    only_found _ _ c.short_command.result (one-element (λ w. w.now) c.args.words.now _ c.in-len1.len_at_least c.in-len1.len_below)
    c.short_command.ensures.some c.short_command.ensures.none

pub returns-in-len2-clause-only : goal.returns-in-len2-clause-only
returns-in-len2-clause-only c =
    only_found _ _ c.number_command.result (two-elements (λ w. w.now) c.args.words.now _ c.in-len2.len_at_least c.in-len2.len_below)
    c.number_command.ensures.some c.number_command.ensures.none

pub returns-in-len4-clause-only : goal.returns-in-len4-clause-only
returns-in-len4-clause-only c =
    only_found _ _ c.long_command.result (four-elements (λ w. w.now) c.args.words.now _ c.in-len4.len_at_least c.in-len4.len_below)
    c.long_command.ensures.some c.long_command.ensures.none
