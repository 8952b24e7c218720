use Rattle.std.proofs.Common.{◌∙◌, ap, map, rules, string_bytes, sym}
use Rattle.clap.specs.Walk.{texts}
use Rattle.clap.proofs.WalkLemmas.{list_any-map}
use Rattle.command_line.specs.Command.{begins_with_hyphen}
use Rattle.command_line.proofs.ParserLemmas.{found_none, found_some, no_answer, only_answer, no_command, no_options, refused, some_answer, some_words, values, values_found}
use Rattle.command_line.proofs.parsing.read_words.Goals as goal

pub returns-then-has_option-clause-usage : goal.returns-then-has_option-clause-usage
returns-then-has_option-clause-usage c usage =
    no_command (map string_bytes c.args.words.now)
    (sym (list_any-map begins_with_hyphen string_bytes c.args.words.now) ∙ sym c.has_option.ensures ∙ c.if-has_option.true)

pub returns-in_err-matches-clause-usage : goal.returns-in_err-matches-clause-usage
returns-in_err-matches-clause-usage c usage =
    refused (map string_bytes c.args.words.now)
    (no_options string_bytes c.args.words.now (sym c.has_option.ensures ∙ c.if-has_option.false))
    (c.in_err-matches.ensures.usage (search rules))

pub returns-in_default-clause-usage : goal.returns-in_default-clause-usage
returns-in_default-clause-usage c usage =
    let words = map string_bytes c.args.words.now in
    let found = values_found c.in_ok-matches.matches words c.get_strs.result c.in_ok-matches.ensures.matches c.get_strs.ensures in
    let plain = no_options string_bytes c.args.words.now (sym c.has_option.ensures ∙ c.if-has_option.false) in
    some_words words (found_none words plain (sym found ∙ ap values c.in_default.is))

pub returns-clause-ok : goal.returns-clause-ok
returns-clause-ok c =
    let words = map string_bytes c.args.words.now in
    let found = values_found c.in_ok-matches.matches words c.get_strs.result c.in_ok-matches.ensures.matches c.get_strs.ensures in
    let plain = no_options string_bytes c.args.words.now (sym c.has_option.ensures ∙ c.if-has_option.false) in
    some_answer c.command_of.result c.ok_or.result words (texts c.in-Some.values.now) c.ok_or.ensures.value
    (found_some words (texts c.in-Some.values.now) plain (sym found ∙ ap values c.in-Some.is))
    c.command_of.ensures.some

pub returns-clause-only : goal.returns-clause-only
returns-clause-only c =
    let words = map string_bytes c.args.words.now in
    let found = values_found c.in_ok-matches.matches words c.get_strs.result c.in_ok-matches.ensures.matches c.get_strs.ensures in
    let plain = no_options string_bytes c.args.words.now (sym c.has_option.ensures ∙ c.if-has_option.false) in
    only_answer c.command_of.result c.ok_or.result words (texts c.in-Some.values.now) c.ok_or.ensures.value
    (found_some words (texts c.in-Some.values.now) plain (sym found ∙ ap values c.in-Some.is))
    c.command_of.ensures.only

pub returns-clause-usage : goal.returns-clause-usage
returns-clause-usage c usage =
    let words = map string_bytes c.args.words.now in
    let found = values_found c.in_ok-matches.matches words c.get_strs.result c.in_ok-matches.ensures.matches c.get_strs.ensures in
    let plain = no_options string_bytes c.args.words.now (sym c.has_option.ensures ∙ c.if-has_option.false) in
    no_answer c.command_of.result c.ok_or.result words (texts c.in-Some.values.now) c.ok_or.ensures.value
    (found_some words (texts c.in-Some.values.now) plain (sym found ∙ ap values c.in-Some.is))
    c.command_of.ensures.only usage
