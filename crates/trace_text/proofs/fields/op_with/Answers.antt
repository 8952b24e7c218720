use Rattle.std.proofs.Common.{rules, sym}
use Rattle.trace_text.specs.Operations.{maker_of}
use Rattle.trace_text.proofs.NamedLemmas.{no_kinds, some_kinds}
use Rattle.trace_text.proofs.fields.op_with.Goals as goal

pub returns-in_default : goal.returns-in_default
returns-in_default c = sym (no_kinds c.args.version (maker_of c.args.letter) _ (sym c.in_default.ensures))

pub returns-in_err-numbers : goal.returns-in_err-numbers
returns-in_err-numbers c = rw (some_kinds c.args.version (maker_of c.args.letter) _ _ (sym c.in-Some.ensures)) (search rules)

pub returns : goal.returns
returns c = rw (some_kinds c.args.version (maker_of c.args.letter) _ _ (sym c.in-Some.ensures)) (search rules)
