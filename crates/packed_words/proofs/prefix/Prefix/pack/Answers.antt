use Rattle.std.proofs.Common.{arith}
use Rattle.std.proofs.lemmas.Grind.{common_steps}
use Rattle.std.proofs.lemmas.Nat.{widths}
use Rattle.packed_words.specs.Prefix.{prefix_word}
use Rattle.packed_words.proofs.ExactLemmas.{back}
use Rattle.packed_words.proofs.PrefixLemmas.{prefix-exact}
use Rattle.packed_words.proofs.prefix.Prefix.pack.Goals as goal

pub returns-in-Small-clause-word : goal.returns-in-Small-clause-word
unfolding prefix_word
returns-in-Small-clause-word c = grind (arith, common_steps, widths)

pub returns-in-Small-clause-back : goal.returns-in-Small-clause-back
returns-in-Small-clause-back c = back prefix-exact _ c.args.self c.requires (returns-in-Small-clause-word c)

pub returns-in-Large-clause-word : goal.returns-in-Large-clause-word
unfolding prefix_word
returns-in-Large-clause-word c = grind (arith, common_steps, widths)

pub returns-in-Large-clause-back : goal.returns-in-Large-clause-back
returns-in-Large-clause-back c = back prefix-exact _ c.args.self c.requires (returns-in-Large-clause-word c)
