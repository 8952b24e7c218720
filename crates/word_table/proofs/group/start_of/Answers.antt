use Rattle.std.proofs.Common.{arith, refl}
use Rattle.word_table.specs.Table.{words_in}
use Rattle.word_table.proofs.CountLemmas.{word_count_within}
use Rattle.word_table.proofs.TableLemmas.{start_more, start_of-is, start_more-within}
use Rattle.word_table.proofs.group.start_of.Goals as goal

pub loop-before-init : goal.loop-before-init
unfolding words_in
loop-before-init c = refl

pub overflow_add-start : goal.overflow_add-start
overflow_add-start c =
    omega (arith, c.loop-before.invariant, word_count_within c.args.geometry c.requires, start_more-within c.args.geometry c.group_number.result c.loop-before.before-index c.group_words-start.result _ c.loop-before-test.true c.group_words-start.ensures)

pub loop-before-preserved : goal.loop-before-preserved
loop-before-preserved c =
    omega (arith, c.loop-before.invariant, start_more c.args.geometry c.group_number.result c.loop-before.before-index c.group_words-start.result _ c.loop-before-test.true c.group_words-start.ensures)

pub returns : goal.returns
returns c =
    start_of-is c.args.geometry c.args.group c.group_number.result c.loop-before.before-index c.loop-before.start
    c.group_number.ensures.value c.loop-before.auto.before-index-end c.loop-before-test.false c.loop-before.invariant
