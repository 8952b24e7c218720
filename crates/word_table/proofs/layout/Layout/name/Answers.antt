use Rattle.std.proofs.Common.{arith, refl, ◌∙◌, sym}
use Rattle.word_table.specs.Table.{word_name}
use Rattle.word_table.proofs.CountLemmas.{words_in-groups}
use Rattle.word_table.proofs.TableLemmas.{words_in-drop, name_in-here, name_in-behind, none-left, word_index-word_name}
use Rattle.word_table.proofs.layout.Layout.name.Goals as goal

pub loop-group-init : goal.loop-group-init
unfolding word_name
loop-group-init c = record { within = rw words_in-groups c.requires; same = refl }

pub returns-then-offset-words-clause-name : goal.returns-then-offset-words-clause-name
returns-then-offset-words-clause-name c =
    let words_is = rw (c.self.view_is) at c.group_words-words.ensures in
    c.name_at.ensures
    ∙ (sym (name_in-here c.args.self.now c.loop-group.group-index c.group_words-words.result c.loop-group.offset _ c.loop-group-test.true words_is c.if-offset-words.true) ∙ c.loop-group.invariant.same)

pub returns-then-offset-words-clause-back : goal.returns-then-offset-words-clause-back
returns-then-offset-words-clause-back c =
    rw (returns-then-offset-words-clause-name c) (word_index-word_name c.args.self.now c.args.index c.requires)

pub loop-group-preserved : goal.loop-group-preserved
loop-group-preserved c =
    let words_is = rw (c.self.view_is) at c.group_words-words.ensures in
    record {
      within = omega (arith, c.loop-group.invariant.within, words_in-drop c.args.self.now c.loop-group.group-index c.group_words-words.result _ c.loop-group-test.true words_is);
      same = sym (name_in-behind c.args.self.now c.loop-group.group-index c.group_words-words.result c.loop-group.offset _ c.loop-group-test.true words_is c.if-offset-words.false) ∙ c.loop-group.invariant.same;
    }

pub unreachable-requires : goal.unreachable-requires
unreachable-requires c = none-left c.args.self.now c.loop-group.group-index c.loop-group.offset c.loop-group-test.false c.loop-group.invariant.within
