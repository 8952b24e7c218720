use Rattle.std.proofs.Common.{ℕ, ◌≡◌, ap, ◌∙◌, subst, arith}
use Rattle.word_table.specs.Counts.{word_count}
use Rattle.word_table.specs.declared.name.WordName.{WordName}
use Rattle.step_machine.specs.Firsts.{IsTable}
use Rattle.step_machine.specs.Openings.{first_words}
use Rattle.step_machine.proofs.FirstLemmas.{table-push}
use Rattle.step_machine.proofs.first.first_table.Goals as goal

pub loop-index-preserved : goal.loop-index-preserved
loop-index-preserved c =
    let first : WordName → ℕ = first_words c.args.layout.now c.args.installed in
    rw c.in_ok-push.ensures.items
    (table-push c.args.layout.now first c.loop-index.index c.loop-index.words.items c.first_word.result c.loop-index.invariant
    (c.first_word.ensures ∙ ap first c.name.ensures.name))

pub returns : goal.returns
returns c =
    let all : c.loop-index.index ≡ word_count c.args.layout.now =
    omega (arith, c.loop-index-test.false, c.loop-index.auto.index-end, c.words-index-end.ensures.value) in
    let P : ℕ → Type 0 = λ n. IsTable c.args.layout.now (first_words c.args.layout.now c.args.installed) n c.loop-index.words.items in
    subst P all c.loop-index.invariant
