use Rattle.std.proofs.Common.{ap, ◌≡◌, ◌∙◌, subst, sym}
use Rattle.word_table.specs.Actions.{after_action, found_by}
use Rattle.word_table.specs.Table.{Exists}
use Rattle.word_table.specs.Words.{word_in}
use Rattle.step_machine.specs.Cores.{CoreFields}
use Rattle.step_machine.proofs.AdvanceLemmas.{next-made}
use Rattle.step_machine.proofs.CoreLemmas.{errand-heap, word-read}
use Rattle.step_machine.proofs.machine.Core.next_step.Goals as goal

pub index-index-requires : goal.index-index-requires
index-index-requires c =
    errand-heap _ c.args.self.now c.args.caller c.index-errand.result.now c.name_of.result c.self.invariant c.self.view_is
    c.requires.caller c.index-errand.ensures
    (subst (Exists c.index-errand.result.now.geometry) (sym c.name_of.ensures) c.plan-action.ensures.exists)

pub returns : goal.returns
returns c =
    let read : c.index.result.now ≡ word_in c.args.self.now.geometry c.args.self.now.words c.name_of.result =
    word-read _ c.args.self.now c.name_of.result c.index-index.result c.index.result.now c.self.invariant c.self.view_is
    (subst (λ (v : CoreFields). Exists v.geometry c.name_of.result) c.self.view_is
    (errand-heap _ c.args.self.now c.args.caller c.index-errand.result.now c.name_of.result c.self.invariant c.self.view_is
    c.requires.caller c.index-errand.ensures
    (subst (Exists c.index-errand.result.now.geometry) (sym c.name_of.ensures) c.plan-action.ensures.exists)))
    c.index-index.ensures.place c.index.ensures in
    next-made _ c.args.self.now c.args.caller c.index-errand.result.now c.plan-action.result c.name_of.result c.index-index.result
    c.apply-word.result.0 c.apply-word.result.1 c.event.result c.self.invariant c.self.view_is c.requires.caller
    c.index-errand.ensures c.plan-action.ensures.value c.plan-action.ensures.exists c.name_of.ensures c.index-index.ensures.place
    (c.apply-word.ensures.word ∙ ap (after_action c.plan-action.result) read)
    (c.apply-word.ensures.found ∙ ap (found_by c.plan-action.result) read) c.event.ensures.value
