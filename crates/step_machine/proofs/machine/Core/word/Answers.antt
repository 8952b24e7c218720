use Rattle.step_machine.proofs.CoreLemmas.{word-read}
use Rattle.step_machine.proofs.machine.Core.word.Goals as goal

pub returns : goal.returns
returns c =
    word-read _ c.args.self.now c.args.name c.index.result c.index-2.result.now c.self.invariant c.self.view_is c.requires
    c.index.ensures.place c.index-2.ensures
