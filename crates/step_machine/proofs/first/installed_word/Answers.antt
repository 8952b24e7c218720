use Rattle.std.proofs.Common.{arith}
use Rattle.step_machine.proofs.FirstLemmas.{descriptors-some}
use Rattle.step_machine.proofs.first.installed_word.Goals as goal

pub next_index-requires-in-DescHead : goal.next_index-requires-in-DescHead
next_index-requires-in-DescHead c =
    omega (arith, c.descriptors.ensures.value, descriptors-some c.args.layout.now (rw c.geometry-frames.ensures.value at c.geometry-frames.ensures.checked))
