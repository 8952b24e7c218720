use Rattle.std.proofs.Common.{[]}
use Rattle.live_heap.specs.Lending.{lent_block}
use Rattle.live_heap.proofs.heap.Heap.lift_words.Given as goal

abbrev pub ghosts-lend : goal.ghosts-lend
ghosts-lend g a = record { owner = a.errand.now; block = lent_block a.place a.need []; made = []; shown = [] }
