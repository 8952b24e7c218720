use Rattle.std.proofs.Common.{[]}
use Rattle.plain_words.specs.Places.{numbers}
use Rattle.live_heap.specs.Lending.{lent_block}
use Rattle.live_heap.specs.Memory.{all_but}
use Rattle.live_heap.specs.Passes.{view}
use Rattle.live_heap.proofs.heap.Heap.put_back.Given as goal

abbrev pub ghosts-bring : goal.ghosts-bring
ghosts-bring g a = record {
  owner = a.pass.now.errand;
  block = lent_block a.memory.block.place a.memory.block.need (numbers a.memory.words.places);
  made = [];
  shown = all_but a.memory.block.place (view a.pass.now).lent;
}
