use Rattle.std.proofs.Common.{take, drop}
use Rattle.plain_words.specs.Places.{numbers}
use Rattle.sound_laws.specs.events.Made.{found_from}
use Rattle.live_heap.specs.Lending.{lent_block}
use Rattle.live_heap.specs.Memory.{all_but}
use Rattle.live_heap.specs.Passes.{view}
use Rattle.live_heap.proofs.heap.Heap.read_slice.Given as goal

abbrev pub ghosts-lay_words : goal.ghosts-lay_words
ghosts-lay_words g a = record {
  owner = a.pass.now.errand;
  block = lent_block a.place a.need (numbers a.words.places);
  made = found_from a.place a.need a._first (take a._count (drop a._first (numbers a.words.places)));
  shown = all_but a.place (view a.pass.now).lent;
}
