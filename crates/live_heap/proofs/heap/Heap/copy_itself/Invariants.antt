use Rattle.heap_geometry.specs.Need.{usable_words}
use Rattle.plain_words.specs.Places.{numbers}
use Rattle.sound_laws.specs.events.Made.{copied}
use Rattle.live_heap.specs.Lending.{lent_block}
use Rattle.live_heap.specs.Memory.{all_but}
use Rattle.live_heap.specs.Passes.{view}
use Rattle.live_heap.proofs.heap.Heap.copy_itself.Given as goal

abbrev pub ghosts-lay_words : goal.ghosts-lay_words
ghosts-lay_words g a = record {
  owner = a.pass.now.errand;
  block = lent_block a.place a.need (numbers a.words.places);
  made = copied a.place a.need a.place a.need (numbers a.words.places) (usable_words a.need);
  shown = all_but a.place (view a.pass.now).lent;
}
