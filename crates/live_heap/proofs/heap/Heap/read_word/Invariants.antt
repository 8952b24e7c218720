use Rattle.std.proofs.Common.{[], ◌∷◌, slice_index}
use Rattle.plain_words.specs.Places.{numbers}
use Rattle.errand_steps.specs.declared.reply.Reply.TheVariants as reply
use Rattle.errand_steps.specs.Calls.{read}
use Rattle.sound_laws.specs.events.Made.{answered}
use Rattle.live_heap.specs.Lending.{lent_block}
use Rattle.live_heap.specs.Memory.{all_but}
use Rattle.live_heap.specs.Passes.{view}
use Rattle.live_heap.proofs.heap.Heap.read_word.Given as goal

abbrev pub ghosts-lay_words : goal.ghosts-lay_words
ghosts-lay_words g a = record {
  owner = a.pass.now.errand;
  block = lent_block a.place a.need (numbers a.words.places);
  made = answered (read a.place a.need a._first) (reply.Word (slice_index (numbers a.words.places) a._first)) ∷ [];
  shown = all_but a.place (view a.pass.now).lent;
}
