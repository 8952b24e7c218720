use Rattle.live_heap.proofs.Enough.{given-enough}
use Rattle.live_heap.proofs.laws.blocks.given_blocks_have_enough_words.Goals as goal

pub returns : goal.returns
returns c = given-enough
