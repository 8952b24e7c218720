-- A call on a word brings no block.
use Rattle.std.proofs.Common.{ℕ, ◌≡◌, List, [], Some, refl}
use Rattle.heap_geometry.specs.declared.need.Need.{Need}
use Rattle.pool_model.specs.Calls.{Ended}
use Rattle.errand_steps.specs.declared.told.Ending.{Ending}
use Rattle.errand_steps.specs.declared.told.Ending.TheVariants as ending
use Rattle.errand_steps.specs.Calls.{write, read}
use Rattle.sound_laws.specs.events.Ends.{end_of}
use Rattle.live_heap.specs.declared.block.Block.{Block}
use Rattle.live_heap.specs.Answers.{reply_of}
use Rattle.live_heap.specs.Hands.{brought_by}

pub write-brings_none :
    (place : ℕ) (need : Need) (i v : ℕ) (told : Ending Block) (end : Ended) → end_of (write place need i v) (reply_of told) ≡ Some end → brought_by told ≡ []
write-brings_none place need i v (ending.Given block) end is = absurd cc
write-brings_none place need i v (ending.Full block found) end is = absurd cc
write-brings_none place need i v (ending.Got block) end is = absurd cc
write-brings_none place need i v told end is = refl

pub read-brings_none :
    (place : ℕ) (need : Need) (i : ℕ) (told : Ending Block) (end : Ended) → end_of (read place need i) (reply_of told) ≡ Some end → brought_by told ≡ []
read-brings_none place need i (ending.Given block) end is = absurd cc
read-brings_none place need i (ending.Full block found) end is = absurd cc
read-brings_none place need i (ending.Got block) end is = absurd cc
read-brings_none place need i told end is = refl
