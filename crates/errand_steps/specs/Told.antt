-- What a step and a call came to, where a block stands for its place and its need.
use Rattle.std.specs.Prelude.{ℕ, ◌≡◌, Option, Some, IsSomeAnd}
use Rattle.heap_geometry.specs.declared.need.Need.{Need}
use Rattle.heap_geometry.specs.Need.{IsNeed}
use Rattle.errand_steps.specs.declared.reply.Offer.{Offer}
use Rattle.errand_steps.specs.declared.reply.Progress.{Progress}
use Rattle.errand_steps.specs.declared.reply.Progress.TheVariants as progress
use Rattle.errand_steps.specs.declared.reply.Reply.{Reply}
use Rattle.errand_steps.specs.declared.reply.Reply.TheVariants as reply
use Rattle.errand_steps.specs.declared.told.Ending.{Ending}
use Rattle.errand_steps.specs.declared.told.Ending.TheVariants as ending
use Rattle.errand_steps.specs.declared.told.Stepped.{Stepped}
use Rattle.errand_steps.specs.declared.told.Stepped.TheVariants as stepped

module _ {B : Type 0} (place_of : B → ℕ) (need_of : B → Need) where
  -- the reply of an ending
  abbrev pub ended_as : Ending B → Reply
  ended_as (ending.Given block) = reply.Given (place_of block) (need_of block)
  ended_as ending.Refused = reply.Refused
  ended_as ending.Spent = reply.Spent
  ended_as ending.Freed = reply.Freed
  ended_as ending.Wrote = reply.Wrote
  ended_as (ending.Word word) = reply.Word word
  ended_as ending.Put = reply.Put
  ended_as (ending.Full block found) = reply.Full found
  ended_as (ending.Got block) = reply.Got (place_of block) (need_of block)
  ended_as ending.Empty = reply.Empty
  ended_as (ending.Missed expected found) = reply.Missed expected found

  -- what a step came to
  abbrev pub stepped_as : Stepped B → Progress
  stepped_as stepped.Idle = progress.Idle
  stepped_as stepped.More = progress.More
  stepped_as stepped.Lost = progress.Lost
  stepped_as stepped.Cleared = progress.Cleared
  stepped_as (stepped.Done end) = progress.Done (ended_as end)

  -- where the shelf is full, the block that comes back is the one that was offered
  abbrev pub GivesBack : Option Offer → Stepped B → Type 0
  GivesBack offer (stepped.Done (ending.Full block found)) = offer ≡ Some (record { place = place_of block; need = need_of block })
  GivesBack offer told = Unit {0}

-- it can be told: a block that it names serves some need, and a put that finds a full shelf has offered such a block
abbrev pub IsTellable : Option Offer → Progress → Type 0
IsTellable offer (progress.Done (reply.Given place need)) = IsNeed need
IsTellable offer (progress.Done (reply.Full found)) = IsSomeAnd offer (λ own. IsNeed own.need)
IsTellable offer (progress.Done (reply.Got place need)) = IsNeed need
IsTellable offer answer = Unit {0}
