-- What the registers of a lane hold.
use Rattle.std.specs.Prelude.{ℕ, ◌≡◌, ◌≢◌, List, Option, Some}
use Rattle.heap_geometry.specs.Need.{usable_words}
use Rattle.pool_model.specs.declared.event.Event.{Event}
use Rattle.pool_model.specs.declared.owner.Owner.TheVariants.{Caller}
use Rattle.pool_model.specs.Pool.{Block, Pool, block_at}
use Rattle.lane_outcomes.specs.declared.registers.HeldBlock.{HeldBlock}
use Rattle.lane_outcomes.specs.Lane.{held_in}
use Rattle.lane_outcomes.specs.Rows.{Setting}

-- the block that a register holds is live, with its need and its usable words, and the caller owns it
pub record OwnsHeld (pool : Pool) (caller : ℕ) (held : HeldBlock) : Type 0 where
  pub block : Block
  pub live : block_at held.place pool ≡ Some block
  pub owned : block.owner ≡ Caller caller
  pub need_is : held.need ≡ block.need
  pub words_are : held.words ≡ usable_words block.need

-- each full register holds a block of the caller's, and no two hold the same one
pub record HoldsOwn (pool : Pool) (caller : ℕ) (registers : List (Option HeldBlock)) : Type 0 where
  pub owned : (r : ℕ) (held : HeldBlock) → held_in registers r ≡ Some held → OwnsHeld pool caller held
  pub once :
      (r q : ℕ) (held other : HeldBlock) → held_in registers r ≡ Some held → held_in registers q ≡ Some other → r ≢ q
      → held.place ≢ other.place

-- what a lane's outcomes are held against, by the history in which it ran
abbrev pub setting_in : List Event → ℕ → ℕ → ℕ → Setting
setting_in history caller turn_limit lost = record { caller = caller; turn_limit = turn_limit; history = history; lost = lost }
