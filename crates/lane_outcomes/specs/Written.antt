-- That each word of a block which a lane holds was written.
use Rattle.std.specs.Prelude.{ℕ, ◌≡◌, ◌%◌, ◌^◌, ◌∷◌, ◌++◌, List, [], Option, Some, map, sum}
use Rattle.std.specs.List.{slice_index_or}
use Rattle.pool_model.specs.declared.event.Event.{Event}
use Rattle.pool_model.specs.declared.event.Event.TheVariants.{Free}
use Rattle.pool_model.specs.declared.owner.Owner.TheVariants.{Shelf}
use Rattle.pool_model.specs.Calls.{EventsOf, alloc_given}
use Rattle.pool_model.specs.Histories.{own, Begins}
use Rattle.pool_model.specs.Pool.{Block, Pool, EachBlock, block_at, pool_of}
use Rattle.lane_outcomes.specs.declared.registers.HeldBlock.{HeldBlock}
use Rattle.lane_outcomes.specs.Lane.{Position, held_in, writing}
use Rattle.lane_outcomes.specs.Rows.{Setting, Moment}

-- each word of a block's contents was written
abbrev pub AreWritten : List (Option ℕ) → Type 0
AreWritten contents = (words : List ℕ) × (contents ≡ map (λ word. Some word) words)

-- each word was written of each block that the registers hold
abbrev pub HoldsWritten : Pool → List (Option HeldBlock) → Type 0
HoldsWritten pool registers =
    (r : ℕ) (held : HeldBlock) (block : Block) → held_in registers r ≡ Some held → block_at held.place pool ≡ Some block → AreWritten block.contents

-- each word was written of each block that lies on a shelf
abbrev pub ShelvesWritten : Pool → Type 0
ShelvesWritten pool = EachBlock (λ block. (shelf : ℕ) → block.owner ≡ Shelf shelf → AreWritten block.contents) pool

-- a check's sum is that of the words of its register's block, each of which was written, at a moment at which the lane has made exactly its events so far
pub record SumsWritten (setting : Setting) (position : Position) (r total : ℕ) : Type 0 where
  pub held : HeldBlock
  pub holds : held_in position.registers r ≡ Some held
  pub moment : Moment setting position.done
  pub block : Block
  pub live : block_at held.place (pool_of moment.before) ≡ Some block
  pub words : List ℕ
  pub written : block.contents ≡ map (λ word. Some word) words
  pub total_is : total ≡ sum words % 2 ^ 64

-- a resize copies the words of its register's block, each of which was written, at a moment at which the lane has made exactly its events so far. The
-- lane's own events go on with those of the allocation, a write of every usable word, 0 past the old block's end, and the free of the old block
pub record CopiesWritten (setting : Setting) (position : Position) (r need words place : ℕ) : Type 0 where
  pub held : HeldBlock
  pub holds : held_in position.registers r ≡ Some held
  pub moment : Moment setting position.done
  pub block : Block
  pub live : block_at held.place (pool_of moment.before) ≡ Some block
  pub values : List ℕ
  pub written : block.contents ≡ map (λ word. Some word) values
  pub calls : List Event
  pub allocates : EventsOf setting.caller (alloc_given need place) calls
  pub goes_on :
      Begins
      (position.done
      ++ (calls ++ writing setting.caller place words (λ i. slice_index_or values i 0) ++ Free setting.caller held.place ∷ []))
      (own setting.caller setting.history)
