-- That each word was written which a resize through a cache copies.
use Rattle.std.specs.Prelude.{ℕ, ◌≡◌, ◌++◌, List, Some, map}
use Rattle.std.specs.List.{slice_index_or}
use Rattle.heap_geometry.specs.Need.{need_of}
use Rattle.pool_model.specs.declared.event.Event.{Event}
use Rattle.pool_model.specs.Histories.{own, Begins}
use Rattle.pool_model.specs.Pool.{Block, block_at, pool_of}
use Rattle.lane_outcomes.specs.declared.registers.HeldBlock.{HeldBlock}
use Rattle.lane_outcomes.specs.Cached.{CachedPosition, IsGiven}
use Rattle.lane_outcomes.specs.Lane.{held_in, writing}
use Rattle.lane_outcomes.specs.Magazines.{freeing, is_kept, magazines_given}
use Rattle.lane_outcomes.specs.Rows.{Setting, Moment}

-- a resize copies the words of its register's block, each of which was written, at a moment at which the lane has made exactly its events so far. The
-- lane's own events go on with those of the allocation, if the heap made one, a write of every usable word, 0 past the old block's end, and the free of
-- the old block, unless a magazine keeps it
pub record CopiesWrittenThrough (setting : Setting) (depth : ℕ) (position : CachedPosition) (r need words place : ℕ) : Type 0 where
  pub held : HeldBlock
  pub holds : held_in position.base.registers r ≡ Some held
  pub moment : Moment setting position.base.done
  pub block : Block
  pub live : block_at held.place (pool_of moment.before) ≡ Some block
  pub values : List ℕ
  pub written : block.contents ≡ map (λ word. Some word) values
  pub calls : List Event
  pub allocates : IsGiven setting position need place calls
  pub goes_on :
      Begins
      (position.base.done
      ++ (calls ++ writing setting.caller place words (λ i. slice_index_or values i 0)
      ++ freeing setting.caller (is_kept depth (magazines_given position.magazines (need_of need)) held.need) held.place))
      (own setting.caller setting.history)
