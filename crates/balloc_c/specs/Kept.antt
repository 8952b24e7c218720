-- What a slot of the table has.
use Rattle.std.specs.Prelude.{ℕ, Bool, true, false, Option, Some, None}
use Rattle.heap_geometry.specs.Need.{usable_words}
use Rattle.plain_words.specs.declared.plain.PlainWords.{PlainWords}
use Rattle.live_heap.specs.declared.block.Block.{Block}
use Rattle.live_heap.specs.declared.plain.Memory.{Memory}
use Rattle.balloc_c.specs.declared.lent.LentBlock.{LentBlock}
use Rattle.balloc_c.specs.declared.kept.Content.{Content}
use Rattle.balloc_c.specs.declared.kept.Content.TheVariants as content
use Rattle.balloc_c.specs.declared.kept.Kept.{Kept}
use Rattle.balloc_c.specs.declared.kept.Kept.TheVariants as kept

-- the block that lies in a slot, if there is one
abbrev pub kept_in : Content → Option Kept
kept_in content.Vacant = None
kept_in (content.Home block) = Some (kept.Home block)
kept_in (content.Out lent) = Some (kept.Out lent)
kept_in (content.Resting block) = Some (kept.Resting block)
kept_in (content.Laid memory) = Some (kept.Laid memory)

-- and a slot's content with this block, or none
abbrev pub content_of : Option Kept → Content
content_of None = content.Vacant
content_of (Some (kept.Home block)) = content.Home block
content_of (Some (kept.Out lent)) = content.Out lent
content_of (Some (kept.Resting block)) = content.Resting block
content_of (Some (kept.Laid memory)) = content.Laid memory

-- the block, wherever its words are
abbrev pub block_of : Kept → Block
block_of (kept.Home block) = block
block_of (kept.Out lent) = record { place = lent.place; need = lent.need; is_need = lent.is_need }
block_of (kept.Resting block) = block
block_of (kept.Laid memory) = memory.block

-- how many usable words it has; none where there is no block
abbrev pub words_in : Option Kept → ℕ
words_in None = 0
words_in (Some it) = usable_words (block_of it).need

-- the words of a slot's block are out with C
abbrev pub is_out : Option Kept → Bool
is_out None = false
is_out (Some (kept.Home block)) = false
is_out (Some (kept.Out lent)) = true
is_out (Some (kept.Resting block)) = false
is_out (Some (kept.Laid memory)) = false

-- they are out, and the pass keeps them
abbrev pub is_laid : Option Kept → Bool
is_laid None = false
is_laid (Some (kept.Home block)) = false
is_laid (Some (kept.Out lent)) = false
is_laid (Some (kept.Resting block)) = false
is_laid (Some (kept.Laid memory)) = true

-- what a number can name: all but what the pass keeps to give it again
abbrev pub seen : Option Kept → Option Kept
seen None = None
seen (Some (kept.Home block)) = Some (kept.Home block)
seen (Some (kept.Out lent)) = Some (kept.Out lent)
seen (Some (kept.Resting block)) = None
seen (Some (kept.Laid memory)) = None

-- the memory of a block whose words are these
abbrev pub memory_of : LentBlock → PlainWords → Memory
memory_of lent words = record { block = block_of (kept.Out lent); words = words }
