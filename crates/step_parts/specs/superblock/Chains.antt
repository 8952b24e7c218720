-- The chain of a superblock's free blocks.
use Rattle.std.specs.Prelude.{ℕ, zero, suc, List, [], ◌∷◌}
use Rattle.heap_geometry.specs.Place.{block_place}
use Rattle.packed_words.specs.Prefix.{link_of}
use Rattle.word_table.specs.declared.name.WordName.{WordName}
use Rattle.word_table.specs.declared.name.WordName.TheVariants.{Arena}

-- the k indexes met from one on by links
abbrev pub chain_of : (ℕ → ℕ) → ℕ → ℕ → List ℕ
chain_of next zero i = []
chain_of next (suc k) i = i ∷ chain_of next k (next i)

-- the name of the prefix word of a frame's block
abbrev pub prefix_name : ℕ → ℕ → ℕ → WordName
prefix_name frame class i = Arena (block_place frame class i)

-- the link of a frame's block, in these words
abbrev pub link_in : (WordName → ℕ) → ℕ → ℕ → ℕ → ℕ
link_in words frame class i = link_of (words (prefix_name frame class i))

-- the k indexes met from one on by the links of a frame's blocks, in these words
abbrev pub chain_in : (WordName → ℕ) → ℕ → ℕ → ℕ → ℕ → List ℕ
chain_in words frame class k i = chain_of (link_in words frame class) k i
