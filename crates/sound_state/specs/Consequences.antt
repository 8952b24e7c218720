-- What a sound state gives, in records that the laws name.
use Rattle.std.specs.Prelude.{ℕ, ◌≡◌, ◌<◌, ◌+◌, IsTrue}
use Rattle.heap_geometry.specs.declared.geometry.Geometry.{Geometry}
use Rattle.heap_geometry.specs.Need.{block_count_of}
use Rattle.heap_geometry.specs.Place.{block_place}
use Rattle.word_table.specs.Counts.{descriptor_count}
use Rattle.word_table.specs.Occurs.{occurs}
use Rattle.errand_steps.specs.Steps.{State}
use Rattle.sound_state.specs.Lists.{Lists, IsListed}
use Rattle.sound_state.specs.Sums.{sum_below}
use Rattle.sound_state.specs.Superblocks.{Superblock, info_for, is_bound, superblock_of, free_chain}

-- the place is that of a block of a superblock, and the block is none of the superblock's free ones
pub record IsTaken (g : Geometry) (s : State) (l : Lists) (place : ℕ) : Type 0 where
  pub desc : ℕ
  pub exists : desc < descriptor_count g
  pub bound : IsTrue (is_bound g s l desc)
  pub index : ℕ
  pub in_frame : index < block_count_of (info_for s desc).class
  pub here : place ≡ block_place (info_for s desc).frame (info_for s desc).class index
  pub taken : occurs index (free_chain (superblock_of g s desc)) ≡ 0

-- the descriptor has a superblock; the lists are those that the heads and the next words make
pub record IsBound (g : Geometry) (s : State) (d : ℕ) : Type 0 where
  pub exists : d < descriptor_count g
  pub lists : Lists
  pub listed : IsListed g s.word lists
  pub bound : IsTrue (is_bound g s lists d)

-- how many blocks of a superblock are live
abbrev pub live_in : Superblock → ℕ
live_in b = sum_below b.size b.live

-- a superblock's free blocks, reserved or not, its live blocks and the one that is held back add up to its size
abbrev pub AddsUp : Superblock → Type 0
AddsUp b = b.anchor.count + b.reserved + live_in b + b.waiting ≡ b.size
