-- The words show the pool of the events.
use Rattle.std.specs.Prelude.{ℕ, ◌≡◌, ◌<◌, ◌≤◌, ◌+◌, ◌*◌, ◌^◌, ◌↔◌, ◌⊎◌, Some, None, All, Any, slice_index_or, IsTrue}
use Rattle.std.specs.Int.{bit_at}
use Rattle.heap_geometry.specs.declared.geometry.Geometry.{Geometry}
use Rattle.heap_geometry.specs.declared.limits.TheConstants.{SHELVES}
use Rattle.heap_geometry.specs.declared.need.Need.TheVariants as need
use Rattle.heap_geometry.specs.Place.{frame_of, unit_place}
use Rattle.packed_words.specs.declared.shelf.ShelfWord.TheVariants as shelf
use Rattle.packed_words.specs.Shelf.{shelf_word}
use Rattle.word_table.specs.declared.name.WordName.TheVariants as name
use Rattle.word_table.specs.Counts.{descriptor_count}
use Rattle.pool_model.specs.declared.owner.Owner.TheVariants.{Shelf}
use Rattle.pool_model.specs.Pool.{Block, block_at, pool_of}
use Rattle.errand_steps.specs.Steps.{State}
use Rattle.sound_state.specs.Holdings.{holds_of}
use Rattle.sound_state.specs.Lists.{Lists}
use Rattle.sound_state.specs.Recalls.{IsLocated, IsOwned}
use Rattle.sound_state.specs.Superblocks.{is_bound}

-- a block is live at the place
abbrev pub IsLive : State → ℕ → Block → Type 0
IsLive s place b = block_at place (pool_of s.history) ≡ Some b

-- the superblock of d holds the live block
pub record IsBlockOfDesc (g : Geometry) (s : State) (l : Lists) (place class d : ℕ) : Type 0 where
  pub exists : d < descriptor_count g
  pub bound : IsTrue (is_bound g s l d)
  pub located : IsLocated s d (frame_of place) class

-- a caller hands out the block at the place, and has not stored its prefix word; or frees that block, and may have stored its link
pub record IsExcepted (g : Geometry) (s : State) (place : ℕ) : Type 0 where
  pub caller :
      (caller : ℕ) × (caller < g.callers)
      × (Any (λ b. b.place ≡ place) (holds_of (s.errand caller).point).hands
      ⊎ Any (λ b. (b.place ≡ place) × IsTrue b.overwritten) (holds_of (s.errand caller).point).frees)

-- a unit is one of the units of a live run
abbrev pub IsCovered : Geometry → State → ℕ → Type 0
IsCovered g s unit =
    (b : Block) × (first : ℕ) × (units : ℕ) × IsLive s (unit_place g.frames first) b × (b.need ≡ need.Large units)
    × (first ≤ unit) × (unit < first + units)

-- the words say what the pool of the events is
pub record IsTied (g : Geometry) (s : State) (l : Lists) : Type 0 where
  pub small :
      (place class : ℕ) (b : Block) → IsLive s place b → b.need ≡ need.Small class
      → (d : ℕ) × IsBlockOfDesc g s l place class d
      × (IsExcepted g s place ⊎ (s.word (name.Arena place) ≡ 2 * d))
  pub large :
      (place units : ℕ) (b : Block) → IsLive s place b → b.need ≡ need.Large units
      → IsExcepted g s place ⊎ (s.word (name.Arena place) ≡ 2 * units + 1)
  pub units : (unit : ℕ) → unit < g.units → (bit_at (s.word name.Units) unit ≡ 1) ↔ IsCovered g s unit
  pub no_more_units : s.word name.Units < 2 ^ g.units
  pub shelved :
      (k place : ℕ) (b : Block) → k < SHELVES → IsLive s place b → b.owner ≡ Shelf k
      → s.word (name.Shelf k) ≡ shelf_word (shelf.Block place b.need)
  pub bare_shelf :
      (k : ℕ) → k < SHELVES → ((place : ℕ) (b : Block) → IsLive s place b → b.owner ≡ Shelf k → ⊥)
      → s.word (name.Shelf k) ≡ shelf_word shelf.Nothing
  pub contents :
      (place i v : ℕ) (b : Block) → IsLive s place b → slice_index_or b.contents i None ≡ Some v
      → s.word (name.Arena (place + 1 + i)) ≡ v
  pub hands :
      (caller : ℕ) → caller < g.callers → All (λ b. IsOwned s caller b.place b.need) (holds_of (s.errand caller).point).hands
  pub frees :
      (caller : ℕ) → caller < g.callers → All (λ b. IsOwned s caller b.place b.need) (holds_of (s.errand caller).point).frees
