-- What the searches among stored blocks find.
use Rattle.std.specs.Prelude.{ℕ, Bool, true, false, ◌+◌, ◌≤◌, ◌<◌, ◌≡◌, ◌⊎◌, List, length, Option, None, IsSome, IsSomeAnd, slice_index_or}
use Rattle.std.specs.Ordering.{nat_cmp}
use Rattle.std.specs.BTreeMap.{BTreeMap, get}
use Rattle.heap_geometry.specs.declared.limits.TheConstants.{MAX_UNITS}
use Rattle.heap_geometry.specs.declared.need.Need.{Need}
use Rattle.heap_geometry.specs.declared.need.Need.TheVariants.{Small, Large, TooLarge}
use Rattle.heap_geometry.specs.Need.{block_count_of}
use Rattle.heap_geometry.specs.Place.{IsBlockPlace, block_place, unit_place, frame_of, index_of}
use Rattle.plain_pool.specs.declared.live_block.LiveBlock.{LiveBlock}
use Rattle.plain_pool.specs.Stored.{IsStored}

-- no block is stored at the place
abbrev pub IsUnstored : BTreeMap ℕ LiveBlock → ℕ → Type 0
IsUnstored blocks place = get nat_cmp blocks place ≡ None

-- each stored block of the class lies at a place of the class
abbrev pub IsPlaced : BTreeMap ℕ LiveBlock → ℕ → Type 0
IsPlaced blocks class = (place : ℕ) (block : LiveBlock) → IsStored blocks place block → block.need ≡ Small class → IsBlockPlace class place

-- in the frame of a stored block of the class each stored block is of the class
abbrev pub HoldsOneClass : BTreeMap ℕ LiveBlock → ℕ → Type 0
HoldsOneClass blocks class =
    (place other : ℕ) (block next : LiveBlock) → IsStored blocks place block → IsStored blocks other next → block.need ≡ Small class
    → frame_of place ≡ frame_of other → next.need ≡ Small class

-- a place of the class where no block is stored, in a frame where one of the class is
pub record IsOpenBeside (blocks : BTreeMap ℕ LiveBlock) (class place : ℕ) : Type 0 where
  pub frame : ℕ
  pub index : ℕ
  pub in_frame : index < block_count_of class
  pub is_place : place ≡ block_place frame class index
  pub unstored : IsUnstored blocks place
  pub other : ℕ
  pub block : LiveBlock
  pub stored : IsStored blocks other block
  pub same_class : block.need ≡ Small class
  pub same_frame : frame_of other ≡ frame

-- a block is stored at the place, or the least place so far is no higher
abbrev pub Reaches : BTreeMap ℕ LiveBlock → Option ℕ → ℕ → Type 0
Reaches blocks least place = IsSome (get nat_cmp blocks place) ⊎ IsSomeAnd least (λ found. found ≤ place)

-- a place of the class in the frame of another place, where no block is stored
abbrev pub IsOpenIn : BTreeMap ℕ LiveBlock → ℕ → ℕ → ℕ → Type 0
IsOpenIn blocks class frame place = (index : ℕ) × (index < block_count_of class) × (place ≡ block_place frame class index) × IsUnstored blocks place

-- the search around a stored block reaches the first place of its frame, and the place behind the block, if there is one
pub record ReachesAround (blocks : BTreeMap ℕ LiveBlock) (least : Option ℕ) (class place : ℕ) : Type 0 where
  pub first : Reaches blocks least (block_place (frame_of place) class 0)
  pub behind :
      index_of class place + 1 < block_count_of class → Reaches blocks least (block_place (frame_of place) class (index_of class place + 1))

-- each stored run lies within the units behind so many frames
abbrev pub IsWithinUnits : BTreeMap ℕ LiveBlock → ℕ → Type 0
IsWithinUnits blocks frames =
    (place : ℕ) (block : LiveBlock) (units : ℕ) → IsStored blocks place block → block.need ≡ Large units
    → (unit : ℕ) × (unit + units ≤ MAX_UNITS) × (place ≡ unit_place frames unit)

-- the first unit of a block and how many it has, in an arena with so many frames; a small block has none
abbrev pub IsRunOf : ℕ → Need → ℕ → ℕ × ℕ → Type 0
IsRunOf frames (Small class) place run = run ≡ (0, 0)
IsRunOf frames (Large units) place run = (run.1 ≡ units) × ((unit : ℕ) → place ≡ unit_place frames unit → run.0 ≡ unit)
IsRunOf frames TooLarge place run = run ≡ (0, 0)

-- a stored run has the unit
pub record TakesUnit (blocks : BTreeMap ℕ LiveBlock) (frames unit : ℕ) : Type 0 where
  pub first : ℕ
  pub units : ℕ
  pub block : LiveBlock
  pub stored : IsStored blocks (unit_place frames first) block
  pub large : block.need ≡ Large units
  pub from : first ≤ unit
  pub before : unit < first + units

-- whether a number is marked; numbers past the end of the marks are not
abbrev pub IsMarked : List Bool → ℕ → Type 0
IsMarked marks k = slice_index_or marks k false ≡ true

-- so many numbers from `first` on are within the marks, and none of them is marked
abbrev pub IsGap : List Bool → ℕ → ℕ → Type 0
IsGap marks count first = (first + count ≤ length marks) × ((k : ℕ) → first ≤ k → k < first + count → ¬ IsMarked marks k)
