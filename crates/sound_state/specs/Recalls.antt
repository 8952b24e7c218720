-- What a caller remembers, what that still says of the words, and which part of a state it reads.
use Rattle.std.specs.Prelude.{ℕ, ◌≡◌, ◌<◌, ◌≤◌, ◌-◌, IsTrue, IsFalse, List, [], ◌∷◌, ◌++◌, Some, All}
use Rattle.heap_geometry.specs.declared.geometry.Geometry.{Geometry}
use Rattle.heap_geometry.specs.declared.need.Need.{Need}
use Rattle.heap_geometry.specs.declared.need.Need.TheVariants.{Small}
use Rattle.heap_geometry.specs.Need.{need_of, usable_words}
use Rattle.packed_words.specs.declared.anchor.AnchorState.TheVariants as phase
use Rattle.packed_words.specs.Anchor.{AnchorFields}
use Rattle.packed_words.specs.Head.{HeadFields, head_of}
use Rattle.packed_words.specs.Prefix.{link_of}
use Rattle.word_table.specs.declared.name.WordName.{WordName}
use Rattle.word_table.specs.declared.name.WordName.TheVariants as name
use Rattle.word_table.specs.Seats.{SeatFields}
use Rattle.word_table.specs.Occurs.{occurs}
use Rattle.step_parts.specs.superblock.Anchors.{new_link}
use Rattle.step_parts.specs.superblock.Chains.{prefix_name}
use Rattle.step_parts.specs.declared.stack.point.Pile.{Pile}
use Rattle.step_parts.specs.declared.stack.point.Pile.TheVariants.{Frames, Partials}
use Rattle.step_parts.specs.stack.Piles.{head_name, next_name, pile_limit}
use Rattle.step_parts.specs.partial.Grants.{is_empty}
use Rattle.pool_model.specs.declared.event.Event.{Event}
use Rattle.pool_model.specs.declared.event.Event.TheVariants.{Looked, Refuse}
use Rattle.pool_model.specs.declared.owner.Owner.TheVariants.{Caller}
use Rattle.pool_model.specs.Histories.{own, EndsWith}
use Rattle.pool_model.specs.Pool.{Block, block_at, pool_of}
use Rattle.errand_steps.specs.declared.point.Point.{Point}
use Rattle.errand_steps.specs.declared.point.Point.TheVariants as point
use Rattle.errand_steps.specs.Steps.{State}
use Rattle.sound_state.specs.Lists.{Lists}
use Rattle.sound_state.specs.Superblocks.{Superblock, superblock_of, free_chain, info_for, anchor_for, is_bound, errand_keeps}
use Rattle.errand_steps.specs.tables.Holding.{on_its_way}
use Rattle.sound_state.specs.Sums.{callers_sum}
use Rattle.errand_steps.specs.tables.Recall.{Recall, bound_for, located, bound_at, pops, links, tops, nexts, tops_exist, says, made, in_use, emptied, noted, owns, owns_all}
use Rattle.errand_steps.specs.tables.Recall.{looked, refused}
use Rattle.errand_steps.specs.tables.Blocks.{block_recalls}
use Rattle.errand_steps.specs.tables.Stacks.{stack_recalls}
use Rattle.errand_steps.specs.tables.Descs.{desc_recalls}
use Rattle.errand_steps.specs.tables.Partials.{partial_recalls}
use Rattle.errand_steps.specs.tables.LargeBlocks.{large_recalls}

-- what a caller remembers at its point
unfoldable pub recalls_of : Point → List Recall
recalls_of point.Idle = []
recalls_of (point.Block p o) = block_recalls p
recalls_of (point.Stack p o) = stack_recalls p o
recalls_of (point.Desc p o) = desc_recalls p o
recalls_of (point.Partial p o) = partial_recalls p o
recalls_of (point.Large p o) = large_recalls p

-- the descriptor's word names this frame and this class
pub record IsLocated (s : State) (d f c : ℕ) : Type 0 where
  pub frame : (info_for s d).frame ≡ f
  pub class : (info_for s d).class ≡ c

-- an anchor that was read for a pop: the tag has not fallen since, and while it is the same, the block is still in the chain
pub record IsPopped (b : Superblock) (a : AnchorFields) : Type 0 where
  pub tag : a.tag ≤ b.anchor.tag
  pub first : a.tag ≡ b.anchor.tag → 0 < occurs a.avail (free_chain b)

-- the stack of a pile, as a list
abbrev pub list_of : Lists → SeatFields → Pile → List ℕ
list_of l s Frames = l.frames
list_of l s Partials = l.partials s.class

-- a head that was read for a pop: the tag has not fallen since, and while it is the same, the index on top is still in the stack
pub record IsTopStill (s : State) (l : Lists) (seat : SeatFields) (p : Pile) (h : HeadFields) : Type 0 where
  pub tag : h.tag ≤ (head_of (s.word (head_name seat p))).tag
  pub top : h.tag ≡ (head_of (s.word (head_name seat p))).tag → 0 < occurs (h.top - 1) (list_of l seat p)

-- the links of so many first blocks of a superblock in the making are stored
abbrev pub AreMade : State → ℕ → ℕ → ℕ → Type 0
AreMade s frame class blocks = (i : ℕ) → i < blocks → s.word (prefix_name frame class i) ≡ new_link class i

-- a superblock that is EMPTY, and whose descriptor isn't available nor on its way; another caller may have retired it
pub record IsEmptied (g : Geometry) (s : State) (l : Lists) (d : ℕ) : Type 0 where
  pub state : (anchor_for s d).state ≡ phase.Empty
  pub unavailable : occurs d l.available ≡ 0
  pub standing : callers_sum g (errand_keeps on_its_way d) s.errand ≡ 0

-- the caller owns the live block at the place, which serves the need
pub record IsOwned (s : State) (caller p : ℕ) (n : Need) : Type 0 where
  pub block : (b : Block) × (block_at p (pool_of s.history) ≡ Some b) × (b.owner ≡ Caller caller) × (b.need ≡ n)

-- the last two of a caller's events are that it looked for the class in vain, and that a need which blocks of the class serve was refused
abbrev pub EndsRefused : List Event → ℕ → ℕ → Type 0
EndsRefused events caller class =
    (before : List Event) × (words : ℕ) × (need_of words ≡ Small class) × (events ≡ before ++ Looked caller class ∷ Refuse caller words ∷ [])

-- a word of the arena, an anchor, a link, or where a superblock lies: no other word is recalled
abbrev pub IsSaidWord : WordName → Type 0
IsSaidWord (name.Arena place) = Unit {0}
IsSaidWord (name.Anchor d) = Unit {0}
IsSaidWord (name.Next d) = Unit {0}
IsSaidWord (name.Info d) = Unit {0}
IsSaidWord (name.FrameNext f) = Unit {0}
IsSaidWord n = ⊥

-- the word is no active word, no slot and no hazard word
abbrev pub IsPlain : WordName → Type 0
IsPlain (name.Active heap class) = ⊥
IsPlain (name.Slot heap class) = ⊥
IsPlain (name.Hazard caller) = ⊥
IsPlain n = Unit {0}

-- a thing that a caller remembers is so
abbrev pub IsSo : Geometry → State → Lists → ℕ → Recall → Type 0
IsSo g s l caller (bound_for d class) = IsTrue (is_bound g s l d) × ((info_for s d).class ≡ class)
IsSo g s l caller (located d frame class) = IsLocated s d frame class
IsSo g s l caller (bound_at d frame class) = IsTrue (is_bound g s l d) × IsLocated s d frame class
IsSo g s l caller (pops d a) = IsPopped (superblock_of g s d) a
IsSo g s l caller (links d a prefix) =
    a.tag ≡ (anchor_for s d).tag → (superblock_of g s d).next a.avail ≡ link_of prefix
IsSo g s l caller (tops seat pile h) = IsTopStill s l seat pile h
IsSo g s l caller (nexts seat pile h below) =
    h.tag ≡ (head_of (s.word (head_name seat pile))).tag → s.word (next_name pile (h.top - 1)) ≡ below
IsSo g s l caller (tops_exist seat pile h) = h.top ≤ pile_limit g pile
IsSo g s l caller (says word_name word) = IsSaidWord word_name × (s.word word_name ≡ word)
IsSo g s l caller (made frame class blocks) = AreMade s frame class blocks
IsSo g s l caller (in_use a) = IsFalse (is_empty a.state)
IsSo g s l caller (emptied d) = IsEmptied g s l d
IsSo g s l caller (noted d next) = 0 < occurs d l.available → s.word (name.Next d) ≡ next
IsSo g s l caller (owns place i) = (n : Need) × IsOwned s caller place n × (i < usable_words n)
IsSo g s l caller (owns_all place need) = IsOwned s caller place need
IsSo g s l caller (looked class) = EndsWith (own caller s.history) (Looked caller class)
IsSo g s l caller (refused class) = EndsRefused (own caller s.history) caller class

-- a part of a state that a recall reads
pub data Part : Type 0 where
  -- whether d has a superblock, and where it lies
  bindings : (d : ℕ) → Part
  -- the place that the word of d names
  places : (d : ℕ) → Part
  -- the free blocks of d's superblock
  chains : (d : ℕ) → Part
  -- a stack of frames or of partial superblocks
  stacks : (seat : SeatFields) → (pile : Pile) → Part
  -- the links of the first blocks of a frame
  link_words : (frame class blocks : ℕ) → Part
  -- whether d is EMPTY or available, and its next word
  availables : (d : ℕ) → Part
  -- the part of the caller's events and blocks
  events : Part
  -- the part that is one word
  single : (word_name : WordName) → Part
  -- the part that nothing changes
  constant : Part

-- the part that a thing which a caller remembers reads: it stays so while that stays
abbrev pub part_of : Recall → Part
part_of (bound_for d class) = bindings d
part_of (bound_at d frame class) = bindings d
part_of (located d frame class) = places d
part_of (pops d a) = chains d
part_of (links d a prefix) = chains d
part_of (tops seat pile h) = stacks seat pile
part_of (nexts seat pile h below) = stacks seat pile
part_of (made frame class blocks) = link_words frame class blocks
part_of (emptied d) = availables d
part_of (noted d next) = availables d
part_of (says n w) = single n
part_of (tops_exist seat pile h) = constant
part_of (in_use a) = constant
part_of r = events

-- everything that a caller remembers is so
pub record IsRemembered (g : Geometry) (s : State) (l : Lists) : Type 0 where
  pub so : (caller : ℕ) → caller < g.callers → All (IsSo g s l caller) (recalls_of (s.errand caller).point)
