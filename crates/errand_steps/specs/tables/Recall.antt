-- What a caller may remember between two steps.
use Rattle.std.specs.Prelude.{ℕ, List, [], ◌∷◌}
use Rattle.heap_geometry.specs.declared.need.Need.{Need}
use Rattle.packed_words.specs.Anchor.{AnchorFields}
use Rattle.packed_words.specs.Head.{HeadFields}
use Rattle.word_table.specs.Seats.{SeatFields}
use Rattle.word_table.specs.declared.name.WordName.{WordName}
use Rattle.word_table.specs.declared.seat.Site.{Site}
use Rattle.step_parts.specs.declared.stack.point.Pile.{Pile}
use Rattle.errand_steps.specs.Points.{site_of}
use Rattle.errand_steps.specs.declared.continuation.Continuation.TheVariants as continuation
use Rattle.errand_steps.specs.declared.continuation.Continuation.{Continuation}

-- a thing that a caller remembers
pub data Recall : Type 0 where
  -- d has a superblock of the class
  bound_for : (d class : ℕ) → Recall
  -- the word of d names the frame and the class
  located : (d frame class : ℕ) → Recall
  -- d has a superblock, and its word names the frame and the class
  bound_at : (d frame class : ℕ) → Recall
  -- a is an anchor of d that was read for a pop
  pops : (d : ℕ) → (a : AnchorFields) → Recall
  -- prefix is the prefix word of a's first block, and so its link while no block was popped since
  links : (d : ℕ) → (a : AnchorFields) → (prefix : ℕ) → Recall
  -- h is a head of the stack that was read for a pop
  tops : (s : SeatFields) → (pile : Pile) → (h : HeadFields) → Recall
  -- below is the next word of h's index, while no index was popped since
  nexts : (s : SeatFields) → (pile : Pile) → (h : HeadFields) → (below : ℕ) → Recall
  -- h's index is one that the heap has, or none
  tops_exist : (s : SeatFields) → (pile : Pile) → (h : HeadFields) → Recall
  -- the word is this number
  says : (word_name : WordName) → (word : ℕ) → Recall
  -- the links of so many blocks of a superblock in the making are stored in the frame
  made : (frame class blocks : ℕ) → Recall
  -- the anchor a isn't EMPTY
  in_use : (a : AnchorFields) → Recall
  -- d is EMPTY, and neither available nor on its way
  emptied : (d : ℕ) → Recall
  -- next is the next word of d, while d is available
  noted : (d next : ℕ) → Recall
  -- the caller owns the block at the place, which has a usable word i
  owns : (place i : ℕ) → Recall
  -- the caller owns the block at the place, which serves the need
  owns_all : (place : ℕ) → (need : Need) → Recall
  -- the caller's last event is a look for the class in vain
  looked : (class : ℕ) → Recall
  -- the caller's last two events are a look for the class in vain and a refusal of a need of the class
  refused : (class : ℕ) → Recall

-- what a caller remembers of the superblock at hand: its descriptor has one, which fills this frame and is of this class
abbrev pub bound_here : Site → List Recall
bound_here at = bound_at at.desc at.frame at.seat.class ∷ []

-- what a caller remembers by what waits behind a part
abbrev pub continuation_recalls : SeatFields → Continuation → List Recall
continuation_recalls s (continuation.TakeFrame words d) = looked s.class ∷ []
continuation_recalls s (continuation.GiveBlock words d frame i) = bound_here (site_of s d frame)
continuation_recalls s (continuation.Remove d heap) = emptied d ∷ []
continuation_recalls s (continuation.Retire d) = emptied d ∷ []
continuation_recalls s o = []

-- what a caller remembers by what waits behind a retirement: who is refused has told so
abbrev pub resumed_recalls : SeatFields → Continuation → List Recall
resumed_recalls s continuation.Refuse = refused s.class ∷ []
resumed_recalls s o = []
