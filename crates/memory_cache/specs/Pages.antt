-- Pages: the words of a block, cut into pieces of one size.
use Rattle.std.specs.Prelude.{ℕ, ◌≡◌, ◌≢◌, ◌+◌, ◌-◌, ◌*◌, ◌/◌, ◌<◌, ◌≤◌, length, slice_index_or, slice_set}
use Rattle.heap_geometry.specs.declared.need.Need.{Need}
use Rattle.heap_geometry.specs.Need.{IsNeed, usable_words}
use Rattle.heap_geometry.specs.declared.limits.TheConstants.{SMALL_MOST}
use Rattle.plain_words.specs.declared.plain.PlainWords.{PlainWords}
use Rattle.plain_words.specs.Places.{AllHere}
use Rattle.live_heap.specs.Heaps.{HeapFields}
use Rattle.live_heap.specs.declared.plain.Memory.{Memory}
use Rattle.memory_cache.specs.declared.page.Page.{Page}
use Rattle.memory_cache.specs.declared.page.Slot.{Slot}
use Rattle.memory_cache.specs.declared.page.Slot.TheVariants.{Out, Home}
use Rattle.memory_cache.specs.declared.piece.Piece.{Piece}

-- words of this heap's memory from this one on, so many, and each is here; some may never have been laid
pub record AreHere (h : HeapFields) (first size : ℕ) (words : PlainWords) : Type 0 where
  pub at : words.at ≡ h.region.at
  pub begins : words.first ≡ first
  pub long : length words.places ≡ size
  pub here : AllHere words.places

-- a piece in hand is such words
abbrev pub IsPiece : HeapFields → Piece → Type 0
IsPiece h x = AreHere h x.first x.size x.words

-- the first word of the page's piece with this number
abbrev pub first_of : Page → ℕ → ℕ
first_of p number = p.place + number * p.size + 1

-- how many pieces the page has
abbrev pub count_of : Page → ℕ
count_of p = length p.slots.items

-- the slot with this number; past the last, it has nothing
abbrev pub slot_at : Page → ℕ → Slot
slot_at p number = slice_index_or p.slots.items number Out

-- a piece that is home has its words
abbrev pub IsSlot : HeapFields → ℕ → ℕ → Slot → Type 0
IsSlot h first size Out = Unit {0}
IsSlot h first size (Home words next) = AreHere h first size words

-- a block with so many usable words that no other one begins within 2048 words; each piece begins within as many
pub record IsPageFor (size place : ℕ) (need : Need) : Type 0 where
  pub some : 0 < size
  pub long : SMALL_MOST ≤ usable_words need
  pub fits : size ≤ usable_words need
  pub aligned : (unit : ℕ) × (place ≡ 2048 * unit)
  pub narrow : (number : ℕ) → number < usable_words need / size → number * size + 1 < 2048
  pub even : (number : ℕ) → number < usable_words need / size → (half : ℕ) × (number * size ≡ 2 * half)

-- a page of this heap, whose need is one that a block serves: its pieces are as many as the block has room for, side by side; of those that are home it has the words, and of the rest behind them
pub record IsPage (h : HeapFields) (p : Page) : Type 0 where
  pub need : IsNeed p.need
  pub some : 0 < p.size
  pub fits : p.size ≤ usable_words p.need
  pub count : count_of p ≡ usable_words p.need / p.size
  pub slots : (number : ℕ) → IsSlot h (first_of p number) p.size (slot_at p number)
  pub rest : AreHere h (first_of p (count_of p)) (usable_words p.need - count_of p * p.size) p.rest

-- the word is the first of one of the page's pieces, which has words, and that is out
pub record IsOutAt (p : Page) (first : ℕ) : Type 0 where
  pub some : 0 < p.size
  pub number : ℕ
  pub within : number < count_of p
  pub out : slot_at p number ≡ Out
  pub there : first ≡ first_of p number

-- its pieces have words, and each begins within a unit
pub record IsNear (p : Page) : Type 0 where
  pub some : 0 < p.size
  pub narrow : (number : ℕ) → number < count_of p → number * p.size + 1 < 2048

-- the piece with this number, whose first word this is, is out
pub record IsOutAs (p : Page) (number first : ℕ) : Type 0 where
  pub within : number < count_of p
  pub out : slot_at p number ≡ Out
  pub there : first ≡ first_of p number

-- no piece is out
abbrev pub AllHome : Page → Type 0
AllHome p = (number : ℕ) → number < count_of p → slot_at p number ≢ Out

-- no piece is home
abbrev pub AllOut : Page → Type 0
AllOut p = (number : ℕ) → slot_at p number ≡ Out

-- it has two pieces or more that are home
abbrev pub HasTwoHome : Page → Type 0
HasTwoHome p = (one : ℕ) × (other : ℕ) × (one ≢ other) × (slot_at p one ≢ Out) × (slot_at p other ≢ Out)

-- a page of all the words of this memory, in pieces of this size, each home
pub record IsCut (memory : Memory) (size : ℕ) (p : Page) : Type 0 where
  pub place : p.place ≡ memory.block.place
  pub need : p.need ≡ memory.block.need
  pub sized : p.size ≡ size
  pub home : AllHome p

-- the pages have the same words in the same pieces, of which the same are out: only the ways to find what is home may differ
pub record IsSamePage (p q : Page) : Type 0 where
  pub place : q.place ≡ p.place
  pub need : q.need ≡ p.need
  pub size : q.size ≡ p.size
  pub slots : q.slots.items ≡ p.slots.items
  pub rest : q.rest ≡ p.rest

-- the same but for one slot, which has this now
pub record IsSameBut (number : ℕ) (slot : Slot) (p q : Page) : Type 0 where
  pub place : q.place ≡ p.place
  pub need : q.need ≡ p.need
  pub size : q.size ≡ p.size
  pub slots : q.slots.items ≡ slice_set p.slots.items number slot
  pub rest : q.rest ≡ p.rest

-- a piece that was home is out, in a caller's hand
pub record Pops (p : Page) (x : Piece) (q : Page) : Type 0 where
  pub number : ℕ
  pub next : ℕ
  pub within : number < count_of p
  pub home : slot_at p number ≡ Home x.words next
  pub first : x.first ≡ first_of p number
  pub size : x.size ≡ p.size
  pub same : IsSameBut number Out p q

-- a piece that was out is home
pub record Pushes (p : Page) (x : Piece) (q : Page) : Type 0 where
  pub number : ℕ
  pub next : ℕ
  pub within : number < count_of p
  pub out : slot_at p number ≡ Out
  pub first : x.first ≡ first_of p number
  pub same : IsSameBut number (Home x.words next) p q
