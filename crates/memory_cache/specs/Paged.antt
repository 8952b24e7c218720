-- A paged cache in front of a heap.
use Rattle.std.specs.Prelude.{ℕ, ◌≡◌, ◌≢◌, ◌<◌, ◌≤◌, ◌*◌, ◌/◌, ◌%◌, ◌⊎◌, true, false, Option, Some, None, Result, Ok, IfOk, slice_index, slice_index_or}
use Rattle.std.specs.declared.alloc.AllocError.{AllocError}
use Rattle.heap_geometry.specs.Need.{need_of}
use Rattle.live_heap.specs.declared.answers.AllocAnswer.{AllocAnswer}
use Rattle.live_heap.specs.declared.answers.AllocAnswer.TheVariants as alloc_answer
use Rattle.live_heap.specs.Heaps.{HeapFields}
use Rattle.live_heap.specs.declared.pass.Pass.{Pass}
use Rattle.live_heap.specs.declared.plain.Memory.{Memory}
use Rattle.memory_cache.specs.declared.cache.MemoryCache.{MemoryCache}
use Rattle.memory_cache.specs.declared.page.Page.{Page}
use Rattle.memory_cache.specs.declared.page.Slot.TheVariants.{Out}
use Rattle.memory_cache.specs.declared.paged.PagedCache.{PagedCache}
use Rattle.memory_cache.specs.declared.piece.Piece.{Piece}
use Rattle.memory_cache.specs.Asking.{HasSettled, SendsHome, TakeTells}
use Rattle.memory_cache.specs.Caches.{HasFor, HasKept, HasRoom, HasServed, IsCache, IsHeld, KeepsMagazines}
use Rattle.memory_cache.specs.Pages.{AllHome, HasTwoHome, IsCut, IsOutAs, IsOutAt, IsPage, IsPageFor, IsPiece, IsSamePage, Pops, Pushes, count_of, first_of, slot_at}
use Rattle.memory_cache.specs.Sizes.{page_words, piece_words, size_number}

-- the page whose place in the table is the k-th
abbrev pub page_at : PagedCache → ℕ → Option Page
page_at c k = slice_index_or c.pages.items k None

-- the memory is that of the page's block
abbrev pub IsOfPage : Memory → Page → Type 0
IsOfPage m p = (m.block.place ≡ p.place) × (m.block.need ≡ p.need)

-- the k-th page: one of this heap, whose block is out with the cache, in no magazine
pub record IsPageOf (h : HeapFields) (c : PagedCache) (k : ℕ) (p : Page) : Type 0 where
  pub page : IsPage h p
  pub for : IsPageFor p.size p.place p.need
  pub there : p.place ≡ 2048 * k
  pub memory : Memory
  pub of : IsOfPage memory p
  pub held : IsHeld c.cache memory

-- a paged cache in front of this heap: each block that its cache holds is that of one page
pub record IsPaged (h : HeapFields) (c : PagedCache) : Type 0 where
  pub cache : IsCache h c.cache
  pub pages : (k : ℕ) (p : Page) → page_at c k ≡ Some p → IsPageOf h c k p
  pub exact : (m : Memory) → IsHeld c.cache m → (k : ℕ) × (p : Page) × (page_at c k ≡ Some p) × IsOfPage m p

-- a caller has the piece of so many words from this one on
pub record IsOut (c : PagedCache) (first size : ℕ) : Type 0 where
  pub page : Page
  pub there : page_at c (first / 2048) ≡ Some page
  pub out : IsOutAt page first
  pub sized : page.size ≡ size

-- the word lies in a page that is there, whose pieces have so many words
pub record IsIn (c : PagedCache) (first size : ℕ) : Type 0 where
  pub page : Page
  pub there : page_at c (first / 2048) ≡ Some page
  pub sized : page.size ≡ size

-- a caller has the piece, and it has this number in its page
pub record IsOutBy (c : PagedCache) (number first size : ℕ) : Type 0 where
  pub page : Page
  pub there : page_at c (first / 2048) ≡ Some page
  pub out : IsOutAs page number first
  pub sized : page.size ≡ size

-- all but the ways to find what is home is the same
abbrev pub SamePages : Option Page → Option Page → Type 0
SamePages None None = Unit {0}
SamePages (Some p) (Some q) = IsSamePage p q
SamePages p q = ⊥

pub record HasSamePages (c d : PagedCache) : Type 0 where
  pub cache : d.cache ≡ c.cache
  pub pages : (k : ℕ) → SamePages (page_at c k) (page_at d k)

-- the number of the page that is ready with pieces of this size
abbrev pub ready_for : PagedCache → ℕ → ℕ
ready_for c size = slice_index c.ready (size_number size)

-- the k-th page has pieces of this size, and the first of its chain is home
pub record IsReadyAt (c : PagedCache) (k size : ℕ) : Type 0 where
  pub page : Page
  pub there : page_at c k ≡ Some page
  pub sized : page.size ≡ size
  pub home : slot_at page page.head ≢ Out

-- the page that is ready with pieces of this size is there, and has one
abbrev pub HasPieceReady : PagedCache → ℕ → Type 0
HasPieceReady c size = IsReadyAt c (ready_for c size) size

-- the same, and it has two or more
pub record HasTwoReady (c : PagedCache) (size : ℕ) : Type 0 where
  pub page : Page
  pub there : page_at c (ready_for c size) ≡ Some page
  pub sized : page.size ≡ size
  pub home : HasTwoHome page

-- in the k-th place of the table is this page now, or none, and nothing else has changed but ways to find what is home
pub record HasAt (c : PagedCache) (k : ℕ) (page : Option Page) (d : PagedCache) : Type 0 where
  pub now : SamePages page (page_at d k)
  pub others : (other : ℕ) → other ≢ k → SamePages (page_at c other) (page_at d other)
  pub cache : d.cache ≡ c.cache

-- a piece of the page in a place of the table is out that was home; one that was out is home
pub record PopsAt (before : Option Page) (x : Piece) (after : Option Page) : Type 0 where
  pub page : Page
  pub left : Page
  pub there : before ≡ Some page
  pub now : after ≡ Some left
  pub pops : Pops page x left

pub record PushesAt (before : Option Page) (x : Piece) (after : Option Page) : Type 0 where
  pub page : Page
  pub left : Page
  pub there : before ≡ Some page
  pub now : after ≡ Some left
  pub pushes : Pushes page x left

-- one piece of a page is out that was home, and nothing else has changed but ways to find what is home
pub record HasPut (c : PagedCache) (x : Piece) (d : PagedCache) : Type 0 where
  pub k : ℕ
  pub page : Page
  pub left : Page
  pub there : page_at c k ≡ Some page
  pub pops : Pops page x left
  pub changes : HasAt c k (Some left) d

-- a page of this memory is new, in whose place there was none: its first piece is out
pub record HasCut (h : HeapFields) (c : PagedCache) (memory : Memory) (x : Piece) (d : PagedCache) : Type 0 where
  pub cut : Page
  pub left : Page
  pub page : IsPage h cut
  pub is_cut : IsCut memory x.size cut
  pub pops : Pops cut x left
  pub changes : HasAt c (memory.block.place / 2048) (Some left) d

-- the same pieces are out of the paged cache in front of this heap, and its caller is the same
pub record HasSameOut (h : HeapFields) (c d : PagedCache) : Type 0 where
  pub paged : IsPaged h d
  pub caller : d.cache.pass.errand.caller ≡ c.cache.pass.errand.caller
  pub keeps : (first size : ℕ) → IsOut c first size → IsOut d first size
  pub only : (first size : ℕ) → IsOut d first size → IsOut c first size

-- a piece came home: it alone isn't out any more
pub record TakesBack (h : HeapFields) (c : PagedCache) (gone : ℕ) (d : PagedCache) : Type 0 where
  pub paged : IsPaged h d
  pub caller : d.cache.pass.errand.caller ≡ c.cache.pass.errand.caller
  pub keeps : (first size : ℕ) → IsOut c first size → first ≢ gone → IsOut d first size
  pub only : (first size : ℕ) → IsOut d first size → IsOut c first size × (first ≢ gone)

-- the cache behind gave this memory: a magazine that had some; else the heap was asked for it
pub record HasGiven (h : HeapFields) (c : MemoryCache) (words tries : ℕ) (memory : Memory) (d : MemoryCache) : Type 0 where
  pub served : HasFor c (need_of words) → HasServed c words memory d
  pub asked : (¬ HasFor c (need_of words)) → TakeTells h c.pass words tries (alloc_answer.Given memory) d.pass × KeepsMagazines c d

-- the piece from this word on is of a page that is new, in whose place there was none, of memory that the cache behind gave for it
pub record HasNewPage (h : HeapFields) (c : PagedCache) (words tries first : ℕ) (d : PagedCache) : Type 0 where
  pub memory : Memory
  pub given : HasGiven h c.cache (page_words words) tries memory d.cache
  pub page : Page
  pub none : page_at c (first / 2048) ≡ None
  pub now : page_at d (first / 2048) ≡ Some page
  pub of : IsOfPage memory page

-- the cache behind took this memory back: onto a magazine that had room; else it went home, and its block was freed
pub record HasTakenIn (h : HeapFields) (c : MemoryCache) (memory : Memory) (tries : ℕ) (d : MemoryCache) : Type 0 where
  pub kept : HasRoom c memory.block.need → HasKept c memory d
  pub sent : (¬ HasRoom c memory.block.need) → SendsHome h c.pass memory tries d.pass × KeepsMagazines c d

-- the page in the k-th place is gone: once no call was under way, the cache behind took its block's memory back
pub record HasSentPage (h : HeapFields) (c : PagedCache) (k tries : ℕ) (d : PagedCache) : Type 0 where
  pub page : Page
  pub there : page_at c k ≡ Some page
  pub gone : page_at d k ≡ None
  pub memory : Memory
  pub of : IsOfPage memory page
  pub settled : MemoryCache
  pub has_settled : HasSettled h c.cache.pass tries true settled.pass × KeepsMagazines c.cache settled
  pub taken : HasTakenIn h settled memory tries d.cache

-- the call under way was gone on with, which doesn't end; or the page in the k-th place is gone
abbrev pub ActsBehind : HeapFields → PagedCache → ℕ → ℕ → PagedCache → Type 0
ActsBehind h c k tries d = (HasSettled h c.cache.pass tries false d.cache.pass × KeepsMagazines c.cache d.cache) ⊎ HasSentPage h c k tries d

-- what a piece that comes home to the k-th page does behind: nothing, or that
abbrev pub GoesBehind : HeapFields → PagedCache → ℕ → ℕ → PagedCache → Type 0
GoesBehind h c k tries d = (d.cache ≡ c.cache) ⊎ ActsBehind h c k tries d

-- each piece of the page in the k-th place is home
pub record IsWholeAt (c : PagedCache) (k : ℕ) : Type 0 where
  pub page : Page
  pub there : page_at c k ≡ Some page
  pub home : AllHome page

-- another page than the k-th is ready with pieces of this size
abbrev pub IsOtherReady : PagedCache → ℕ → ℕ → Type 0
IsOtherReady c k size = (ready_for c size ≢ k) × (page : Page) × (page_at c (ready_for c size) ≡ Some page)

-- the piece from this word on is the last of its page that is out, and another page is ready with pieces of its size
pub record IsLastOut (c : PagedCache) (first : ℕ) : Type 0 where
  pub page : Page
  pub there : page_at c (first / 2048) ≡ Some page
  pub last : (number : ℕ) → number < count_of page → first_of page number ≢ first → slot_at page number ≢ Out
  pub other : IsOtherReady c (first / 2048) page.size

-- what was given begins at another word than this
abbrev pub LiesElsewhere : Result (AllocAnswer Piece) AllocError → ℕ → Type 0
LiesElsewhere (Ok (alloc_answer.Given x)) first = first ≢ x.first
LiesElsewhere told first = Unit {0}

-- why nothing was given: the heap was asked for a page, and this was the answer
abbrev pub CameOf : HeapFields → Pass → ℕ → ℕ → AllocAnswer Piece → Pass → Type 0
CameOf h p words tries (alloc_answer.Given x) q = Unit {0}
CameOf h p words tries alloc_answer.Refused q = TakeTells h p words tries alloc_answer.Refused q
CameOf h p words tries alloc_answer.TooLarge q = ⊥
CameOf h p words tries alloc_answer.Spent q = TakeTells h p words tries alloc_answer.Spent q
CameOf h p words tries alloc_answer.Busy q = TakeTells h p words tries alloc_answer.Busy q

-- what a take of so many words tells: a piece is out that was not, of at least so many words, or why there is none
pub record HasTold (h : HeapFields) (c : PagedCache) (words tries : ℕ) (told : Result (AllocAnswer Piece) AllocError) (d : PagedCache) : Type 0 where
  pub paged : IsPaged h d
  pub caller : d.cache.pass.errand.caller ≡ c.cache.pass.errand.caller
  pub given : (x : Piece) → told ≡ Ok (alloc_answer.Given x)
      → IsPiece h x × (x.size ≡ piece_words words) × (words ≤ x.size) × IsOut d x.first x.size
  pub aligned : (x : Piece) → told ≡ Ok (alloc_answer.Given x) → x.first % 2 ≡ 1
  pub fresh : (x : Piece) (size : ℕ) → told ≡ Ok (alloc_answer.Given x) → ¬ IsOut c x.first size
  pub keeps : (first size : ℕ) → IsOut c first size → IsOut d first size
  pub only : (first size : ℕ) → IsOut d first size → LiesElsewhere told first → IsOut c first size
  pub cause : IfOk told (λ answer. CameOf h c.cache.pass (page_words words) tries answer d.cache.pass)
