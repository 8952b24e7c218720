-- How memory is taken.
use Rattle.std.specs.Prelude.{ℕ, ◌≡◌, ◌≢◌, ◌<◌, ◌≤◌, ◌+◌, ◌*◌, ◌%◌, ◌^◌, ◌⊎◌, Option, Some, None, Result, IfOk}
use Rattle.std.specs.declared.alloc.AllocError.{AllocError}
use denote.RawPtr.{Ptr, null_ptr}
use Rattle.heap_geometry.specs.declared.limits.TheConstants.{LARGE_MOST}
use Rattle.plain_words.specs.declared.plain.PlainWords.{PlainWords}
use Rattle.live_heap.specs.declared.answers.AllocAnswer.{AllocAnswer}
use Rattle.memory_cache.specs.declared.piece.Piece.{Piece}
use Rattle.memory_cache.specs.Paged.{CameOf, HasNewPage, HasPieceReady, IsIn, IsOut}
use Rattle.memory_cache.specs.Sizes.{page_words, piece_words}
use Rattle.balloc_malloc.specs.declared.codes.TheConstants.{CAUSES, DONE, EMPTY, TOO_LARGE}
use Rattle.balloc_malloc.specs.declared.tenant.TheConstants.{READY_MOST, TRIES}
use Rattle.balloc_malloc.specs.declared.tenant.Tenant.{Tenant}
use Rattle.balloc_malloc.specs.Codes.{GivesNone, code_of}
use Rattle.balloc_malloc.specs.Out.{IsAt, IsLent}
use Rattle.balloc_malloc.specs.Sizes.{bytes_of, words_for}
use Rattle.balloc_malloc.specs.Tenants.{heap_of}

-- a page has a piece ready for so many bytes
abbrev pub HasReady : Tenant → ℕ → Type 0
HasReady tenant bytes = HasPieceReady tenant.cache (piece_words (words_for bytes))

-- memory of so many words, that have at least so many bytes, is C's from now on, and was not before; it is aligned to 16 bytes, since it begins at an odd word of memory that begins 8 bytes behind a multiple of 16. Of the rest C has just what it had. Where a page had a piece ready nothing was asked of the heap, and it counts; else a page is new
pub record IsGiven (before : Tenant) (bytes size : ℕ) (words : PlainWords) (p : Ptr) (after : Tenant) : Type 0 where
  pub lent : IsLent after words words.first size
  pub there : IsAt words p
  pub fresh : (other : ℕ) → ¬ IsOut before.cache words.first other
  pub keeps : (first other : ℕ) → IsOut before.cache first other → IsOut after.cache first other
  pub only : (first other : ℕ) → IsOut after.cache first other → first ≢ words.first → IsOut before.cache first other
  pub aligned : words.first % 2 ≡ 1
  pub sized : size ≡ piece_words (words_for bytes)
  pub enough : bytes ≤ bytes_of size
  pub heap : after.heap ≡ before.heap
  pub served : HasReady before bytes → (after.cache.cache ≡ before.cache.cache) × (after.cache.hits ≡ (before.cache.hits + 1) % 2 ^ 64)
  pub new : (¬ HasReady before bytes)
      → HasNewPage (heap_of before) before.cache (words_for bytes) TRIES words.first after.cache × (after.cache.hits ≡ before.cache.hits)

-- no block has so many bytes: nothing happened
pub record IsTooMuch (before : Tenant) (bytes code : ℕ) (after : Tenant) : Type 0 where
  pub told : code ≡ TOO_LARGE
  pub many : 8 * LARGE_MOST < bytes
  pub cache : after.cache ≡ before.cache
  pub heap : after.heap ≡ before.heap

-- no page had a piece ready; the heap was asked for one and has none now, or there is no memory to keep account of one. What C has it has still
pub record IsRefused (before : Tenant) (bytes code : ℕ) (after : Tenant) : Type 0 where
  pub fits : bytes ≤ 8 * LARGE_MOST
  pub none : ¬ HasReady before bytes
  pub answer : Result (AllocAnswer Piece) AllocError
  pub told : code ≡ code_of answer
  pub lacks : GivesNone answer × (CAUSES ≤ code)
  pub came : IfOk answer (λ told. CameOf (heap_of before) before.cache.cache.pass (page_words (words_for bytes)) TRIES told after.cache.cache.pass)
  pub keeps : (first size : ℕ) → IsOut before.cache first size → IsOut after.cache first size
  pub only : (first size : ℕ) → IsOut after.cache first size → IsOut before.cache first size
  pub heap : after.heap ≡ before.heap
  pub hits : after.cache.hits ≡ before.cache.hits

-- why no memory is given
abbrev pub Lacks : Tenant → ℕ → ℕ → Tenant → Type 0
Lacks before bytes code after = IsTooMuch before bytes code after ⊎ IsRefused before bytes code after

-- what comes of a take: these words go out, and the code is how many they are; or none, and it tells why
abbrev pub Takes : Tenant → ℕ → ℕ → Option PlainWords → Ptr → Tenant → Type 0
Takes before bytes code (Some words) p after = IsGiven before bytes code words p after
Takes before bytes code None p after = (p ≡ null_ptr) × Lacks before bytes code after

-- the same of a seat, which may be empty
abbrev pub TakesBy : Option Tenant → ℕ → ℕ → Option PlainWords → Ptr → Option Tenant → Type 0
TakesBy None bytes code words p after = (code ≡ EMPTY) × (words ≡ None) × (p ≡ null_ptr) × (after ≡ None)
TakesBy (Some before) bytes code words p after = (next : Tenant) × (after ≡ Some next) × Takes before bytes code words p next

-- what comes of a take where a page is ready: words of a page that was there before go out, as by any take; or none, and nothing has happened, since the bytes are too many for that, or no page has a piece ready
abbrev pub Serves : Tenant → ℕ → ℕ → Option PlainWords → Ptr → Tenant → Type 0
Serves before bytes code (Some words) p after = HasReady before bytes × IsGiven before bytes code words p after × IsIn before.cache words.first code
Serves before bytes code None p after =
    (code ≡ DONE) × (p ≡ null_ptr) × (after ≡ before) × (bytes ≤ READY_MOST → ¬ HasReady before bytes)

-- the same of a seat, which may be empty
abbrev pub ServesBy : Option Tenant → ℕ → ℕ → Option PlainWords → Ptr → Option Tenant → Type 0
ServesBy None bytes code words p after = (code ≡ DONE) × (words ≡ None) × (p ≡ null_ptr) × (after ≡ None)
ServesBy (Some before) bytes code words p after = (next : Tenant) × (after ≡ Some next) × Serves before bytes code words p next
