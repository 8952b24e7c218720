-- How memory is resized.
use Rattle.std.specs.Prelude.{ℕ, ◌≡◌, ◌≢◌, ◌<◌, ◌≤◌, ◌%◌, ◌⊎◌, Option, Some, None, List, length}
use denote.RawPtr.{Ptr}
use Rattle.plain_words.specs.Places.{laids, place_at}
use Rattle.plain_words.specs.declared.plain.PlainWords.{PlainWords}
use Rattle.memory_cache.specs.Paged.{IsOut}
use Rattle.balloc_malloc.specs.declared.codes.TheConstants.{CAUSES}
use Rattle.balloc_malloc.specs.declared.tenant.Tenant.{Tenant}
use Rattle.balloc_malloc.specs.Out.{IsAt, IsLent}
use Rattle.balloc_malloc.specs.Sizes.{bytes_of}
use Rattle.balloc_malloc.specs.Takes.{Lacks}

-- each word holds a number
abbrev pub AreNumbered : PlainWords → Type 0
AreNumbered words = (numbers : List ℕ) × (words.places ≡ laids numbers)

-- the words hold what these did, as far as that goes
abbrev pub HasCopied : PlainWords → PlainWords → Type 0
HasCopied from to = (k : ℕ) → k < length from.places → place_at to.places k ≡ place_at from.places k

-- memory of so many words has so many bytes, and nothing has happened
pub record IsEnough (before : Tenant) (size bytes : ℕ) (after : Tenant) : Type 0 where
  pub enough : bytes ≤ bytes_of size
  pub cache : after.cache ≡ before.cache
  pub heap : after.heap ≡ before.heap

-- other memory, of so many words, that have so many bytes, is C's now in the place of this one, with what this one had; of the rest C has just what it had
pub record IsMoved (before : Tenant) (words : PlainWords) (bytes size : ℕ) (moved : PlainWords) (p : Ptr) (after : Tenant) : Type 0 where
  pub lent : IsLent after moved moved.first size
  pub there : IsAt moved p
  pub enough : bytes ≤ bytes_of size
  pub aligned : moved.first % 2 ≡ 1
  pub copied : HasCopied words moved
  pub fresh : (other : ℕ) → ¬ IsOut before.cache moved.first other
  pub keeps : (first other : ℕ) → IsOut before.cache first other → first ≢ words.first → IsOut after.cache first other
  pub only : (first other : ℕ) → IsOut after.cache first other → first ≢ moved.first → IsOut before.cache first other × (first ≢ words.first)
  pub heap : after.heap ≡ before.heap

-- what comes of a resize: the same words stay C's, since they are enough, or since there is no other memory, for a cause that the code tells; or others are C's in their place. Where it tells no cause the code is how many words are C's
abbrev pub Resizes : Tenant → PlainWords → ℕ → ℕ → ℕ → Option PlainWords → Ptr → Tenant → Type 0
Resizes before words size bytes code None p after = ⊥
Resizes before words size bytes code (Some told) p after =
    ((told ≡ words) × IsAt words p
    × (((code ≡ size) × IsEnough before size bytes after)
    ⊎ ((CAUSES ≤ code) × (bytes_of size < bytes) × Lacks before bytes code after)))
    ⊎ IsMoved before words bytes code told p after

-- the same of a seat. One that is empty has given out no memory
abbrev pub ResizesBy : Option Tenant → PlainWords → ℕ → ℕ → ℕ → Option PlainWords → Ptr → Option Tenant → Type 0
ResizesBy None words size bytes code told p after = ⊥
ResizesBy (Some before) words size bytes code told p after = (next : Tenant) × (after ≡ Some next) × Resizes before words size bytes code told p next
