-- Bundles of memory that goes back to another thread's seat.
use Rattle.std.specs.Prelude.{ℕ, ◌≡◌, ◌≢◌, ◌++◌, ◌∷◌, [], ◌⊎◌, List, Option, Some, None, IsSomeAnd, length, take}
use Rattle.std.specs.List.{AllByRecursion}
use Rattle.live_heap.specs.Heaps.{HeapFields}
use Rattle.memory_cache.specs.Pages.{AreHere}
use Rattle.memory_cache.specs.Paged.{IsOut}
use Rattle.plain_words.specs.declared.plain.PlainWords.{PlainWords}
use Rattle.balloc_malloc.specs.declared.bundle.Bundle.{Bundle}
use Rattle.balloc_malloc.specs.declared.entry.Entry.{Entry}
use Rattle.balloc_malloc.specs.declared.tenant.Tenant.{Tenant}
use Rattle.balloc_malloc.specs.Entries.{entry}
use Rattle.balloc_malloc.specs.Tenants.{heap_of}

-- what a bundle has, in the order in which it was put
abbrev pub bundled : Bundle → List Entry
bundled b = take b.count b.entries

-- these words are the last that it has now, so many from this one on; the rest is as it was
abbrev pub Puts : Bundle → PlainWords → ℕ → ℕ → ℕ → Bundle → Type 0
Puts before words first size count after = (bundled after ≡ bundled before ++ entry first size words ∷ []) × (count ≡ length (bundled after))

-- it is memory of this heap
abbrev pub IsOfHeap : HeapFields → Entry → Type 0
IsOfHeap h x = IsSomeAnd x.words.words (AreHere h x.first x.size)

-- the same of all that a bundle has, for the heap of a seat
abbrev pub AreOfSeat : Option Tenant → List Entry → Type 0
AreOfSeat None xs = Unit {0}
AreOfSeat (Some tenant) xs = AllByRecursion (IsOfHeap (heap_of tenant)) xs

-- it begins at another word
abbrev pub BeginsElsewhere : ℕ → Entry → Type 0
BeginsElsewhere first x = first ≢ x.first

abbrev pub IsOutOf : Tenant → Entry → Type 0
IsOutOf tenant x = IsOut tenant.cache x.first x.size

-- these pieces, each of which was C's, are C's no more; C has just what else it had
pub record HasTaken (before : Tenant) (taken : List Entry) (after : Tenant) : Type 0 where
  pub were : AllByRecursion (IsOutOf before) taken
  pub keeps : (first size : ℕ) → IsOut before.cache first size → AllByRecursion (BeginsElsewhere first) taken → IsOut after.cache first size
  pub only : (first size : ℕ) → IsOut after.cache first size → IsOut before.cache first size × AllByRecursion (BeginsElsewhere first) taken
  pub heap : after.heap ≡ before.heap

-- there is a last one, and that isn't C's
abbrev pub EndsAside : Tenant → List Entry → Type 0
EndsAside tenant left = (others : List Entry) × (x : Entry) × (left ≡ others ++ x ∷ []) × (¬ IsOutOf tenant x)

-- of what a bundle had, the last pieces are taken back; none is left, or the last that is left wasn't C's
pub record IsEmptied (before : Tenant) (had : List Entry) (after : Tenant) (left : List Entry) : Type 0 where
  pub taken : List Entry
  pub all : had ≡ left ++ taken
  pub has : HasTaken before taken after
  pub stops : (left ≡ []) ⊎ EndsAside after left

-- the same of a seat. One that is empty takes nothing back
abbrev pub EmptiesBy : Option Tenant → List Entry → Option Tenant → List Entry → Type 0
EmptiesBy None had after left = (after ≡ None) × (left ≡ had)
EmptiesBy (Some before) had after left = (next : Tenant) × (after ≡ Some next) × IsEmptied before had next left
