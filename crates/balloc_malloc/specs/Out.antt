-- Memory that is out with C.
use Rattle.std.specs.Prelude.{ℕ, ◌≡◌, ◌<◌, Option, Some, None}
use Rattle.std.specs.Ptr.{ptr_add}
use Rattle.std.specs.Borrow.{u64}
use denote.RawPtr.{Ptr}
use Rattle.plain_words.specs.declared.plain.PlainWords.{PlainWords}
use Rattle.memory_cache.specs.Pages.{AreHere}
use Rattle.memory_cache.specs.Paged.{IsOut}
use Rattle.balloc_malloc.specs.declared.codes.TheConstants.{CAUSES}
use Rattle.balloc_malloc.specs.declared.tenant.Tenant.{Tenant}
use Rattle.balloc_malloc.specs.Tenants.{heap_of}

-- p points to the first of the words
abbrev pub IsAt : PlainWords → Ptr → Type 0
IsAt words p = p ≡ ptr_add u64 words.first words.at

-- C has a piece of the tenant's: the words of its heap's memory from this one on, so many, each of them here
pub record IsLent (tenant : Tenant) (words : PlainWords) (first size : ℕ) : Type 0 where
  pub here : AreHere (heap_of tenant) first size words
  pub out : IsOut tenant.cache first size
  pub within : size < CAUSES

-- the same of the tenant of a seat
abbrev pub HasOut : Option Tenant → PlainWords → ℕ → ℕ → Type 0
HasOut None words first size = ⊥
HasOut (Some tenant) words first size = IsLent tenant words first size
