-- How memory is given back.
use Rattle.std.specs.Prelude.{ℕ, ◌≡◌, ◌≢◌, ◌/◌, Option, Some, None}
use Rattle.memory_cache.specs.Paged.{ActsBehind, GoesBehind, IsLastOut, IsOut}
use Rattle.balloc_malloc.specs.declared.tenant.TheConstants.{TRIES}
use Rattle.balloc_malloc.specs.declared.tenant.Tenant.{Tenant}
use Rattle.balloc_malloc.specs.Tenants.{heap_of}

-- the memory from this word on is C's no more; C has just what else it had. Behind, nothing was done; or a call under way was gone on with, which didn't end; or the page is gone, all of whose memory was back. One of these two where it was the last of its page that was out, and another page was ready with pieces of its size
pub record IsBack (before : Tenant) (first : ℕ) (after : Tenant) : Type 0 where
  pub keeps : (other size : ℕ) → IsOut before.cache other size → other ≢ first → IsOut after.cache other size
  pub only : (other size : ℕ) → IsOut after.cache other size → IsOut before.cache other size × (other ≢ first)
  pub behind : GoesBehind (heap_of before) before.cache (first / 2048) TRIES after.cache
  pub sends : IsLastOut before.cache first → ActsBehind (heap_of before) before.cache (first / 2048) TRIES after.cache
  pub hits : after.cache.hits ≡ before.cache.hits
  pub heap : after.heap ≡ before.heap

-- the same of a seat. One that is empty has given out no memory
abbrev pub GivesBy : Option Tenant → ℕ → Option Tenant → Type 0
GivesBy None first after = ⊥
GivesBy (Some before) first after = (next : Tenant) × (after ≡ Some next) × IsBack before first next
