-- What is told of a seat.
use Rattle.std.specs.Prelude.{ℕ, ◌≡◌, ◌*◌, Option, Some, None, Result, Ok, Err}
use Rattle.heap_geometry.specs.declared.geometry.Geometry.{Geometry}
use Rattle.live_heap.specs.placement.Places.{placed_count}
use Rattle.plain_words.specs.declared.plain.Start.{Start}
use Rattle.balloc_malloc.specs.declared.codes.TheConstants.{DONE, EMPTY}
use Rattle.balloc_malloc.specs.declared.spot.Spot.{Spot}
use Rattle.balloc_malloc.specs.declared.tenant.Tenant.{Tenant}

-- how many takes a page that was ready has served, how many blocks are out, those in magazines too, and how many exchanges the pass has lost; a seat that is empty tells nothing
abbrev pub TellsCounts : Option Tenant → ℕ → ℕ × ℕ × ℕ → ℕ × ℕ × ℕ → Type 0
TellsCounts None code before after = (code ≡ EMPTY) × (after ≡ before)
TellsCounts (Some tenant) code before after =
    (code ≡ DONE) × (after.0 ≡ tenant.cache.hits) × (after.1 ≡ tenant.cache.cache.pass.out) × (after.2 ≡ tenant.cache.cache.pass.errand.lost)

-- the code of an opening, where memory begins and how many bytes it has in which blocks lie; where none is opened nothing is told
abbrev pub TellsMemory : Geometry → Result Start ℕ → ℕ → Spot → ℕ → Spot → ℕ → Type 0
TellsMemory g (Ok start) code spot bytes spot_now bytes_now = (code ≡ DONE) × (spot_now.at ≡ start.at) × (bytes_now ≡ 8 * placed_count g)
TellsMemory g (Err cause) code spot bytes spot_now bytes_now = (code ≡ cause) × (spot_now ≡ spot) × (bytes_now ≡ bytes)
