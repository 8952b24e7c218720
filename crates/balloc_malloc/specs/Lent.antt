-- What a borrow of a tenant leaves behind.
use Rattle.std.specs.Prelude.{Option, Some, refl, true}
use Rattle.std.specs.Borrow.{Lends, LendsIf, MutBor, Fml}
use Rattle.balloc_malloc.specs.declared.tenant.Tenant.{Tenant}
use Rattle.balloc_malloc.specs.declared.erased_box.ErasedBox.{ErasedBox}
use Rattle.balloc_malloc.specs.declared.seat.ThreadSeat.{ThreadSeat}
use Rattle.balloc_malloc.specs.contracts.tenant.Tenant as tenant
use Rattle.balloc_malloc.specs.contracts.erased_box.ErasedBox as held
use Rattle.balloc_malloc.specs.contracts.seat.ThreadSeat as seat

-- what is held, with this tenant
abbrev pub with_tenant : ErasedBox → Tenant → ErasedBox
with_tenant h w = record h { tenant = Some w }

-- when the borrow ends, what is held is the tenant as the borrow leaves it
abbrev pub LendsErasedBox : MutBor ErasedBox → MutBor Tenant → Fml
LendsErasedBox s r = Lends held.the_row tenant.the_row s r (with_tenant s.now)

-- the seat that has this tenant
abbrev pub holding : ThreadSeat → Tenant → ThreadSeat
holding h w = record { live = true; held = with_tenant h.held w; rest = h.rest; is_live = refl }

-- the same of a seat that has one
abbrev pub LendsKnown : MutBor ThreadSeat → MutBor Tenant → Fml
LendsKnown s r = Lends seat.the_row tenant.the_row s r (holding s.now)

-- the same of a seat; one that lends nothing is as it was
abbrev pub LendsTenant : MutBor ThreadSeat → Option (MutBor Tenant) → Fml
LendsTenant s r = LendsIf seat.the_row tenant.the_row s r (holding s.now) s.now
