-- What a seat owns: a tenant in a box, or nothing.
use Rattle.std.specs.Prelude.{Option, Some, None}
use base.Fml.{Fml, ftrue}
use denote.RawPtr.{Ptr}
use Rattle.std.specs.Box.Ownership.{box_owns}
use Rattle.std.specs.Global.{Global}
use Rattle.std_heap.specs.contracts.GlobalAllocator.TheImpl.{ghosts}
use Rattle.balloc_malloc.specs.contracts.tenant.Tenant.{the_row}
use Rattle.balloc_malloc.specs.declared.tenant.Tenant.{Tenant}

abbrev pub tenant_owns : Option Tenant → Global → Ptr → Fml
tenant_owns (Some tenant) alloc at = box_owns (ghosts.dealloc_token alloc) the_row at tenant
tenant_owns None alloc at = ftrue
