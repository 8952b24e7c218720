use Rattle.std.specs.Prelude.{Option, Some, None}
use mir.Raw.{raw}
use base.Shift.{Keyless}
use denote.Memory.{lone}
use denote.RawPtr.{Ptr}
use denote.Struct.Struct.{exits_of}
use denote.Struct.Owning.{shape, fields, to}
use denote.Param.Send.{IsSend, AllSend, owning_send, struct_send, sendable}
use Rattle.std.proofs.Crossing as heap
use Rattle.std.specs.Global.{Global}
use Rattle.std_alloc.proofs.SendSync.{quiet, lies}
use Rattle.std_heap.proofs.Global.TheSendSync as handle
use Rattle.balloc_malloc.specs.Owned.{tenant_owns}
use Rattle.balloc_malloc.specs.contracts.tenant.Tenant as Tenant
use Rattle.balloc_malloc.specs.declared.tenant.Tenant.{Tenant as TenantFields}
use Rattle.balloc_malloc.proofs.tenant.Tenant.TheSendSync.{the_send as tenant}
use Rattle.balloc_malloc.specs.contracts.erased_box.ErasedBox.{the_row, the_type}

owned : (held : Option TenantFields) (alloc : Global) (at : Ptr) → Keyless (tenant_owns held alloc at)
owned (Some held) alloc at = (lies Tenant.the_row tenant at held, heap.frees.frees alloc (raw (lone Tenant.the_row.mir)) at)
owned None alloc at = tt

pub send : IsSend the_row
send =
    let all : AllSend (fields the_type) = (search sendable, (handle.the_field_send, tt)) in
    owning_send the_type all (λ d. owned d.tenant d.alloc d.at)
    (λ k. quiet (to the_type) (exits_of k (fields the_type)) ((struct_send (shape the_type) all).leaving k))
