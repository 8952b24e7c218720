-- What is seen of the block at a place, and what the events tell of it, from the last one back.
use Rattle.std.specs.Prelude.{ℕ, ◌==◌, if◌then◌else◌, Option, Some, None}
use Rattle.heap_geometry.specs.declared.need.Need.{Need}
use Rattle.heap_geometry.specs.Need.{need_of}
use Rattle.pool_model.specs.declared.event.Event.{Event}
use Rattle.pool_model.specs.declared.event.Event.TheVariants.{Alloc, Looked, Refuse, Free, Write, Put, Take, TakeNone}
use Rattle.pool_model.specs.declared.owner.Owner.{Owner}
use Rattle.pool_model.specs.declared.owner.Owner.TheVariants.{Caller, Shelf}
use Rattle.pool_model.specs.Pool.{Block}
use Rattle.step_machine.specs.declared.seen.Look.{Look}
use Rattle.step_machine.specs.declared.seen.Look.TheVariants.{Known, Further}

-- what a live block serves, and who owns it
abbrev pub seen : Option Block → Option (Need × Owner)
seen None = None
seen (Some block) = Some (block.need, block.owner)

-- the last owner, or this one where none is named
abbrev pub owner_or : Option Owner → Owner → Owner
owner_or None owner = owner
owner_or (Some last) owner = last

-- what is seen of a block, with the last owner in place of its own where one is named
abbrev pub handed_on : Option Owner → Option (Need × Owner) → Option (Need × Owner)
handed_on last None = None
handed_on last (Some live) = Some (live.0, owner_or last live.1)

-- what an event tells of the block at a place, where the events behind it name this last owner
abbrev pub look_of : Event → ℕ → Option Owner → Look
look_of (Alloc caller need at) place last =
    if at == place then Known (Some (need_of need, owner_or last (Caller caller))) else Further last
look_of (Looked caller class) place last = Further last
look_of (Refuse caller need) place last = Further last
look_of (Free caller at) place last = if at == place then Known None else Further last
look_of (Write caller at i v) place last = Further last
look_of (Put caller at shelf) place last = if at == place then Further (Some (owner_or last (Shelf shelf))) else Further last
look_of (Take caller shelf at) place last =
    if at == place then Further (Some (owner_or last (Caller caller))) else Further last
look_of (TakeNone caller shelf) place last = Further last
