-- How many blocks and words an event adds to a pool or takes from it.
use Rattle.std.specs.Prelude.{Bool, true, false}
use Rattle.pool_model.specs.declared.event.Event.{Event}
use Rattle.pool_model.specs.declared.event.Event.TheVariants.{Alloc, Looked, Refuse, Free, Write, Put, Take, TakeNone}

-- the event gives a block
abbrev pub is_alloc : Event → Bool
is_alloc (Alloc caller need place) = true
is_alloc (Looked caller class) = false
is_alloc (Refuse caller need) = false
is_alloc (Free caller place) = false
is_alloc (Write caller place i v) = false
is_alloc (Put caller place shelf) = false
is_alloc (Take caller shelf place) = false
is_alloc (TakeNone caller shelf) = false

-- the event gives a block back
abbrev pub is_free : Event → Bool
is_free (Alloc caller need place) = false
is_free (Looked caller class) = false
is_free (Refuse caller need) = false
is_free (Free caller place) = true
is_free (Write caller place i v) = false
is_free (Put caller place shelf) = false
is_free (Take caller shelf place) = false
is_free (TakeNone caller shelf) = false
