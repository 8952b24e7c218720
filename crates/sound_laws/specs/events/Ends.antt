-- How a call ends, by what it answers.
use Rattle.std.specs.Prelude.{ℕ, ◌≡◌, List, Option, Some, None}
use Rattle.heap_geometry.specs.Need.{need_of}
use Rattle.pool_model.specs.Calls.{Ended, alloc_given, alloc_refused, alloc_spent, freed, wrote, put_done, put_full, take_got, take_empty, take_missed, EventsOf}
use Rattle.pool_model.specs.Calls as ended
use Rattle.pool_model.specs.declared.event.Event.{Event}
use Rattle.errand_steps.specs.declared.reply.Reply.{Reply}
use Rattle.errand_steps.specs.declared.reply.Reply.TheVariants.{Given, Refused, Spent, Freed, Wrote, Word, Put, Full, Got, Empty, Missed}
use Rattle.errand_steps.specs.Calls.{Call, alloc, free, write, read, put, take}

-- the end of a call that answers this; none where no such call answers it
abbrev pub end_of : Call → Reply → Option Ended
end_of (alloc words) (Given place need) = Some (alloc_given words place)
end_of (alloc words) Refused = Some (alloc_refused words)
end_of (alloc words) Spent = Some (alloc_spent words)
end_of (free place need) Freed = Some (freed place)
end_of (write place need i value) Wrote = Some (wrote place i value)
end_of (read place need i) (Word value) = Some ended.read
end_of (put place need shelf) Put = Some (put_done place shelf)
end_of (put place need shelf) (Full found) = Some put_full
end_of (take shelf) (Got place need) = Some (take_got shelf place)
end_of (take shelf) Empty = Some (take_empty shelf)
end_of (take shelf) (Missed expected found) = Some take_missed
end_of call reply = None

-- a block that is given is one of those that serve the words that were asked for
abbrev pub Serves : Call → Reply → Type 0
Serves (alloc words) (Given place need) = need ≡ need_of words
Serves call reply = Unit {0}

-- a caller's call has ended with this answer, and these are the caller's events of it, in their order
pub record HasEnded (caller : ℕ) (call : Call) (reply : Reply) (events : List Event) : Type 0 where
  pub ended : (end : Ended) × (end_of call reply ≡ Some end) × EventsOf caller end events
  pub serves : Serves call reply
