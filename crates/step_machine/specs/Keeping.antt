-- What leaves a caller's block where it is, and what hands one out.
use Rattle.std.specs.Prelude.{ℕ, ◌≡◌, ◌≢◌, List, [], ◌∷◌}
use Rattle.heap_geometry.specs.declared.need.Need.{Need}
use Rattle.pool_model.specs.declared.event.Event.{Event}
use Rattle.pool_model.specs.declared.event.Event.TheVariants.{Free, Put}
use Rattle.pool_model.specs.Calls.{Ended}
use Rattle.pool_model.specs.Calls as ended
use Rattle.errand_steps.specs.declared.reply.Reply.{Reply}
use Rattle.errand_steps.specs.declared.reply.Reply.TheVariants as reply
use Rattle.errand_steps.specs.Calls.{Call, free, put}

-- the event gives no block away that lies at this place; none of the events does
abbrev pub Spares : ℕ → Event → Type 0
Spares place (Free caller at) = place ≢ at
Spares place (Put caller at shelf) = place ≢ at
Spares place event = Unit {0}

abbrev pub AllSpare : ℕ → List Event → Type 0
AllSpare place [] = Unit {0}
AllSpare place (event ∷ events) = Spares place event × AllSpare place events

-- the call gives away no block that lies at this place; the call's end gave away none that lies there
abbrev pub LeavesPlace : Call → ℕ → Type 0
LeavesPlace (free p need) place = place ≢ p
LeavesPlace (put p need shelf) place = place ≢ p
LeavesPlace call place = Unit {0}

abbrev pub LeavesAtEnd : Ended → ℕ → Type 0
LeavesAtEnd (ended.freed p) place = place ≢ p
LeavesAtEnd (ended.put_done p shelf) place = place ≢ p
LeavesAtEnd end place = Unit {0}

-- the answer hands out this block
abbrev pub Hands : Reply → ℕ → Need → Type 0
Hands (reply.Given place need) p n = (place ≡ p) × (need ≡ n)
Hands (reply.Got place need) p n = (place ≡ p) × (need ≡ n)
Hands answer p n = ⊥
