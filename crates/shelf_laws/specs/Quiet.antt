-- A pipe over shelves: its senders are the callers below a number, and its receiver is the caller of that number.
use Rattle.std.specs.Prelude.{ℕ, ◌≡◌, ◌≤◌, ◌<◌, ◌+◌, ◌*◌, ◌/◌, ◌%◌, ◌==◌, ◌&&◌, ◌++◌, Bool, false, List, count_by}
use Rattle.pool_model.specs.declared.event.Event.{Event}
use Rattle.pool_model.specs.declared.event.Event.TheVariants.{Put, Take}
use Rattle.pool_model.specs.Calls.{Ended}
use Rattle.pool_model.specs.Calls.Ended.{put_done, take_got}
use Rattle.pool_model.specs.Histories.{EachAfter}
use Rattle.pool_model.specs.Parcels.{Parcel, parcels}

-- the sender of a shelf, where each sender has so many: the first ones are sender 0's, and so on
abbrev pub sender_of : ℕ → ℕ → ℕ
sender_of shelves shelf = shelf / shelves

-- the shelf for message i of a sender, counted from 0: its messages go round its shelves
abbrev pub turn_of : ℕ → ℕ → ℕ → ℕ
turn_of shelves sender i = sender * shelves + i % shelves

-- the sender puts a block on a shelf of its own
abbrev pub is_put_of : ℕ → ℕ → Event → Bool
is_put_of shelves sender (Put caller place shelf) = (caller == sender) && (sender_of shelves shelf == sender)
is_put_of shelves sender event = false

-- the receiver takes a block from a shelf of the sender
abbrev pub is_take_of : ℕ → ℕ → ℕ → Event → Bool
is_take_of senders shelves sender (Take caller shelf place) = (caller == senders) && (sender_of shelves shelf == sender)
is_take_of senders shelves sender event = false

-- what a sender sent, and what the receiver took of that: each time the place of the block, and what it contained then
abbrev pub sent : ℕ → ℕ → List Event → List Parcel
sent shelves sender history = parcels (is_put_of shelves sender) history

abbrev pub taken : ℕ → ℕ → ℕ → List Event → List Parcel
taken senders shelves sender history = parcels (is_take_of senders shelves sender) history

-- behind these events the event leaves the pipe quiet: on a shelf of the pipe its sender alone puts, from it the receiver
-- alone takes, and each only where the turn has come to this shelf
abbrev pub IsQuietAfter : ℕ → ℕ → List Event → Event → Type 0
IsQuietAfter senders shelves before (Put caller place shelf) =
    shelf < senders * shelves
    → (caller ≡ sender_of shelves shelf) × (shelf ≡ turn_of shelves caller (count_by (is_put_of shelves caller) before))
IsQuietAfter senders shelves before (Take caller shelf place) =
    shelf < senders * shelves
    → (caller ≡ senders)
    × (shelf
    ≡ turn_of shelves (sender_of shelves shelf) (count_by (is_take_of senders shelves (sender_of shelves shelf)) before))
IsQuietAfter senders shelves before event = Unit {0}

-- a history is quiet for a pipe of so many senders, each with so many shelves
abbrev pub IsQuiet : ℕ → ℕ → List Event → Type 0
IsQuiet senders shelves history = EachAfter (IsQuietAfter senders shelves) history

-- the event neither puts on a shelf of the pipe nor takes from one
abbrev pub IsOutside : ℕ → ℕ → Event → Type 0
IsOutside senders shelves (Put caller place shelf) = senders * shelves ≤ shelf
IsOutside senders shelves (Take caller shelf place) = senders * shelves ≤ shelf
IsOutside senders shelves event = Unit {0}

-- a call that has ended so neither put a block on a shelf nor took one
abbrev pub HandsNothingOver : Ended → Type 0
HandsNothingOver (put_done place shelf) = ⊥
HandsNothingOver (take_got shelf place) = ⊥
HandsNothingOver ended = Unit {0}

-- the longer list begins with the shorter one
abbrev pub IsPrefix : List Parcel → List Parcel → Type 0
IsPrefix shorter longer = (rest : List Parcel) × (longer ≡ shorter ++ rest)
