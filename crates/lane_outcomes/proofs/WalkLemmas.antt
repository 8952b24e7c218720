-- The events of an allocation: looks, and then what it came to; and what holds of all events of a row.
use Rattle.std.proofs.Common.{ℕ, zero, suc, false, true, Bool, ◌≡◌, ◌+◌, List, [], ◌∷◌, ◌++◌, map, refl, sym, subst}
use Rattle.std.specs.List.{AllByRecursion}
use Rattle.heap_geometry.specs.declared.need.Need.{Need}
use Rattle.heap_geometry.specs.declared.need.Need.TheVariants.{Small, Large, TooLarge}
use Rattle.heap_geometry.specs.Need.{need_of}
use Rattle.pool_model.specs.declared.event.Event.{Event}
use Rattle.pool_model.specs.declared.event.Event.TheVariants.{Alloc, Free, Looked, Refuse, Write}
use Rattle.pool_model.specs.Calls.{EventsOf, IsGiving, IsRefusing, IsSpending, alloc_refused, looks}
use Rattle.lane_outcomes.specs.Lane.{Position, writing}
use Rattle.lane_outcomes.specs.Rows.{IsSpent, Setting}
use Rattle.lane_outcomes.proofs.FillLemmas.{writes_of}
use Rattle.lane_outcomes.proofs.FollowLemmas.{IsStill}

pub all-append :
    (P : Event → Type 0) (part rest : List Event) → AllByRecursion P part → AllByRecursion P rest → AllByRecursion P (part ++ rest)
all-append P [] rest first last = last
all-append P (event ∷ part) rest first last = (first.0, all-append P part rest first.1 last)

pub all-map : (P Q : Event → Type 0) (events : List Event) → ((event : Event) → P event → Q event) → AllByRecursion P events → AllByRecursion Q events
all-map P Q [] f all = tt
all-map P Q (event ∷ events) f all = (f event all.0, all-map P Q events f all.1)

-- what holds of each write of a block holds of its filling
all-writes :
    (P : Event → Type 0) (caller place : ℕ) (value : ℕ → ℕ) → ((i n : ℕ) → P (Write caller place i n)) → (count first : ℕ)
    → AllByRecursion P (writes_of caller place value first count)
all-writes P caller place value holds zero first = tt
all-writes P caller place value holds (suc count) first = (holds first _, all-writes P caller place value holds count (first + 1))

pub all-writing :
    (P : Event → Type 0) (caller place words : ℕ) (value : ℕ → ℕ) → ((i n : ℕ) → P (Write caller place i n))
    → AllByRecursion P (writing caller place words value)
all-writing P caller place words value holds = all-writes P caller place value holds words 0

-- a look of the caller's; what holds of each holds of looks
abbrev pub IsLook : ℕ → Event → Type 0
IsLook caller event = (class : ℕ) × (event ≡ Looked caller class)

looks-look : (caller class count : ℕ) → AllByRecursion (IsLook caller) (looks caller class count)
looks-look caller class zero = tt
looks-look caller class (suc count) = ((class, refl), looks-look caller class count)

pub all-looks :
    (P : Event → Type 0) (caller : ℕ) (events : List Event) → ((class : ℕ) → P (Looked caller class)) → AllByRecursion (IsLook caller) events
    → AllByRecursion P events
all-looks P caller events holds = all-map (IsLook caller) P events (λ event look. subst P (sym look.1) (holds look.0))

-- an allocation that was given a block: some looks, and then the allocation
pub record IsGiven (caller need place : ℕ) (events : List Event) : Type 0 where
  pub looked : List Event
  pub look : AllByRecursion (IsLook caller) looked
  pub whole : events ≡ looked ++ Alloc caller need place ∷ []

pub given-of : (caller need place : ℕ) (n : Need) (events : List Event) → IsGiving caller need place n events → IsGiven caller need place events
given-of caller need place (Small class) events giving =
    record { looked = looks caller class giving.0; look = looks-look caller class giving.0; whole = giving.1 }
given-of caller need place (Large units) events giving = record { looked = []; look = tt; whole = giving }
given-of caller need place TooLarge events giving = absurd giving

pub all-given :
    (P : Event → Type 0) (caller need place : ℕ) (events : List Event) → ((class : ℕ) → P (Looked caller class)) → P (Alloc caller need place)
    → IsGiven caller need place events → AllByRecursion P events
all-given P caller need place events looked alloc given =
    rw given.whole (all-append P given.looked (Alloc caller need place ∷ []) (all-looks P caller given.looked looked given.look) (alloc, tt))

-- one that was refused, and one that found no turn
pub record IsRefused (caller need : ℕ) (events : List Event) : Type 0 where
  pub looked : List Event
  pub look : AllByRecursion (IsLook caller) looked
  pub whole : events ≡ looked ++ Refuse caller need ∷ []

pub refused-of : (caller need : ℕ) (n : Need) (events : List Event) → IsRefusing caller need n events → IsRefused caller need events
refused-of caller need (Small class) events refusing =
    record { looked = looks caller class (suc refusing.0); look = looks-look caller class (suc refusing.0); whole = refusing.1 }
refused-of caller need (Large units) events refusing = record { looked = []; look = tt; whole = refusing }
refused-of caller need TooLarge events refusing = absurd refusing

pub all-refused :
    (P : Event → Type 0) (caller need : ℕ) (events : List Event) → ((class : ℕ) → P (Looked caller class)) → P (Refuse caller need)
    → EventsOf caller (alloc_refused need) events → AllByRecursion P events
all-refused P caller need events looked refuse is =
    let refused = refused-of caller need (need_of need) events is in
    rw refused.whole (all-append P refused.looked (Refuse caller need ∷ []) (all-looks P caller refused.looked looked refused.look) (refuse, tt))

spending-looks : (caller : ℕ) (n : Need) (events : List Event) → IsSpending caller n events → AllByRecursion (IsLook caller) events
spending-looks caller (Small class) events spending = rw spending.1 (looks-look caller class spending.0)
spending-looks caller (Large units) events spending = absurd spending
spending-looks caller TooLarge events spending = absurd spending

pub spent-looks :
    (setting : Setting) (position : Position) (need : ℕ) (piece : List Event) (spent : Bool) → IsSpent setting position need piece spent
    → AllByRecursion (IsLook setting.caller) piece
spent-looks setting position need piece true row = rw row.1 tt
spent-looks setting position need piece false row = spending-looks setting.caller (need_of need) piece row.0

-- what holds of each free of a caller's holds of frees
pub all-frees :
    (P : Event → Type 0) (caller : ℕ) (places : List ℕ) → ((place : ℕ) → P (Free caller place)) → AllByRecursion P (map (λ place. Free caller place) places)
all-frees P caller [] holds = tt
all-frees P caller (place ∷ places) holds = (holds place, all-frees P caller places holds)

-- looks and fills give and free nothing, and hand nothing over
pub stills-looks : (caller : ℕ) (events : List Event) → AllByRecursion (IsLook caller) events → AllByRecursion (IsStill caller) events
stills-looks caller events = all-looks (IsStill caller) caller events (λ class. refl)

pub stills-writing : (caller place words : ℕ) (value : ℕ → ℕ) → AllByRecursion (IsStill caller) (writing caller place words value)
stills-writing caller place words value = all-writing (IsStill caller) caller place words value (λ i n. refl)
