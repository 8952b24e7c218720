-- The operations: on which register each of them is, and how it is written.
use Rattle.std.specs.Prelude.{◌≡◌, ℕ, ◌<◌, ◌≤◌, ◌-◌, ◌^◌, Bool, true, false, ◌==◌, if◌then◌else◌, List, [], ◌∷◌, codes, slice_index, Option, Some, None}
use Rattle.std.specs.Fmt.{decimal}
use Rattle.heap_geometry.specs.declared.limits.TheConstants.{LARGE_MOST, SHELVES}
use Rattle.trace_text.specs.declared.limits.TheConstants.{REGISTERS}
use Rattle.trace_text.specs.declared.kinds.Kind.{Kind}
use Rattle.trace_text.specs.declared.kinds.Kind.TheVariants.{Register, Need, Value, Shelf}
use Rattle.trace_text.specs.declared.kinds.Kinds.{Kinds}
use Rattle.trace_text.specs.declared.kinds.Kinds.TheVariants as kinds
use Rattle.trace_text.specs.declared.kinds.Numbers.{Numbers}
use Rattle.trace_text.specs.declared.trace.Op.{Op}
use Rattle.trace_text.specs.declared.trace.Op.TheVariants.{Alloc, Free, Fill, Check, Put, Take, Resize}
use Rattle.trace_text.specs.declared.trace.Version.{Version}
use Rattle.trace_text.specs.declared.trace.Version.TheVariants.{One, Two}

-- an operation as it is written: its letter, the first version that has it, what its numbers say, and the numbers
pub record Written : Type 0 where
  pub letter : ℕ
  pub since : Version
  pub kinds : Kinds
  pub numbers : Numbers

-- one number
abbrev single : List ℕ → Version → Kind → ℕ → Written
single word since a x =
    record { letter = slice_index word 0; since = since; kinds = kinds.One a; numbers = record { first = x; second = 0; third = 0 } }

-- two numbers
abbrev pair : List ℕ → Version → Kind → ℕ → Kind → ℕ → Written
pair word since a x b y =
    record { letter = slice_index word 0; since = since; kinds = kinds.Two a b; numbers = record { first = x; second = y; third = 0 } }

-- three numbers
abbrev triple : List ℕ → Version → Kind → ℕ → Kind → ℕ → Kind → ℕ → Written
triple word since a x b y c z =
    record { letter = slice_index word 0; since = since; kinds = kinds.Three a b c; numbers = record { first = x; second = y; third = z } }

-- how each operation is written
abbrev pub written_of : Op → Written
written_of (Alloc r need v) = triple (codes "a") One Register r Need need Value v
written_of (Free r) = single (codes "f") One Register r
written_of (Fill r v) = pair (codes "w") One Register r Value v
written_of (Check r) = single (codes "c") One Register r
written_of (Put r shelf) = pair (codes "p") One Register r Shelf shelf
written_of (Take r shelf) = pair (codes "t") One Register r Shelf shelf
written_of (Resize r need) = pair (codes "r") Two Register r Need need

-- the register that an operation is on
abbrev pub register_of : Op → ℕ
register_of (Alloc r need v) = r
register_of (Free r) = r
register_of (Fill r v) = r
register_of (Check r) = r
register_of (Put r shelf) = r
register_of (Take r shelf) = r
register_of (Resize r need) = r

-- the operations of one letter, by their numbers
pub data Maker : Type 0 where
  OfOne : (ℕ → Op) → Maker
  OfTwo : (ℕ → ℕ → Op) → Maker
  OfThree : (ℕ → ℕ → ℕ → Op) → Maker

-- all operations
abbrev pub makers : List Maker
makers = OfThree Alloc ∷ OfOne Free ∷ OfTwo Fill ∷ OfOne Check ∷ OfTwo Put ∷ OfTwo Take ∷ OfTwo Resize ∷ []

-- ---- what follows for whatever operations there are

-- the operation of these numbers
abbrev pub made_by : Maker → Numbers → Op
made_by (OfOne make) n = make n.first
made_by (OfTwo make) n = make n.first n.second
made_by (OfThree make) n = make n.first n.second n.third

-- how operations are written whose numbers are 0, and so with which letter, since when, and with which kinds of numbers all of the same maker
abbrev pub written_by : Maker → Written
written_by maker = written_of (made_by maker (record { first = 0; second = 0; third = 0 }))

-- the first of some makers whose operations have a letter
unfoldable pub maker_in : ℕ → List Maker → Option Maker
maker_in letter [] = None
maker_in letter (maker ∷ more) = if letter == (written_by maker).letter then Some maker else maker_in letter more

-- the maker of the operations with a letter
abbrev pub maker_of : ℕ → Option Maker
maker_of letter = maker_in letter makers

-- what came with one version is in another one
abbrev pub is_since : Version → Version → Bool
is_since One version = true
is_since Two One = false
is_since Two Two = true

-- the same, as a fact
abbrev pub IsSince : Version → Version → Type 0
IsSince One version = Unit {0}
IsSince Two version = version ≡ Two

-- what the numbers behind a letter say, if an operation of this version has it
abbrev pub kinds_by : Version → Option Maker → Option Kinds
kinds_by version None = None
kinds_by version (Some maker) = if is_since (written_by maker).since version then Some (written_by maker).kinds else None

abbrev pub kinds_in : Version → ℕ → Option Kinds
kinds_in version letter = kinds_by version (maker_of letter)

-- the operation with a letter and the numbers behind it
abbrev pub made_by_some : Option Maker → Numbers → Option Op
made_by_some None n = None
made_by_some (Some maker) n = Some (made_by maker n)

abbrev pub made_in : ℕ → Numbers → Option Op
made_in letter n = made_by_some (maker_of letter) n

-- the largest number of a kind
abbrev pub most_of : Kind → ℕ
most_of Register = REGISTERS - 1
most_of Need = LARGE_MOST
most_of Value = 2 ^ 64 - 1
most_of Shelf = SHELVES - 1

-- a number is one of a kind
abbrev pub IsKind : Kind → ℕ → Type 0
IsKind Register n = n < REGISTERS
IsKind Need n = n ≤ LARGE_MOST
IsKind Value n = n < 2 ^ 64
IsKind Shelf n = n < SHELVES

-- each number is one of its kind
abbrev pub AreWithin : Kinds → Numbers → Type 0
AreWithin (kinds.One a) n = IsKind a n.first
AreWithin (kinds.Two a b) n = IsKind a n.first × IsKind b n.second
AreWithin (kinds.Three a b c) n = IsKind a n.first × IsKind b n.second × IsKind c n.third

-- numbers that an operation with this letter may have
abbrev pub AreBy : Option Maker → Numbers → Type 0
AreBy None n = Unit {0}
AreBy (Some maker) n = AreWithin (written_by maker).kinds n

abbrev pub AreOf : ℕ → Numbers → Type 0
AreOf letter n = AreBy (maker_of letter) n

-- the numbers, as they are printed
abbrev pub decimals : Kinds → Numbers → List (List ℕ)
decimals (kinds.One a) n = decimal n.first ∷ []
decimals (kinds.Two a b) n = decimal n.first ∷ decimal n.second ∷ []
decimals (kinds.Three a b c) n = decimal n.first ∷ decimal n.second ∷ decimal n.third ∷ []
