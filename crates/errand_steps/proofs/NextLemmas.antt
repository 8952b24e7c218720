-- What may follow a step.
use Rattle.std.proofs.Common.{ℕ, Bool, Option, Some, None, ◌≡◌, ◌<◌, arith}
use Rattle.std.specs.Prelude.{IsTrue}
use Rattle.heap_geometry.specs.declared.geometry.Geometry.{Geometry}
use Rattle.packed_words.specs.Head.{HeadFields}
use Rattle.heap_geometry.specs.Need.{block_count_of}
use Rattle.word_table.specs.Counts.{descriptor_count}
use Rattle.word_table.specs.Seats.{SeatFields}
use Rattle.word_table.specs.Sites.{IsSeatOf}
use Rattle.word_table.proofs.SeatLemmas.{block_count_of-least}
use Rattle.step_parts.specs.declared.stack.point.Pile.{Pile}
use Rattle.step_parts.specs.stack.Points.{IsBare, IsIndexOf}
use Rattle.errand_steps.specs.declared.continuation.Continuation.{Continuation}
use Rattle.errand_steps.specs.declared.next.Next.{Next}
use Rattle.errand_steps.specs.declared.next.Next.TheVariants.{At, End, Turn, Retire, Pick, Unlist}
use Rattle.errand_steps.specs.Fits.{FitsContinuation, FitsPoint, IsSmallFor, spare_of, pushed_by}
use Rattle.errand_steps.specs.Nexts.{finish, put_away, found_empty, confirmed_empty, popped, cleared, listed_empty, listed_partial, resumed}
use Rattle.errand_steps.specs.Continuations.{resumes, pops, confirms, clears, is_clearing}

-- the call of this caller may go on with the continuation after a retirement
pub record IsResuming (g : Geometry) (caller : ℕ) (s : SeatFields) (o : Continuation) : Type 0 where
  pub seat : IsSeatOf g caller s
  pub continuation : FitsContinuation g caller s o
  pub goes : IsTrue (resumes o)

-- everything in what follows exists in this heap
abbrev pub FitsNext : Geometry → ℕ → Next → Type 0
FitsNext g caller (At p) = FitsPoint g caller p
FitsNext g caller (End r) = Unit {0}
FitsNext g caller (Turn s words) = IsSeatOf g caller s × IsSmallFor s words
FitsNext g caller (Retire s d o) = (d < descriptor_count g) × IsResuming g caller s o
FitsNext g caller (Pick s held o) = IsResuming g caller s o
FitsNext g caller (Unlist s d o) = IsResuming g caller s o

-- what follows goes with a list that has this many spare entries and of which this one is pushed
abbrev pub ListsNext : ℕ → Option ℕ → Next → Type 0
ListsNext spare pushed (At p) = (spare_of p ≡ spare) × (pushed_by p ≡ pushed)
ListsNext spare pushed (End r) = spare ≡ 0
ListsNext spare pushed (Turn s words) = spare ≡ 0
ListsNext spare pushed (Retire s d o) = spare ≡ 0
ListsNext spare pushed (Pick s held o) = Unit {0}
ListsNext spare pushed (Unlist s d o) = pushed ≡ Some d

-- what follows is such as may follow a step of this caller
pub record Follows (g : Geometry) (caller spare : ℕ) (pushed : Option ℕ) (n : Next) : Type 0 where
  pub fits : FitsNext g caller n
  pub lists : ListsNext spare pushed n

pub follows-finish : (g : Geometry) (caller : ℕ) (s : SeatFields) (stored : Bool) → IsSeatOf g caller s → Follows g caller 0 None (finish s stored)
follows-finish g caller s stored seat = grind (arith)

pub follows-put_away :
    (g : Geometry) (caller : ℕ) (s : SeatFields) (o : Continuation) → IsSeatOf g caller s → FitsContinuation g caller s o
    → Follows g caller 0 None (put_away s o)
follows-put_away g caller s o seat w = grind (arith)

pub follows-found_empty :
    (g : Geometry) (caller : ℕ) (s : SeatFields) (pile : Pile) (h : HeadFields) (o : Continuation) → IsBare g caller s h
    → FitsContinuation g caller s o → IsTrue (pops pile o) → Follows g caller 0 None (found_empty s pile h o)
follows-found_empty g caller s pile h o bare w goes = grind (arith)

pub follows-confirmed_empty :
    (g : Geometry) (caller : ℕ) (s : SeatFields) (pile : Pile) (o : Continuation) → IsSeatOf g caller s
    → FitsContinuation g caller s o → IsTrue (confirms pile o) → Follows g caller 0 None (confirmed_empty s o)
follows-confirmed_empty g caller s pile o seat w goes = grind (arith)

pub follows-popped :
    (g : Geometry) (caller : ℕ) (s : SeatFields) (pile : Pile) (i : ℕ) (o : Continuation) → IsIndexOf g caller s pile i
    → FitsContinuation g caller s o → IsTrue (pops pile o) → Follows g caller 0 None (popped s i o)
follows-popped g caller s pile i o index w goes =
    let some : 0 < block_count_of s.class = omega (arith, block_count_of-least s.class index.seat.class) in
    grind (arith, some)

pub follows-cleared :
    (g : Geometry) (caller : ℕ) (s : SeatFields) (o : Continuation) → IsSeatOf g caller s → FitsContinuation g caller s o
    → IsTrue (clears o) → Follows g caller 0 None (cleared s o)
follows-cleared g caller s o seat w goes = grind (arith)

pub follows-listed_empty :
    (g : Geometry) (caller : ℕ) (s : SeatFields) (d : ℕ) (o : Continuation) → IsSeatOf g caller s → d < descriptor_count g
    → FitsContinuation g caller s o → IsTrue (is_clearing o) → Follows g caller 0 None (listed_empty s d o)
follows-listed_empty g caller s d o seat has w goes = grind (arith)

pub follows-listed_partial :
    (g : Geometry) (caller : ℕ) (s : SeatFields) (d : ℕ) (o : Continuation) → IsSeatOf g caller s → d < descriptor_count g
    → FitsContinuation g caller s o → IsTrue (is_clearing o) → Follows g caller 0 None (listed_partial s d o)
follows-listed_partial g caller s d o seat has w goes = grind (arith)

pub follows-resumed :
    (g : Geometry) (caller : ℕ) (s : SeatFields) (o : Continuation) → IsResuming g caller s o
    → Follows g caller 0 None (resumed s o)
follows-resumed g caller s o h = grind (arith)
