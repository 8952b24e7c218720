-- What a continuation is where it stands.
use Rattle.std.proofs.Common.{ℕ, ◌≡◌, arith, subst}
use Rattle.std.specs.Prelude.{IsTrue}
use Rattle.heap_geometry.specs.declared.geometry.Geometry.{Geometry}
use Rattle.heap_geometry.specs.declared.need.Need.TheVariants as need
use Rattle.heap_geometry.specs.Need.{need_of}
use Rattle.word_table.specs.Seats.{SeatFields}
use Rattle.errand_steps.specs.declared.continuation.Continuation.{Continuation}
use Rattle.errand_steps.specs.declared.continuation.Continuation.TheVariants.{Alloc}
use Rattle.errand_steps.specs.Fits.{FitsContinuation, IsSmallFor}
use Rattle.errand_steps.specs.Continuations.{is_alloc, IsRunFor}
use Rattle.errand_steps.specs.Points.{asked}

pub alloc-is : (o : Continuation) → IsTrue (is_alloc o) → o ≡ Alloc (asked o)
alloc-is o h = grind (arith)

-- an allocation's words are served by its seat's class
pub alloc-asked :
    (g : Geometry) (caller : ℕ) (s : SeatFields) (o : Continuation) → IsTrue (is_alloc o) → FitsContinuation g caller s o
    → IsSmallFor s (asked o)
alloc-asked g caller s o h w = subst (λ k. FitsContinuation g caller s k) (alloc-is o h) w

-- the words of an allocation of a run are served by its units
pub run-asked : (units : ℕ) (o : Continuation) → IsRunFor units o → need_of (asked o) ≡ need.Large units
run-asked units o h = grind (arith)
