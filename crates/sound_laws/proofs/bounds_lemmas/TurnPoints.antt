-- What a step does to its caller's turn, at every point.
use Rattle.std.proofs.Common.{ℕ, true, ◌≡◌, arith, Option, Some, refl, nat_le, IsTrue}
use Rattle.sound_state.proofs.Common.{SMALL_MOST, ActiveWord, Null, active_word, active_of, Found, SeatFields, BlockPoint, StackPoint, Continuation, event_of, asked}
use Rattle.sound_state.proofs.Common.{after_active, settle_block_of, settle_stack_of, enter_stack, enter_block, continuation_turn_stage, is_turn, Geometry, Point}
use Rattle.sound_state.proofs.Common.{FitsPoint, next_of, seat_of_stack, FitsContinuation}
use Rattle.step_parts.specs.declared.superblock.point.BlockPoint.TheVariants as block
use Rattle.step_parts.specs.declared.stack.point.StackPoint.TheVariants as stack
use Rattle.errand_steps.specs.declared.point.Point.TheVariants as point
use Rattle.errand_steps.specs.tables.Blocks.{goes_block}
use Rattle.errand_steps.specs.tables.Stacks.{goes_stack}
use Rattle.errand_steps.specs.declared.continuation.Continuation.TheVariants as continuation
use Rattle.sound_laws.proofs.bounds_lemmas.WinDefs.{TurnsTo, TurnsOn, found_in}
use Rattle.step_parts.specs.superblock.Points.{seat_of_block}
use Rattle.sound_state.proofs.shared.TurnEffects.{small-served}

-- an active word that says null is null
null-read : (v : ℕ) → active_of v ≡ Some Null → v ≡ active_word Null
unfolding active_of active_word
null-read v is = grind (arith, is)

-- a load of an active word
active-turns :
    (caller : ℕ) (s : SeatFields) (words : ℕ) (x : Found) (w : Option ActiveWord) → active_of x.value ≡ w
    → TurnsTo caller (point.Block (block.LoadActive s) (continuation.Alloc words)) x.value x.won
    (event_of caller (point.Block (block.LoadActive s) (continuation.Alloc words)) x) (enter_block (after_active s w) (continuation.Alloc words))
unfolding event_of
active-turns caller s words x w is = grind (arith, is, null-read)

-- what a step in a superblock does to its caller's turn, where an allocation is of a small block
block-turns :
    (caller : ℕ) (p : BlockPoint) (o : Continuation) (x : Found) → (IsTrue (is_turn (continuation_turn_stage o)) → nat_le (asked o) SMALL_MOST ≡ true)
    → IsTrue (goes_block p o)
    → TurnsTo caller (point.Block p o) x.value x.won (event_of caller (point.Block p o) x) (enter_block (settle_block_of p x) o)
unfolding event_of
block-turns caller (block.LoadActive s) (continuation.Alloc words) x small goes = active-turns caller s words x (active_of x.value) refl
block-turns caller p o x small goes = grind (arith)

-- what a step at a stack does to its caller's turn, where an allocation is of a small block
stack-turns :
    (caller : ℕ) (p : StackPoint) (o : Continuation) (x : Found) → (IsTrue (is_turn (continuation_turn_stage o)) → nat_le (asked o) SMALL_MOST ≡ true)
    → IsTrue (goes_stack p o)
    → TurnsTo caller (point.Stack p o) x.value x.won (event_of caller (point.Stack p o) x) (enter_stack (settle_stack_of p x) o)
unfolding event_of
stack-turns caller (stack.LoadBelow s pile h) o x small goes = grind (arith)
stack-turns caller p o x small goes = grind (arith)

-- an allocation in a turn is of a small block
pub giving-small :
    (g : Geometry) (caller : ℕ) (s : SeatFields) (o : Continuation) → FitsContinuation g caller s o → IsTrue (is_turn (continuation_turn_stage o))
    → nat_le (asked o) SMALL_MOST ≡ true
giving-small g caller s o fits gives = grind (arith, small-served)

-- what a step at each point does to its caller's turn
point-turns :
    (g : Geometry) (caller : ℕ) (p : Point) (x : Found) → FitsPoint g caller p → TurnsTo caller p x.value x.won (event_of caller p x) (next_of p x)
unfolding next_of event_of
point-turns g caller (point.Block p o) x fits = block-turns caller p o x (giving-small g caller (seat_of_block p) o fits.continuation) fits.goes
point-turns g caller (point.Stack p o) x fits = stack-turns caller p o x (giving-small g caller (seat_of_stack p) o fits.continuation) fits.goes
point-turns g caller p x fits = grind (arith, fits)

-- what a step at each point does to its caller's turn, with what it finds where its word is v
pub turns-on : (g : Geometry) (caller : ℕ) (p : Point) (v : ℕ) → FitsPoint g caller p → TurnsOn caller p v
turns-on g caller p v fits = point-turns g caller p (found_in p v) fits
