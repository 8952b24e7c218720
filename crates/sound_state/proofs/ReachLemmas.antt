-- Every state that callers reach is sound.
use Rattle.std.proofs.Common.{ℕ, ◌<◌, List, [], ◌∷◌, sym, subst}
use Rattle.sound_state.proofs.Common.{Geometry, State, IsSound, IsSoundWithoutCounts, Call, alloc, free, write, read, put, BeginsCall, Move, begins, steps, Moved, Reaches}
use Rattle.errand_steps.specs.Calls.{take}
use Rattle.pool_model.specs.Legal.{IsLegal}
use Rattle.sound_state.proofs.CountedLemmas.{without-counts, with-counts, steps-counted}
use Rattle.sound_state.proofs.EveryStep.{steps-sound}
use Rattle.sound_state.proofs.beginnings.BegunLemmas.{alloc-sound, free-sound, write-sound, read-sound, put-sound, take-sound}

-- a call that begins keeps the state sound, but for the counts
pub begins-sound :
    (g : Geometry) (s : State) (caller : ℕ) (call : Call) (s' : State) → IsSoundWithoutCounts g s → caller < g.callers → BeginsCall s caller call s'
    → IsSoundWithoutCounts g s'
begins-sound g s caller (alloc words) s' sound has b =
    subst (IsSoundWithoutCounts g) (sym b.after) (alloc-sound g s caller words b.errands sound has b.idle b.moves)
begins-sound g s caller (free place need) s' sound has b =
    subst (IsSoundWithoutCounts g) (sym b.after) (free-sound g s caller place need b.errands sound has b.idle b.may b.moves)
begins-sound g s caller (write place need i value) s' sound has b =
    subst (IsSoundWithoutCounts g) (sym b.after)
    (write-sound g s caller place need i value b.errands sound has b.idle b.may.0 b.may.1 b.may.2 b.moves)
begins-sound g s caller (read place need i) s' sound has b =
    subst (IsSoundWithoutCounts g) (sym b.after) (read-sound g s caller place need i b.errands sound has b.idle b.may.0 b.may.1 b.moves)
begins-sound g s caller (put place need shelf) s' sound has b =
    subst (IsSoundWithoutCounts g) (sym b.after) (put-sound g s caller place need shelf b.errands sound has b.idle b.may.0 b.may.1 b.moves)
begins-sound g s caller (take shelf) s' sound has b =
    subst (IsSoundWithoutCounts g) (sym b.after) (take-sound g s caller shelf b.errands sound has b.idle b.may b.moves)

-- a call that begins leaves the history, and so its counts
pub begins-counted :
    (g : Geometry) (s : State) (caller : ℕ) (call : Call) (s' : State) → IsSound g s → caller < g.callers → BeginsCall s caller call s' → IsSound g s'
begins-counted g s caller call s' sound has b =
    with-counts g s' (begins-sound g s caller call s' (without-counts g s sound) has b)
    (subst (λ t. IsLegal g t.history) (sym b.after) sound.legal)

-- a call that begins, or a step, keeps the state sound
pub moved-sound : (g : Geometry) (s : State) (move : Move) (s' : State) → IsSound g s → Moved g s move s' → IsSound g s'
moved-sound g s (begins caller call) s' sound moved = begins-counted g s caller call s' sound moved.0 moved.1
moved-sound g s (steps caller) s' sound moved = steps-counted g s caller s' sound moved.0 moved.1

-- what every move keeps holds of every state that is reached
reached-keeps :
    (g : Geometry) (P : State → Type 0) → ((s : State) (move : Move) (s' : State) → P s → Moved g s move s' → P s') → (s : State)
    (moves : List Move) (s' : State) → P s → Reaches g s moves s' → P s'
reached-keeps g P keeps s [] s' holds reached = subst P (sym reached) holds
reached-keeps g P keeps s (move ∷ rest) s' holds reached =
    reached-keeps g P keeps reached.0 rest s' (keeps s move reached.0 holds reached.1) reached.2

pub reached-sound : (g : Geometry) (s : State) (moves : List Move) (s' : State) → IsSound g s → Reaches g s moves s' → IsSound g s'
reached-sound g s moves s' sound reached = reached-keeps g (IsSound g) (moved-sound g) s moves s' sound reached

-- a move of any caller keeps the state sound, but for its counts
pub move-sound :
    (g : Geometry) (s : State) (move : Move) (s' : State) → IsSoundWithoutCounts g s → Moved g s move s' → IsSoundWithoutCounts g s'
move-sound g s (begins caller call) s' sound moved = begins-sound g s caller call s' sound moved.0 moved.1
move-sound g s (steps caller) s' sound moved = steps-sound g s caller s' sound moved.0 moved.1
