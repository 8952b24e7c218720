-- Moves of any callers in which a caller doesn't store to its own hazard word keep what it guards.
use Rattle.std.proofs.Common.{ℕ, None, Some, ◌≡◌, ◌≢◌, ◌<◌, List, [], ◌∷◌, arith, sym, subst, ◌∙◌}
use Rattle.std.proofs.lemmas.Option.{none-some}
use Rattle.sound_state.proofs.Common.{Geometry, ErrandFields, pushed_by, State, passed_by, IsSoundWithoutCounts, IsIdle, alloc_begun, free_begun, write_begun, read_begun}
use Rattle.sound_state.proofs.Common.{put_begun, take_begun, Call, begun_by, Guards, BeginsCall, Move, begins, steps, Moved, with_errands}
use Rattle.sound_state.specs.Guarding.{IsAvailable, IsGuardedBy, LeavesHazard, ReachesUnstored}
use Rattle.sound_state.proofs.ReachLemmas.{move-sound}
use Rattle.sound_state.proofs.guards.AvailSteps.{available-stepped}
use Rattle.sound_state.proofs.guards.GuardSettles.{HasNoted}
use Rattle.sound_state.proofs.guards.GuardSteps.{guarded-stepped}
use Rattle.sound_state.proofs.shared.CallerLemmas.{each-other}

-- an errand with the same retired list as another one, at a point that pushes nothing and scans nothing
record ScansNothing (e e' : ErrandFields) : Type 0 where
  pub retired : e'.retired ≡ e.retired
  pub pushed : pushed_by e'.point ≡ None
  pub passed : passed_by e'.point ≡ 0

-- a caller that begins a call has the same list, pushes nothing and scans nothing
begun-fresh : (e : ErrandFields) (call : Call) → IsIdle e → ScansNothing e (begun_by e call)
unfolding alloc_begun free_begun write_begun read_begun put_begun take_begun
begun-fresh e call idle = grind (arith)

-- a call that begins keeps what a caller guards
guarded-begun :
    (g : Geometry) (s : State) (caller d other : ℕ) (call : Call) (s' : State) → IsGuardedBy g s caller d → BeginsCall s other call s' → IsGuardedBy g s' caller d
guarded-begun g s caller d other call s' guarded b =
    let fresh = begun-fresh (s.errand other) call b.idle in
    let after : IsGuardedBy g (with_errands s b.errands) caller d = record {
      word = guarded.word;
      pushed =
          each-other g (λ i e. pushed_by e.point ≢ Some d) s.errand other (begun_by (s.errand other) call) b.errands b.moves
          (λ is. none-some d (sym fresh.pushed ∙ is)) (λ i has differ. guarded.pushed i has);
      passed =
          each-other g (λ i e. HasNoted caller d e) s.errand other (begun_by (s.errand other) call) b.errands b.moves
          (λ listed below. let bad : ⊥ = omega (arith, below, fresh.passed) in absurd bad) (λ i has differ. guarded.passed i has);
    } in
    subst (λ t. IsGuardedBy g t caller d) (sym b.after) after

-- any move in which a caller doesn't store to its own hazard word keeps what it guards
guarded-moved :
    (g : Geometry) (s : State) (caller d : ℕ) (move : Move) (s' : State) → IsSoundWithoutCounts g s → caller < g.callers → LeavesHazard s caller move
    → IsGuardedBy g s caller d → Moved g s move s' → IsGuardedBy g s' caller d
guarded-moved g s caller d (begins other call) s' sound has leaves guarded moved = guarded-begun g s caller d other call s' guarded moved.1
guarded-moved g s caller d (steps other) s' sound has leaves guarded moved =
    guarded-stepped g s caller d other s' sound has moved.0 leaves guarded moved.1

pub guarded-reached :
    (g : Geometry) (caller d : ℕ) (s : State) (moves : List Move) (s' : State) → IsSoundWithoutCounts g s → caller < g.callers → IsGuardedBy g s caller d
    → ReachesUnstored g caller s moves s' → IsGuardedBy g s' caller d
guarded-reached g caller d s [] s' sound has guarded reached = subst (λ t. IsGuardedBy g t caller d) (sym reached) guarded
guarded-reached g caller d s (move ∷ rest) s' sound has guarded (next, leaves, moved, reached) =
    guarded-reached g caller d next rest s' (move-sound g s move next sound moved) has
    (guarded-moved g s caller d move next sound has leaves guarded moved) reached

-- a descriptor that a caller of a sound state guards is guarded by it
pub guards-give : (g : Geometry) (s : State) (caller d : ℕ) → IsSoundWithoutCounts g s → caller < g.callers → Guards s caller d → IsGuardedBy g s caller d
guards-give g s caller d sound has guards =
    let guarded = sound.parts.1.guarded in
    record {
      word = guards.word;
      pushed = λ other has_other. guarded.pushed caller other d has has_other guards;
      passed = λ other has_other. guarded.passed caller other d has has_other guards;
    }

-- moves in which a caller doesn't store to its own hazard word keep what it guards
pub guards-reached :
    (g : Geometry) (caller d : ℕ) (s : State) (moves : List Move) (s' : State) → IsSoundWithoutCounts g s → caller < g.callers → Guards s caller d
    → ReachesUnstored g caller s moves s' → IsGuardedBy g s' caller d
guards-reached g caller d s moves s' sound has guards reached =
    guarded-reached g caller d s moves s' sound has (guards-give g s caller d sound has guards) reached

-- a move makes available no descriptor that nobody pushes
available-moved :
    (g : Geometry) (s : State) (d : ℕ) (move : Move) (s' : State) → IsSoundWithoutCounts g s
    → ((other : ℕ) → other < g.callers → pushed_by (s.errand other).point ≢ Some d) → Moved g s move s' → IsAvailable g s' d → IsAvailable g s d
available-moved g s d move s' sound unpushed moved there = grind (arith, sound, unpushed, moved, there, available-stepped)

-- a guarded descriptor isn't made available again while its guard's caller doesn't store to its hazard word
pub unavailable-reached :
    (g : Geometry) (caller d : ℕ) (s : State) (moves : List Move) (s' : State) → IsSoundWithoutCounts g s → caller < g.callers → IsGuardedBy g s caller d
    → ReachesUnstored g caller s moves s' → IsAvailable g s' d → IsAvailable g s d
unavailable-reached g caller d s [] s' sound has guarded reached there = subst (λ t. IsAvailable g t d) reached there
unavailable-reached g caller d s (move ∷ rest) s' sound has guarded (next, leaves, moved, reached) there =
    available-moved g s d move next sound guarded.pushed moved
    (unavailable-reached g caller d next rest s' (move-sound g s move next sound moved) has
    (guarded-moved g s caller d move next sound has leaves guarded moved) reached there)
