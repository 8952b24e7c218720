-- How a part is left where the retired list or the turn limit has its part in what follows.
use Rattle.std.proofs.Common.{ℕ, ◌≡◌, ◌≤◌, arith, IsTrue}
use Rattle.sound_state.proofs.Common.{Geometry, Found, Next, At, End, Retire, Pick, Unlist, Continuation, Point, FitsPoint, next_of, turn_stage_of, is_unneeded, one_if}
use Rattle.sound_state.proofs.Common.{Turn}
use Rattle.errand_steps.specs.declared.point.Point.TheVariants as point
use Rattle.errand_steps.specs.Continuations.{resumes}
use Rattle.sound_laws.proofs.bounds_lemmas.WinDefs.{next_discards}

-- 1 where a turn may end, since the new superblock wasn't needed
abbrev pub next_ends : Next → ℕ
next_ends (At p) = 0
next_ends n = next_discards n

-- the point is one at the descriptors or the hazard words, with this continuation
abbrev pub WaitsWith : Continuation → Point → Type 0
WaitsWith o (point.Desc p r) = r ≡ o
WaitsWith o p = ⊥

-- what follows a step at the point goes on with a retirement, or from a scan at the descriptors or the hazard words
abbrev pub ResumesFrom : Point → Next → Type 0
ResumesFrom p (At q) = Unit {0}
ResumesFrom p (End r) = Unit {0}
ResumesFrom p (Turn s need) = Unit {0}
ResumesFrom p (Retire s d o) = IsTrue (resumes o)
ResumesFrom p (Pick s held o) = IsTrue (resumes o) × WaitsWith o p
ResumesFrom p (Unlist s d o) = IsTrue (resumes o)

-- what follows a step goes on from its point, and ends a turn only where the step was discarding
pub record EndsTo (p : Point) (n : Next) : Type 0 where
  pub goes : ResumesFrom p n
  pub ends : next_ends n ≤ one_if (is_unneeded (turn_stage_of p))

-- what follows a step at each point goes on from there, and ends a turn only where it was discarding
pub ends-to : (g : Geometry) (caller : ℕ) (p : Point) (x : Found) → FitsPoint g caller p → EndsTo p (next_of p x)
unfolding next_of
ends-to g caller (point.Stack p o) x fits = let goes = fits.goes in grind (arith, goes)
ends-to g caller (point.Desc p o) x fits = let goes = fits.goes in grind (arith, goes)
ends-to g caller (point.Partial p o) x fits = let goes = fits.goes in grind (arith, goes)
ends-to g caller p x fits = grind (arith)
