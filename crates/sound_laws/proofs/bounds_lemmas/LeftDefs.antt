-- What a step leaves to do: the statements that the points owe.
use Rattle.std.proofs.Common.{ℕ, true, ◌≡◌, ◌<◌, ◌+◌, ◌⊎◌}
use Rattle.sound_state.proofs.Common.{Geometry, name_of, Next, At, End, Retire, Pick, Unlist, Point, counts_lost, counts_cleared, next_of, plan_point_of, State}
use Rattle.errand_steps.specs.declared.next.Next.TheVariants.{Turn}
use Rattle.sound_laws.specs.bounds.StepsLeft.{steps_left}
use Rattle.errand_steps.specs.tables.Lengths.{scan_left, active_left, resumed_left}
use Rattle.sound_laws.proofs.bounds_lemmas.WinDefs.{found_in}

-- how many steps are left where a caller goes on, whatever its retired list says
abbrev pub next_left : Geometry → Next → ℕ
next_left g (At p) = steps_left g p
next_left g (End r) = 0
next_left g (Turn s need) = active_left g s
next_left g (Retire s d o) = scan_left g + resumed_left g s o
next_left g (Pick s held o) = resumed_left g s o + 3
next_left g (Unlist s d o) = resumed_left g s o

-- the number in the word of a point's step
abbrev pub word_under : State → Point → ℕ
word_under s p = s.word (name_of (plan_point_of p))

-- a step is lost, clears, or leaves fewer steps to do: where it finds the number v, and in a state
abbrev pub LessAt : Geometry → Point → ℕ → Type 0
LessAt g p v =
    (counts_lost p (found_in p v) ≡ true) ⊎ (counts_cleared p (found_in p v) ≡ true)
    ⊎ (next_left g (next_of p (found_in p v)) < steps_left g p)

abbrev pub LeavesLess : Geometry → State → Point → Type 0
LeavesLess g s p = LessAt g p (word_under s p)
