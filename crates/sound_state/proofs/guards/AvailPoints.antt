-- What the step from each point does to the words of the available descriptors.
use Rattle.std.proofs.Common.{ℕ, Some, ◌≡◌, ◌≤◌, ◌+◌, arith, ◌⊎◌}
use Rattle.sound_state.proofs.Common.{WordName, name_of, after_action, SeatFields, Continuation, Point, pushed_by, plan_point_of, partly_used, holds_of, kept_among}
use Rattle.word_table.specs.declared.name.WordName.TheVariants as name
use Rattle.step_parts.specs.declared.hazard.point.DescPoint.TheVariants as desc
use Rattle.errand_steps.specs.declared.point.Point.TheVariants as point

-- the word is neither a next word of a descriptor nor the head of the available ones
abbrev IsOff : WordName → Type 0
IsOff (name.Next e) = ⊥
IsOff name.DescHead = ⊥
IsOff n = Unit {0}

abbrev next_number : WordName → ℕ
next_number (name.Next e) = e
next_number n = 0

-- an action at a descriptor's next word leaves it, or its caller pushes the descriptor, or keeps it as a partly used one
abbrev pub NextGoes : ℕ → ℕ → Point → Type 0
NextGoes e w p =
    (after_action (plan_point_of p) w ≡ w) ⊎ ((pushed_by p ≡ Some e) ⊎ (1 ≤ kept_among partly_used e (holds_of p).kept))

pub next-point : (e w : ℕ) (p : Point) → name_of (plan_point_of p) ≡ name.Next e → NextGoes e w p
unfolding plan_point_of holds_of
next-point e w p is = grind (arith, is)

-- a won pop, and a won push, of an available descriptor at the point, where their head is w and becomes v
pub record PopsAvailable (p : Point) (w v : ℕ) : Type 0 where
  pub seat : SeatFields
  pub d : ℕ
  pub next : ℕ
  pub continuation : Continuation
  pub at : p ≡ point.Desc (desc.PopDesc seat d next) continuation
  pub before : w ≡ d + 1
  pub after : v ≡ next

pub record PushesAvailable (p : Point) (w v : ℕ) : Type 0 where
  pub seat : SeatFields
  pub d : ℕ
  pub top : ℕ
  pub continuation : Continuation
  pub at : p ≡ point.Desc (desc.PushDesc seat d top) continuation
  pub before : w ≡ top
  pub after : v ≡ d + 1

-- an action at the head of the available descriptors leaves it, pops one or pushes one
abbrev pub HeadGoes : Point → ℕ → ℕ → Type 0
HeadGoes p w v = (v ≡ w) ⊎ (PopsAvailable p w v ⊎ PushesAvailable p w v)

pub head-point : (p : Point) (w : ℕ) → name_of (plan_point_of p) ≡ name.DescHead → HeadGoes p w (after_action (plan_point_of p) w)
unfolding plan_point_of
head-point p w is = grind (arith, is)
