-- The needs of a trace.
use Rattle.std.proofs.Common.{ℕ, leb, ◌≢◌, ◌≤◌, inl, inr}
use Rattle.std.proofs.lemmas.Bool.{cases_Bool, le-leb}
use Rattle.heap_geometry.specs.declared.limits.TheConstants.{LARGE_MOST, SMALL_MOST}
use Rattle.heap_geometry.specs.declared.need.Need.TheVariants.{TooLarge}
use Rattle.heap_geometry.specs.Need.{need_of}

-- a need of a trace is not too large
pub need-fits : (need : ℕ) → need ≤ LARGE_MOST → need_of need ≢ TooLarge
unfolding need_of
need-fits need most =
    elim (cases_Bool (leb need SMALL_MOST)) [
      | inl small ↦ rw small (λ e. cc)
      | inr large ↦ rw (large, le-leb need LARGE_MOST most) (λ e. cc)
    ]
