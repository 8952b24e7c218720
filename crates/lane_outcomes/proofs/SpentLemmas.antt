-- A lane that was told to have no turn left has none at its end.
use Rattle.std.proofs.Common.{ℕ, zero, suc, Bool, true, ◌≡◌, ◌<◌, ◌∷◌, List, [], length, get_or, refl, sym, subst, arith}
use Rattle.trace_text.specs.declared.trace.Op.{Op}
use Rattle.lane_outcomes.specs.declared.outcome.Outcome.{Outcome}
use Rattle.lane_outcomes.specs.declared.outcome.Outcome.TheVariants as outcome
use Rattle.lane_outcomes.specs.Cached.{CachedPosition, CachedWalks, cached_after}
use Rattle.lane_outcomes.specs.Lane.{spent_after}
use Rattle.lane_outcomes.specs.Rows.{Setting}
use Rattle.lane_outcomes.proofs.LanesLemmas.{walk-kept}

spent-on : (spent : Bool) (result : Outcome) → spent ≡ true → spent_after spent result ≡ true
spent-on spent outcome.Spent is = refl
spent-on spent result is = is

pub told-through :
    (setting : Setting) (depth : ℕ) (from to : CachedPosition) (operations : List Op) (results : List Outcome) (k : ℕ)
    → CachedWalks setting depth from operations results to → k < length results → get_or results k outcome.Spent ≡ outcome.Spent
    → to.base.spent ≡ true
told-through setting depth from to operations [] k walks lt is = absurd (omega (arith, lt))
told-through setting depth from to [] (result ∷ results) k walks lt is = absurd walks
told-through setting depth from to (operation ∷ operations) (result ∷ results) zero (piece, row, walks) lt is =
    walk-kept setting depth (λ at. at.base.spent ≡ true) (λ at operation result piece row. spent-on at.base.spent result)
    (cached_after depth from operation result piece) to operations results walks (subst (λ r. spent_after from.base.spent r ≡ true) (sym is) refl)
told-through setting depth from to (operation ∷ operations) (result ∷ results) (suc k) (piece, row, walks) lt is =
    told-through setting depth (cached_after depth from operation result piece) to operations results k walks (omega (arith, lt)) is
