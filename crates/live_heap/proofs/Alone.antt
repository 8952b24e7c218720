-- Where a heap has one caller, nothing is ever lost.
use Rattle.std.proofs.Common.{ℕ, ◌≡◌, ◌<◌, ◌*◌, ◌-◌, length, ap, ◌∙◌, arith}
use Rattle.heap_geometry.specs.declared.geometry.Geometry.{Geometry}
use Rattle.errand_steps.specs.Errands.{ErrandFields}
use Rattle.errand_steps.specs.Steps.{State}
use Rattle.sound_laws.specs.bounds.Contention.{lost_of}
use Rattle.sound_state.specs.Sums.{callers_sum, sum_below}
use Rattle.step_machine.specs.Cores.{IsReached}
use Rattle.step_machine.proofs.CoreLemmas.{run-won}

sum-single : (n : ℕ) (f : ℕ → ℕ) → n ≡ 1 → sum_below n f ≡ f 0
sum-single n f is = let e : sum_below n f ≡ sum_below 1 f = ap (λ m. sum_below m f) is in omega (arith, e)

sum-alone : (g : Geometry) (weight : ErrandFields → ℕ) (errands : ℕ → ErrandFields) → g.callers ≡ 1 → callers_sum g weight errands ≡ weight (errands 0)
unfolding callers_sum
sum-alone g weight errands is = sum-single g.callers (λ caller. weight (errands caller)) is

none-left : (n m : ℕ) → n ≡ 1 → (n - 1) * m ≡ 0
none-left n m is = let e : (n - 1) * m ≡ (1 - 1) * m = ap (λ k. (k - 1) * m) is in omega (arith, e)

pub reached-alone : (g : Geometry) (s : State) (made caller : ℕ) → IsReached g s made → caller < g.callers → g.callers ≡ 1 → (s.errand caller).lost ≡ 0
reached-alone g s made caller run has one =
    let most = (run-won g s made run).contended.most in
    let sum = sum-alone g lost_of s.errand one in
    let none = none-left g.callers (length run.wins.list) one in
    let first : caller ≡ 0 = omega (arith, one) in
    ap (λ k. (s.errand k).lost) first ∙ omega (arith, most, sum, none)
