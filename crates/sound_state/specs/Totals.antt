-- The errands of all callers as a list.
use Rattle.std.specs.Prelude.{ℕ, ◌<◌, ◌≡◌, ◌==◌, List, All, count_by}
use Rattle.heap_geometry.specs.declared.geometry.Geometry.{Geometry}
use Rattle.errand_steps.specs.Errands.{ErrandFields}

-- the list has the errands of the heap's callers, each once, in any order
pub record AreAllErrands (g : Geometry) (errands : ℕ → ErrandFields) (list : List ErrandFields) : Type 0 where
  pub each : All (λ e. (e.caller < g.callers) × (e ≡ errands e.caller)) list
  pub once : (caller : ℕ) → caller < g.callers → count_by (λ (e : ErrandFields). e.caller == caller) list ≡ 1
