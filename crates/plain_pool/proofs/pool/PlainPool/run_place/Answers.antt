use Rattle.std.proofs.Common.{ℕ, ◌≤◌, take, sym, subst}
use Rattle.heap_geometry.specs.declared.limits.TheConstants.{MAX_UNITS}
use Rattle.heap_geometry.specs.declared.need.Need.TheVariants.{Large}
use Rattle.heap_geometry.specs.Place.{unit_place}
use Rattle.pool_model.specs.Pool.{pool_of}
use Rattle.plain_pool.specs.Plain.{PlainState, IsChosen, IsFull, pool_in}
use Rattle.plain_pool.specs.Search.{TakesUnit, IsGap}
use Rattle.plain_pool.proofs.ChosenLemmas.{kept-within, chosen-run, full-run, tells-take, length-first, if-none}
use Rattle.plain_pool.proofs.pool.PlainPool.run_place.Goals as goal

pub taken_units-taken-requires : goal.taken_units-taken-requires
taken_units-taken-requires c =
    kept-within c.self.inside.geometry c.self.inside.blocks c.self.inside.events.items c.self.invariant

pub returns-in_err-unit-clause-none : goal.returns-in_err-unit-clause-none
returns-in_err-unit-clause-none c =
    if-none c.from_residual.result _
    (subst (λ (s : PlainState). IsFull s.geometry (pool_in s) (Large c.args.units)) c.self.view_is
    (full-run c.self.inside.geometry c.self.inside.blocks c.self.inside.events.items (take c.self.inside.geometry.units c.taken_units-taken.result)
    c.self.invariant
    (length-first c.self.inside.geometry.units MAX_UNITS c.taken_units-taken.result c.self.invariant.checked.units.1 c.taken_units-taken.ensures.len)
    (tells-take (TakesUnit c.self.inside.blocks c.self.inside.geometry.frames) c.self.inside.geometry.units MAX_UNITS
    c.taken_units-taken.result c.self.invariant.checked.units.1 c.taken_units-taken.ensures.taken) c.args.units
    (subst (λ (n : ℕ). (j : ℕ) → ¬ IsGap (take c.self.inside.geometry.units c.taken_units-taken.result) n j) c.from.ensures
    c.in_err-unit.ensures.none)))

pub returns-clause-found : goal.returns-clause-found
returns-clause-found c =
    let chosen : IsChosen c.self.inside.geometry (pool_of c.self.inside.events.items) (Large c.args.units)
    (unit_place c.self.inside.geometry.frames c.in_ok-unit.unit) =
    chosen-run c.self.inside.geometry c.self.inside.blocks c.self.inside.events.items (take c.self.inside.geometry.units c.taken_units-taken.result)
    c.self.invariant
    (length-first c.self.inside.geometry.units MAX_UNITS c.taken_units-taken.result c.self.invariant.checked.units.1 c.taken_units-taken.ensures.len)
    (tells-take (TakesUnit c.self.inside.blocks c.self.inside.geometry.frames) c.self.inside.geometry.units MAX_UNITS
    c.taken_units-taken.result c.self.invariant.checked.units.1 c.taken_units-taken.ensures.taken) c.args.units c.in_ok-unit.unit
    c.requires.some
    (subst (λ (n : ℕ). IsGap (take c.self.inside.geometry.units c.taken_units-taken.result) n c.in_ok-unit.unit) c.from.ensures
    c.in_ok-unit.ensures.found)
    (subst (λ (n : ℕ). (j : ℕ) → IsGap (take c.self.inside.geometry.units c.taken_units-taken.result) n j → c.in_ok-unit.unit ≤ j) c.from.ensures
    c.in_ok-unit.ensures.least) in
    subst (λ (p : ℕ). IsChosen c.args.self.now.geometry (pool_in c.args.self.now) (Large c.args.units) p) (sym c.place_of_unit.ensures)
    (subst (λ (s : PlainState). IsChosen s.geometry (pool_in s) (Large c.args.units)
    (unit_place c.self.inside.geometry.frames c.in_ok-unit.unit)) c.self.view_is chosen)
