use Rattle.std.proofs.Common.{ℕ, ◌<◌, take, sym, subst}
use Rattle.heap_geometry.specs.declared.limits.TheConstants.{MAX_FRAMES}
use Rattle.heap_geometry.specs.declared.need.Need.TheVariants.{Small}
use Rattle.heap_geometry.specs.Place.{block_place}
use Rattle.pool_model.specs.Pool.{pool_of}
use Rattle.plain_pool.specs.Plain.{PlainState, IsChosen, IsFull, pool_in}
use Rattle.plain_pool.specs.Stored.{HoldsStored}
use Rattle.pool_model.proofs.FreeLemmas.{some-blocks}
use Rattle.plain_pool.proofs.ChosenLemmas.{kept-placed, kept-one_class, chosen-beside, chosen-bare, full-small, tells-take, length-first, if-none}
use Rattle.plain_pool.proofs.pool.PlainPool.small_place.Goals as goal

pub least_beside-requires-clause-placed : goal.least_beside-requires-clause-placed
least_beside-requires-clause-placed c =
    kept-placed c.self.inside.geometry c.self.inside.blocks c.self.inside.events.items c.self.invariant c.args.class

pub least_beside-requires-clause-one_class : goal.least_beside-requires-clause-one_class
least_beside-requires-clause-one_class c =
    kept-one_class c.self.inside.geometry c.self.inside.blocks c.self.inside.events.items c.self.invariant c.args.class

pub returns-in-Some-clause-found : goal.returns-in-Some-clause-found
returns-in-Some-clause-found c =
    subst (λ (s : PlainState). IsChosen s.geometry (pool_in s) (Small c.args.class) c.in-Some.place) c.self.view_is
    (chosen-beside c.self.inside.geometry c.self.inside.blocks c.self.inside.events.items c.self.invariant c.args.class c.in-Some.place
    c.in-Some.ensures.found)

pub place_of-requires-clause-index : goal.place_of-requires-clause-index
place_of-requires-clause-index c = some-blocks c.args.class c.requires

pub returns-in_err-frame-clause-none : goal.returns-in_err-frame-clause-none
returns-in_err-frame-clause-none c =
    let len = length-first c.self.inside.geometry.frames MAX_FRAMES c.held_frames-held.result c.self.invariant.checked.frames.1 c.held_frames-held.ensures.len in
    if-none c.from_residual.result _
    (subst (λ (s : PlainState). IsFull s.geometry (pool_in s) (Small c.args.class)) c.self.view_is
    (full-small c.self.inside.geometry c.self.inside.blocks c.self.inside.events.items (take c.self.inside.geometry.frames c.held_frames-held.result)
    c.self.invariant
    (tells-take (HoldsStored c.self.inside.blocks) c.self.inside.geometry.frames MAX_FRAMES c.held_frames-held.result
    c.self.invariant.checked.frames.1 c.held_frames-held.ensures.held)
    c.args.class c.in_default.ensures.none
    (λ j below. c.in_err-frame.ensures.none j (subst (λ (n : ℕ). j < n) (sym len) below))))

pub returns-clause-found : goal.returns-clause-found
returns-clause-found c =
    let len = length-first c.self.inside.geometry.frames MAX_FRAMES c.held_frames-held.result c.self.invariant.checked.frames.1 c.held_frames-held.ensures.len in
    let chosen : IsChosen c.self.inside.geometry (pool_of c.self.inside.events.items) (Small c.args.class) (block_place c.in_ok-frame.frame c.args.class 0) =
    chosen-bare c.self.inside.geometry c.self.inside.blocks c.self.inside.events.items (take c.self.inside.geometry.frames c.held_frames-held.result)
    c.self.invariant
    (tells-take (HoldsStored c.self.inside.blocks) c.self.inside.geometry.frames MAX_FRAMES c.held_frames-held.result
    c.self.invariant.checked.frames.1 c.held_frames-held.ensures.held)
    c.args.class c.in_ok-frame.frame c.requires c.in_default.ensures.none
    (subst (λ (n : ℕ). c.in_ok-frame.frame < n) len c.in_ok-frame.ensures.found.0) c.in_ok-frame.ensures.found.1
    c.in_ok-frame.ensures.least in
    subst (λ (p : ℕ). IsChosen c.args.self.now.geometry (pool_in c.args.self.now) (Small c.args.class) p) (sym c.place_of.ensures.place)
    (subst (λ (s : PlainState). IsChosen s.geometry (pool_in s) (Small c.args.class) (block_place c.in_ok-frame.frame c.args.class 0))
    c.self.view_is chosen)
