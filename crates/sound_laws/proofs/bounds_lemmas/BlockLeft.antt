-- In a superblock every step is lost or leaves fewer steps to do.
use Rattle.std.proofs.Common.{ℕ, Option, Some, ◌≡◌, ◌<◌, ◌+◌, [], refl, arith, sym, subst, inr, All}
use Rattle.std.proofs.lemmas.Bool.{lt-ltb}
use Rattle.std.proofs.lemmas.List.Elements.{All-head}
use Rattle.sound_state.proofs.Common.{Geometry, Site, descriptor_count, SeatFields, IsSiteOf, BlockPoint, Continuation, Point, Block, next_of, plan_point_of, State, Lists}
use Rattle.sound_state.proofs.Common.{IsSo, recalls_of, bound_at, bound_here, IsSoundWithoutCounts, AnchorFields, anchor_for}
use Rattle.packed_words.specs.declared.prefix.Prefix.TheVariants.{Small}
use Rattle.word_table.specs.declared.name.WordName.TheVariants as name
use Rattle.word_table.specs.Seats.{anchor_in}
use Rattle.step_parts.specs.declared.superblock.point.BlockPoint.TheVariants as block
use Rattle.step_parts.specs.superblock.Points.{after_anchor, after_return_anchor, after_prefix, after_push_anchor}
use Rattle.sound_laws.specs.bounds.StepsLeft.{steps_left}
use Rattle.errand_steps.specs.tables.Lengths.{held_left}
use Rattle.sound_laws.proofs.bounds_lemmas.BlockFinds.{anchor-finds, prefix-finds}
use Rattle.sound_laws.proofs.bounds_lemmas.LeftDefs.{LeavesLess}
use Rattle.sound_state.proofs.shared.PointLemmas.{fits-now, so-at}
use Rattle.std.proofs.lemmas.Bool.Decides.{nat_tests}
use Rattle.sound_laws.proofs.bounds_lemmas.WordFinds.{says-at}

-- a call that goes on from q has fewer steps left than so many
abbrev LeadsBelow : Geometry → Continuation → ℕ → BlockPoint → Type 0
LeadsBelow g o left q = steps_left g (Block q o) < left

-- a prefix word that names a descriptor leads to fewer steps
prefix-below :
    (g : Geometry) (s : SeatFields) (frame i d : ℕ) (o : Continuation) → s.geometry ≡ g → d < descriptor_count g
    → LeadsBelow g o (held_left g + 9) (after_prefix s frame i (Some (Small d)))
unfolding steps_left
prefix-below g s frame i d o same names =
    let within : d < descriptor_count s.geometry = subst (λ h. d < descriptor_count h) (sym same) names in
    rw (lt-ltb d (descriptor_count s.geometry) within) (omega arith)

-- a load of the anchor at hand leads on, where its caller remembers that superblock and each anchor leads on
anchor-leads :
    (g : Geometry) (s : State) (caller : ℕ) (p : Point) (at : Site) (Q : Option AnchorFields → Type 0) → IsSoundWithoutCounts g s → caller < g.callers
    → (s.errand caller).point ≡ p → IsSiteOf g caller at → recalls_of p ≡ bound_here at → ((a : AnchorFields) → Q (Some a))
    → Q (anchor_in at.seat.class (s.word (name.Anchor at.desc)))
anchor-leads g s caller p at Q sound has is site same leads =
    let l : Lists = sound.parts.0 in
    let so : All (IsSo g s l caller) (bound_here at) = subst (All (IsSo g s l caller)) same (so-at g s l caller p sound.parts.1 has is) in
    let bound = All-head (IsSo g s l caller) (bound_at at.desc at.frame at.seat.class) [] so in
    subst Q (sym (anchor-finds g s l caller at sound.parts.1 site bound.0 bound.1)) (leads (anchor_for s at.desc))

-- every step in a superblock is lost or leaves fewer steps to do
pub block-leaves :
    (g : Geometry) (s : State) (caller : ℕ) (p : BlockPoint) (o : Continuation) → IsSoundWithoutCounts g s → caller < g.callers
    → (s.errand caller).point ≡ Block p o → LeavesLess g s (Block p o)
unfolding plan_point_of next_of steps_left recalls_of
block-leaves g s caller (block.LoadAnchor site share) o sound has stands =
    let p : Point = Block (block.LoadAnchor site share) o in
    let fit = (fits-now g s caller p sound has stands).point in
    inr (inr (anchor-leads g s caller p site (λ x. LeadsBelow g o 5 (after_anchor site share x)) sound has stands fit.0 refl (λ a. omega arith)))
block-leaves g s caller (block.LoadReturn site i more) o sound has stands =
    let p : Point = Block (block.LoadReturn site i more) o in
    let fit = (fits-now g s caller p sound has stands).point in
    inr (inr (anchor-leads g s caller p site (λ x. LeadsBelow g o 7 (after_return_anchor site i more x)) sound has stands fit.0.site refl (λ a. omega arith)))
block-leaves g s caller (block.LoadPushAnchor site i stored) o sound has stands =
    let p : Point = Block (block.LoadPushAnchor site i stored) o in
    let fit = (fits-now g s caller p sound has stands).point in
    let Q : Option AnchorFields → Type 0 = λ x. LeadsBelow g o (held_left g + 8) (after_push_anchor site i stored x) in
    inr (inr (anchor-leads g s caller p site Q sound has stands fit.site refl (λ a. grind arith)))
block-leaves g s caller (block.LoadPrefix seat frame i) o sound has stands =
    let fit = (fits-now g s caller (Block (block.LoadPrefix seat frame i) o) sound has stands).point in
    let finds = prefix-finds g s sound.parts.0 caller seat frame i o sound.checked sound.parts.1 has stands in
    inr (inr
    (subst (λ w. LeadsBelow g o (held_left g + 9) (after_prefix seat frame i w)) (sym finds.2)
    (prefix-below g seat frame i finds.0 o fit.0.geometry finds.1)))
block-leaves g s caller p o sound has stands =
    grind (arith, nat_tests, fits-now g s caller (Block p o) sound has stands, says-at g s caller (Block p o) sound has stands)
