-- What a step at the descriptors or the hazard words leaves to do.
use Rattle.std.proofs.Common.{ℕ, ◌≡◌, ◌<◌, ◌+◌, arith, sym, subst, inr}
use Rattle.sound_state.proofs.Common.{Geometry, descriptor_count, SeatFields, DescPoint, Continuation, Desc, next_of, plan_point_of, State, IsSoundWithoutCounts}
use Rattle.word_table.specs.declared.name.WordName.TheVariants as name
use Rattle.word_table.specs.Seats.{desc_named}
use Rattle.step_parts.specs.declared.hazard.point.DescPoint.TheVariants as desc
use Rattle.step_parts.specs.hazard.Points.{after_head}
use Rattle.sound_laws.specs.bounds.StepsLeft.{steps_left}
use Rattle.errand_steps.specs.tables.Lengths.{frame_left}
use Rattle.sound_laws.proofs.bounds_lemmas.LeftDefs.{LeavesLess}
use Rattle.sound_state.proofs.shared.PointLemmas.{fits-now}
use Rattle.sound_state.proofs.shared.StockLemmas.{looking-has}
use Rattle.std.proofs.lemmas.Bool.Decides.{nat_tests}
use Rattle.sound_laws.proofs.bounds_lemmas.WordFinds.{says-at}

-- a head that names a descriptor leads to fewer steps left than before its load
head-less :
    (g : Geometry) (s : SeatFields) (v d : ℕ) (o : Continuation) → d < descriptor_count s.geometry → v ≡ d + 1
    → steps_left g (Desc (after_head s (desc_named s.geometry v)) o) < frame_left g s + 6
unfolding steps_left
head-less g s v d o has is = grind (arith, has, is)

-- a step at the descriptors or the hazard words is lost or leaves less to do
pub desc-leaves :
    (g : Geometry) (s : State) (caller : ℕ) (p : DescPoint) (o : Continuation) → IsSoundWithoutCounts g s → caller < g.callers
    → (s.errand caller).point ≡ Desc p o → LeavesLess g s (Desc p o)
unfolding plan_point_of next_of steps_left
desc-leaves g s caller (desc.LoadDescHead seat) o sound has stands =
    let fits = fits-now g s caller (Desc (desc.LoadDescHead seat) o) sound has stands in
    let (d, within, is) = looking-has g s sound caller seat o has stands in
    inr (inr (head-less g seat (s.word name.DescHead) d o (subst (λ k. d < descriptor_count k) (sym fits.point.geometry) within) is))
desc-leaves g s caller p o sound has stands =
    grind (arith, nat_tests, fits-now g s caller (Desc p o) sound has stands, says-at g s caller (Desc p o) sound has stands)
