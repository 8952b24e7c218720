-- Every step is lost, clears an empty superblock, or leaves fewer steps to do.
use Rattle.std.proofs.Common.{ℕ, false, ◌≡◌, ◌<◌, ap, arith, refl, inl, inr, true≢false}
use Rattle.sound_state.proofs.Common.{Geometry, Point, Idle, Block, Stack, Desc, Partial, Large, settle_of, State, Step, found_at, IsSoundWithoutCounts, is_idle}
use Rattle.sound_laws.specs.bounds.StepsLeft.{ComesNearer, steps_left}
use Rattle.sound_laws.proofs.bounds_lemmas.BlockLeft.{block-leaves}
use Rattle.sound_laws.proofs.bounds_lemmas.DescLeft.{desc-leaves}
use Rattle.sound_laws.proofs.bounds_lemmas.LargeLeft.{large-leaves}
use Rattle.sound_laws.proofs.bounds_lemmas.LeftDefs.{LeavesLess}
use Rattle.sound_laws.proofs.bounds_lemmas.PartialLeft.{partial-leaves}
use Rattle.sound_laws.proofs.bounds_lemmas.SettleLeft.{left-settles}
use Rattle.sound_laws.proofs.bounds_lemmas.StackLeft.{stack-leaves}

-- at every point of a call a step is lost, clears or leaves fewer steps to do
point-leaves :
    (g : Geometry) (s : State) (caller : ℕ) (p : Point) → IsSoundWithoutCounts g s → caller < g.callers → (s.errand caller).point ≡ p
    → is_idle p ≡ false → LeavesLess g s p
point-leaves g s caller Idle sound has stands busy = absurd (true≢false busy)
point-leaves g s caller (Block p o) sound has stands busy = block-leaves g s caller p o sound has stands
point-leaves g s caller (Stack p o) sound has stands busy = stack-leaves g s caller p o sound has stands
point-leaves g s caller (Desc p o) sound has stands busy = desc-leaves g s caller p o sound has stands
point-leaves g s caller (Partial p o) sound has stands busy = partial-leaves g s caller p o sound has stands
point-leaves g s caller (Large p o) sound has stands busy = large-leaves g s caller p o sound has stands

pub steps-go_on :
    (g : Geometry) (s : State) (caller : ℕ) (s' : State) → IsSoundWithoutCounts g s → caller < g.callers → Step s caller s' → ComesNearer g s caller s'
steps-go_on g s caller s' sound has step =
    let most = left-settles g s caller sound has in
    let here : steps_left g (s'.errand caller).point ≡ steps_left g (settle_of (s.errand caller) (found_at s caller)).point =
    ap (λ e. steps_left g e.point) step.errand.here in
    let less : LeavesLess g s (s.errand caller).point = point-leaves g s caller (s.errand caller).point sound has refl step.busy in
    elim less [
      | inl lost ↦ inl lost
      | inr rest ↦ elim rest [ inl clears ↦ inr (inl clears) | inr fewer ↦ inr (inr (omega (arith, most, fewer, here))) ]
    ]
