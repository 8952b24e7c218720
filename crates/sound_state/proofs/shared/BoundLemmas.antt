-- A descriptor has a superblock or not by the words alone: the stacks are one list each.
use Rattle.std.proofs.Common.{ℕ, ◌+◌, subst, ◌==◌, ◌&&◌, not, IsTrue}
use Rattle.sound_state.proofs.Common.{Geometry, occurs, is_empty, State, Lists, IsSoundWith, IsSoundWithoutCounts, callers_sum, IsChained, anchor_for, errand_away}
use Rattle.sound_state.proofs.Common.{is_bound, superblock_of, IsBound}
use Rattle.sound_state.specs.Consequences.{AddsUp}
use Rattle.sound_state.proofs.shared.StackedLemmas.{stacked-same}
use Rattle.sound_state.proofs.shared.TallyLemmas.{tally}

-- a descriptor that is bound by some lists is so by the sound state's
pub bound-with : (g : Geometry) (s : State) (l : Lists) (d : ℕ) → IsSoundWith g s l → IsBound g s d → IsTrue (is_bound g s l d)
bound-with g s l d is b =
    subst (λ xs. IsTrue ((occurs d xs + callers_sum g (errand_away d) s.errand == 0) && not (is_empty (anchor_for s d).state)))
    (stacked-same _ _ b.lists.available l.available b.listed.available is.listed.available) b.bound

-- the blocks of a bound superblock are in order
pub bound-chained : (g : Geometry) (s : State) (d : ℕ) → IsSoundWithoutCounts g s → IsBound g s d → IsChained (superblock_of g s d)
bound-chained g s d sound b =
    let l : Lists = sound.parts.0 in
    let is : IsSoundWith g s l = sound.parts.1 in
    is.chained.chained d b.exists (bound-with g s l d is b)

-- the blocks of a bound superblock add up
pub bound-adds_up : (g : Geometry) (s : State) (d : ℕ) → IsSoundWithoutCounts g s → IsBound g s d → AddsUp (superblock_of g s d)
bound-adds_up g s d sound b = tally (superblock_of g s d) (bound-chained g s d sound b)
