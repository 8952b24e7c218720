-- What moves of any callers do to the tag of a superblock.
use Rattle.std.proofs.Common.{ℕ, ◌≡◌, ◌≢◌, ◌<◌, ◌+◌, List, [], ◌∷◌, arith, ap}
use Rattle.sound_state.proofs.Common.{Geometry, anchor_of, State, IsSoundWithoutCounts, anchor_for, IsBound, Move, begins, steps, Moved}
use Rattle.word_table.specs.declared.name.WordName.TheVariants as name
use Rattle.sound_state.specs.Tags.{pops_in, ReachesBound}
use Rattle.sound_state.proofs.ReachLemmas.{move-sound}
use Rattle.sound_state.proofs.tags.TagSteps.{tag-stepped}

-- any move raises the tag of a bound superblock where it pops a block of it, and leaves it else
tag-moved :
    (g : Geometry) (s : State) (move : Move) (s' : State) (d : ℕ) → IsSoundWithoutCounts g s → Moved g s move s' → IsBound g s d
    → (anchor_for s' d).tag ≡ (anchor_for s d).tag + pops_in s d move
tag-moved g s (begins caller call) s' d sound moved bound = omega (arith, ap (λ (t : State). (anchor_for t d).tag) moved.1.after)
tag-moved g s (steps caller) s' d sound moved bound = tag-stepped g s caller s' d sound moved.0 moved.1 bound

pub tag-reached :
    (g : Geometry) (d : ℕ) (s : State) (moves : List Move) (n : ℕ) (s' : State) → IsSoundWithoutCounts g s → ReachesBound g d s moves n s'
    → (anchor_for s' d).tag ≡ (anchor_for s d).tag + n
tag-reached g d s [] n s' sound reached = omega (arith, reached.0, ap (λ (t : State). (anchor_for t d).tag) reached.1)
tag-reached g d s (move ∷ rest) n s' sound (next, others, bound, moved, reached, all) =
    let first = tag-moved g s move next d sound moved bound in
    let after = tag-reached g d next rest others s' (move-sound g s move next sound moved) reached in
    omega (arith, first, after, all)

pub tag-rises :
    (g : Geometry) (d : ℕ) (s : State) (moves : List Move) (n : ℕ) (s' : State) → IsSoundWithoutCounts g s → ReachesBound g d s moves n s'
    → 0 < n → (anchor_for s d).tag < (anchor_for s' d).tag
tag-rises g d s moves n s' sound reached some = omega (arith, tag-reached g d s moves n s' sound reached, some)

pub word-differs :
    (g : Geometry) (d : ℕ) (s : State) (moves : List Move) (n : ℕ) (s' : State) → IsSoundWithoutCounts g s → ReachesBound g d s moves n s'
    → 0 < n → s'.word (name.Anchor d) ≢ s.word (name.Anchor d)
word-differs g d s moves n s' sound reached some same =
    let bad : ⊥ = omega (arith, tag-rises g d s moves n s' sound reached some, ap (λ w. (anchor_of w).tag) same) in bad
