-- A refusal finds few bare frames.
use Rattle.std.proofs.Common.{ℕ, ◌≡◌, ◌<◌, ◌+◌, ◌*◌, [], ◌-◌}
use Rattle.sound_state.proofs.Common.{Geometry, CLASSES, pool_of, State, holds_of, Lists, IsSoundWith}
use Rattle.pool_model.specs.Legal.{IsBare, IsCrowded}
use Rattle.sound_state.proofs.counts.AtMostLemmas.{at_most-sum}
use Rattle.sound_state.proofs.counts.BareFrames.{bare-weighs}
use Rattle.sound_state.proofs.counts.BareWeights.{frame_weighs, frames-weigh}

-- few frames are bare where none is on the stack, and a caller has neither a frame nor a reserved block
pub refusal-counted :
    (g : Geometry) (s : State) (l : Lists) (caller : ℕ) → IsSoundWith g s l → caller < g.callers → l.frames ≡ []
    → (holds_of (s.errand caller).point).frames ≡ [] → (holds_of (s.errand caller).point).credits ≡ [] → IsCrowded g (pool_of s.history)
refusal-counted g s l caller sound has empty no_frame no_credit =
    at_most-sum (g.heaps * CLASSES + g.callers - 1) g.frames (frame_weighs g s l) (IsBare (pool_of s.history))
    (λ f below bare. bare-weighs g s l f sound empty below bare) (frames-weigh g s l caller has no_frame no_credit)
