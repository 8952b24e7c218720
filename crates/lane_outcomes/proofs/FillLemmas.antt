-- What the writes that fill a block do to a pool.
use Rattle.std.proofs.Common.{ℕ, List, map, refl, sym, ap, ◌∙◌, inl, inr}
use Rattle.std.specs.List.{range_with_len}
use Rattle.std.proofs.lemmas.Bool.{cases_eq}
use Rattle.pool_model.specs.declared.event.Event.{Event}
use Rattle.pool_model.specs.declared.event.Event.TheVariants.{Write}
use Rattle.pool_model.specs.Pool.{Pool, block_at, pool_after, written}
use Rattle.pool_model.proofs.PoolLemmas.{block_at-changed_other, block_at-changed_same}
use Rattle.lane_outcomes.specs.declared.registers.HeldBlock.{HeldBlock}
use Rattle.lane_outcomes.specs.Standing.{OwnsHeld}
use Rattle.lane_outcomes.proofs.HoldLemmas.{owns-on}

-- writes of words from `first` on, each with its value
abbrev pub writes_of : ℕ → ℕ → (ℕ → ℕ) → ℕ → ℕ → List Event
writes_of caller place value first count = map (λ i. Write caller place i (value i)) (range_with_len first count)

-- a caller's block is still its own after a write of some block, and has as many words
pub owns-written :
    (pool : Pool) (caller : ℕ) (held : HeldBlock) (writer place i v : ℕ) → OwnsHeld pool caller held
    → OwnsHeld (pool_after pool (Write writer place i v)) caller held
owns-written pool caller held writer place i v h =
    elim (cases_eq held.place place) [
      | inl same ↦ record {
        block = written i v h.block;
        live = rw same (block_at-changed_same place (written i v) pool h.block (λ b. refl) (ap (λ (p : ℕ). block_at p pool) (sym same) ∙ h.live));
        owned = h.owned;
        need_is = h.need_is;
        words_are = h.words_are;
      }
      | inr differ ↦ owns-on pool _ caller held h (block_at-changed_other place held.place (written i v) pool (λ b. refl) differ ∙ h.live)
    ]
