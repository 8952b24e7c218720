-- The slots of a lane, its magazines' blocks and its registers behind them: each word of their blocks holds a number.
use Rattle.std.proofs.Common.{ℕ, ◌≡◌, ◌+◌, ◌<◌, List, [], ◌∷◌, ◌++◌, Option, Some, None, length, set, refl, sym, ◌∙◌, ap, subst, inl, inr, arith, append-nil, ◌⊎◌}
use Rattle.std.proofs.lemmas.List.{get_or-set_same, append_cancel_left}
use Rattle.heap_geometry.specs.declared.geometry.Geometry.{Geometry}
use Rattle.pool_model.specs.declared.event.Event.{Event}
use Rattle.pool_model.specs.Histories.{Begins, own}
use Rattle.pool_model.specs.Legal.{IsLegalEventWithoutCounts, IsLegalWithoutCounts}
use Rattle.pool_model.proofs.HistoryLemmas.{EachAfter-cut, own-append}
use Rattle.pool_model.proofs.WellFormedLemmas.{sound-of}
use Rattle.pool_model.specs.WellFormed.{IsWellFormed}
use Rattle.lane_outcomes.specs.declared.registers.HeldBlock.{HeldBlock}
use Rattle.lane_outcomes.specs.Lane.{held_in}
use Rattle.lane_outcomes.specs.LaneCounts.{as_one}
use Rattle.lane_outcomes.proofs.HoldLemmas.{HoldsOnce}
use Rattle.lane_outcomes.proofs.FollowLemmas.{KeepsAt}
use Rattle.lane_outcomes.proofs.SlotLemmas.{slot-held, slots}
use Rattle.roomy_traces.proofs.LaneLemmas.{HasMoment}
use Rattle.roomy_traces.proofs.ContentLemmas.{AtMoments, HasContents}
use Rattle.pool_model.specs.Pool.{Block, block_at, pool_of}
use Rattle.pool_model.proofs.OwnerLemmas.{others-keep_all}
use Rattle.pool_model.proofs.PoolLemmas.{every-found}
use Rattle.lane_outcomes.specs.Standing.{OwnsHeld}

-- no two registers hold the same block, where no two slots do
pub once-registers : (kept : List HeldBlock) (registers : List (Option HeldBlock)) → HoldsOnce (slots kept registers) → HoldsOnce registers
once-registers kept registers once r q held other at_r at_q differ =
    once (length kept + r) (length kept + q) held other (slot-held kept registers r ∙ at_r) (slot-held kept registers q ∙ at_q)
    (λ e. differ (omega (arith, e)))

-- no two slots hold the same block, where there is a moment
pub once-kept :
    (history : List Event) (caller : ℕ) (done : List Event) (kept : List HeldBlock) (registers : List (Option HeldBlock)) (got gone : ℕ)
    → KeepsAt as_one history caller done kept registers got gone → HasMoment caller history done → HoldsOnce (slots kept registers)
once-kept history caller done kept registers got gone keeps moment = (keeps moment.0 moment.1 moment.2).holds.once

-- a register behind the blocks that are kept is set
pub set-here :
    (kept : List HeldBlock) (registers : List (Option HeldBlock)) (r : ℕ) (new : Option HeldBlock) → r < length registers
    → held_in (slots kept (set registers r new)) (length kept + r) ≡ new
set-here kept registers r new within = slot-held kept (set registers r new) r ∙ get_or-set_same registers r new None within

-- of two beginnings of a list one begins the other
begins-order :
    (one two more rest : List Event) → one ++ more ≡ two ++ rest → ((between : List Event) × (two ≡ one ++ between)) ⊎ ((between : List Event) × (one ≡ two ++ between))
begins-order [] two more rest is = inl (two, refl)
begins-order (event ∷ one) [] more rest is = inr (event ∷ one, refl)
begins-order (event ∷ one) (next ∷ two) more rest is =
    let e : event ∷ (one ++ more) ≡ next ∷ (two ++ rest) = is in
    let same : event ≡ next = cc in
    let tails : one ++ more ≡ two ++ rest = cc in
    elim (begins-order one two more rest tails) [
      | inl later ↦ inl (later.0, ap (λ es. next ∷ es) later.1 ∙ ap (λ x. x ∷ (one ++ later.0)) (sym same))
      | inr earlier ↦ inr (earlier.0, ap (λ es. event ∷ es) earlier.1 ∙ ap (λ x. x ∷ (two ++ earlier.0)) same)
    ]

-- a block that a caller owns whenever these are its events contains the same then, a word for each of its words
pub record HasSize (history : List Event) (caller : ℕ) (done : List Event) (held : HeldBlock) : Type 0 where
  pub contents : List (Option ℕ)
  pub many : length contents ≡ held.words
  pub placed : AtMoments history caller done (HasContents caller held.place contents)

pub owned-size :
    (g : Geometry) (history : List Event) (caller : ℕ) (done : List Event) (held : HeldBlock) → IsLegalWithoutCounts g history
    → AtMoments history caller done (λ pool. OwnsHeld pool caller held) → HasMoment caller history done → HasSize history caller done held
owned-size g history caller done held legal owned (at, begins, own_at) =
    let here = owned at begins own_at in
    let legal_at = λ (before : List Event) (b : Begins before history).
    EachAfter-cut (IsLegalEventWithoutCounts g) before b.0 (subst (IsLegalWithoutCounts g) b.1 legal) in
    let none = λ (one two between : List Event) (own_one : own caller one ≡ done) (own_two : own caller two ≡ done) (is : two ≡ one ++ between).
    append_cancel_left done (own caller between) []
    (ap (λ es. es ++ own caller between) (sym own_one) ∙ sym (own-append caller one between) ∙ ap (own caller) (sym is) ∙ own_two ∙ sym (append-nil done)) in
    record {
      contents = here.block.contents;
      many =
          (every-found (IsWellFormed g) held.place (pool_of at) here.block (sound-of g at (legal_at at begins)).each here.live).full
          ∙ sym here.words_are;
      placed = λ before b own_is.
          let mine = owned before b own_is in
          elim (begins-order at before begins.0 b.0 (sym begins.1 ∙ b.1)) [
            | inl (between, is) ↦
                record {
                  block = here.block;
                  live =
                      ap (λ es. block_at held.place (pool_of es)) is
                      ∙ others-keep_all g at between caller held.place here.block (subst (IsLegalWithoutCounts g) is (legal_at before b))
                      (none at before between own_at own_is is) here.live here.owned;
                  owned = here.owned;
                  contents_are = refl;
                }
            | inr (between, is) ↦
                let later = others-keep_all g before between caller held.place mine.block (subst (IsLegalWithoutCounts g) is (legal_at at begins))
                (none before at between own_is own_at is) mine.live mine.owned in
                let same : mine.block ≡ here.block =
                let e : Some mine.block ≡ Some here.block = sym later ∙ ap (λ es. block_at held.place (pool_of es)) (sym is) ∙ here.live in cc in
                record { block = mine.block; live = mine.live; owned = mine.owned; contents_are = ap (λ (b : Block). b.contents) same }
          ];
    }
