-- At each moment before a refusal a lane holds at most its most blocks.
use Rattle.std.proofs.Common.{ℕ, count_by, cond, true, ◌≡◌, ◌⊎◌, ◌+◌, ◌≤◌, List, [], ◌∷◌, ◌++◌, Option, max, refl, sym, ◌∙◌, ap, subst, inl, inr, arith}
use Rattle.std.specs.List.{AllByRecursion}
use Rattle.std.proofs.lemmas.List.Sums.{sum_by-append}
use Rattle.heap_geometry.specs.Need.{need_of}
use Rattle.pool_model.specs.declared.event.Event.{Event}
use Rattle.pool_model.specs.declared.event.Event.TheVariants.{Refuse}
use Rattle.pool_model.specs.Counts.{is_alloc, is_free}
use Rattle.pool_model.specs.Histories.{Begins}
use Rattle.trace_text.specs.declared.trace.Op.{Op}
use Rattle.lane_outcomes.specs.declared.outcome.Outcome.{Outcome}
use Rattle.lane_outcomes.specs.declared.outcome.Outcome.TheVariants as outcome
use Rattle.lane_outcomes.specs.LaneCounts.{as_one}
use Rattle.lane_outcomes.specs.Rows.{Setting}
use Rattle.lane_outcomes.specs.Cached.{CachedPosition, CachedRow}
use Rattle.lane_outcomes.proofs.SlotRows.{row-refused}
use Rattle.lane_outcomes.proofs.WalkLemmas.{refused-of}
use Rattle.roomy_traces.specs.Roomy.{Filled, filled_in, moves, held_by, held_during}
use Rattle.roomy_traces.proofs.LaneLemmas.{all-ends, count-begins}
use Rattle.roomy_traces.proofs.PieceLemmas.{Counts}
use Rattle.roomy_traces.proofs.SpentLemmas.{IsUnspent}
use Rattle.roomy_traces.proofs.SerialRows.{IsAnswered}

-- an event that isn't a refusal
abbrev pub IsUnrefusing : Event → Type 0
IsUnrefusing (Refuse by need) = ⊥
IsUnrefusing event = Unit {0}

-- an outcome is an answer, or a refusal
pub answered-or : (result : Outcome) → IsUnspent result → IsAnswered result ⊎ (result ≡ outcome.Refused)
answered-or outcome.Spent unspent = absurd unspent
answered-or outcome.Refused unspent = inr refl
answered-or result unspent = inl tt

-- a refusal adds its event
pub row-refuses :
    (setting : Setting) (depth : ℕ) (position : CachedPosition) (operation : Op) (piece : List Event)
    → CachedRow setting depth position operation outcome.Refused piece → AllByRecursion IsUnrefusing piece → ⊥
row-refuses setting depth position operation piece row none =
    let (need, is, events) = row-refused setting depth position operation piece row in
    let refused = refused-of setting.caller need (need_of need) piece events in
    (all-ends IsUnrefusing refused.looked (Refuse setting.caller need ∷ []) (subst (AllByRecursion IsUnrefusing) refused.whole none)).0

-- a part of two lists in a row is a part of the first, or the first and a part of the second
pub begins-cases :
    (part piece tail : List Event) → Begins part (piece ++ tail)
    → Begins part piece ⊎ ((more : List Event) × (part ≡ piece ++ more) × Begins more tail)
begins-cases part [] tail begins = inr (part, refl, begins)
begins-cases [] (event ∷ piece) tail begins = inl (event ∷ piece, refl)
begins-cases (first ∷ part) (event ∷ piece) tail (rest, is) =
    let e : event ∷ (piece ++ tail) ≡ first ∷ (part ++ rest) = is in
    let same : first ≡ event = cc in
    let tails : piece ++ tail ≡ part ++ rest = cc in
    elim (begins-cases part piece tail (rest, tails)) [
      | inl inside ↦ inl (inside.0, ap (λ x. x ∷ piece) (sym same) ∙ ap (λ xs. first ∷ xs) inside.1)
      | inr past ↦ inr (past.0, ap (λ xs. first ∷ xs) past.1 ∙ ap (λ x. x ∷ (piece ++ past.0)) same, past.2)
    ]

-- a part of the events of one operation leaves the lane at most the most blocks from there on
pub inside-most :
    (now next most during given freed : ℕ) (part piece : List Event) → Counts piece given freed → given + now ≡ freed + next → now ≤ during → next ≤ most
    → (given ≡ 0) ⊎ ((freed ≡ 0) ⊎ (given + now ≤ during)) → Begins part piece
    → count_by is_alloc part + now ≤ count_by is_free part + max during most
inside-most now next most during given freed part piece counts balance least later (inl none) begins =
    omega (arith, counts.gives, least, count-begins is_alloc part piece begins)
inside-most now next most during given freed part piece counts balance least later (inr (inl none)) begins =
    omega (arith, counts.gives, balance, count-begins is_alloc part piece begins, later)
inside-most now next most during given freed part piece counts balance least later (inr (inr both)) begins =
    omega (arith, counts.gives, both, count-begins is_alloc part piece begins)

pub refused-most :
    (now most during : ℕ) (part piece : List Event) → count_by is_alloc piece ≡ 0 → now ≤ during → Begins part piece
    → count_by is_alloc part + now ≤ count_by is_free part + max during most
refused-most now most during part piece none least begins = omega (arith, none, least, count-begins is_alloc part piece begins)

-- a part that goes on behind the events of one operation leaves the lane at most the most blocks from there on
pub behind-most :
    (now next most during given freed : ℕ) (part piece more : List Event) → Counts piece given freed → given + now ≡ freed + next → part ≡ piece ++ more
    → count_by is_alloc more + next ≤ count_by is_free more + most → count_by is_alloc part + now ≤ count_by is_free part + max during most
behind-most now next most during given freed part piece more counts balance is later =
    omega (
      arith,
      counts.gives,
      counts.frees,
      balance,
      later,
      ap (count_by is_alloc) is,
      ap (count_by is_free) is,
      sum_by-append (λ e. cond (is_alloc e) 1 0) piece more,
      sum_by-append (λ e. cond (is_free e) 1 0) piece more,
    )

-- the blocks between two operations are among those during the next one, and where one moves there is one more
pub during-least : (filled : List (Option Filled)) (operation : Op) → held_by as_one filled ≤ held_during filled operation
during-least filled operation = omega arith

pub during-moved :
    (filled : List (Option Filled)) (operation : Op) (given : ℕ) → given ≤ 1 → moves (filled_in filled operation) operation ≡ true
    → given + held_by as_one filled ≤ held_during filled operation
during-moved filled operation given one moved = rw moved (omega (arith, one))
