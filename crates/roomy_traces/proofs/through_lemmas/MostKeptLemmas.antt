-- At each moment before a refusal a lane and its magazines have at most their most blocks.
use Rattle.std.proofs.Common.{ℕ, count_by, ◌≡◌, ◌⊎◌, ◌+◌, ◌≤◌, List, [], ◌∷◌, ◌++◌, Option, Some, None, length, sum, refl, sym, ◌∙◌, ap, subst, inl, inr, arith, append_assoc}
use Rattle.std.specs.List.{AllByRecursion}
use Rattle.heap_geometry.specs.declared.limits.TheConstants.{CLASSES}
use Rattle.pool_model.specs.declared.event.Event.{Event}
use Rattle.pool_model.specs.Counts.{is_alloc, is_free}
use Rattle.pool_model.specs.Histories.{Begins}
use Rattle.trace_text.specs.Traces.{IsOp}
use Rattle.trace_text.specs.declared.trace.Op.{Op}
use Rattle.heap_geometry.specs.Need.{need_of}
use Rattle.lane_outcomes.specs.declared.registers.HeldBlock.{HeldBlock}
use Rattle.trace_text.specs.Operations.{register_of}
use Rattle.lane_outcomes.specs.Deeds.{Deed, deed_of, given_by}
use Rattle.lane_outcomes.specs.Deeds as deed
use Rattle.lane_outcomes.specs.declared.outcome.Outcome.{Outcome}
use Rattle.lane_outcomes.specs.declared.outcome.Outcome.TheVariants as outcome
use Rattle.lane_outcomes.specs.Cached.{CachedPosition, CachedRow, CachedWalks, cached_after, hit_of, magazines_after, magazines_by, served_for, served_with}
use Rattle.lane_outcomes.specs.Lane.{held_in, registers_after}
use Rattle.lane_outcomes.specs.LaneCounts.{as_one, count_with}
use Rattle.lane_outcomes.specs.Magazines.{emptying, magazines_given}
use Rattle.lane_outcomes.specs.Rows.{Setting}
use Rattle.lane_outcomes.proofs.KeptLemmas.{magazines-long}
use Rattle.lane_outcomes.proofs.LanesLemmas.{Adds, walk-adds}
use Rattle.lane_outcomes.proofs.SlotRows.{row-refused}
use Rattle.roomy_traces.specs.Roomy.{Filled, IsPlain, filled_in, held_by, held_during, serial_after}
use Rattle.roomy_traces.specs.Through.{asked, kept_after, kept_freed, kept_given, most_kept, served}
use Rattle.roomy_traces.proofs.LaneLemmas.{all-begins, all-ends, count-begins}
use Rattle.roomy_traces.proofs.SpentLemmas.{IsUnspent}
use Rattle.roomy_traces.proofs.BalanceLemmas.{gives-one, row-balance}
use Rattle.roomy_traces.proofs.RegisterLemmas.{IsAlike, alike-count}
use Rattle.roomy_traces.proofs.SerialRows.{IsAnswered, asked_by, returned_by, row-serial}
use Rattle.roomy_traces.proofs.MostHeldLemmas.{IsUnrefusing, answered-or, begins-cases, behind-most, during-least, during-moved, inside-most, refused-most, row-refuses}
use Rattle.roomy_traces.proofs.through_lemmas.MagazineLemmas.{counts_of, freed-count, given-count, served-count, total}
use Rattle.roomy_traces.proofs.through_lemmas.CountLemmas.{AreNeeds, cached-counts, emptying-none, needs-after}

-- a lane through a cache stands beside the lane computed on its own: its registers are alike, and its magazines have so many blocks
pub record IsBeside (position : CachedPosition) (filled : List (Option Filled)) (kept : List ℕ) : Type 0 where
  pub alike : IsAlike position.base.registers filled
  pub needs : AreNeeds position.base.registers
  pub long : length position.magazines ≡ CLASSES
  pub counts : counts_of position.magazines ≡ kept

-- the magazines serve and keep what they do where the lane is computed on its own
served-by :
    (depth : ℕ) (magazines : List (List ℕ)) (held : Option HeldBlock) (done : Deed)
    → (counts_of (magazines_by depth magazines held done) ≡ kept_freed depth (kept_given (counts_of magazines) (asked_by done)) (returned_by held done))
    × (hit_of (served_with magazines done) ≡ served (counts_of magazines) (asked_by done))
served-by depth magazines held (deed.gives need v words place) = (given-count magazines (need_of need), served-count magazines (need_of need))
served-by depth magazines None (deed.replaces need words place) = (given-count magazines (need_of need), served-count magazines (need_of need))
served-by depth magazines (Some held) (deed.replaces need words place) = (
  freed-count depth (magazines_given magazines (need_of need)) held.place held.need
      ∙ ap (λ (c : List ℕ). kept_freed depth c (Some held.need)) (given-count magazines (need_of need)),
  served-count magazines (need_of need),
)
served-by depth magazines None deed.frees = (refl, refl)
served-by depth magazines (Some held) deed.frees = (freed-count depth magazines held.place held.need, refl)
served-by depth magazines held done = (refl, refl)

-- it still stands so behind an answered row, and magazines have served the row where they do so in the lane computed on its own
pub record GoesBeside (depth : ℕ) (position : CachedPosition) (filled : List (Option Filled)) (kept : List ℕ) (operation : Op) (result : Outcome) (piece : List Event) : Type 0 where
  pub beside :
      IsBeside (cached_after depth position operation result piece) (serial_after filled operation) (kept_after depth kept (filled_in filled operation) operation)
  pub hits : hit_of (served_for position.magazines operation result) ≡ served kept (asked (filled_in filled operation) operation)

pub goes-beside :
    (setting : Setting) (depth : ℕ) (position : CachedPosition) (filled : List (Option Filled)) (kept : List ℕ) (operation : Op) (result : Outcome) (piece : List Event)
    → IsPlain operation → IsAnswered result → CachedRow setting depth position operation result piece → IsBeside position filled kept
    → GoesBeside depth position filled kept operation result piece
goes-beside setting depth position filled kept operation result piece plain answered row beside =
    let serial = row-serial setting depth position filled operation result piece plain answered beside.alike row in
    let held = held_in position.base.registers (register_of operation) in
    let by = served-by depth position.magazines held (deed_of operation result) in
    record {
      beside = record {
        alike = serial.alike;
        needs = needs-after position.base.registers operation result plain beside.needs;
        long = magazines-long depth position.magazines held (deed_of operation result) ∙ beside.long;
        counts =
            by.0 ∙ ap (λ (k : List ℕ). kept_freed depth (kept_given k (asked_by (deed_of operation result))) (returned_by held (deed_of operation result))) beside.counts
            ∙ ap (λ a. kept_freed depth (kept_given kept a) (returned_by held (deed_of operation result))) (sym serial.asks_for)
            ∙ ap (kept_freed depth (kept_given kept (asked (filled_in filled operation) operation))) (sym serial.returns);
      };
      hits = by.1 ∙ ap (served (counts_of position.magazines)) (sym serial.asks_for) ∙ ap (λ (k : List ℕ). served k (asked (filled_in filled operation) operation)) beside.counts;
    }

-- the blocks of a lane and of its magazines are among its most ones
most-kept_now : (depth : ℕ) (filled : List (Option Filled)) (kept : List ℕ) (operations : List Op) → held_by as_one filled + sum kept ≤ most_kept depth filled kept operations
most-kept_now depth filled kept [] = omega arith
most-kept_now depth filled kept (operation ∷ operations) = omega (arith, during-least filled operation)

-- each part of what a walk adds and of the frees behind it, up to a refusal, leaves at most the most blocks
pub record HoldsThrough (caller depth : ℕ) (from to : CachedPosition) (filled : List (Option Filled)) (kept : List ℕ) (operations : List Op) : Type 0 where
  pub tail : List Event
  pub whole : to.base.done ++ emptying caller to.magazines ≡ from.base.done ++ tail
  pub bounded :
      (part : List Event) → Begins part tail → AllByRecursion IsUnrefusing part
      → count_by is_alloc part + (held_by as_one filled + sum kept) ≤ count_by is_free part + most_kept depth filled kept operations

answered-through :
    (setting : Setting) (depth : ℕ) (from to : CachedPosition) (filled : List (Option Filled)) (kept : List ℕ) (operation : Op) (operations : List Op)
    (result : Outcome) (piece : List Event) → IsPlain operation → IsOp operation → IsBeside from filled kept → IsAnswered result
    → CachedRow setting depth from operation result piece → GoesBeside depth from filled kept operation result piece
    → HoldsThrough setting.caller depth (cached_after depth from operation result piece) to (serial_after filled operation)
    (kept_after depth kept (filled_in filled operation) operation) operations
    → HoldsThrough setting.caller depth from to filled kept (operation ∷ operations)
answered-through setting depth from to filled kept operation operations result piece plain ranges beside answered row goes later =
    let next : List (Option Filled) = serial_after filled operation in
    let keeps : List ℕ = kept_after depth kept (filled_in filled operation) operation in
    let c = cached-counts setting depth from operation result piece plain beside.needs beside.long row in
    let had : total from.magazines ≡ sum kept = ap (λ (k : List ℕ). sum k) beside.counts in
    let has : total (magazines_after depth from.magazines from.base.registers operation result) ≡ sum keeps = ap (λ (k : List ℕ). sum k) goes.beside.counts in
    let now : ℕ = held_by as_one filled + sum kept in
    let then : ℕ = held_by as_one next + sum keeps in
    let during : ℕ = held_during filled operation + sum kept in
    let most : ℕ = most_kept depth next keeps operations in
    let balance : c.given + now ≡ c.freed + then =
    omega (
      arith,
      row-balance as_one setting depth from operation result piece plain ranges beside.alike.many row,
      alike-count as_one from.base.registers filled beside.alike,
      alike-count as_one (registers_after from.base.registers operation result) next goes.beside.alike,
      c.gives,
      c.balance,
      had,
      has,
    ) in
    let least : now ≤ during = omega (arith, during-least filled operation) in
    let few : c.given ≤ 1 = omega (arith, c.gives, gives-one (deed_of operation result)) in
    let sided : (c.given ≡ 0) ⊎ ((c.freed ≡ 0) ⊎ (c.given + now ≤ during)) =
    elim (row-serial setting depth from filled operation result piece plain answered beside.alike row).sided [
      | inl none ↦ inl (omega (arith, none, c.gives))
      | inr (inl none) ↦ inr (inl (omega (arith, none, c.few)))
      | inr (inr moved) ↦ inr (inr (omega (arith, during-moved filled operation c.given few moved)))
    ] in
    record {
      tail = piece ++ later.tail;
      whole = later.whole ∙ append_assoc from.base.done piece later.tail;
      bounded = λ part begins none. elim (begins-cases part piece later.tail begins) [
        | inl inside ↦
            inside-most now then most during c.given c.freed part piece c.counts balance least (most-kept_now depth next keeps operations) sided inside
        | inr past ↦
            behind-most now then most during c.given c.freed part piece past.0 c.counts balance past.1
            (later.bounded past.0 past.2 (all-ends IsUnrefusing piece past.0 (subst (AllByRecursion IsUnrefusing) past.1 none)))
      ];
    }

refused-through :
    (setting : Setting) (depth : ℕ) (from to : CachedPosition) (filled : List (Option Filled)) (kept : List ℕ) (operation : Op) (operations : List Op)
    (piece : List Event) → IsPlain operation → IsBeside from filled kept → CachedRow setting depth from operation outcome.Refused piece
    → Adds (cached_after depth from operation outcome.Refused piece) to
    → HoldsThrough setting.caller depth from to filled kept (operation ∷ operations)
refused-through setting depth from to filled kept operation operations piece plain beside row later =
    let c = cached-counts setting depth from operation outcome.Refused piece plain beside.needs beside.long row in
    let none = ap (λ done. count_with as_one (given_by done)) (row-refused setting depth from operation piece row).1 in
    let none_given : count_by is_alloc piece ≡ 0 = omega (arith, c.counts.gives, c.gives, none) in
    let empties : List Event = emptying setting.caller to.magazines in
    let rest : List Event = later.0 ++ empties in
    record {
      tail = piece ++ rest;
      whole =
          ap (λ (xs : List Event). xs ++ empties) later.1 ∙ append_assoc (from.base.done ++ piece) later.0 empties
          ∙ append_assoc from.base.done piece rest;
      bounded = λ part begins none. elim (begins-cases part piece rest begins) [
        | inl inside ↦
            refused-most (held_by as_one filled + sum kept)
            (most_kept depth (serial_after filled operation) (kept_after depth kept (filled_in filled operation) operation) operations)
            (held_during filled operation + sum kept) part piece none_given (omega (arith, during-least filled operation)) inside
        | inr past ↦
            absurd (row-refuses setting depth from operation piece row
            (all-begins IsUnrefusing piece past.0 (subst (AllByRecursion IsUnrefusing) past.1 none)))
      ];
    }

pub walk-holds_through :
    (setting : Setting) (depth : ℕ) (from to : CachedPosition) (filled : List (Option Filled)) (kept : List ℕ) (operations : List Op) (results : List Outcome)
    → AllByRecursion IsPlain operations → AllByRecursion IsOp operations → AllByRecursion IsUnspent results → IsBeside from filled kept
    → CachedWalks setting depth from operations results to → HoldsThrough setting.caller depth from to filled kept operations
walk-holds_through setting depth from to filled kept [] [] plain ranges unspent beside walks =
    let empties : List Event = emptying setting.caller to.magazines in
    record {
      tail = empties;
      whole = ap (λ (p : CachedPosition). p.base.done ++ empties) walks;
      bounded = λ part begins none. omega (arith, count-begins is_alloc part empties begins, emptying-none setting.caller to.magazines);
    }
walk-holds_through setting depth from to filled kept [] (result ∷ results) plain ranges unspent beside walks = absurd walks
walk-holds_through setting depth from to filled kept (operation ∷ operations) [] plain ranges unspent beside walks = absurd walks
walk-holds_through setting depth from to filled kept (operation ∷ operations) (result ∷ results) plain ranges unspent beside walks =
    elim (answered-or result unspent.0) [
      | inl answered ↦
          let goes : GoesBeside depth from filled kept operation result walks.0 =
          goes-beside setting depth from filled kept operation result walks.0 plain.0 answered walks.1 beside in
          answered-through setting depth from to filled kept operation operations result walks.0 plain.0 ranges.0 beside answered walks.1 goes
          (walk-holds_through setting depth (cached_after depth from operation result walks.0) to (serial_after filled operation)
          (kept_after depth kept (filled_in filled operation) operation) operations results plain.1 ranges.1 unspent.1 goes.beside walks.2)
      | inr refused ↦
          subst (λ (r : Outcome). CachedRow setting depth from operation r walks.0 → Adds (cached_after depth from operation r walks.0) to
          → HoldsThrough setting.caller depth from to filled kept (operation ∷ operations))
          (sym refused)
          (refused-through setting depth from to filled kept operation operations walks.0 plain.0 beside)
          walks.1
          (walk-adds setting depth (cached_after depth from operation result walks.0) to operations results walks.2)
    ]
