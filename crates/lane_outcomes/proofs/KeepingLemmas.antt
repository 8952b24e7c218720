-- What a lane keeps and what its registers hold, at each moment of the history, as blocks go from one to the other.
use Rattle.std.proofs.Common.{ℕ, ◌≡◌, ◌+◌, ◌∷◌, ◌++◌, List, [], Bool, true, false, Option, Some, None, length, set, refl, sym, ◌∙◌, ap, subst, arith, append_assoc, append-nil}
use Rattle.std.specs.Prelude.{IsPermutation}
use Rattle.std.proofs.lemmas.List.Sorted.{IsPermutation-append_right, IsPermutation-middle, IsPermutation-refl, IsPermutation-trans, sum_by-IsPermutation, sum_by_popped}
use Rattle.std.proofs.lemmas.List.Sums.{sum_by-cons}
use Rattle.heap_geometry.specs.declared.geometry.Geometry.{Geometry}
use Rattle.heap_geometry.specs.declared.limits.TheConstants.{CLASSES}
use Rattle.heap_geometry.specs.declared.need.Need.{Need}
use Rattle.heap_geometry.specs.Need.{IsNeed, need_of, usable_words}
use Rattle.pool_model.specs.declared.event.Event.{Event}
use Rattle.pool_model.specs.declared.event.Event.TheVariants.{Alloc, Free, Put, Take}
use Rattle.pool_model.specs.Pool.{block_at, pool_of}
use Rattle.pool_model.specs.Legal.{IsLegalWithoutCounts}
use Rattle.pool_model.specs.WellFormed.{IsWellFormed}
use Rattle.pool_model.proofs.HistoryLemmas.{push-append}
use Rattle.pool_model.proofs.PoolLemmas.{every-found}
use Rattle.pool_model.proofs.WellFormedLemmas.{sound-of}
use Rattle.lane_outcomes.specs.declared.registers.HeldBlock.{HeldBlock}
use Rattle.lane_outcomes.specs.declared.outcome.Outcome.TheVariants as outcome
use Rattle.lane_outcomes.specs.Cached.{CachedPosition, IsGivenBy}
use Rattle.lane_outcomes.specs.Lane.{Position, held_in, writing}
use Rattle.lane_outcomes.specs.Magazines.{freeing, given_from, is_kept, kept_from, kept_with, magazines_given, served_by}
use Rattle.lane_outcomes.specs.Rows.{Setting, TakeRow}
use Rattle.lane_outcomes.specs.Standing.{HoldsOwn, OwnsHeld}
use Rattle.lane_outcomes.proofs.FollowLemmas.{KeepsAt, amount, keeps-moved, keeps-step, keeps-stills, same-moment}
use Rattle.lane_outcomes.proofs.HoldLemmas.{held_of, holds-freed, holds-fresh, holds-put, holds-taken}
use Rattle.lane_outcomes.proofs.KeptLemmas.{block_for, freeing_all, kept-freed, kept-given}
use Rattle.lane_outcomes.proofs.MeasureLemmas.{block_with}
use Rattle.lane_outcomes.proofs.SlotLemmas.{holds-lifted, holds-reordered, holds-served, slots}
use Rattle.lane_outcomes.proofs.WalkLemmas.{given-of, stills-looks, stills-writing}

-- a block that a caller owns is one for its need, and the need is one
owned-whole :
    (g : Geometry) (history : List Event) (caller : ℕ) (held : HeldBlock) → IsLegalWithoutCounts g history → OwnsHeld (pool_of history) caller held
    → (held ≡ block_for held.need held.place) × IsNeed held.need
owned-whole g history caller held legal owns =
    let formed : IsWellFormed g owns.block = every-found (IsWellFormed g) held.place (pool_of history) owns.block (sound-of g history legal).each owns.live in (
      ap (λ words. record { place = held.place; words = words; need = held.need }) (owns.words_are ∙ ap usable_words (sym owns.need_is)),
      subst IsNeed (sym owns.need_is) formed.need,
    )

module _ (f : ℕ → ℕ) (g : Geometry) (setting : Setting) (legal : IsLegalWithoutCounts g setting.history) where
  abbrev At : List Event → List HeldBlock → List (Option HeldBlock) → ℕ → ℕ → Type 0
  At done kept registers got gone = KeepsAt f setting.history setting.caller done kept registers got gone

  -- one block more counts as its words do
  one-more : (held : HeldBlock) (kept : List HeldBlock) → amount f (held ∷ kept) ≡ f held.words + amount f kept
  one-more held kept = sum_by-cons (λ (h : HeldBlock). f h.words) held kept

  -- a register's block that the lane frees, or lays on a shelf, is kept first
  pub keeps-lifted :
      (done : List Event) (r : ℕ) (held : HeldBlock) (kept : List HeldBlock) (registers : List (Option HeldBlock)) (got gone : ℕ)
      → held_in registers r ≡ Some held → At done kept registers got gone → At done (held ∷ kept) (set registers r None) got (gone + f held.words)
  keeps-lifted done r held kept registers got gone full =
      keeps-moved f g setting.history setting.caller legal done kept (held ∷ kept) registers (set registers r None) got gone got (gone + f held.words)
      (λ before legal_here holds. (holds-lifted (pool_of before) setting.caller r held kept registers full holds, omega (arith, one-more held kept)))

  -- the lane is given a block that it kept
  keeps-served :
      (done : List Event) (r : ℕ) (new : HeldBlock) (kept others : List HeldBlock) (registers : List (Option HeldBlock)) (got gone : ℕ)
      → IsPermutation kept (new ∷ others) → At done kept registers got gone → At done others (set registers r (Some new)) (got + f new.words) gone
  keeps-served done r new kept others registers got gone shuffled =
      keeps-moved f g setting.history setting.caller legal done kept others registers (set registers r (Some new)) got gone (got + f new.words) gone
      (λ before legal_here holds. (
        holds-served (pool_of before) setting.caller r new others registers
            (holds-reordered (pool_of before) setting.caller kept (new ∷ others) registers shuffled holds),
        omega (arith, sum_by_popped (λ (h : HeldBlock). f h.words) new kept others shuffled),
      ))

  -- the first of the blocks that are kept is laid on a shelf, or freed
  pub keeps-laid :
      (done : List Event) (shelf : ℕ) (held : HeldBlock) (kept : List HeldBlock) (registers : List (Option HeldBlock)) (got gone : ℕ)
      → At done (held ∷ kept) registers got (gone + f held.words) → At (done ++ Put setting.caller held.place shelf ∷ []) kept registers got gone
  keeps-laid done shelf held kept registers got gone =
      keeps-step f g setting.history setting.caller legal done (Put setting.caller held.place shelf) (held ∷ kept) kept registers registers got
      (gone + f held.words) got gone refl
      (λ before legal_here begins own_is holds. (holds-put before setting.caller shelf held (slots kept registers) holds, omega (arith, one-more held kept)))

  keeps-freed :
      (done : List Event) (held : HeldBlock) (kept : List HeldBlock) (registers : List (Option HeldBlock)) (got gone : ℕ)
      → At done (held ∷ kept) registers got gone → At (done ++ Free setting.caller held.place ∷ []) kept registers got gone
  keeps-freed done held kept registers got gone =
      keeps-step f g setting.history setting.caller legal done (Free setting.caller held.place) (held ∷ kept) kept registers registers got gone got gone refl
      (λ before legal_here begins own_is holds.
      let owns : OwnsHeld (pool_of before) setting.caller held = holds.owned 0 held refl in
      let frees = ap f owns.words_are ∙ ap (block_with f) (sym owns.live) in
      (holds-freed before setting.caller held (slots kept registers) holds, omega (arith, one-more held kept, frees)))

  -- a block is taken from a shelf into a register
  pub keeps-taken :
      (position : Position) (r shelf words place : ℕ) (need : Need) (kept : List HeldBlock) (registers : List (Option HeldBlock)) (piece : List Event)
      (got gone : ℕ) → TakeRow setting position shelf None (outcome.Took words place need) piece → At position.done kept registers got gone
      → At (position.done ++ piece) kept (set registers r (Some (record { place = place; words = words; need = need }))) got gone
  keeps-taken position r shelf words place need kept registers piece got gone row keeps =
      let event : Event = Take setting.caller shelf place in
      let new : HeldBlock = record { place = place; words = words; need = need } in
      rw row.0
      (keeps-step f g setting.history setting.caller legal position.done event kept kept registers (set registers r (Some new)) got gone got gone refl
      (λ before legal_here begins own_is holds.
      let there : setting.history ≡ row.1.before ++ event ∷ row.3.0 =
      row.3.1 ∙ ap (λ xs. (row.1.before ++ xs) ++ row.3.0) row.0 ∙ push-append row.1.before row.3.0 event in
      let here : setting.history ≡ before ++ event ∷ begins.0 = begins.1 ∙ push-append before begins.0 event in
      let same : row.1.before ≡ before =
      same-moment setting.caller event row.1.before before row.3.0 begins.0 refl (sym there ∙ here) (row.1.own_done ∙ sym own_is) in
      let live : block_at place (pool_of before) ≡ Some row.2 = subst (λ (h : List Event). block_at place (pool_of h) ≡ Some row.2) same row.4 in
      let held_same : held_of place row.2 ≡ new =
      ap (λ w. record { place = place; words = w; need = row.2.need }) (sym row.5)
      ∙ ap (λ (n : Need). record { place = place; words = words; need = n }) (sym row.6) in (
        holds-served _ setting.caller r new kept registers
            (subst (λ (h : HeldBlock). HoldsOwn (pool_of (before ++ event ∷ [])) setting.caller (Some h ∷ slots kept registers)) held_same
            (holds-taken before setting.caller shelf place row.2 (slots kept registers) (legal_here before [] event refl).1.0 live holds)),
        omega arith,
      )) keeps)

  -- all blocks that are kept are freed
  pub keeps-emptied :
      (done : List Event) (kept : List HeldBlock) (registers : List (Option HeldBlock)) (got gone : ℕ) → At done kept registers got gone
      → At (done ++ freeing_all setting.caller kept) [] registers got gone
  keeps-emptied done [] registers got gone keeps = rw (append-nil done) keeps
  keeps-emptied done (held ∷ kept) registers got gone keeps =
      rw (← push-append done (freeing_all setting.caller kept) (Free setting.caller held.place))
      (keeps-emptied (done ++ Free setting.caller held.place ∷ []) kept registers got gone (keeps-freed done held kept registers got gone keeps))

  -- the first of the blocks that are kept goes into its magazine, or is freed
  pub keeps-settled :
      (done : List Event) (depth : ℕ) (magazines : List (List ℕ)) (held : HeldBlock) (registers : List (Option HeldBlock)) (got gone : ℕ) (stacks : Bool)
      → length magazines ≡ CLASSES → is_kept depth magazines held.need ≡ stacks → At done (held ∷ kept_from 0 magazines) registers got gone
      → At (done ++ freeing setting.caller stacks held.place) (kept_from 0 (kept_with stacks magazines held.place held.need)) registers got gone
  keeps-settled done depth magazines held registers got gone true long keeps_it keeps =
      let kept : List HeldBlock = kept_from 0 magazines in
      let stacked : List HeldBlock = kept_from 0 (kept_with true magazines held.place held.need) in
      rw (append-nil done)
      (keeps-moved f g setting.history setting.caller legal done (held ∷ kept) stacked registers registers got gone got gone
      (λ before legal_here holds.
      let whole = owned-whole g before setting.caller held legal_here (holds.owned 0 held refl) in
      let shuffled = subst (λ (first : HeldBlock). IsPermutation (first ∷ kept) stacked) (sym whole.0)
      (kept-freed depth magazines held.need held.place keeps_it whole.1 long) in (
        holds-reordered (pool_of before) setting.caller (held ∷ kept) stacked registers shuffled holds,
        omega (arith, sum_by-IsPermutation (λ (h : HeldBlock). f h.words) (held ∷ kept) stacked shuffled),
      )) keeps)
  keeps-settled done depth magazines held registers got gone false long is keeps =
      keeps-freed done held (kept_from 0 magazines) registers got gone keeps

  -- a block that a magazine or the heap gives is kept, besides some others
  keeps-offered :
      (position : CachedPosition) (done : List Event) (need words place : ℕ) (calls : List Event) (beside : List HeldBlock)
      (registers : List (Option HeldBlock)) (got gone : ℕ) (served : Option ℕ)
      → words ≡ usable_words (need_of need) → served_by position.magazines (need_of need) ≡ served → IsGivenBy served setting position need place calls
      → At done (beside ++ kept_from 0 position.magazines) registers got gone
      → (stock : List HeldBlock) × At (done ++ calls) stock registers got gone
      × IsPermutation stock
      (record { place = place; words = words; need = need_of need } ∷ (beside ++ kept_from 0 (magazines_given position.magazines (need_of need))))
  keeps-offered position done need words place calls beside registers got gone None words_are served (may, events) keeps =
      let new : HeldBlock = record { place = place; words = words; need = need_of need } in
      let stock : List HeldBlock = beside ++ kept_from 0 position.magazines in
      let given = given-of setting.caller need place (need_of need) calls events in
      let alloc : Event = Alloc setting.caller need place in (
        new ∷ stock,
        rw (given.whole, ← append_assoc done given.looked (alloc ∷ []))
            (keeps-step f g setting.history setting.caller legal (done ++ given.looked) alloc stock (new ∷ stock) registers registers got gone got gone refl
            (λ before legal_here begins own_is holds. (
              holds-fresh g before setting.caller need place words (slots stock registers) legal_here words_are holds,
              omega (arith, one-more new stock, ap f words_are),
            )) (keeps-stills f g setting.history setting.caller legal done given.looked stock registers got gone
            (stills-looks setting.caller given.looked given.look) keeps)),
        rw (ap (λ from. given_from from position.magazines (need_of need)) served) (IsPermutation-refl (new ∷ stock)),
      )
  keeps-offered position done need words place calls beside registers got gone (Some at) words_are served (place_is, none) keeps =
      let new : HeldBlock = record { place = place; words = words; need = need_of need } in
      let same : block_for (need_of need) at ≡ new =
      ap (block_for (need_of need)) (sym place_is) ∙ ap (λ n. record { place = place; words = n; need = need_of need }) (sym words_are) in
      let left : List HeldBlock = kept_from 0 (magazines_given position.magazines (need_of need)) in (
        beside ++ kept_from 0 position.magazines,
        rw (none, append-nil done) keeps,
        IsPermutation-trans _ _ _
            (IsPermutation-append_right beside _ _
            (subst (λ (first : HeldBlock). IsPermutation (kept_from 0 position.magazines) (first ∷ left)) same
            (kept-given position.magazines (need_of need) at served)))
            (IsPermutation-middle beside new left),
      )

  -- a magazine or the heap gives a block, and it is written; some blocks are kept besides those in magazines
  pub keeps-handed :
      (position : CachedPosition) (done : List Event) (r need words place : ℕ) (value : ℕ → ℕ) (calls piece : List Event) (beside : List HeldBlock)
      (registers : List (Option HeldBlock)) (got gone : ℕ) → words ≡ usable_words (need_of need)
      → IsGivenBy (served_by position.magazines (need_of need)) setting position need place calls → piece ≡ calls ++ writing setting.caller place words value
      → At done (beside ++ kept_from 0 position.magazines) registers got gone
      → At (done ++ piece) (beside ++ kept_from 0 (magazines_given position.magazines (need_of need)))
      (set registers r (Some (record { place = place; words = words; need = need_of need }))) (got + f words) gone
  keeps-handed position done r need words place value calls piece beside registers got gone words_are given is keeps =
      let new : HeldBlock = record { place = place; words = words; need = need_of need } in
      let left : List HeldBlock = beside ++ kept_from 0 (magazines_given position.magazines (need_of need)) in
      let (stock, offered, shuffled) = keeps-offered position done need words place calls beside registers got gone
      (served_by position.magazines (need_of need)) words_are refl given keeps in
      rw (is, ← append_assoc done calls (writing setting.caller place words value))
      (keeps-stills f g setting.history setting.caller legal (done ++ calls) (writing setting.caller place words value) left (set registers r (Some new))
      (got + f words) gone (stills-writing setting.caller place words value)
      (keeps-served (done ++ calls) r new stock left registers got gone shuffled offered))
