-- The blocks that a lane through a cache holds contain what it filled them with, from operation to operation.
use Rattle.std.proofs.Common.{ℕ, suc, replicate, ◌≡◌, ◌≢◌, ◌+◌, ◌<◌, ◌%◌, ◌^◌, List, [], ◌∷◌, ◌++◌, Bool, true, false, Option, Some, None, length, set, refl, sym, ◌∙◌, ap, subst, inl, inr, arith, append-nil, append_assoc, get_or-set_same, get_or-set_other, length-set}
use Rattle.std.specs.Prelude.{IsPermutation, slice_index_or}
use Rattle.std.specs.List.{AllByRecursion}
use Rattle.std.proofs.lemmas.Bool.{cases_eq}
use Rattle.std.proofs.lemmas.List.{length-map, set-get_or}
use Rattle.heap_geometry.specs.declared.geometry.Geometry.{Geometry}
use Rattle.heap_geometry.specs.declared.limits.TheConstants.{CLASSES}
use Rattle.heap_geometry.specs.Need.{need_of, usable_words}
use Rattle.pool_model.specs.declared.event.Event.{Event}
use Rattle.pool_model.specs.Pool.{block_at, pool_of}
use Rattle.pool_model.specs.Legal.{IsLegalWithoutCounts}
use Rattle.trace_text.specs.Traces.{IsOp}
use Rattle.trace_text.specs.declared.trace.Op.{Op}
use Rattle.lane_outcomes.specs.declared.registers.HeldBlock.{HeldBlock}
use Rattle.lane_outcomes.specs.declared.outcome.Outcome.{Outcome}
use Rattle.lane_outcomes.specs.Cached.{CachedPosition, CachedRow, IsGivenBy, cached_after, magazines_by}
use Rattle.trace_text.specs.Operations.{register_of}
use Rattle.lane_outcomes.specs.Deeds.{Deed, deed_of, registers_by}
use Rattle.lane_outcomes.specs.Deeds as deed
use Rattle.lane_outcomes.specs.Lane.{held_in, registers_after, writing}
use Rattle.lane_outcomes.specs.LaneCounts.{as_one}
use Rattle.lane_outcomes.specs.Magazines.{freeing, is_kept, kept_from, kept_with, magazines_given, served_by}
use Rattle.lane_outcomes.specs.Rows.{Setting}
use Rattle.lane_outcomes.proofs.CachedLemmas.{Stands}
use Rattle.lane_outcomes.proofs.FollowLemmas.{KeepsAt}
use Rattle.lane_outcomes.proofs.HoldLemmas.{HoldsOnce, held-inside, held-nothing}
use Rattle.lane_outcomes.proofs.KeepingLemmas.{keeps-handed, keeps-lifted}
use Rattle.lane_outcomes.proofs.KeptLemmas.{block_for, kept-given}
use Rattle.lane_outcomes.proofs.SlotLemmas.{holds-reordered, slots}
use Rattle.lane_outcomes.proofs.SlotRows.{Adds, row-adds}
use Rattle.lane_outcomes.proofs.WalkLemmas.{all-append, all-given, all-writing, given-of}
use Rattle.roomy_traces.specs.Roomy.{Doing, Filled, IsPlain, copied, doing_of, filled_in, moved_to, numbers_by, numbers_from, serial_after, serial_by}
use Rattle.roomy_traces.specs.Roomy as does
use Rattle.roomy_traces.proofs.ContentLemmas.{AtMoments, HasContents, IsAway, at-away, at-freed, at-given, at-writing, known-contents, known-copy, with_numbers}
use Rattle.roomy_traces.proofs.LaneLemmas.{HasMoment}
use Rattle.roomy_traces.proofs.RegisterLemmas.{Beside, IsAlike, beside-at, same-many}
use Rattle.roomy_traces.proofs.SerialRows.{HasNumbers, IsAnswered, SerialBy, op-within, row-does}
use Rattle.roomy_traces.proofs.through_lemmas.SlotLemmas.{HasSize, once-kept, once-registers, owned-size, set-here}

-- at each moment of a history at which these are the caller's events, each held block contains what it was filled with
abbrev pub AreFilled : List Event → ℕ → List Event → List (Option HeldBlock) → List (Option Filled) → Type 0
AreFilled history caller done registers filled =
    (r : ℕ) (held : HeldBlock) (now : Filled) → held_in registers r ≡ Some held → slice_index_or filled r None ≡ Some now
    → AtMoments history caller done (HasContents caller held.place (with_numbers now.numbers))

pub filled-start : (history : List Event) (caller n : ℕ) (filled : List (Option Filled)) → AreFilled history caller [] (replicate n None) filled
filled-start history caller n filled r held now full there =
    absurd (let e : None ≡ Some held = sym (held-nothing n r) ∙ full in cc)

-- so does the block in one register
pub filled-at :
    (history : List Event) (caller : ℕ) (done : List Event) (registers : List (Option HeldBlock)) (filled : List (Option Filled)) (r : ℕ)
    (slot : Option HeldBlock) (now : Option Filled) → held_in registers r ≡ slot → slice_index_or filled r None ≡ now
    → AreFilled history caller done registers filled → HasNumbers history caller done slot now
filled-at history caller done registers filled r (Some held) (Some now) full there has = has r held now full there
filled-at history caller done registers filled r None now full there has = tt
filled-at history caller done registers filled r (Some held) None full there has = tt

-- a piece of events that is of no register's block but one, which is set
set-filled :
    (g : Geometry) (history : List Event) (caller : ℕ) (done piece : List Event) (registers : List (Option HeldBlock)) (filled : List (Option Filled)) (r : ℕ)
    (slot : Option HeldBlock) (now : Option Filled) → IsLegalWithoutCounts g history → r < length registers → length registers ≡ length filled
    → HasNumbers history caller (done ++ piece) slot now
    → ((q : ℕ) (held : HeldBlock) → q ≢ r → held_in registers q ≡ Some held → AllByRecursion (IsAway held.place) piece)
    → AreFilled history caller done registers filled → AreFilled history caller (done ++ piece) (set registers r slot) (set filled r now)
set-filled g history caller done piece registers filled r slot now legal within many placed away at q held is full there =
    elim (cases_eq q r) [
      | inl same ↦
          let held_is : slot ≡ Some held = sym (get_or-set_same registers r slot None within) ∙ ap (held_in (set registers r slot)) (sym same) ∙ full in
          let now_is : now ≡ Some is =
          sym (get_or-set_same filled r now None (subst (λ n. r < n) many within)) ∙ ap (λ k. slice_index_or (set filled r now) k None) (sym same) ∙ there in
          subst (λ (b : Option Filled). HasNumbers history caller (done ++ piece) (Some held) b) now_is
          (subst (λ (h : Option HeldBlock). HasNumbers history caller (done ++ piece) h now) held_is placed)
      | inr other ↦
          let full_before : held_in registers q ≡ Some held = sym (get_or-set_other registers r q slot None other) ∙ full in
          let there_before : slice_index_or filled q None ≡ Some is = sym (get_or-set_other filled r q now None other) ∙ there in
          at-away g history caller done piece held.place (with_numbers is.numbers) legal (away q held other full_before)
          (at q held is full_before there_before)
    ]

-- the events of a block that is given and written, and of one that is freed, are of no other
handed-away :
    (setting : Setting) (position : CachedPosition) (by : Option ℕ) (need words place : ℕ) (value : ℕ → ℕ) (calls : List Event)
    → IsGivenBy by setting position need place calls → (other : ℕ) → other ≢ place
    → AllByRecursion (IsAway other) (calls ++ writing setting.caller place words value)
handed-away setting position None need words place value calls given other away =
    all-append (IsAway other) calls (writing setting.caller place words value)
    (all-given (IsAway other) setting.caller need place calls (λ class. tt) away (given-of setting.caller need place (need_of need) calls given.1))
    (all-writing (IsAway other) setting.caller place words value (λ i n. away))
handed-away setting position (Some at) need words place value calls given other away =
    rw given.1 (all-writing (IsAway other) setting.caller place words value (λ i n. away))

freeing-away : (caller : ℕ) (keeps : Bool) (place other : ℕ) → other ≢ place → AllByRecursion (IsAway other) (freeing caller keeps place)
freeing-away caller true place other away = tt
freeing-away caller false place other away = (away, tt)

freeing-placed :
    (g : Geometry) (history : List Event) (caller : ℕ) (done : List Event) (keeps : Bool) (place gone : ℕ) (contents : List (Option ℕ))
    → IsLegalWithoutCounts g history → place ≢ gone → AtMoments history caller done (HasContents caller place contents)
    → AtMoments history caller (done ++ freeing caller keeps gone) (HasContents caller place contents)
freeing-placed g history caller done true place gone contents legal apart at = rw (append-nil done) at
freeing-placed g history caller done false place gone contents legal apart at =
    at-freed g history caller place gone done contents legal (λ before begins own_is. apart) at

-- the block that is given contains what was written, whether it is new or was kept
handed-placed :
    (g : Geometry) (setting : Setting) (legal : IsLegalWithoutCounts g setting.history) (position : CachedPosition) (done : List Event)
    (need words place : ℕ) (value : ℕ → ℕ) (calls : List Event) (by : Option ℕ) (registers : List (Option HeldBlock)) (got gone : ℕ)
    → words ≡ usable_words (need_of need) → served_by position.magazines (need_of need) ≡ by → IsGivenBy by setting position need place calls
    → KeepsAt as_one setting.history setting.caller done (kept_from 0 position.magazines) registers got gone → HasMoment setting.caller setting.history done
    → AtMoments setting.history setting.caller (done ++ (calls ++ writing setting.caller place words value))
    (HasContents setting.caller place (with_numbers (numbers_by value words)))
handed-placed g setting legal position done need words place value calls None registers got gone words_are served given keeps moment =
    at-given g setting.history setting.caller need place words value done calls legal words_are
    (given-of setting.caller need place (need_of need) calls given.1)
handed-placed g setting legal position done need words place value calls (Some at) registers got gone words_are served (place_is, none) keeps moment =
    let caller = setting.caller in
    let left : List HeldBlock = kept_from 0 (magazines_given position.magazines (need_of need)) in
    let new : HeldBlock = record { place = place; words = words; need = need_of need } in
    let same : block_for (need_of need) at ≡ new =
    ap (block_for (need_of need)) (sym place_is) ∙ ap (λ n. record { place = place; words = n; need = need_of need }) (sym words_are) in
    let shuffled = subst (λ (first : HeldBlock). IsPermutation (kept_from 0 position.magazines) (first ∷ left)) same
    (kept-given position.magazines (need_of need) at served) in
    let size : HasSize setting.history caller done new =
    owned-size g setting.history caller done new legal
    (λ before begins own_is.
    (holds-reordered (pool_of before) caller (kept_from 0 position.magazines) (new ∷ left) registers shuffled (keeps before begins own_is).holds).owned 0 new
    refl) moment in
    rw none (at-writing g setting.history caller place words value done size.contents legal size.many size.placed)

-- on a lane between two operations
module _ (g : Geometry) (setting : Setting) (legal : IsLegalWithoutCounts g setting.history) (depth : ℕ) (position : CachedPosition)
    (filled : List (Option Filled)) (got gone : ℕ) (alike : IsAlike position.base.registers filled) (long : length position.magazines ≡ CLASSES)
    (keeps : Stands as_one setting position got gone) (before : HasMoment setting.caller setting.history position.base.done)
    (has : AreFilled setting.history setting.caller position.base.done position.base.registers filled) where
  once-before : HoldsOnce position.base.registers
  once-before =
      once-registers (kept_from 0 position.magazines) position.base.registers
      (once-kept setting.history setting.caller position.base.done (kept_from 0 position.magazines) position.base.registers got gone keeps before)

  -- held blocks contain what they were filled with behind a row that does this to blocks
  abbrev Contains : ℕ → Option Filled → Deed → Doing → List Event → Type 0
  Contains r now done doing piece =
      AreFilled setting.history setting.caller (position.base.done ++ piece) (registers_by position.base.registers r done) (serial_by filled r now doing)

  -- no two slots hold the same block behind it
  abbrev OnceBehind : ℕ → Option HeldBlock → Deed → Type 0
  OnceBehind r slot done =
      HoldsOnce (slots (kept_from 0 (magazines_by depth position.magazines slot done)) (registers_by position.base.registers r done))

  -- the moments in the middle of a resize are those of its caller's events up to the free of the old block
  abbrev pub AreMoments : List Event → Type 0
  AreMoments piece = (part more : List Event) → piece ≡ part ++ more → HasMoment setting.caller setting.history (position.base.done ++ part)

  given-contains :
      (r need v words place : ℕ) (piece : List Event) → r < length position.base.registers
      → Adds setting depth position r (deed.gives need v words place) piece → OnceBehind r None (deed.gives need v words place)
      → Contains r None (deed.gives need v words place) (does.gives need v) piece
  given-contains r need v words place piece within (empty, words_are, calls, given, is) after =
      let registers : List (Option HeldBlock) = position.base.registers in
      let new : HeldBlock = record { place = place; words = words; need = need_of need } in
      let value : ℕ → ℕ = λ i. (v + i) % 2 ^ 64 in
      let once : HoldsOnce (set registers r (Some new)) =
      once-registers (kept_from 0 (magazines_given position.magazines (need_of need))) (set registers r (Some new)) after in
      let placed : AtMoments setting.history setting.caller (position.base.done ++ (calls ++ writing setting.caller place words value))
      (HasContents setting.caller place (with_numbers (numbers_from v (usable_words (need_of need))))) =
      rw (← words_are)
      (handed-placed g setting legal position position.base.done need words place value calls (served_by position.magazines (need_of need)) registers got gone
      words_are refl given keeps before) in
      rw is
      (set-filled g setting.history setting.caller position.base.done (calls ++ writing setting.caller place words value) registers filled r (Some new)
      (Some (record { need = need_of need; numbers = numbers_from v (usable_words (need_of need)) })) legal within (same-many registers filled alike) placed
      (λ q held other full.
      handed-away setting position (served_by position.magazines (need_of need)) need words place value calls given held.place
      (once q r held new (get_or-set_other registers r q (Some new) None other ∙ full) (get_or-set_same registers r (Some new) None within) other))
      has)

  freed-contains :
      (r : ℕ) (held : HeldBlock) (now : Filled) (piece : List Event) → held_in position.base.registers r ≡ Some held
      → Adds setting depth position r deed.frees piece → Contains r (Some now) deed.frees does.frees piece
  freed-contains r held now piece full (block, there, is) =
      let registers : List (Option HeldBlock) = position.base.registers in
      rw is
      (set-filled g setting.history setting.caller position.base.done _ registers filled r None None legal (held-inside registers r held full)
      (same-many registers filled alike) tt
      (λ q other differ full_q. freeing-away setting.caller _ block.place other.place (once-before q r other block full_q there differ)) has)

  refilled-contains :
      (r : ℕ) (held : HeldBlock) (now : Filled) (value : ℕ → ℕ) → held_in position.base.registers r ≡ Some held → slice_index_or filled r None ≡ Some now
      → Beside (Some held) (Some now)
      → Contains r (Some now) deed.stays (does.fills value) (writing setting.caller held.place held.words value)
  refilled-contains r held now value full there beside =
      let registers : List (Option HeldBlock) = position.base.registers in
      let piece : List Event = writing setting.caller held.place held.words value in
      let next : Filled = record { need = now.need; numbers = numbers_by value (length now.numbers) } in
      let same : set registers r (Some held) ≡ registers = ap (set registers r) (sym full) ∙ set-get_or registers r None in
      let many : length (with_numbers now.numbers) ≡ held.words = length-map now.numbers (λ n. Some n) ∙ sym beside.0 in
      let put : AtMoments setting.history setting.caller (position.base.done ++ piece)
      (HasContents setting.caller held.place (with_numbers (numbers_by value (length now.numbers)))) =
      rw (← beside.0)
      (at-writing g setting.history setting.caller held.place held.words value position.base.done (with_numbers now.numbers) legal many
      (has r held now full there)) in
      subst (λ (after : List (Option HeldBlock)). AreFilled setting.history setting.caller (position.base.done ++ piece) after (set filled r (Some next))) same
      (set-filled g setting.history setting.caller position.base.done piece registers filled r (Some held) (Some next) legal (held-inside registers r held full)
      (same-many registers filled alike) put
      (λ q other apart full_q.
      all-writing (IsAway other.place) setting.caller held.place held.words value (λ i n. once-before q r other held full_q full apart)) has)

  moved-contains :
      (r need words place : ℕ) (held : HeldBlock) (now : Filled) (piece : List Event) → held_in position.base.registers r ≡ Some held
      → slice_index_or filled r None ≡ Some now → Adds setting depth position r (deed.replaces need words place) piece → AreMoments piece
      → OnceBehind r (Some held) (deed.replaces need words place) → Contains r (Some now) (deed.replaces need words place) (does.moves_to need) piece
  moved-contains r need words place held now piece full there (block, full_too, differ, words_are, calls, given, value, copy, is) moments after =
      let caller = setting.caller in
      let history = setting.history in
      let done : List Event = position.base.done in
      let registers : List (Option HeldBlock) = position.base.registers in
      let same : block ≡ held = let e : Some block ≡ Some held = sym full_too ∙ full in cc in
      let new : HeldBlock = record { place = place; words = words; need = need_of need } in
      let made : List Event = calls ++ writing caller place words value in
      let kept : List HeldBlock = kept_from 0 position.magazines in
      let magazines : List (List ℕ) = magazines_given position.magazines (need_of need) in
      let stacks : Bool = is_kept depth magazines held.need in
      let emptied : List (Option HeldBlock) = set registers r None in
      let left : List HeldBlock = held ∷ kept_from 0 magazines in
      let last : List HeldBlock = kept_from 0 (kept_with stacks magazines held.place held.need) in
      let within : r < length registers = held-inside registers r held full in
      let within_emptied : r < length emptied = subst (λ n. r < n) (sym (length-set registers r None)) within in
      let piece_is : piece ≡ made ++ freeing caller stacks held.place =
      is ∙ ap (λ (b : HeldBlock). made ++ freeing caller (is_kept depth magazines b.need) b.place) same in
      let keeps_middle = keeps-handed as_one g setting legal position done r need words place value calls made (held ∷ []) emptied _ _ words_are given refl
      (keeps-lifted as_one g setting legal done r held kept registers got gone full keeps) in
      let once_middle : HoldsOnce (slots left (set emptied r (Some new))) =
      once-kept history caller (done ++ made) left (set emptied r (Some new)) _ _ keeps_middle (moments made (freeing caller stacks held.place) piece_is) in
      let placed = handed-placed g setting legal position done need words place value calls (served_by position.magazines (need_of need)) registers got
      gone words_are refl given keeps before in
      let live : block_at held.place (pool_of copy.moment.before) ≡ Some copy.block =
      subst (λ (p : ℕ). block_at p (pool_of copy.moment.before) ≡ Some copy.block) (ap (λ (b : HeldBlock). b.place) same) copy.live in
      let numbers : numbers_by value words ≡ (moved_to need now).numbers =
      known-copy now.numbers copy.block.contents words value
      (known-contents (pool_of copy.moment.before) caller held.place now.numbers copy.block
      (has r held now full there copy.moment.before copy.moment.begins copy.moment.own_done) live)
      copy.each
      ∙ ap (copied now.numbers) words_are in
      let more : length left ≡ suc (length (kept_from 0 magazines)) = refl in
      let apart : place ≢ held.place =
      once_middle (length left + r) 0 new held (set-here left emptied r (Some new) within_emptied) refl (λ e. absurd (omega (arith, e, more))) in
      let once_after : HoldsOnce (set registers r (Some new)) = once-registers last (set registers r (Some new)) after in
      rw piece_is
      (set-filled g history caller done (made ++ freeing caller stacks held.place) registers filled r (Some new) (Some (moved_to need now)) legal within
      (same-many registers filled alike)
      (subst (λ (ns : List ℕ). AtMoments history caller (done ++ (made ++ freeing caller stacks held.place)) (HasContents caller place (with_numbers ns))) numbers
      (subst (λ (xs : List Event). AtMoments history caller xs (HasContents caller place (with_numbers (numbers_by value words))))
      (append_assoc done made (freeing caller stacks held.place))
      (freeing-placed g history caller (done ++ made) stacks place held.place _ legal apart placed)))
      (λ q other apart_q full_q.
      all-append (IsAway other.place) made (freeing caller stacks held.place)
      (handed-away setting position (served_by position.magazines (need_of need)) need words place value calls given other.place
      (once_after q r other new (get_or-set_other registers r q (Some new) None apart_q ∙ full_q) (get_or-set_same registers r (Some new) None within) apart_q))
      (freeing-away caller stacks held.place other.place (once-before q r other held full_q full apart_q)))
      has)

  row-by :
      (r : ℕ) (slot : Option HeldBlock) (now : Option Filled) (done : Deed) (result : Outcome) (piece : List Event) (doing : Doing)
      → r < length position.base.registers → held_in position.base.registers r ≡ slot → slice_index_or filled r None ≡ now → Beside slot now
      → SerialBy setting position.base slot now done result piece doing → Adds setting depth position r done piece → AreMoments piece → OnceBehind r slot done
      → Contains r now done doing piece
  row-by r slot now done result piece does.skips within full there beside (e, is, none) adds moments after = rw (e, none, append-nil position.base.done) has
  row-by r None None done result piece (does.gives need v) within full there beside (words, place, e, is, words_are) adds moments after =
      rw e (given-contains r need v words place piece within (rw e at adds) (rw e at after))
  row-by r (Some held) (Some now) done result piece does.frees within full there beside (e, is) adds moments after =
      rw e (freed-contains r held now piece full (rw e at adds))
  row-by r (Some held) (Some now) done result piece (does.fills value) within full there beside (e, is, written) adds moments after =
      rw (e, written) (refilled-contains r held now value full there beside)
  row-by r (Some held) (Some now) done result piece does.sums within full there beside (e, none, total, is, moment, block, live, summed) adds moments after =
      rw (e, none, append-nil position.base.done) has
  row-by r (Some held) (Some now) done result piece does.keeps within full there beside (e, none, words, place, is, words_are) adds moments after =
      rw (e, none, append-nil position.base.done) has
  row-by r (Some held) (Some now) done result piece (does.moves_to need) within full there beside (words, place, e, is, words_are) adds moments after =
      rw e (moved-contains r need words place held now piece full there (rw e at adds) moments (rw e at after))
  row-by r slot now done result piece doing within full there beside row adds moments after = absurd row

  pub row-contains :
      (operation : Op) (result : Outcome) (piece : List Event) → IsPlain operation → IsOp operation → IsAnswered result
      → CachedRow setting depth position operation result piece → AreMoments piece
      → HoldsOnce (slots (kept_from 0 (cached_after depth position operation result piece).magazines) (registers_after position.base.registers operation result))
      → AreFilled setting.history setting.caller (position.base.done ++ piece)
      (registers_after position.base.registers operation result) (serial_after filled operation)
  row-contains operation result piece plain ranges answered row moments after =
      row-by (register_of operation) (held_in position.base.registers (register_of operation)) (filled_in filled operation) (deed_of operation result) result piece
      (doing_of (filled_in filled operation) operation) (subst (λ n. register_of operation < n) (sym alike.many) (op-within operation ranges)) refl refl
      (beside-at position.base.registers filled (register_of operation) alike)
      (row-does setting depth position filled operation result piece plain answered alike row) (row-adds setting depth position operation result piece row)
      moments after
