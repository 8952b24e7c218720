-- What a row comes to beside what its operation does in the lane computed on its own: the one file of proofs that goes through the operations.
use Rattle.std.proofs.Common.{ℕ, cond, option_map, true, ◌≡◌, ◌≢◌, ◌⊎◌, ◌<◌, ◌≤◌, ◌+◌, ◌%◌, ◌^◌, List, [], length, Option, Some, None, refl, sym, ◌∙◌, ap, subst, inl, inr, arith, set}
use Rattle.std.specs.Prelude.{slice_index_or}
use Rattle.std.proofs.lemmas.List.{set-get_or}
use Rattle.heap_geometry.specs.declared.limits.TheConstants.{SMALL_MOST}
use Rattle.heap_geometry.specs.declared.need.Need.{Need}
use Rattle.heap_geometry.specs.Need.{need_of, usable_words}
use Rattle.pool_model.specs.declared.event.Event.{Event}
use Rattle.pool_model.specs.Pool.{Block, block_at, pool_of}
use Rattle.trace_text.specs.declared.limits.TheConstants.{REGISTERS}
use Rattle.trace_text.specs.Traces.{IsOp}
use Rattle.trace_text.specs.declared.trace.Op.{Op}
use Rattle.trace_text.specs.declared.trace.Op.TheVariants as op
use Rattle.lane_outcomes.specs.declared.registers.HeldBlock.{HeldBlock}
use Rattle.lane_outcomes.specs.declared.outcome.Outcome.{Outcome}
use Rattle.lane_outcomes.specs.declared.outcome.Outcome.TheVariants as outcome
use Rattle.lane_outcomes.specs.Cached.{CachedBy, CachedPosition, CachedRow}
use Rattle.trace_text.specs.Operations.{register_of}
use Rattle.lane_outcomes.specs.Deeds.{Deed, deed_of, freed_by, given_by, registers_by}
use Rattle.lane_outcomes.specs.Deeds as deed
use Rattle.lane_outcomes.specs.Lane.{Position, held_in, writing}
use Rattle.lane_outcomes.specs.LaneCounts.{as_one, count_with}
use Rattle.lane_outcomes.specs.Rows.{IsSumOf, Moment, RowAt, Setting}
use Rattle.roomy_traces.specs.Roomy.{Doing, Filled, IsPlain, doing_of, filled_in, is_move, may_allocate, moved_to, numbers_by, numbers_from, serial_by}
use Rattle.roomy_traces.specs.Roomy as does
use Rattle.roomy_traces.specs.Serial.{outcome_by, without_place}
use Rattle.roomy_traces.specs.Through.{need_asked, need_returned}
use Rattle.roomy_traces.proofs.ContentLemmas.{AtMoments, HasContents, known-sum, with_numbers}
use Rattle.roomy_traces.proofs.RegisterLemmas.{Beside, IsAlike, alike-set, beside-at, by-length, other-need, same-need}

-- what an operation asks for: one block, or none
abbrev pub asks : Op → ℕ
asks operation = cond (may_allocate operation) 1 0

-- only such an operation asks for a block, whatever came of that
abbrev pub allocates : Deed → ℕ
allocates (deed.gives need v words place) = 1
allocates (deed.replaces need words place) = 1
allocates (deed.refuses need) = 1
allocates (deed.spends need) = 1
allocates done = 0

pub allocates-asked : (operation : Op) (result : Outcome) → allocates (deed_of operation result) ≤ asks operation
allocates-asked (op.Alloc r need v) (outcome.Given words place) = omega arith
allocates-asked (op.Alloc r need v) outcome.Refused = omega arith
allocates-asked (op.Alloc r need v) outcome.Spent = omega arith
allocates-asked (op.Resize r need) (outcome.Resized words place) = omega arith
allocates-asked (op.Resize r need) outcome.Refused = omega arith
allocates-asked (op.Resize r need) outcome.Spent = omega arith
allocates-asked (op.Free r) outcome.Freed = omega arith
allocates-asked (op.Put r shelf) outcome.Put = omega arith
allocates-asked (op.Take r shelf) (outcome.Took words place need) = omega arith
allocates-asked operation result = omega arith

-- what a plain operation does to blocks: it hands none over, and only a small need is refused
abbrev pub IsPlainDeed : Deed → Type 0
IsPlainDeed (deed.refuses need) = need ≤ SMALL_MOST
IsPlainDeed deed.lays = ⊥
IsPlainDeed (deed.takes words place need) = ⊥
IsPlainDeed done = Unit {0}

pub plain-deed : (operation : Op) (result : Outcome) → IsPlain operation → IsPlainDeed (deed_of operation result)
plain-deed (op.Alloc r need v) outcome.Refused plain = plain
plain-deed (op.Resize r need) outcome.Refused plain = plain
plain-deed (op.Free r) outcome.Freed plain = tt
plain-deed (op.Put r shelf) result plain = absurd plain
plain-deed (op.Take r shelf) result plain = absurd plain
plain-deed operation result plain = tt

pub op-within : (operation : Op) → IsOp operation → register_of operation < REGISTERS
op-within (op.Free r) is = is
op-within (op.Check r) is = is
op-within operation is = is.0

-- an outcome that isn't want of a block or of a turn
abbrev pub IsAnswered : Outcome → Type 0
IsAnswered outcome.Refused = ⊥
IsAnswered outcome.Spent = ⊥
IsAnswered result = Unit {0}

-- a block is given to an empty register, or in place of a full one's, which has another need; or a full one's is freed
abbrev GivenAt : Option HeldBlock → ℕ → ℕ → Type 0
GivenAt None need words = words ≡ usable_words (need_of need)
GivenAt (Some held) need words = ⊥

abbrev ReplacedAt : Option HeldBlock → ℕ → ℕ → Type 0
ReplacedAt None need words = ⊥
ReplacedAt (Some held) need words = (need_of need ≢ held.need) × (words ≡ usable_words (need_of need))

abbrev FreedAt : Option HeldBlock → Type 0
FreedAt None = ⊥
FreedAt (Some held) = Unit {0}

-- what a row through a cache says, whose register holds this, of all but its events where a block is given or freed
abbrev ThroughAt : Setting → Position → Op → Option HeldBlock → Outcome → List Event → Deed → Type 0
ThroughAt setting position operation slot result piece (deed.gives need v words place) = GivenAt slot need words
ThroughAt setting position operation slot result piece (deed.replaces need words place) = ReplacedAt slot need words
ThroughAt setting position operation slot result piece deed.frees = FreedAt slot
ThroughAt setting position operation slot result piece done = RowAt setting position operation slot result piece

through-by :
    (setting : Setting) (depth : ℕ) (position : CachedPosition) (operation : Op) (result : Outcome) (piece : List Event) (done : Deed)
    → CachedBy setting depth position operation result piece done
    → ThroughAt setting position.base operation (held_in position.base.registers (register_of operation)) result piece done
through-by setting depth position operation result piece (deed.gives need v words place) (empty, words_are, calls, given, is) = rw empty words_are
through-by setting depth position operation result piece (deed.replaces need words place)
    (held, full, differ, words_are, calls, given, value, copy, is) = rw full (differ, words_are)
through-by setting depth position operation result piece deed.frees (held, full, is) = rw full tt
through-by setting depth position operation result piece (deed.refuses need) row = row.1
through-by setting depth position operation result piece (deed.spends need) row = row.1
through-by setting depth position operation result piece done row = row

-- what the row comes to, by what its operation does
abbrev pub SerialBy : Setting → Position → Option HeldBlock → Option Filled → Deed → Outcome → List Event → Doing → Type 0
SerialBy setting position slot now done result piece does.skips = (done ≡ deed.stays) × (result ≡ outcome.Skipped) × (piece ≡ [])
SerialBy setting position None None done result piece (does.gives need v) =
    (words : ℕ) × (place : ℕ) × (done ≡ deed.gives need v words place) × (result ≡ outcome.Given words place) × (words ≡ usable_words (need_of need))
SerialBy setting position (Some held) (Some now) done result piece does.frees = (done ≡ deed.frees) × (result ≡ outcome.Freed)
SerialBy setting position (Some held) (Some now) done result piece (does.fills value) =
    (done ≡ deed.stays) × (result ≡ outcome.Filled) × (piece ≡ writing setting.caller held.place held.words value)
SerialBy setting position (Some held) (Some now) done result piece does.sums =
    (done ≡ deed.stays) × (piece ≡ []) × (total : ℕ) × (result ≡ outcome.Sum total)
    × (moment : Moment setting position.done) × (block : Block) × (block_at held.place (pool_of moment.before) ≡ Some block) × IsSumOf block.contents total
SerialBy setting position (Some held) (Some now) done result piece does.keeps =
    (done ≡ deed.stays) × (piece ≡ []) × (words : ℕ) × (place : ℕ) × (result ≡ outcome.Kept words place) × (words ≡ length now.numbers)
SerialBy setting position (Some held) (Some now) done result piece (does.moves_to need) =
    (words : ℕ) × (place : ℕ) × (done ≡ deed.replaces need words place) × (result ≡ outcome.Resized words place) × (words ≡ usable_words (need_of need))
SerialBy setting position slot now done result piece doing = ⊥

row-at :
    (setting : Setting) (position : Position) (piece : List Event) (operation : Op) (slot : Option HeldBlock) (result : Outcome) (now : Option Filled)
    → IsPlain operation → IsAnswered result → Beside slot now → ThroughAt setting position operation slot result piece (deed_of operation result)
    → SerialBy setting position slot now (deed_of operation result) result piece (doing_of now operation)
row-at setting position piece (op.Alloc r need v) None (outcome.Given words place) None plain answered beside row = (words, place, refl, refl, row)
row-at setting position piece (op.Alloc r need v) (Some held) outcome.Skipped (Some now) plain answered beside row = (refl, refl, row)
row-at setting position piece (op.Free r) None outcome.Skipped None plain answered beside row = (refl, refl, row)
row-at setting position piece (op.Free r) (Some held) outcome.Freed (Some now) plain answered beside row = (refl, refl)
row-at setting position piece (op.Fill r v) None outcome.Skipped None plain answered beside row = (refl, refl, row)
row-at setting position piece (op.Fill r v) (Some held) outcome.Filled (Some now) plain answered beside row = (refl, refl, row)
row-at setting position piece (op.Check r) None outcome.Skipped None plain answered beside row = (refl, refl, row)
row-at setting position piece (op.Check r) (Some held) (outcome.Sum total) (Some now) plain answered beside (none, moment, block, live, summed) =
    (refl, none, total, refl, moment, block, live, summed)
row-at setting position piece (op.Resize r need) None outcome.Skipped None plain answered beside row = (refl, refl, row)
row-at setting position piece (op.Resize r need) (Some held) (outcome.Kept words place) (Some now) plain answered beside (none, same, words_are, at) =
    rw (same-need (need_of need) now.need (same ∙ beside.1)) (refl, none, words, place, refl, words_are ∙ beside.0)
row-at setting position piece (op.Resize r need) (Some held) (outcome.Resized words place) (Some now) plain answered beside (differ, words_are) =
    rw (other-need (need_of need) now.need (λ e. differ (e ∙ sym beside.1))) (words, place, refl, refl, words_are)
row-at setting position piece (op.Put r shelf) slot result now plain answered beside row = absurd plain
row-at setting position piece (op.Take r shelf) slot result now plain answered beside row = absurd plain
row-at setting position piece operation slot outcome.Refused now plain answered beside row = absurd answered
row-at setting position piece operation slot outcome.Spent now plain answered beside row = absurd answered
row-at setting position piece operation None result (Some now) plain answered beside row = absurd beside
row-at setting position piece operation (Some held) result None plain answered beside row = absurd beside
row-at setting position piece operation None result None plain answered beside row = absurd row
row-at setting position piece operation (Some held) result (Some now) plain answered beside row = absurd row

-- what becomes of a plain operation that is answered
pub row-does :
    (setting : Setting) (depth : ℕ) (position : CachedPosition) (filled : List (Option Filled)) (operation : Op) (result : Outcome) (piece : List Event)
    → IsPlain operation → IsAnswered result → IsAlike position.base.registers filled → CachedRow setting depth position operation result piece
    → SerialBy setting position.base (held_in position.base.registers (register_of operation)) (filled_in filled operation) (deed_of operation result) result
    piece (doing_of (filled_in filled operation) operation)
row-does setting depth position filled operation result piece plain answered alike row =
    row-at setting position.base piece operation (held_in position.base.registers (register_of operation)) result (filled_in filled operation) plain answered
    (beside-at position.base.registers filled (register_of operation) alike)
    (through-by setting depth position operation result piece (deed_of operation result) row)

-- the need of the block that was given, and of the one that was freed, where the register held this
abbrev pub asked_by : Deed → Option Need
asked_by (deed.gives need v words place) = Some (need_of need)
asked_by (deed.replaces need words place) = Some (need_of need)
asked_by done = None

abbrev pub returned_by : Option HeldBlock → Deed → Option Need
returned_by held (deed.replaces need words place) = option_map (λ (h : HeldBlock). h.need) held
returned_by held deed.frees = option_map (λ (h : HeldBlock). h.need) held
returned_by held done = None

-- at each moment at which these are the caller's events, the block in a register contains the numbers of the one beside it
abbrev pub HasNumbers : List Event → ℕ → List Event → Option HeldBlock → Option Filled → Type 0
HasNumbers history caller done (Some held) (Some now) = AtMoments history caller done (HasContents caller held.place (with_numbers now.numbers))
HasNumbers history caller done slot now = Unit {0}

-- so the row does what its operation does in the lane computed on its own; it gives no block, or frees none, or moves one
pub record IsSerialRow (setting : Setting) (position : Position) (filled : List (Option Filled)) (r : ℕ) (slot : Option HeldBlock) (now : Option Filled) (done : Deed) (result : Outcome) (doing : Doing) : Type 0 where
  pub alike : IsAlike (registers_by position.registers r done) (serial_by filled r now doing)
  pub outcome_is : HasNumbers setting.history setting.caller position.done slot now → without_place result ≡ outcome_by now doing
  pub asks_for : need_asked doing ≡ asked_by done
  pub returns : need_returned now doing ≡ returned_by slot done
  pub sided : (count_with as_one (given_by done) ≡ 0) ⊎ ((count_with as_one (freed_by slot done) ≡ 0) ⊎ (is_move doing ≡ true))

serial-of :
    (setting : Setting) (position : Position) (filled : List (Option Filled)) (r : ℕ) (slot : Option HeldBlock) (now : Option Filled) (done : Deed)
    (result : Outcome) (piece : List Event) (doing : Doing) → held_in position.registers r ≡ slot → Beside slot now → IsAlike position.registers filled
    → SerialBy setting position slot now done result piece doing → IsSerialRow setting position filled r slot now done result doing
serial-of setting position filled r slot now done result piece does.skips full beside alike (e, is, none) =
    rw (e, is) (record { alike = alike; outcome_is = λ has. refl; asks_for = refl; returns = refl; sided = inl refl })
serial-of setting position filled r None None done result piece (does.gives need v) full beside alike (words, place, e, is, words_are) =
    rw (e, is) (record {
      alike =
          alike-set position.registers filled r (Some (record { place = place; words = words; need = need_of need }))
          (Some (record { need = need_of need; numbers = numbers_from v (usable_words (need_of need)) }))
          (words_are ∙ sym (by-length (λ i. (v + i) % 2 ^ 64) (usable_words (need_of need))), refl) alike;
      outcome_is = λ has. ap (λ n. outcome.Given n 0) words_are;
      asks_for = refl;
      returns = refl;
      sided = inr (inl refl);
    })
serial-of setting position filled r (Some held) (Some now) done result piece does.frees full beside alike (e, is) =
    rw (e, is) (record {
      alike = alike-set position.registers filled r None None tt alike;
      outcome_is = λ has. refl;
      asks_for = refl;
      returns = ap Some (sym beside.1);
      sided = inl refl;
    })
serial-of setting position filled r (Some held) (Some now) done result piece (does.fills value) full beside alike (e, is, written) =
    let same : set position.registers r (Some held) ≡ position.registers =
    ap (set position.registers r) (sym full) ∙ set-get_or position.registers r None in
    rw (e, is) (record {
      alike = subst (λ registers. IsAlike registers (serial_by filled r (Some now) (does.fills value))) same
          (alike-set position.registers filled r (Some held) (Some (record { need = now.need; numbers = numbers_by value (length now.numbers) }))
          (beside.0 ∙ sym (by-length value (length now.numbers)), beside.1) alike);
      outcome_is = λ has. refl;
      asks_for = refl;
      returns = refl;
      sided = inl refl;
    })
serial-of setting position filled r (Some held) (Some now) done result piece does.sums full beside alike (e, none, total, is, moment, block, live, summed) =
    rw (e, is) (record {
      alike = alike;
      outcome_is = λ has.
          ap outcome.Sum (known-sum (pool_of moment.before) setting.caller held.place now.numbers total block
          (has moment.before moment.begins moment.own_done) live summed);
      asks_for = refl;
      returns = refl;
      sided = inl refl;
    })
serial-of setting position filled r (Some held) (Some now) done result piece does.keeps full beside alike (e, none, words, place, is, words_are) =
    rw (e, is) (record { alike = alike; outcome_is = λ has. ap (λ n. outcome.Kept n 0) words_are; asks_for = refl; returns = refl; sided = inl refl })
serial-of setting position filled r (Some held) (Some now) done result piece (does.moves_to need) full beside alike (words, place, e, is, words_are) =
    rw (e, is) (record {
      alike =
          alike-set position.registers filled r (Some (record { place = place; words = words; need = need_of need })) (Some (moved_to need now))
          (words_are ∙ sym (by-length (λ i. slice_index_or now.numbers i 0) (usable_words (need_of need))), refl) alike;
      outcome_is = λ has. ap (λ n. outcome.Resized n 0) words_are;
      asks_for = refl;
      returns = ap Some (sym beside.1);
      sided = inr (inr refl);
    })
serial-of setting position filled r slot now done result piece doing full beside alike row = absurd row

abbrev pub IsSerial : Setting → Position → List (Option Filled) → Op → Outcome → Type 0
IsSerial setting position filled operation result =
    IsSerialRow setting position filled (register_of operation) (held_in position.registers (register_of operation)) (filled_in filled operation)
    (deed_of operation result) result (doing_of (filled_in filled operation) operation)

pub row-serial :
    (setting : Setting) (depth : ℕ) (position : CachedPosition) (filled : List (Option Filled)) (operation : Op) (result : Outcome) (piece : List Event)
    → IsPlain operation → IsAnswered result → IsAlike position.base.registers filled → CachedRow setting depth position operation result piece
    → IsSerial setting position.base filled operation result
row-serial setting depth position filled operation result piece plain answered alike row =
    serial-of setting position.base filled (register_of operation) _ _ (deed_of operation result) result piece _ refl
    (beside-at position.base.registers filled (register_of operation) alike) alike
    (row-does setting depth position filled operation result piece plain answered alike row)
