-- Blocks that an operation gives and frees, and those in the registers before and after it.
use Rattle.std.proofs.Common.{ℕ, get_or, ◌≡◌, ◌+◌, ◌<◌, ◌≤◌, List, Option, Some, None, length, set, refl, sym, ap, subst, arith}
use Rattle.std.proofs.lemmas.List.Sums.{sum_by-set}
use Rattle.heap_geometry.specs.Need.{need_of}
use Rattle.pool_model.specs.declared.event.Event.{Event}
use Rattle.trace_text.specs.declared.limits.TheConstants.{REGISTERS}
use Rattle.trace_text.specs.Traces.{IsOp}
use Rattle.trace_text.specs.declared.trace.Op.{Op}
use Rattle.lane_outcomes.specs.declared.registers.HeldBlock.{HeldBlock}
use Rattle.lane_outcomes.specs.declared.outcome.Outcome.{Outcome}
use Rattle.lane_outcomes.specs.Lane.{held_in, registers_after}
use Rattle.lane_outcomes.specs.LaneCounts.{words_given, words_freed, count_with, as_one}
use Rattle.lane_outcomes.specs.Rows.{Setting}
use Rattle.roomy_traces.specs.Roomy.{IsPlain}
use Rattle.roomy_traces.proofs.RegisterLemmas.{own_by, words_held}
use Rattle.roomy_traces.proofs.SerialRows.{IsPlainDeed, op-within, plain-deed}
use Rattle.lane_outcomes.proofs.SlotRows.{Adds, row-adds}
use Rattle.lane_outcomes.specs.Deeds as deed
use Rattle.trace_text.specs.Operations.{register_of}
use Rattle.lane_outcomes.specs.Deeds.{Deed, deed_of, freed_by, given_by, registers_by}
use Rattle.lane_outcomes.specs.Cached.{CachedPosition, CachedRow}

-- what the block in a register counts, if it holds one
abbrev weigh : (ℕ → ℕ) → Option HeldBlock → ℕ
weigh f held = count_with f (words_held held)

set-balance :
    (f : ℕ → ℕ) (registers : List (Option HeldBlock)) (r : ℕ) (held now : Option HeldBlock) → r < length registers → held_in registers r ≡ held
    → weigh f now + own_by f registers ≡ weigh f held + own_by f (set registers r now)
set-balance f registers r held now within full =
    let sums = sum_by-set (weigh f) registers r now None within in
    let here : weigh f (get_or registers r None) ≡ weigh f held = ap (weigh f) full in
    omega arith

-- what is given and what was held are together what is freed and what is held then
balance-by :
    (f : ℕ → ℕ) (setting : Setting) (depth : ℕ) (position : CachedPosition) (r : ℕ) (done : Deed) (piece : List Event) → IsPlainDeed done
    → r < length position.base.registers → Adds setting depth position r done piece
    → count_with f (given_by done) + own_by f position.base.registers
    ≡ count_with f (freed_by (held_in position.base.registers r) done) + own_by f (registers_by position.base.registers r done)
balance-by f setting depth position r (deed.gives need v words place) piece plain within row =
    set-balance f position.base.registers r None (Some (record { place = place; words = words; need = need_of need })) within row.0
balance-by f setting depth position r (deed.replaces need words place) piece plain within (held, full, differ, words_are, calls, given, value, copy, is) =
    rw full (set-balance f position.base.registers r (Some held) (Some (record { place = place; words = words; need = need_of need })) within full)
balance-by f setting depth position r deed.frees piece plain within (held, full, is) =
    rw full (set-balance f position.base.registers r (Some held) None within full)
balance-by f setting depth position r deed.lays piece plain within row = absurd plain
balance-by f setting depth position r (deed.takes words place need) piece plain within row = absurd plain
balance-by f setting depth position r done piece plain within row = refl

pub row-balance :
    (f : ℕ → ℕ) (setting : Setting) (depth : ℕ) (position : CachedPosition) (operation : Op) (result : Outcome) (piece : List Event) → IsPlain operation
    → IsOp operation → length position.base.registers ≡ REGISTERS → CachedRow setting depth position operation result piece
    → count_with f (words_given operation result) + own_by f position.base.registers
    ≡ count_with f (words_freed position.base.registers operation result) + own_by f (registers_after position.base.registers operation result)
row-balance f setting depth position operation result piece plain ranges many row =
    balance-by f setting depth position (register_of operation) (deed_of operation result) piece (plain-deed operation result plain)
    (subst (λ n. register_of operation < n) (sym many) (op-within operation ranges)) (row-adds setting depth position operation result piece row)

-- an operation gives at most one block
pub gives-one : (done : Deed) → count_with as_one (given_by done) ≤ 1
gives-one (deed.gives need v words place) = omega arith
gives-one (deed.replaces need words place) = omega arith
gives-one done = omega arith
