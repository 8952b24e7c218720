-- Where all callers are lanes whose outcomes fit, blocks on shelves, blocks in registers and blocks that are checked have all their words written.
use Rattle.std.proofs.Common.{ℕ, zero, suc, ◌≡◌, ◌<◌, ◌+◌, map, ◌∷◌, ◌++◌, List, [], Option, Some, None, sum, get_or, refl, ◌∙◌, ap, subst, arith, ◌%◌, ◌^◌}
use Rattle.std.specs.List.{AllByRecursion, AllZip}
use Rattle.pool_model.specs.declared.event.Event.{Event}
use Rattle.pool_model.specs.declared.event.Event.TheVariants.{Write}
use Rattle.pool_model.specs.Pool.{pool_of}
use Rattle.lane_outcomes.specs.declared.registers.HeldBlock.{HeldBlock}
use Rattle.lane_outcomes.specs.declared.outcome.Outcome.TheVariants as outcome
use Rattle.lane_outcomes.specs.Lane.{Position, held_in}
use Rattle.lane_outcomes.specs.Rows.{CheckRow, IsWord, Moment, Setting}
use Rattle.lane_outcomes.specs.Written.{HoldsWritten, SumsWritten}
use Rattle.lane_outcomes.proofs.WrittenBlocks.{known-words}
use Rattle.lane_outcomes.proofs.FillLemmas.{writes_of}

-- what holds of each event holds of one
pub one-of : (P : Event → Type 0) (before rest : List Event) (event : Event) → AllByRecursion P (before ++ event ∷ rest) → P event
one-of P [] rest event all = all.0
one-of P (first ∷ before) rest event all = one-of P before rest event all.1

-- the sum of a check is that of words that were written
pub check-sum :
    (setting : Setting) (position : Position) (r total : ℕ) (piece : List Event) (held : Option HeldBlock) → held_in position.registers r ≡ held
    → ((moment : Moment setting position.done) → HoldsWritten (pool_of moment.before) position.registers)
    → CheckRow setting position held (outcome.Sum total) piece → SumsWritten setting position r total
check-sum setting position r total piece None full all row = absurd row
check-sum setting position r total piece (Some held) full all (none, moment, block, live, summed) =
    let words = all moment r held block full live in
    record {
      held = held;
      holds = full;
      moment = moment;
      block = block;
      live = live;
      words = words.0;
      written = words.1;
      total_is =
          summed.total_is
          ∙ ap (λ ns. sum ns % 2 ^ 64)
          (known-words words.0 summed.words (subst (λ (cs : List (Option ℕ)). AllZip IsWord cs summed.words) words.1 summed.each));
    }

-- a number for a copied word is the word that was written, and 0 past the end
pub copied-word : (values : List ℕ) (i n : ℕ) → IsWord (get_or (map (λ word. Some word) values) i (Some 0)) n → n ≡ get_or values i 0
copied-word [] i n is = is
copied-word (value ∷ values) zero n is = is
copied-word (value ∷ values) (suc i) n is = copied-word values i n is

-- writes with the same values
pub writes-same :
    (caller place count first : ℕ) (value other : ℕ → ℕ) → ((i : ℕ) → i < first + count → value i ≡ other i)
    → writes_of caller place value first count ≡ writes_of caller place other first count
writes-same caller place zero first value other same = refl
writes-same caller place (suc count) first value other same =
    ap (λ n. Write caller place first n ∷ writes_of caller place value (first + 1) count) (same first (omega arith))
    ∙ ap (λ es. Write caller place first (other first) ∷ es)
    (writes-same caller place count (first + 1) value other (λ i lt. same i (omega (arith, lt))))
