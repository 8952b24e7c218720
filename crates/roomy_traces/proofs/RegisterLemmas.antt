-- The registers of a lane beside those of the lane computed on its own.
use Rattle.std.proofs.Common.{ℕ, zero, suc, sum_by, option_map, false, true, replicate, ◌≡◌, ◌≢◌, List, [], ◌∷◌, Option, Some, None, length, set, refl, ◌∙◌, ap, arith, eq-eqb, ne_eqb, length-set}
use Rattle.std.specs.Prelude.{slice_index_or}
use Rattle.std.specs.List.{AllZip}
use Rattle.std.proofs.lemmas.List.{length-replicate}
use Rattle.std.proofs.lemmas.List.FromFn.{length-map-range_with_len}
use Rattle.std.proofs.lemmas.List.Sums.{sum_by-cons}
use Rattle.heap_geometry.specs.declared.need.Need.{Need}
use Rattle.heap_geometry.specs.declared.need.Need.TheVariants.{Small, Large, TooLarge}
use Rattle.trace_text.specs.declared.limits.TheConstants.{REGISTERS}
use Rattle.lane_outcomes.specs.declared.registers.HeldBlock.{HeldBlock}
use Rattle.lane_outcomes.specs.Lane.{held_in, start}
use Rattle.lane_outcomes.specs.LaneCounts.{count_with}
use Rattle.roomy_traces.specs.Roomy.{Filled, held_by, is_same, no_blocks, numbers_by}

-- the words of a block in a register
abbrev pub words_held : Option HeldBlock → Option ℕ
words_held held = option_map (λ (h : HeldBlock). h.words) held

-- a block has a number for each word
pub by-length : (value : ℕ → ℕ) (words : ℕ) → length (numbers_by value words) ≡ words
by-length value words = length-map-range_with_len value 0 words

-- needs are told apart
pub same-need : (need other : Need) → need ≡ other → is_same need other ≡ true
same-need (Small class) (Small other) same = eq-eqb class other (let e : Small class ≡ Small other = same in cc)
same-need (Large units) (Large other) same = eq-eqb units other (let e : Large units ≡ Large other = same in cc)
same-need TooLarge TooLarge same = refl
same-need (Small class) (Large other) same = absurd (let e : Small class ≡ Large other = same in cc)
same-need (Small class) TooLarge same = absurd (let e : Small class ≡ TooLarge = same in cc)
same-need (Large units) (Small other) same = absurd (let e : Large units ≡ Small other = same in cc)
same-need (Large units) TooLarge same = absurd (let e : Large units ≡ TooLarge = same in cc)
same-need TooLarge (Small other) same = absurd (let e : TooLarge ≡ Small other = same in cc)
same-need TooLarge (Large other) same = absurd (let e : TooLarge ≡ Large other = same in cc)

pub other-need : (need other : Need) → need ≢ other → is_same need other ≡ false
other-need (Small class) (Small other) differ = ne_eqb class other (λ e. differ (ap Small e))
other-need (Large units) (Large other) differ = ne_eqb units other (λ e. differ (ap Large e))
other-need TooLarge TooLarge differ = absurd (differ refl)
other-need (Small class) (Large other) differ = refl
other-need (Small class) TooLarge differ = refl
other-need (Large units) (Small other) differ = refl
other-need (Large units) TooLarge differ = refl
other-need TooLarge (Small other) differ = refl
other-need TooLarge (Large other) differ = refl

-- a register holds a block of the same words and need on both sides, or none
abbrev pub Beside : Option HeldBlock → Option Filled → Type 0
Beside None None = Unit {0}
Beside (Some held) (Some now) = (held.words ≡ length now.numbers) × (held.need ≡ now.need)
Beside held now = ⊥

-- all registers do, and there are as many as a lane has
pub record IsAlike (registers : List (Option HeldBlock)) (filled : List (Option Filled)) : Type 0 where
  pub each : AllZip Beside registers filled
  pub many : length registers ≡ REGISTERS

beside-in :
    (registers : List (Option HeldBlock)) (filled : List (Option Filled)) (r : ℕ) → AllZip Beside registers filled
    → Beside (held_in registers r) (slice_index_or filled r None)
beside-in [] [] r each = tt
beside-in (held ∷ registers) (now ∷ filled) zero each = each.0
beside-in (held ∷ registers) (now ∷ filled) (suc r) each = beside-in registers filled r each.1
beside-in registers filled r each = absurd each

pub beside-at :
    (registers : List (Option HeldBlock)) (filled : List (Option Filled)) (r : ℕ) → IsAlike registers filled
    → Beside (held_in registers r) (slice_index_or filled r None)
beside-at registers filled r alike = beside-in registers filled r alike.each

beside-set :
    (registers : List (Option HeldBlock)) (filled : List (Option Filled)) (r : ℕ) (held : Option HeldBlock) (now : Option Filled) → Beside held now
    → AllZip Beside registers filled → AllZip Beside (set registers r held) (set filled r now)
beside-set [] [] r held now beside each = tt
beside-set (was ∷ registers) (old ∷ filled) zero held now beside each = (beside, each.1)
beside-set (was ∷ registers) (old ∷ filled) (suc r) held now beside each = (each.0, beside-set registers filled r held now beside each.1)
beside-set registers filled r held now beside each = absurd each

pub alike-set :
    (registers : List (Option HeldBlock)) (filled : List (Option Filled)) (r : ℕ) (held : Option HeldBlock) (now : Option Filled) → Beside held now
    → IsAlike registers filled → IsAlike (set registers r held) (set filled r now)
alike-set registers filled r held now beside alike =
    record { each = beside-set registers filled r held now beside alike.each; many = length-set registers r held ∙ alike.many }

many-alike : (registers : List (Option HeldBlock)) (filled : List (Option Filled)) → AllZip Beside registers filled → length registers ≡ length filled
many-alike [] [] each = refl
many-alike (held ∷ registers) (now ∷ filled) each = ap suc (many-alike registers filled each.1)
many-alike registers filled each = absurd each

pub same-many : (registers : List (Option HeldBlock)) (filled : List (Option Filled)) → IsAlike registers filled → length registers ≡ length filled
same-many registers filled alike = many-alike registers filled alike.each

-- what the held blocks count
abbrev pub own_by : (ℕ → ℕ) → List (Option HeldBlock) → ℕ
own_by f registers = sum_by (λ held. count_with f (words_held held)) registers

beside-count :
    (f : ℕ → ℕ) (held : Option HeldBlock) (now : Option Filled) → Beside held now
    → count_with f (words_held held) ≡ count_with f (option_map (λ (b : Filled). length b.numbers) now)
beside-count f None None beside = refl
beside-count f (Some held) (Some now) beside = ap f beside.0
beside-count f held now beside = absurd beside

each-count : (f : ℕ → ℕ) (registers : List (Option HeldBlock)) (filled : List (Option Filled)) → AllZip Beside registers filled → own_by f registers ≡ held_by f filled
each-count f [] [] each = refl
each-count f (held ∷ registers) (now ∷ filled) each =
    omega (
      arith,
      sum_by-cons (λ (h : Option HeldBlock). count_with f (words_held h)) held registers,
      sum_by-cons (λ (b : Option Filled). count_with f (option_map (λ (x : Filled). length x.numbers) b)) now filled,
      beside-count f held now each.0,
      each-count f registers filled each.1,
    )
each-count f registers filled each = absurd each

pub alike-count :
    (f : ℕ → ℕ) (registers : List (Option HeldBlock)) (filled : List (Option Filled)) → IsAlike registers filled → own_by f registers ≡ held_by f filled
alike-count f registers filled alike = each-count f registers filled alike.each

-- empty registers hold nothing on both sides
nothing-beside : (n : ℕ) → AllZip Beside (replicate n None) (replicate n None)
nothing-beside zero = tt
nothing-beside (suc n) = (tt, nothing-beside n)

pub alike-start : IsAlike start.registers no_blocks
alike-start = record { each = nothing-beside REGISTERS; many = length-replicate {A = Option HeldBlock} REGISTERS None }
