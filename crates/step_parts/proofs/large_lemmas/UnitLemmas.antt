-- The bits of a run of units.
use Rattle.std.proofs.Common.{ℕ, zero, suc, true, ◌≡◌, ◌+◌, ◌-◌, ◌*◌, ◌/◌, ◌%◌, ◌^◌, ◌<◌, ◌≤◌, bit_and, min, max, w64, arith, ap, sym, refl, ◌∙◌, inl, inr, eq-eqb, eqb-true}
use Rattle.std.specs.Prelude.{◌==◌}
use Rattle.std.specs.Int.{bit_at}
use Rattle.std.proofs.Math.Pow.{pow_mono}
use Rattle.std.proofs.lemmas.Bool.{cases_lt, ne_eqb}
use Rattle.std.proofs.lemmas.Nat.{pow-add, pow_pos, or_lt, and_le_l}
use Rattle.std.proofs.lemmas.Nat.Bits.{and_high, bit_at-lt, bit_at-zero, bit_at_and, bit_at_or, bit_at_not, bit_at_above, bit_at_mask_inside, bit_at_mask_below, bit_at_mask_above, ones_shr, same_from_bits}
use Rattle.heap_geometry.specs.declared.limits.TheConstants.{MAX_UNITS}
use Rattle.packed_words.specs.Fields.{bits_at}
use Rattle.step_parts.specs.large.Units.{IsInRun, IsFreeRun, is_free, run_bits, other_bits, with_run, without_run}

none-times : (b : ℕ) → 0 * b ≡ 0
none-times b = omega arith

times-less : (a b : ℕ) → (a - 1) * b ≡ b * a - b
times-less zero b = omega arith
times-less (suc a) b = grind arith

-- the bits of a run are those below its end, less those below its begin
pub run_bits-mask : (first units : ℕ) → run_bits first units ≡ 2 ^ (first + units) - 2 ^ first
unfolding run_bits
run_bits-mask first units = times-less (2 ^ units) (2 ^ first) ∙ ap (λ n. n - 2 ^ first) (sym (pow-add 2 first units))

-- a word has room for the bits of the largest heap's runs
pub run_bits-below : (first units : ℕ) → first + units ≤ MAX_UNITS → run_bits first units < 2 ^ 64
run_bits-below first units within =
    let most : 2 ^ (first + units) ≤ 2 ^ MAX_UNITS = pow_mono within in
    omega (arith, run_bits-mask first units, pow_pos first)

-- ones moved down and up again are the bits of a run
pub run_bits-shifts :
    (first units : ℕ) → 1 ≤ units → first + units ≤ MAX_UNITS
    → (2 ^ 64 - 1) / 2 ^ (64 - units) * 2 ^ first % 2 ^ 64 ≡ run_bits first units
unfolding run_bits
run_bits-shifts first units some within =
    let places : 64 - (64 - units) ≡ units = omega arith in
    let ones : (2 ^ 64 - 1) / 2 ^ (64 - units) ≡ 2 ^ units - 1 =
    ones_shr 64 (64 - units) (omega arith) ∙ ap (λ n. 2 ^ n - 1) places in
    let below : (2 ^ units - 1) * 2 ^ first < 2 ^ 64 = run_bits-below first units within in
    ap (λ n. n * 2 ^ first % 2 ^ 64) ones ∙ small ((2 ^ units - 1) * 2 ^ first) below
  where
    small : (n : ℕ) → n < 2 ^ 64 → n % 2 ^ 64 ≡ n
    small n h = omega (arith, h)

run_bits-inside : (first units i : ℕ) → IsInRun first units i → bit_at (run_bits first units) i ≡ 1
run_bits-inside first units i h =
    ap (λ n. bit_at n i) (run_bits-mask first units) ∙ bit_at_mask_inside first (first + units) i h.from h.below

run_bits-outside : (first units i : ℕ) → ¬ IsInRun first units i → bit_at (run_bits first units) i ≡ 0
run_bits-outside first units i h =
    ap (λ n. bit_at n i) (run_bits-mask first units)
    ∙ elim (cases_lt i first) [
      | inl before ↦ bit_at_mask_below first (first + units) i before
      | inr from ↦ elim (cases_lt i (first + units)) [
        | inl below ↦ absurd (h (record { from = from; below = below }))
        | inr behind ↦ bit_at_mask_above first (first + units) i behind
      ]
    ]

-- a unit of a run is taken in the word with that run
pub with_run-inside : (bits first units i : ℕ) → IsInRun first units i → bit_at (with_run bits first units) i ≡ 1
with_run-inside bits first units i h =
    bit_at_or bits (run_bits first units) i ∙ ap (max (bit_at bits i)) (run_bits-inside first units i h)
    ∙ most (bit_at bits i) (bit_at-lt bits i)
  where
    most : (b : ℕ) → b < 2 → max b 1 ≡ 1
    most b below = omega arith

-- a unit outside a run is as before in the word with that run
pub with_run-outside :
    (bits first units i : ℕ) → ¬ IsInRun first units i → bit_at (with_run bits first units) i ≡ bit_at bits i
with_run-outside bits first units i h =
    bit_at_or bits (run_bits first units) i ∙ ap (max (bit_at bits i)) (run_bits-outside first units i h)
    ∙ same (bit_at bits i)
  where
    same : (b : ℕ) → max b 0 ≡ b
    same b = omega arith

pub with_run-below :
    (bits first units : ℕ) → first + units ≤ MAX_UNITS → bits < 2 ^ 64 → with_run bits first units < 2 ^ 64
with_run-below bits first units within word = or_lt 64 bits (run_bits first units) word (run_bits-below first units within)

-- each bit of a word stays or goes when a run is given back, by whether it is one of the run's
without_run-bit :
    (bits first units i b : ℕ) → first + units ≤ MAX_UNITS → i < 64 → bit_at (run_bits first units) i ≡ b
    → bit_at (without_run bits first units) i ≡ min (bit_at bits i) (1 - b)
without_run-bit bits first units i b within place e =
    bit_at_and bits (other_bits first units) i
    ∙ ap (min (bit_at bits i))
    (bit_at_not w64 (run_bits first units) i (run_bits-below first units within) place ∙ ap (λ n. 1 - n) e)

-- a unit of a run is clear in the word without that run
pub without_run-inside :
    (bits first units i : ℕ) → first + units ≤ MAX_UNITS → bits < 2 ^ 64 → IsInRun first units i
    → bit_at (without_run bits first units) i ≡ 0
without_run-inside bits first units i within word h =
    without_run-bit bits first units i 1 within (omega (arith, h.below)) (run_bits-inside first units i h) ∙ none (bit_at bits i)
  where
    none : (b : ℕ) → min b 0 ≡ 0
    none b = omega arith

-- a unit outside a run is as before in the word without that run
pub without_run-outside :
    (bits first units i : ℕ) → first + units ≤ MAX_UNITS → bits < 2 ^ 64 → ¬ IsInRun first units i
    → bit_at (without_run bits first units) i ≡ bit_at bits i
without_run-outside bits first units i within word h =
    elim (cases_lt i 64) [
      | inl place ↦
          without_run-bit bits first units i 0 within place (run_bits-outside first units i h)
          ∙ same (bit_at bits i) (bit_at-lt bits i)
      | inr above ↦
          let clear : bit_at bits i ≡ 0 = bit_at_above bits 64 i word above in
          bit_at_and bits (other_bits first units) i ∙ ap (λ b. min b (bit_at (other_bits first units) i)) clear
          ∙ none (bit_at (other_bits first units) i) ∙ sym clear
    ]
  where
    same : (b : ℕ) → b < 2 → min b 1 ≡ b
    same b below = omega arith

    none : (b : ℕ) → min 0 b ≡ 0
    none b = omega arith

pub without_run-below : (bits first units : ℕ) → bits < 2 ^ 64 → without_run bits first units < 2 ^ 64
without_run-below bits first units word = omega (arith, and_le_l bits (other_bits first units))

-- what a word and the bits of a run have in common, as the number that the run's bits make
pub and-run_bits : (bits first units : ℕ) → bit_and bits (run_bits first units) ≡ bits_at first units bits * 2 ^ first
and-run_bits bits first units =
    let e : first + units ≡ units + first = omega arith in
    ap (bit_and bits) (run_bits-mask first units ∙ ap (λ n. 2 ^ n - 2 ^ first) e) ∙ and_high bits units first

-- a run that passes the test has no unit that is taken
pub is_free-run : (bits first units : ℕ) → is_free bits first units ≡ true → IsFreeRun bits first units
is_free-run bits first units e i h =
    let common : bit_and bits (run_bits first units) ≡ 0 =
    and-run_bits bits first units ∙ ap (λ n. n * 2 ^ first) (eqb-true (bits_at first units bits) 0 e)
    ∙ none-times (2 ^ first) in
    least (bit_at bits i) (bit_at-lt bits i)
    (ap (min (bit_at bits i)) (sym (run_bits-inside first units i h)) ∙ sym (bit_at_and bits (run_bits first units) i)
    ∙ ap (λ n. bit_at n i) common ∙ bit_at-zero i)
  where
    least : (b : ℕ) → b < 2 → min b 1 ≡ 0 → b ≡ 0
    least b below none = omega arith

-- a run of which no unit is taken passes the test
pub run-is_free : (bits first units : ℕ) → IsFreeRun bits first units → is_free bits first units ≡ true
run-is_free bits first units free =
    let clear : (i : ℕ) → bit_at (bit_and bits (run_bits first units)) i ≡ bit_at 0 i = λ i.
    bit_at_and bits (run_bits first units) i ∙ common i ∙ sym (bit_at-zero i) in
    let none : bit_and bits (run_bits first units) ≡ 0 = same_from_bits (bit_and bits (run_bits first units)) 0 clear in
    eq-eqb (bits_at first units bits) 0
    (no-part (bits_at first units bits) (2 ^ first) (pow_pos first) (sym (and-run_bits bits first units) ∙ none))
  where
    no-part : (a b : ℕ) → 0 < b → a * b ≡ 0 → a ≡ 0
    no-part zero b some e = refl
    no-part (suc a) b some e = absurd (omega (arith, e))

    left : (b : ℕ) → min 0 b ≡ 0
    left b = omega arith

    right : (b : ℕ) → min b 0 ≡ 0
    right b = omega arith

    common : (i : ℕ) → min (bit_at bits i) (bit_at (run_bits first units) i) ≡ 0
    common i =
        elim (cases_lt i first) [
          | inl before ↦ ap (min (bit_at bits i)) (run_bits-outside first units i (λ h. absurd (omega (arith, h.from)))) ∙ right (bit_at bits i)
          | inr from ↦ elim (cases_lt i (first + units)) [
            | inl below ↦ ap (λ b. min b (bit_at (run_bits first units) i)) (free i (record { from = from; below = below })) ∙ left (bit_at (run_bits first units) i)
            | inr behind ↦ ap (min (bit_at bits i)) (run_bits-outside first units i (λ h. absurd (omega (arith, h.below)))) ∙ right (bit_at bits i)
          ]
        ]

-- a word and the bits of a run have nothing in common where the run passes the test
pub mask_test :
    (bits first units mask : ℕ) → mask ≡ run_bits first units → (bit_and bits mask == 0) ≡ is_free bits first units
mask_test bits first units mask e =
    ap (λ n. n == 0) (ap (bit_and bits) e ∙ and-run_bits bits first units)
    ∙ same (bits_at first units bits) (2 ^ first) (pow_pos first)
  where
    same : (a b : ℕ) → 0 < b → (a * b == 0) ≡ (a == 0)
    same zero b some = ap (λ n. n == 0) (none-times b)
    same (suc a) b some = ne_eqb (suc a * b) 0 (λ e. omega (arith, e)) ∙ sym (ne_eqb (suc a) 0 (λ e. omega (arith, e)))
