-- A number is read from a field exactly where the field is its decimal digits.
use Rattle.std.proofs.Common.{Option, ◌∙◌, ◌≡◌, ℕ, ◌+◌, ◌-◌, ◌*◌, ◌^◌, ◌%◌, ◌<◌, ◌≤◌, Bool, true, false, ◌&&◌, if◌then◌else◌, eqb, ltb, leb, List, [], ◌∷◌, length, get_or, take, Some, None, refl, sym, ap, arith, rules, inl, inr}
use Rattle.std.specs.Char.{is_ascii_digit, digit_value}
use Rattle.std.specs.List.{list_all}
use Rattle.std.specs.Fmt.{decimal}
use Rattle.std.specs.Prelude.{IfSome}
use Rattle.std.specs.Str.Parse.{AllDigits, digits_value}
use Rattle.std.proofs.Math.Nat.{mod-eq_of_lt}
use Rattle.std.proofs.lemmas.Bool.{cases_Bool, and_parts, eqb-true, eqb-false, eq-eqb, ne_eqb, lt-ltb, le-ltb, ltb-true, leb-true, cases_lt, false≢true}
use Rattle.std.proofs.lemmas.Fmt.{decimal-digits_value, digits_decimal, digits_value-decimal, decimal_nonempty, first_decimal, decimal_digit}
use Rattle.std.proofs.lemmas.Int.Digits.{digits_value_more}
use Rattle.std.proofs.lemmas.List.{length-take}
use Rattle.std.proofs.lemmas.List.Folds.{list_all_more, list_all_at}
use Rattle.std.proofs.lemmas.Option.{cond_some}
use Rattle.std.proofs.lemmas.Str.{digit_value_digit}
use Rattle.std.proofs.lemmas.Str.Parse.{IsNumeralModel, numerals_by_value, digits_value_short, digits_value-take-le}
use Rattle.trace_text.specs.Numbers.{is_numeral, number_in}

own : IsNumeralModel (λ ds. list_all is_ascii_digit ds ≡ true) (digits_value 10)
own = numerals_by_value _ (search rules)

-- a numeral: at least one digit, and a first 0 only alone
pub record IsNumeral (ds : List ℕ) : Type 0 where
  pub digits : list_all is_ascii_digit ds ≡ true
  pub some : 0 < length ds
  pub first : get_or ds 0 0 ≡ 48 → length ds ≡ 1

zero_alone : (ds : List ℕ) → length ds ≡ 0 → list_all is_ascii_digit (48 ∷ ds) ≡ true
zero_alone [] h = refl
zero_alone (d ∷ ds) h = absurd (omega arith)

pub IsNumeral-from_test : (ds : List ℕ) → is_numeral ds ≡ true → IsNumeral ds
unfolding is_numeral
IsNumeral-from_test [] e = absurd (false≢true e)
IsNumeral-from_test (d ∷ ds) e =
    elim (cases_Bool (eqb d 48)) [
      | inl zero ↦
          let alone : eqb (length ds) 0 ≡ true = rw zero at e in
          let none : length ds ≡ 0 = eqb-true (length ds) 0 alone in
          let is : d ≡ 48 = eqb-true d 48 zero in
          record { digits = rw is (zero_alone ds none); some = omega arith; first = λ _. omega arith }
      | inr other ↦
          record { digits = rw other at e; some = omega arith; first = λ is. absurd (eqb-false d 48 other is) }
    ]

pub test-from_IsNumeral : (ds : List ℕ) → IsNumeral ds → is_numeral ds ≡ true
unfolding is_numeral
test-from_IsNumeral [] h = absurd (omega (arith, h.some))
test-from_IsNumeral (d ∷ ds) h =
    elim (cases_Bool (eqb d 48)) [
      | inl zero ↦ rw zero (eq-eqb (length ds) 0 (omega (arith, h.first (eqb-true d 48 zero))))
      | inr other ↦ rw other h.digits
    ]

-- bytes that don't begin with 0, or just `0`, are a numeral where all of them are digits
is_numeral-digits : (ds : List ℕ) → 0 < length ds → (get_or ds 0 0 ≡ 48 → length ds ≡ 1) → is_numeral ds ≡ list_all is_ascii_digit ds
unfolding is_numeral
is_numeral-digits [] some first = absurd (omega (arith, some))
is_numeral-digits (d ∷ ds) some first =
    elim (cases_Bool (eqb d 48)) [
      | inl zero ↦
          let is : d ≡ 48 = eqb-true d 48 zero in
          let none : length ds ≡ 0 = omega (arith, first is) in
          rw zero (eq-eqb (length ds) 0 none ∙ rw is (sym (zero_alone ds none)))
      | inr other ↦ rw other refl
    ]

-- digits with one digit more write ten times their number and that digit
pub digits_more :
    (ds : List ℕ) (i : ℕ) → i < length ds → list_all is_ascii_digit (take i ds) ≡ true → is_ascii_digit (get_or ds i 0) ≡ true
    → (list_all is_ascii_digit (take (i + 1) ds) ≡ true) × (digits_value 10 (take (i + 1) ds) ≡ digits_value 10 (take i ds) * 10 + (get_or ds i 0 - 48))
digits_more ds i below front digit =
    let range = and_parts (leb 48 (get_or ds i 0)) (leb (get_or ds i 0) 57) digit in
    let value : digit_value (get_or ds i 0) + 48 ≡ get_or ds i 0 = digit_value_digit (get_or ds i 0) (leb-true _ _ range.0, leb-true _ _ range.1) in
    let worth : digit_value (get_or ds i 0) ≡ get_or ds i 0 - 48 = omega (arith, value) in (
      list_all_more is_ascii_digit ds i 0 below ∙ rw (front, digit) refl,
      digits_value_more 10 ds i below ∙ ap (λ d. digits_value 10 (take i ds) * 10 + d) worth,
    )

-- few digits write a number below 2^64
pub few_digits : (ds : List ℕ) (i : ℕ) → i ≤ 19 → list_all is_ascii_digit (take i ds) ≡ true → digits_value 10 (take i ds) < 10 ^ 19
few_digits ds i few front = digits_value_short own (take i ds) 19 front (omega (arith, length-take i ds))

-- ten times a number and a digit, where nothing is lost
pub no_wrap : (n d : ℕ) → n * 10 + d < 2 ^ 64 → ((n * 10) % 2 ^ 64 + d) % 2 ^ 64 ≡ n * 10 + d
no_wrap n d small =
    let ten : (n * 10) % 2 ^ 64 ≡ n * 10 = mod-eq_of_lt (omega (arith, small)) in
    rw ten (mod-eq_of_lt small)

-- bytes of which one is no digit are not all digits
pub lacks_digit : (ds : List ℕ) (i : ℕ) → i < length ds → is_ascii_digit (get_or ds i 0) ≡ false → list_all is_ascii_digit ds ≡ false
lacks_digit ds i below other = list_all_at is_ascii_digit ds i 0 below other

and_false : (a b : Bool) → b ≡ false → (a && b) ≡ false
and_false true b e = e
and_false false b e = refl

-- digits of which the first ones write 2^64 or more pass no test for a number below it
pub too_large : (ds : List ℕ) (i : ℕ) → 2 ^ 64 ≤ digits_value 10 (take i ds) → (list_all is_ascii_digit ds && ltb (digits_value 10 ds) (2 ^ 64)) ≡ false
too_large ds i large =
    let most = digits_value-take-le 10 ds i (omega arith) in
    and_false _ _ (le-ltb (digits_value 10 ds) (2 ^ 64) (omega (arith, large, most)))

-- at most 19 bytes that don't begin with 0, or just `0`, are the field of the number that they write, if all are digits
pub number_in-few :
    (ds : List ℕ) → 0 < length ds → (get_or ds 0 0 ≡ 48 → length ds ≡ 1) → length ds ≤ 19
    → (if list_all is_ascii_digit ds then Some (digits_value 10 ds) else None) ≡ number_in ds
unfolding number_in
number_in-few ds some first few =
    let same = is_numeral-digits ds some first in
    elim (cases_Bool (list_all is_ascii_digit ds)) [
      | inl digits ↦
          let small : digits_value 10 ds < 10 ^ 19 = digits_value_short own ds 19 digits few in
          let below : ltb (digits_value 10 ds) (2 ^ 64) ≡ true = lt-ltb (digits_value 10 ds) (2 ^ 64) (omega (arith, small)) in
          rw (same, digits, below) refl
      | inr other ↦ rw (same, other) refl
    ]

-- bytes that don't begin with 0, or just `0`, are the field of the number that they write, if all are digits and it is below 2^64
pub number_in-many :
    (ds : List ℕ) → 0 < length ds → (get_or ds 0 0 ≡ 48 → length ds ≡ 1)
    → (if list_all is_ascii_digit ds && ltb (digits_value 10 ds) (2 ^ 64) then Some (digits_value 10 ds) else None) ≡ number_in ds
unfolding number_in
number_in-many ds some first = rw (is_numeral-digits ds some first) refl

pub number_in-empty : (ds : List ℕ) → length ds < 1 → number_in ds ≡ None
unfolding number_in is_numeral
number_in-empty [] none = refl
number_in-empty (d ∷ ds) none = absurd (omega (arith, none))

-- a number doesn't begin with 0
pub number_in-zero : (ds : List ℕ) → get_or ds 0 0 ≡ 48 → 1 < length ds → number_in ds ≡ None
unfolding number_in is_numeral
number_in-zero [] zero more = absurd (omega (arith, more))
number_in-zero (d ∷ ds) zero more =
    let first : eqb d 48 ≡ true = eq-eqb d 48 zero in
    let longer : eqb (length ds) 0 ≡ false = ne_eqb (length ds) 0 (λ is. absurd (omega (arith, more, is))) in
    rw (first, longer) refl

-- a field that is read as a number is that number in decimal, and below 2^64
pub number_found : (field : List ℕ) (n : ℕ) → number_in field ≡ Some n → (n < 2 ^ 64) × (field ≡ decimal n)
unfolding number_in
number_found field n e =
    let p = cond_some _ (digits_value 10 field) n e in
    let both = and_parts (is_numeral field) (ltb (digits_value 10 field) (2 ^ 64)) p.0 in
    let small : digits_value 10 field < 2 ^ 64 = ltb-true (digits_value 10 field) (2 ^ 64) both.1 in
    let h = IsNumeral-from_test field both.0 in
    (rw (← p.1) small, rw (← p.1) (sym (decimal-digits_value own field h.digits h.some h.first small)))

pub decimal_digits : (n : ℕ) → n < 2 ^ 64 → AllDigits 10 (decimal n)
decimal_digits n small = own.to (decimal n) (digits_decimal own n small)

decimal_is_IsNumeral : (n : ℕ) → n < 2 ^ 64 → IsNumeral (decimal n)
decimal_is_IsNumeral n small =
    record {
      digits = digits_decimal own n small;
      some = decimal_nonempty n small;
      first =
          λ zero. elim (cases_lt 0 n) [
            | inl above ↦ absurd (omega (arith, first_decimal n above small))
            | inr is ↦ let e : n ≡ 0 = omega arith in rw e (ap length (decimal_digit 0 (omega arith)))
          ];
    }

-- a number below 2^64 in decimal is read as that number
pub number_again : (n : ℕ) → n < 2 ^ 64 → number_in (decimal n) ≡ Some n
unfolding number_in
number_again n small =
    let e = test-from_IsNumeral (decimal n) (decimal_is_IsNumeral n small) in
    let v = digits_value-decimal own n small in
    let below : ltb (digits_value 10 (decimal n)) (2 ^ 64) ≡ true = rw v (lt-ltb n (2 ^ 64) small) in
    rw (e, below, v) refl

-- a result that is what a field is read as has the field as its number in decimal, if it has one
pub IfSome-number_in : (r : Option ℕ) (field : List ℕ) → r ≡ number_in field → IfSome r (λ n. field ≡ decimal n)
IfSome-number_in None field e = tt
IfSome-number_in (Some n) field e = (number_found field n (sym e)).1

pub number_in-spelled : (field : List ℕ) (n : ℕ) → n < 2 ^ 64 → field ≡ decimal n → number_in field ≡ Some n
number_in-spelled field n small e = ap number_in e ∙ number_again n small
