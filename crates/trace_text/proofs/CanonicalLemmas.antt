-- Numbers and lines where they stand in a text, as they are printed.
use Rattle.std.proofs.Common.{◌≡◌, ℕ, ◌+◌, ◌-◌, ◌*◌, ◌<◌, ◌≤◌, ◌^◌, ◌%◌, true, List, [], ◌∷◌, ◌++◌, length, get_or, take, drop, map, set, zero, suc, Some, refl, sym, ap, ◌∙◌, add-zero, append_assoc, append-nil, arith, leb, inl, inr}
use Rattle.std.specs.Char.{is_ascii_digit}
use Rattle.std.specs.Fmt.{decimal}
use Rattle.std.specs.List.{list_all, flat_map}
use Rattle.std.specs.Str.Parse.{digits_value}
use Rattle.std.proofs.lemmas.Bool.{and_parts, cases_lt, leb-true}
use Rattle.std.proofs.lemmas.Grind.{flat_map-append}
use Rattle.std.proofs.lemmas.List.{take-append-drop, drop-drop, drop_more, get_or-drop, get_or-take, length-drop, length-take}
use Rattle.std.proofs.lemmas.List.Elements.{All-append, All-cons, All-nil}
use Rattle.trace_text.specs.Canonical.{EndsLine, IsNumberAt, AreNumbersAt, IsOpAt, BeginsWithOps, last_with_all}
use Rattle.trace_text.specs.Said.{last_with}
use Rattle.trace_text.specs.Operations.{decimals, kinds_in, made_in, most_of}
use Rattle.trace_text.specs.Text.{line, op_line}
use Rattle.trace_text.specs.Traces.{IsOp, IsAllowed}
use Rattle.trace_text.specs.declared.kinds.Kind.{Kind}
use Rattle.trace_text.specs.declared.kinds.Kinds.{Kinds}
use Rattle.trace_text.specs.declared.kinds.Kinds.TheVariants as kinds
use Rattle.trace_text.specs.declared.kinds.Numbers.{Numbers}
use Rattle.trace_text.specs.declared.trace.Op.{Op}
use Rattle.trace_text.specs.declared.trace.Version.{Version}
use Rattle.trace_text.specs.Numbers.{number_in}
use Rattle.trace_text.proofs.OperationLemmas.{made_of_kinds, most_kind}
use Rattle.trace_text.proofs.NumberLemmas.{digits_more, few_digits, no_wrap, number_in-few, number_found}

-- a byte that ends no line is not the last
pub not_last : (text : List ℕ) (at : ℕ) → EndsLine text → at < length text → (get_or text at 0 ≡ 10 → ⊥) → at + 1 < length text
not_last text at ended within other =
    elim (cases_lt (at + 1) (length text)) [
      | inl below ↦ below
      | inr past ↦ let last : at ≡ length text - 1 = omega (arith, past, within) in absurd (other (ap (λ i. get_or text i 0) last ∙ ended.1))
    ]

-- a digit ends no line
pub digit_goes_on : (b : ℕ) → is_ascii_digit b ≡ true → b ≡ 10 → ⊥
digit_goes_on b digit is = let low = leb-true 48 b (and_parts (leb 48 b) (leb b 57) digit).0 in absurd (omega (arith, low, is))

-- the digits from a place on have one more where the next byte is one: what they write goes on as the reader counts it
pub one_digit_more :
    (text : List ℕ) (start at n b z : ℕ) → start ≤ at → at < length text → list_all is_ascii_digit (take (at - start) (drop start text)) ≡ true
    → (at - start ≤ 19 → n ≡ digits_value 10 (take (at - start) (drop start text))) → is_ascii_digit (get_or text at 0) ≡ true → b ≡ get_or text at 0 → z ≡ 48
    → (list_all is_ascii_digit (take (at + 1 - start) (drop start text)) ≡ true)
    × (at + 1 - start ≤ 19 → ((n * 10) % 2 ^ 64 + (b - z)) % 2 ^ 64 ≡ digits_value 10 (take (at + 1 - start) (drop start text)))
one_digit_more text start at n b z from within digits value digit is none =
    let rest = drop start text in
    let place : start + (at - start) ≡ at = omega (arith, from) in
    let byte : get_or rest (at - start) 0 ≡ get_or text at 0 = get_or-drop start text (at - start) 0 ∙ ap (λ i. get_or text i 0) place in
    let next : at - start + 1 ≡ at + 1 - start = omega (arith, from) in
    let more = digits_more rest (at - start) (omega (arith, length-drop start text, from, within)) digits (ap is_ascii_digit byte ∙ digit) in
    rw (← next) (
      more.0,
      λ few.
          let small : at - start ≤ 19 = omega (arith, few) in
          let all : digits_value 10 (take (at - start + 1) rest) ≡ n * 10 + (b - z) = omega (arith, more.1, value small, byte, is, none) in
          let bound : n * 10 + (b - z) < 2 ^ 64 = omega (arith, all, few_digits rest (at - start + 1) few more.0) in
          no_wrap n (b - z) bound ∙ sym all,
    )

-- few digits, of which a first 0 is the only one, are a number in decimal
pub number_stands :
    (text : List ℕ) (start at end n : ℕ) → start < at → at < length text → at - start ≤ 19 → list_all is_ascii_digit (take (at - start) (drop start text)) ≡ true
    → (get_or text start 0 ≡ 48 → at ≡ start + 1) → n ≡ digits_value 10 (take (at - start) (drop start text)) → get_or text at 0 ≡ end
    → IsNumberAt text start end n (at + 1)
number_stands text start at end n later within few digits alone_at value byte =
    let rest = drop start text in
    let k = at - start in
    let ds = take k rest in
    let len : length ds ≡ k = omega (arith, length-take k rest, length-drop start text, later, within) in
    let first : get_or ds 0 0 ≡ get_or text start 0 = get_or-take k rest 0 0 (omega (arith, later)) ∙ get_or-drop start text 0 0 ∙ ap (λ i. get_or text i 0) (add-zero start) in
    let alone : get_or ds 0 0 ≡ 48 → length ds ≡ 1 = λ is. omega (arith, len, alone_at (sym first ∙ is)) in
    let read = number_in-few ds (omega (arith, len, later)) alone (omega (arith, len, few)) in
    let some : Some n ≡ number_in ds = rw value (rw digits at read) in
    let found = number_found ds n (sym some) in
    let behind : drop k rest ≡ end ∷ drop (at + 1) text =
    drop-drop k start text ∙ ap (λ i. drop i text) (omega (arith, later)) ∙ drop_more text at 0 within ∙ ap (λ b. b ∷ drop (at + 1) text) byte in
    record {
      small = found.0;
      later = omega (arith, later);
      within = omega (arith, within);
      spelled = sym (take-append-drop k rest) ∙ ap (λ front. front ++ drop k rest) found.1 ∙ ap (λ back. decimal n ++ back) behind;
    }

-- ---- lines

-- one number stands as it is printed
pub one_stands :
    (a : Kind) (text : List ℕ) (start x after : ℕ) → IsNumberAt text start 10 x after → x ≤ most_of a
    → AreNumbersAt (kinds.One a) text start (record { first = x; second = 0; third = 0 }) after
one_stands a text start x after p h =
    record {
      kind = most_kind a x h;
      later = p.later;
      within = p.within;
      spelled = p.spelled ∙ sym (append_assoc (decimal x) (10 ∷ []) (drop after text));
    }

-- two numbers
pub two_stand :
    (a b : Kind) (text : List ℕ) (start x next y after : ℕ) → IsNumberAt text start 32 x next → IsNumberAt text next 10 y after → x ≤ most_of a → y ≤ most_of b
    → AreNumbersAt (kinds.Two a b) text start (record { first = x; second = y; third = 0 }) after
two_stand a b text start x next y after p q h k =
    record {
      kind = (most_kind a x h, most_kind b y k);
      later = omega (arith, p.later, q.later);
      within = q.within;
      spelled =
          p.spelled
          ∙ ap (λ back. decimal x ++ 32 ∷ back) q.spelled
          ∙ sym (append_assoc (decimal x ++ 32 ∷ decimal y) (10 ∷ []) (drop after text) ∙ append_assoc (decimal x) (32 ∷ decimal y) (10 ∷ drop after text));
    }

-- three numbers
pub three_stand :
    (a b c : Kind) (text : List ℕ) (start x next y third z after : ℕ) → IsNumberAt text start 32 x next → IsNumberAt text next 32 y third → IsNumberAt text third 10 z after
    → x ≤ most_of a → y ≤ most_of b → z ≤ most_of c → AreNumbersAt (kinds.Three a b c) text start (record { first = x; second = y; third = z }) after
three_stand a b c text start x next y third z after p q r h k l =
    record {
      kind = (most_kind a x h, most_kind b y k, most_kind c z l);
      later = omega (arith, p.later, q.later, r.later);
      within = r.within;
      spelled =
          p.spelled
          ∙ ap (λ back. decimal x ++ 32 ∷ back) (q.spelled ∙ ap (λ back. decimal y ++ 32 ∷ back) r.spelled)
          ∙ sym
          (append_assoc (decimal x ++ 32 ∷ (decimal y ++ 32 ∷ decimal z)) (10 ∷ []) (drop after text)
          ∙ append_assoc (decimal x) (32 ∷ (decimal y ++ 32 ∷ decimal z)) (10 ∷ drop after text)
          ∙ ap (λ back. decimal x ++ 32 ∷ back) (append_assoc (decimal y) (32 ∷ decimal z) (10 ∷ drop after text)));
    }

-- a letter and a space before the printed numbers
letter_line : (letter : ℕ) (k : Kinds) (n : Numbers) → line ((letter ∷ []) ∷ decimals k n) ≡ letter ∷ 32 ∷ line (decimals k n)
letter_line letter (kinds.One a) n = refl
letter_line letter (kinds.Two a b) n = refl
letter_line letter (kinds.Three a b c) n = refl

-- the line of an operation stands where the numbers behind its letter do
pub op_stands :
    (version : Version) (letter : ℕ) (text : List ℕ) (start after : ℕ) (k : Kinds) (n : Numbers) (op : Op) → kinds_in version letter ≡ Some k → made_in letter n ≡ Some op
    → AreNumbersAt k text start n after → IsOpAt version (letter ∷ 32 ∷ []) text start op after
op_stands version letter text start after k n op said made at =
    let by = made_of_kinds version letter k n op said made at.kind in
    record {
      named = by.0;
      allowed = by.1;
      later = at.later;
      within = at.within;
      spelled =
          ap (λ back. letter ∷ 32 ∷ back) at.spelled
          ∙ ap (λ front. front ++ drop after text) (sym (letter_line letter k n) ∙ ap line (sym by.2));
    }

-- a line stands where its word does, two places before its first number
pub with_word :
    (version : Version) (text : List ℕ) (w start after : ℕ) (op : Op) → start + 2 < length text → get_or text start 0 ≡ w → get_or text (start + 1) 0 ≡ 32
    → IsOpAt version (w ∷ 32 ∷ []) text (start + 2) op after → IsOpAt version [] text start op after
with_word version text w start after op within word space x =
    let one : drop start text ≡ w ∷ drop (start + 1) text = drop_more text start 0 (omega (arith, within)) ∙ ap (λ b. b ∷ drop (start + 1) text) word in
    let two : drop (start + 1) text ≡ 32 ∷ drop (start + 2) text =
    drop_more text (start + 1) 0 (omega (arith, within))
    ∙ ap (λ b. b ∷ drop (start + 1 + 1) text) space
    ∙ ap (λ i. 32 ∷ drop i text) (omega arith) in
    record {
      named = x.named;
      allowed = x.allowed;
      later = omega (arith, x.later);
      within = x.within;
      spelled = one ∙ ap (λ back. w ∷ back) two ∙ x.spelled;
    }

-- ---- several lines

pub no_ops : (version : Version) (text : List ℕ) → BeginsWithOps version text [] text
no_ops version text = record { named = All-nil IsOp; allowed = All-nil (IsAllowed version); spelled = refl }

-- one line more
pub ops_more :
    (version : Version) (text : List ℕ) (ops : List Op) (op : Op) (start after : ℕ) → BeginsWithOps version text ops (drop start text) → IsOpAt version [] text start op after
    → BeginsWithOps version text (ops ++ op ∷ []) (drop after text)
ops_more version text ops op start after h x =
    record {
      named = All-append IsOp ops (op ∷ []) h.named (All-cons IsOp op [] x.named (All-nil IsOp));
      allowed = All-append (IsAllowed version) ops (op ∷ []) h.allowed (All-cons (IsAllowed version) op [] x.allowed (All-nil (IsAllowed version)));
      spelled =
          h.spelled
          ∙ ap (λ back. flat_map op_line ops ++ back) (x.spelled ∙ ap (λ one. one ++ drop after text) (sym (append-nil (op_line op))))
          ∙ sym (append_assoc (flat_map op_line ops) (flat_map op_line (op ∷ [])) (drop after text))
          ∙ ap (λ front. front ++ drop after text) (sym (flat_map-append op_line ops (op ∷ [])));
    }

-- the first lanes stay where the last one is given operations
last_with_all-behind : (ops : List Op) (lane next : List Op) (more : List (List Op)) → last_with_all ops (lane ∷ next ∷ more) ≡ lane ∷ last_with_all ops (next ∷ more)
last_with_all-behind [] lane next more = refl
last_with_all-behind (op ∷ ops) lane next [] = last_with_all-behind ops lane (next ++ op ∷ []) []
last_with_all-behind (op ∷ ops) lane next (third ∷ more) = last_with_all-behind ops lane next (last_with op (third ∷ more))

last_with_all-one : (ops last : List Op) → last_with_all ops (last ∷ []) ≡ (last ++ ops) ∷ []
last_with_all-one [] last = ap (λ lane. lane ∷ []) (sym (append-nil last))
last_with_all-one (op ∷ ops) last = last_with_all-one ops (last ++ op ∷ []) ∙ ap (λ lane. lane ∷ []) (append_assoc last (op ∷ []) ops)

-- lanes that a view shows have some operations more where the last one was given them
pub all_given :
    {V : Type 0} (items : V → List Op) (ops : List Op) (lanes : List V) (i : ℕ) (last given : V) → i + 1 ≡ length lanes → last ≡ get_or lanes i last
    → items given ≡ items last ++ ops → map items (set lanes i given) ≡ last_with_all ops (map items lanes)
all_given items ops [] i last given is was more = absurd (omega (arith, is))
all_given items ops (lane ∷ []) zero last given is was more = rw (more, was) (sym (last_with_all-one ops (items lane)))
all_given items ops (lane ∷ []) (suc i) last given is was more = absurd (omega (arith, is))
all_given items ops (lane ∷ next ∷ lanes) zero last given is was more = absurd (omega (arith, is))
all_given items ops (lane ∷ next ∷ lanes) (suc i) last given is was more =
    ap (λ lanes. items lane ∷ lanes) (all_given items ops (next ∷ lanes) i last given (omega (arith, is)) was more)
    ∙ sym (last_with_all-behind ops (items lane) (items next) (map items lanes))
