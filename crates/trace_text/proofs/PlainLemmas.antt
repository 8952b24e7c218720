-- A line that was taken has plain bytes alone: its fields are words of the language and numbers.
use Rattle.std.proofs.Common.{◌≡◌, ℕ, ◌^◌, Bool, true, false, cond, ◌||◌, eqb, ltb, leb, List, [], ◌∷◌, length, Option, Some, None, Result, Ok, Err, refl, sym, ◌∙◌, subst, arith, inl, inr}
use Rattle.std.specs.Prelude.{codes, filter}
use Rattle.std.specs.Char.{is_ascii_digit}
use Rattle.std.specs.List.{AllByRecursion, list_all, slice_split}
use Rattle.std.specs.Str.{bytes_eq}
use Rattle.std.specs.Str.Parse.{digits_value}
use Rattle.std.proofs.lemmas.Bool.{cases_Bool, false≢true, and_parts, eqb-true, leb-true, le-leb, ne_eqb}
use Rattle.std.proofs.lemmas.Option.{cond_some}
use Rattle.std.proofs.lemmas.Slice.Eq.{bytes_eq-Decides}
use Rattle.trace_text.specs.declared.limits.TheConstants.{MAX_LANES, ORDER_MOST}
use Rattle.trace_text.specs.declared.fault.Cause.{Cause}
use Rattle.trace_text.specs.declared.fault.Cause.TheVariants.{OutOfRange, UnknownOp, TooManyLanes}
use Rattle.trace_text.specs.declared.stage.ReadingStage.{ReadingStage}
use Rattle.trace_text.specs.declared.stage.ReadingStage.TheVariants.{Before, Inside, Ended}
use Rattle.trace_text.specs.declared.kinds.Kinds.{Kinds}
use Rattle.trace_text.specs.declared.kinds.Kinds.TheVariants as kinds
use Rattle.trace_text.specs.declared.kinds.Numbers.{Numbers}
use Rattle.trace_text.specs.declared.trace.Op.{Op}
use Rattle.trace_text.specs.declared.trace.OrderRun.{OrderRun}
use Rattle.trace_text.specs.declared.trace.Trace.{Trace}
use Rattle.trace_text.specs.declared.trace.Version.{Version}
use Rattle.trace_text.specs.declared.trace.Version.TheVariants.{One, Two}
use Rattle.trace_text.specs.Causes.{◌>>=◌}
use Rattle.trace_text.specs.Lines.{is_blank, is_plain, is_comment, has_bytes, fields_of}
use Rattle.trace_text.specs.Numbers.{is_numeral, number_in}
use Rattle.trace_text.specs.Said.{numeral_in, ranged, none_in, one_in, two_in, three_in, heap_numbers_in, limit_in, version_in, heap_in, numbers_in, op_of, order_in, with_lane, with_op, with_order, is_unordered, after_lane, after_order, after_end, after_op, after_inner, after_first, after_word, after_fields, after_line}
use Rattle.trace_text.specs.Operations.{maker_of, written_by}
use Rattle.trace_text.specs.Traces.{heap_word}
use Rattle.trace_text.proofs.LineLemmas.{parts_some}
use Rattle.trace_text.proofs.NamedLemmas.{bind_ok, kept, numeral_some, op_by_read}
use Rattle.trace_text.proofs.NumberLemmas.{IsNumeral-from_test}
use Rattle.trace_text.proofs.OperationLemmas.{letter_graphic}
use Rattle.trace_text.proofs.PrintedLemmas.{is_graphic}

-- plain bytes alone
abbrev ArePlain : List (List ℕ) → Type 0
ArePlain fields = AllByRecursion (λ field. list_all is_plain field ≡ true) fields

digit_plain : (b : ℕ) → is_ascii_digit b ≡ true → is_plain b ≡ true
digit_plain b digit =
    let both = and_parts (leb 48 b) (leb b 57) digit in
    let low = leb-true 48 b both.0 in
    let high = leb-true b 57 both.1 in
    rw (ne_eqb b 9 (λ is. absurd (omega (arith, low, is))), le-leb 32 b (omega (arith, low)), le-leb b 126 (omega (arith, high))) refl

digits_plain : (ds : List ℕ) → list_all is_ascii_digit ds ≡ true → list_all is_plain ds ≡ true
digits_plain [] e = refl
digits_plain (d ∷ ds) e =
    let both = and_parts (is_ascii_digit d) (list_all is_ascii_digit ds) e in
    rw (digit_plain d both.0, digits_plain ds both.1) refl

numeral_plain : (field : List ℕ) (n : ℕ) → numeral_in field ≡ Ok n → list_all is_plain field ≡ true
unfolding number_in
numeral_plain field n e =
    let p = cond_some _ (digits_value 10 field) n (numeral_some field n e) in
    let both = and_parts (is_numeral field) (ltb (digits_value 10 field) (2 ^ 64)) p.0 in
    digits_plain field (IsNumeral-from_test field both.0).digits

-- ---- the fields behind a word

none_plain : (fields : List (List ℕ)) (u : Unit {0}) → none_in fields ≡ Ok u → ArePlain fields
none_plain [] u e = tt
none_plain (a ∷ fields) u e = absurd cc

one_plain : (fields : List (List ℕ)) (n : ℕ) → one_in fields ≡ Ok n → ArePlain fields
unfolding one_in
one_plain [] n e = absurd cc
one_plain (a ∷ []) n e = (numeral_plain a n e, tt)
one_plain (a ∷ b ∷ fields) n e = absurd cc

two_plain : (fields : List (List ℕ)) (n : ℕ × ℕ) → two_in fields ≡ Ok n → ArePlain fields
unfolding two_in
two_plain [] n e = absurd cc
two_plain (a ∷ []) n e = absurd cc
two_plain (a ∷ b ∷ []) n e =
    let x = bind_ok (numeral_in a) (λ a. numeral_in b >>= λ b. Ok (a, b)) n e in
    let y = bind_ok (numeral_in b) (λ b. Ok (x.0, b)) n x.2 in
    (numeral_plain a x.0 x.1, (numeral_plain b y.0 y.1, tt))
two_plain (a ∷ b ∷ c ∷ fields) n e = absurd cc

three_plain : (fields : List (List ℕ)) (n : ℕ × ℕ × ℕ) → three_in fields ≡ Ok n → ArePlain fields
unfolding three_in
three_plain [] n e = absurd cc
three_plain (a ∷ []) n e = absurd cc
three_plain (a ∷ b ∷ []) n e = absurd cc
three_plain (a ∷ b ∷ c ∷ []) n e =
    let x = bind_ok (numeral_in a) (λ a. numeral_in b >>= λ b. numeral_in c >>= λ c. Ok (a, b, c)) n e in
    let y = bind_ok (numeral_in b) (λ b. numeral_in c >>= λ c. Ok (x.0, b, c)) n x.2 in
    let z = bind_ok (numeral_in c) (λ c. Ok (x.0, y.0, c)) n y.2 in
    (numeral_plain a x.0 x.1, (numeral_plain b y.0 y.1, (numeral_plain c z.0 z.1, tt)))
three_plain (a ∷ b ∷ c ∷ d ∷ fields) n e = absurd cc

heap_plain : (fields : List (List ℕ)) (n : ℕ × ℕ × ℕ × Option ℕ) → heap_numbers_in fields ≡ Ok n → ArePlain fields
unfolding heap_numbers_in
heap_plain [] n e = absurd cc
heap_plain (a ∷ []) n e = absurd cc
heap_plain (a ∷ b ∷ []) n e = absurd cc
heap_plain (a ∷ b ∷ c ∷ []) n e =
    let x = bind_ok (numeral_in a) (λ a. numeral_in b >>= λ b. numeral_in c >>= λ c. Ok (a, b, c, None)) n e in
    let y = bind_ok (numeral_in b) (λ b. numeral_in c >>= λ c. Ok (x.0, b, c, None)) n x.2 in
    let z = bind_ok (numeral_in c) (λ c. Ok (x.0, y.0, c, None)) n y.2 in
    (numeral_plain a x.0 x.1, (numeral_plain b y.0 y.1, (numeral_plain c z.0 z.1, tt)))
heap_plain (a ∷ b ∷ c ∷ d ∷ []) n e =
    let x = bind_ok (numeral_in a) (λ a. numeral_in b >>= λ b. numeral_in c >>= λ c. limit_in (Some d) >>= λ d. Ok (a, b, c, d)) n e in
    let y = bind_ok (numeral_in b) (λ b. numeral_in c >>= λ c. limit_in (Some d) >>= λ d. Ok (x.0, b, c, d)) n x.2 in
    let z = bind_ok (numeral_in c) (λ c. limit_in (Some d) >>= λ d. Ok (x.0, y.0, c, d)) n y.2 in
    let l = bind_ok (limit_in (Some d)) (λ d. Ok (x.0, y.0, z.0, d)) n z.2 in
    let w = bind_ok (numeral_in d) (λ limit. Ok (Some limit)) l.0 l.1 in
    (numeral_plain a x.0 x.1, (numeral_plain b y.0 y.1, (numeral_plain c z.0 z.1, (numeral_plain d w.0 w.1, tt))))
heap_plain (a ∷ b ∷ c ∷ d ∷ x ∷ fields) n e = absurd cc

numbers_plain : (k : Kinds) (fields : List (List ℕ)) (n : Numbers) → numbers_in k fields ≡ Ok n → ArePlain fields
unfolding numbers_in
numbers_plain (kinds.One a) fields n e = let f = bind_ok (one_in fields) _ n e in one_plain fields f.0 f.1
numbers_plain (kinds.Two a b) fields n e = let f = bind_ok (two_in fields) _ n e in two_plain fields f.0 f.1
numbers_plain (kinds.Three a b c) fields n e = let f = bind_ok (three_in fields) _ n e in three_plain fields f.0 f.1

order_plain : (lanes : ℕ) (fields : List (List ℕ)) (run : OrderRun) → order_in lanes fields ≡ Ok run → ArePlain fields
unfolding order_in
order_plain lanes fields run e =
    let n = bind_ok (two_in fields) (λ n. ranged OutOfRange 1 ORDER_MOST n.1 >>= λ steps. cond (ltb n.0 lanes) (Ok (record { lane = n.0; steps = steps })) (Err OutOfRange)) run e in
    two_plain fields n.0 n.1

-- ---- the word

-- what follows from each of two ways, of which the first is gone where the word is this text
by_word :
    {A : Type 0} (word text : List ℕ) (x y z : A) (fields : List (List ℕ)) → cond (bytes_eq word text) x y ≡ z
    → list_all is_plain text ≡ true → (x ≡ z → ArePlain fields) → (y ≡ z → ArePlain (word ∷ fields)) → ArePlain (word ∷ fields)
by_word word text x y z fields e plain f g =
    elim (cases_Bool (bytes_eq word text)) [
      | inl same ↦
          let is : word ≡ text = (bytes_eq-Decides word text).0 same in
          let gone : x ≡ z = rw same at e in
          (rw is plain, f gone)
      | inr differs ↦ let gone : y ≡ z = rw differs at e in g gone
    ]

letter_plain : (letter : ℕ) → is_graphic letter ≡ true → list_all is_plain (letter ∷ []) ≡ true
letter_plain letter e =
    let both = and_parts (leb 33 letter) (leb letter 126) e in
    let low = leb-true 33 letter both.0 in
    rw (ne_eqb letter 9 (λ is. absurd (omega (arith, low, is))), le-leb 32 letter (omega (arith, low)), both.1) refl

op_of_plain : (version : Version) (word : List ℕ) (fields : List (List ℕ)) (op : Op) → op_of version word fields ≡ Ok op → ArePlain (word ∷ fields)
unfolding op_of
op_of_plain version [] fields op e = absurd cc
op_of_plain version (letter ∷ next ∷ more) fields op e = absurd cc
op_of_plain version (letter ∷ []) fields op e =
    let read = op_by_read version (maker_of letter) fields op e in
    (letter_plain letter (letter_graphic letter read.0 read.1), numbers_plain (written_by read.0).kinds fields read.3 read.4)

after_lane_plain : (trace : Trace) (fields : List (List ℕ)) (next : ReadingStage) → after_lane trace fields ≡ Ok next → ArePlain fields
unfolding after_lane
after_lane_plain trace fields next e =
    let f : Unit {0} → Result ReadingStage Cause = λ _. cond (ltb (length trace.lanes) MAX_LANES) (Ok (Inside (with_lane trace))) (Err TooManyLanes) in
    let unordered = kept (is_unordered trace) (none_in fields >>= f) UnknownOp next e in
    let none = bind_ok (none_in fields) f next unordered.1 in
    none_plain fields none.0 none.1

after_order_plain : (trace : Trace) (fields : List (List ℕ)) (next : ReadingStage) → after_order trace fields ≡ Ok next → ArePlain fields
unfolding after_order
after_order_plain trace fields next e =
    let run = bind_ok (order_in (length trace.lanes) fields) (λ run. Ok (Inside (with_order trace run))) next e in
    order_plain (length trace.lanes) fields run.0 run.1

after_end_plain : (trace : Trace) (fields : List (List ℕ)) (next : ReadingStage) → after_end trace fields ≡ Ok next → ArePlain fields
unfolding after_end
after_end_plain trace fields next e =
    let none = bind_ok (none_in fields) (λ _. Ok (Ended trace)) next e in
    none_plain fields none.0 none.1

after_op_plain : (trace : Trace) (word : List ℕ) (fields : List (List ℕ)) (next : ReadingStage) → after_op trace word fields ≡ Ok next → ArePlain (word ∷ fields)
unfolding after_op
after_op_plain trace word fields next e =
    let in_lane = kept _ (op_of trace.version word fields >>= λ op. Ok (Inside (with_op trace op))) UnknownOp next e in
    let op = bind_ok (op_of trace.version word fields) (λ op. Ok (Inside (with_op trace op))) next in_lane.1 in
    op_of_plain trace.version word fields op.0 op.1

after_inner_plain : (trace : Trace) (word : List ℕ) (fields : List (List ℕ)) (next : ReadingStage) → after_inner trace word fields ≡ Ok next → ArePlain (word ∷ fields)
unfolding after_inner
after_inner_plain trace word fields next e =
    by_word word (codes "lane") _ _ _ fields e refl (after_lane_plain trace fields next)
    (λ e. by_word word (codes "order") _ _ _ fields e refl (after_order_plain trace fields next)
    (λ e. by_word word (codes "end") _ _ _ fields e refl (after_end_plain trace fields next)
    (after_op_plain trace word fields next)))

version_plain : (known version : Version) (word : List ℕ) → version_in known word ≡ Ok version → list_all is_plain word ≡ true
unfolding version_in
version_plain One version word e =
    (by_word word (heap_word One) _ _ _ [] e refl (λ _. tt) (λ e. absurd cc)).0
version_plain Two version word e =
    (by_word word (heap_word One) _ _ _ [] e refl (λ _. tt)
    (λ e. by_word word (heap_word Two) _ _ _ [] e refl (λ _. tt) (λ e. absurd cc))).0

heap_in_plain : (version : Version) (fields : List (List ℕ)) (trace : Trace) → heap_in version fields ≡ Ok trace → ArePlain fields
unfolding heap_in
heap_in_plain version fields trace e =
    let n = bind_ok (heap_numbers_in fields) _ trace e in
    heap_plain fields n.0 n.1

after_word_plain :
    (known : Version) (stage next : ReadingStage) (word : List ℕ) (fields : List (List ℕ)) → after_word known stage word fields ≡ Ok next → ArePlain (word ∷ fields)
unfolding after_word after_first
after_word_plain known Before next word fields e =
    let version = bind_ok (version_in known word) (λ version. heap_in version fields >>= λ trace. Ok (Inside trace)) next e in
    let trace = bind_ok (heap_in version.0 fields) (λ trace. Ok (Inside trace)) next version.2 in
    (version_plain known version.0 word version.1, heap_in_plain version.0 fields trace.0 trace.1)
after_word_plain known (Inside trace) next word fields e = after_inner_plain trace word fields next e
after_word_plain known (Ended trace) next word fields e = absurd cc

-- ---- the line

blank_plain : (b : ℕ) → is_blank b ≡ true → is_plain b ≡ true
blank_plain b blank =
    elim (cases_Bool (eqb b 9)) [
      | inl tab ↦ rw tab refl
      | inr other ↦
          let space : eqb b 32 ≡ true = or_none (eqb b 32) (eqb b 9) other blank in
          rw (eqb-true b 32 space) refl
    ]
  where
    or_none : (x y : Bool) → y ≡ false → (x || y) ≡ true → x ≡ true
    or_none true y off e = refl
    or_none false y off e = absurd (false≢true (sym off ∙ e))

parts_plain : (bytes : List ℕ) → ArePlain (slice_split is_blank bytes) → list_all is_plain bytes ≡ true
parts_plain [] h = refl
parts_plain (b ∷ bytes) h =
    let rest = parts_some is_blank bytes in
    elim (cases_Bool (is_blank b)) [
      | inl blank ↦
          let parts : ArePlain ([] ∷ slice_split is_blank bytes) = rw blank at h in
          rw (blank_plain b blank, parts_plain bytes parts.1) refl
      | inr other ↦
          let parts : ArePlain ((b ∷ rest.0) ∷ rest.1) = rw (other, rest.2) at h in
          let both = and_parts (is_plain b) (list_all is_plain rest.0) parts.0 in
          let more : ArePlain (slice_split is_blank bytes) = rw rest.2 (both.1, parts.1) in
          rw (both.0, parts_plain bytes more) refl
    ]

filled_plain : (parts : List (List ℕ)) → ArePlain (filter has_bytes parts) → ArePlain parts
filled_plain [] h = tt
filled_plain ([] ∷ parts) h = (refl, filled_plain parts h)
filled_plain ((b ∷ part) ∷ parts) h = (h.0, filled_plain parts h.1)

-- a line has plain bytes alone where its fields have
fields_plain : (line : List ℕ) → ArePlain (fields_of line) → list_all is_plain line ≡ true
unfolding fields_of
fields_plain line h = parts_plain line (filled_plain (slice_split is_blank line) h)

-- a line with a word that was taken is taken
pub word_taken :
    (known : Version) (stage next : ReadingStage) (line word : List ℕ) (fields : List (List ℕ)) → fields_of line ≡ word ∷ fields
    → is_comment word ≡ false → after_word known stage word fields ≡ Ok next → after_line known stage line ≡ Ok next
unfolding after_line after_fields
word_taken known stage next line word fields is operation said =
    let plain : list_all is_plain line ≡ true = fields_plain line (subst ArePlain (sym is) (after_word_plain known stage next word fields said)) in
    rw (plain, is, operation, said) refl
