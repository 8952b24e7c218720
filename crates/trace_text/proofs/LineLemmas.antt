-- The first line of a text, and the first field of a line.
use Rattle.std.proofs.Common.{◌≡◌, ℕ, zero, suc, ◌+◌, add-zero, append-nil, ◌-◌, ◌<◌, ◌≤◌, Bool, true, false, not, eqb, ltb, leb, List, [], ◌∷◌, ◌++◌, length, get_or, take, drop, Option, Some, None, refl, sym, ap, ◌∙◌, arith, inl, inr}
use Rattle.std.specs.Char.{is_ascii_digit}
use Rattle.std.specs.List.{AllByRecursion, list_all, slice_split, position, position_or_len}
use Rattle.std.proofs.lemmas.Bool.{cases_Bool, false≢true, and_parts, eqb-true, leb-true, ne_eqb, ltb-true, ltb-false, lt-ltb, le-ltb}
use Rattle.std.proofs.lemmas.List.{take-append-drop, take_all, length-drop, length-take, get_or-take, get_or-drop}
use Rattle.std.proofs.lemmas.List.Elements.{All-from_get_or, recursion_from_All}
use Rattle.std.proofs.lemmas.List.Folds.{list_all_at}
use Rattle.std.proofs.lemmas.List.Splits.{slice_split_none, slice_split_first}
use Rattle.std.proofs.lemmas.List.Sums.{fails_before_first, passes_at_first, position_or_len_is}
use Rattle.std.proofs.lemmas.Option.{none-some}
use Rattle.memchr.specs.Find.{IsFirstByte}
use Rattle.trace_text.specs.Lines.{without_return, lines_in, lines_of, is_blank, has_bytes, fields_of, BeginsField}

not_passed : (p : ℕ → Bool) (bytes : List ℕ) (k : ℕ) → (p (get_or bytes k 0) ≡ true → ⊥) → p (get_or bytes k 0) ≡ false
not_passed p bytes k fails =
    elim (cases_Bool (p (get_or bytes k 0))) [
      | inl passes ↦ absurd (fails passes)
      | inr is ↦ is
    ]

-- the place that a search finds is within the bytes
pub position_found : (p : ℕ → Bool) (bytes : List ℕ) (i : ℕ) → Some i ≡ position p bytes → (position_or_len p bytes ≡ i) × (i < length bytes)
position_found p bytes i e =
    elim (cases_Bool (ltb (position_or_len p bytes) (length bytes))) [
      | inl within ↦
          let found : Some i ≡ Some (position_or_len p bytes) = rw within at e in
          let is : i ≡ position_or_len p bytes = cc in
          (sym is, rw is (ltb-true _ _ within))
      | inr past ↦ absurd (none-some i (sym (rw past at e)))
    ]

-- a search finds none where no byte passes
position_none : (p : ℕ → Bool) (bytes : List ℕ) → ((k : ℕ) → k < length bytes → p (get_or bytes k 0) ≡ false) → None ≡ position p bytes
position_none p bytes fail =
    let none = position_or_len_is p bytes (length bytes) 0 (omega arith) fail (λ more. absurd (omega (arith, more))) in
    let past : ltb (position_or_len p bytes) (length bytes) ≡ false = le-ltb _ _ (omega (arith, none)) in
    rw past refl

-- a search finds the place before which none passes
position_at :
    (p : ℕ → Bool) (bytes : List ℕ) (i : ℕ) → i < length bytes → ((k : ℕ) → k < i → p (get_or bytes k 0) ≡ false)
    → p (get_or bytes i 0) ≡ true → Some i ≡ position p bytes
position_at p bytes i below fail passes =
    let is = position_or_len_is p bytes i 0 (omega (arith, below)) fail (λ _. passes) in
    let within : ltb (position_or_len p bytes) (length bytes) ≡ true = lt-ltb _ _ (omega (arith, is, below)) in
    rw (within, is) refl

-- the first byte that passes a test is at the place that a search finds, and the search finds none where none passes
pub position_first : (p : ℕ → Bool) (bytes : List ℕ) (r : Option ℕ) → IsFirstByte p bytes r → r ≡ position p bytes
position_first p bytes None h = position_none p bytes (λ k below. not_passed p bytes k (h k (omega arith) below))
position_first p bytes (Some i) h =
    position_at p bytes i (omega (arith, h.0.high)) (λ k below. not_passed p bytes k (h.0.before k (omega arith) below)) h.1

-- no byte passes a test for which a search finds no place
pub position_lacks : (p : ℕ → Bool) (bytes : List ℕ) → None ≡ position p bytes → (k : ℕ) (d : ℕ) → k < length bytes → p (get_or bytes k d) ≡ false
position_lacks p bytes e k d below =
    elim (cases_Bool (ltb (position_or_len p bytes) (length bytes))) [
      | inl within ↦
          let found : None ≡ Some (position_or_len p bytes) = rw within at e in
          absurd (none-some _ found)
      | inr past ↦ fails_before_first p bytes k d (omega (arith, ltb-false _ _ past))
    ]

-- bytes that are split have at least one part
pub parts_some : (p : ℕ → Bool) (bytes : List ℕ) → (part : List ℕ) × (parts : List (List ℕ)) × (slice_split p bytes ≡ part ∷ parts)
parts_some p [] = ([], [], refl)
parts_some p (b ∷ bytes) =
    let rest = parts_some p bytes in
    elim (cases_Bool (p b)) [
      | inl passes ↦ ([], slice_split p bytes, rw passes refl)
      | inr fails ↦ (b ∷ rest.0, rest.1, rw (fails, rest.2) refl)
    ]

pub lines_in-cons : (part : List ℕ) (p : ℕ → Bool) (bytes : List ℕ) → lines_in (part ∷ slice_split p bytes) ≡ without_return part ∷ lines_in (slice_split p bytes)
lines_in-cons part p bytes = let rest = parts_some p bytes in rw rest.2 refl

-- the lines of a text with a line feed: the first one, up to it, and those of the rest
pub line_before : (text : List ℕ) (end : ℕ) → Some end ≡ position (λ b. eqb b 10) text → lines_of text ≡ without_return (take end text) ∷ lines_of (drop (end + 1) text)
unfolding lines_of
line_before text end e =
    let p : ℕ → Bool = λ b. eqb b 10 in
    let found = position_found p text end e in
    let split : slice_split p text ≡ take end text ∷ slice_split p (drop (end + 1) text) =
    rw found.0 at (slice_split_first p text 0 (rw found.0 found.1)) in
    rw split (lines_in-cons (take end text) p (drop (end + 1) text))

lines_in-one : (text : List ℕ) → 0 < length text → lines_in (text ∷ []) ≡ without_return text ∷ []
lines_in-one text some = let e : eqb (length text) 0 ≡ false = ne_eqb (length text) 0 (λ is. absurd (omega arith)) in rw e refl

-- a text without a line feed is one line, if it has a byte
pub line_alone : (text : List ℕ) → None ≡ position (λ b. eqb b 10) text → 0 < length text → lines_of text ≡ without_return text ∷ []
unfolding lines_of
line_alone text e some =
    let p : ℕ → Bool = λ b. eqb b 10 in
    let split : slice_split p text ≡ text ∷ [] = slice_split_none p text (All-from_get_or (λ x. p x ≡ false) text 0 (λ i below. position_lacks p text e i 0 below)) in
    rw split (lines_in-one text some)

pub no_lines : lines_of [] ≡ []
unfolding lines_of
no_lines = refl

-- the rest of a list is as many of its bytes as are left
pub rest_from : (i : ℕ) (bytes : List ℕ) → take (length bytes - i) (drop i bytes) ≡ drop i bytes
rest_from i bytes = take_all (length bytes - i) (drop i bytes) (omega (arith, length-drop i bytes))

-- blanks before a field are passed over
pub fields_of-blanks : (front rest : List ℕ) → AllByRecursion (λ b. is_blank b ≡ true) front → fields_of (front ++ rest) ≡ fields_of rest
unfolding fields_of
fields_of-blanks [] rest h = refl
fields_of-blanks (b ∷ front) rest h = rw h.0 (fields_of-blanks front rest h.1)

pub fields_of-nil : fields_of [] ≡ []
unfolding fields_of
fields_of-nil = refl

not_true : (b : Bool) → not b ≡ false → b ≡ true
not_true true e = refl
not_true false e = absurd (false≢true (sym e))

not_false : (b : Bool) → not b ≡ true → b ≡ false
not_false true e = absurd (false≢true e)
not_false false e = refl

first_of_rest : (line : List ℕ) (start : ℕ) → start < length line → is_blank (get_or line start 0) ≡ false → is_blank (get_or (drop start line) 0 0) ≡ false
first_of_rest line start within first = rw (get_or-drop, add-zero) first

-- bytes that are blank have no field
pub only_blanks : (line : List ℕ) → None ≡ position (λ b. not (is_blank b)) line → fields_of line ≡ []
only_blanks line e =
    ap fields_of (sym (append-nil line))
    ∙ fields_of-blanks line [] (recursion_from_All (λ b. is_blank b ≡ true) line
    (All-from_get_or (λ b. is_blank b ≡ true) line 0 (λ i below. not_true (is_blank (get_or line i 0)) (position_lacks (λ b. not (is_blank b)) line e i 0 below))))
    ∙ fields_of-nil

-- the blanks before the first field are passed over
pub field_begins :
    (line : List ℕ) (start : ℕ) → Some start ≡ position (λ b. not (is_blank b)) line
    → (fields_of line ≡ fields_of (drop start line)) × BeginsField (drop start line)
field_begins line start e =
    let p : ℕ → Bool = λ b. not (is_blank b) in
    let found = position_found p line start e in
    let blanks : (i : ℕ) → i < length (take start line) → is_blank (get_or (take start line) i 0) ≡ true =
    λ i below. let low : i < start = omega (arith, length-take start line) in
    rw (get_or-take start line i 0 low) (not_true (is_blank (get_or line i 0)) (fails_before_first p line i 0 (omega (arith, found.0))))
    in
    let passed = fields_of-blanks (take start line) (drop start line) (recursion_from_All (λ b. is_blank b ≡ true) (take start line) (All-from_get_or (λ b. is_blank b ≡ true) (take start line) 0 blanks)) in
    let at : p (get_or line (position_or_len p line) 0) ≡ true = passes_at_first p line 0 (omega (arith, found.0, found.1)) in
    let first : is_blank (get_or line start 0) ≡ false = not_false (is_blank (get_or line start 0)) (rw found.0 at at) in (
      ap fields_of (sym (take-append-drop start line)) ∙ passed,
      (omega (arith, length-drop start line, found.1), first_of_rest line start found.1 first),
    )

some_bytes : (bytes : List ℕ) → 0 < length bytes → has_bytes bytes ≡ true
some_bytes [] some = absurd (omega (arith, some))
some_bytes (b ∷ bytes) some = refl

some_before : (bytes : List ℕ) (end : ℕ) → BeginsField bytes → end < length bytes → is_blank (get_or bytes end 0) ≡ true → has_bytes (take end bytes) ≡ true
some_before bytes zero begins within at = absurd (false≢true (sym begins.1 ∙ at))
some_before [] (suc end) begins within at = absurd (omega (arith, within))
some_before (b ∷ bytes) (suc end) begins within at = refl

-- the fields of bytes that begin one and have a blank: that one, up to the blank, and those of the rest
pub field_before : (bytes : List ℕ) (end : ℕ) → BeginsField bytes → Some end ≡ position is_blank bytes → fields_of bytes ≡ take end bytes ∷ fields_of (drop (end + 1) bytes)
unfolding fields_of
field_before bytes end begins e =
    let found = position_found is_blank bytes end e in
    let split : slice_split is_blank bytes ≡ take end bytes ∷ slice_split is_blank (drop (end + 1) bytes) =
    rw found.0 at (slice_split_first is_blank bytes 0 (rw found.0 found.1)) in
    let at : is_blank (get_or bytes end 0) ≡ true = rw found.0 at (passes_at_first is_blank bytes 0 (omega (arith, found.0, found.1))) in
    let some : has_bytes (take end bytes) ≡ true = some_before bytes end begins found.1 at in
    rw (split, some) refl

-- bytes that begin a field and have no blank are that one field
pub field_alone : (bytes : List ℕ) → BeginsField bytes → None ≡ position is_blank bytes → fields_of bytes ≡ bytes ∷ []
unfolding fields_of
field_alone bytes begins e =
    let split : slice_split is_blank bytes ≡ bytes ∷ [] = slice_split_none is_blank bytes (All-from_get_or (λ x. is_blank x ≡ false) bytes 0 (λ i below. position_lacks is_blank bytes e i 0 below)) in
    let some : has_bytes bytes ≡ true = some_bytes bytes begins.0 in
    rw (split, some) refl

-- bytes before which a field can't end
abbrev pub NoBlanks : List ℕ → Type 0
NoBlanks bytes = list_all (λ b. not (is_blank b)) bytes ≡ true

no_blank_at : (bytes : List ℕ) (end k : ℕ) → NoBlanks (take end bytes) → end ≤ length bytes → k < end → is_blank (get_or bytes k 0) ≡ false
no_blank_at bytes end k filled within below =
    elim (cases_Bool (not (is_blank (get_or bytes k 0)))) [
      | inl other ↦ not_false (is_blank (get_or bytes k 0)) other
      | inr blank ↦
          let at : not (is_blank (get_or (take end bytes) k 0)) ≡ false = rw (get_or-take end bytes k 0 below) blank in
          absurd (false≢true (sym (list_all_at (λ b. not (is_blank b)) (take end bytes) k 0 (omega (arith, length-take end bytes)) at) ∙ filled))
    ]

-- the first field ends at the first blank
pub field_at :
    (bytes : List ℕ) (end : ℕ) → BeginsField bytes → NoBlanks (take end bytes) → end < length bytes → is_blank (get_or bytes end 0) ≡ true
    → (0 < end) × (fields_of bytes ≡ take end bytes ∷ fields_of (drop (end + 1) bytes))
field_at bytes zero begins filled within at = absurd (false≢true (sym begins.1 ∙ at))
field_at bytes (suc end) begins filled within at = (
  omega arith,
  field_before bytes (suc end) begins (position_at is_blank bytes (suc end) within (λ k below. no_blank_at bytes (suc end) k filled (omega (arith, within)) below) at),
)

-- bytes with no blank are one field
pub field_whole : (bytes : List ℕ) (end : ℕ) → end ≡ length bytes → BeginsField bytes → NoBlanks (take end bytes) → fields_of bytes ≡ bytes ∷ []
field_whole bytes end is begins filled =
    field_alone bytes begins (position_none is_blank bytes (λ k below. no_blank_at bytes end k filled (omega (arith, is)) (omega (arith, is, below))))

digit_fills : (b : ℕ) → is_ascii_digit b ≡ true → not (is_blank b) ≡ true
digit_fills b digit =
    let low = leb-true 48 b (and_parts (leb 48 b) (leb b 57) digit).0 in
    rw (ne_eqb b 32 (λ is. absurd (omega (arith, low, is))), ne_eqb b 9 (λ is. absurd (omega (arith, low, is)))) refl

-- digits have no blank
pub digits_fill : (ds : List ℕ) → list_all is_ascii_digit ds ≡ true → NoBlanks ds
digits_fill [] e = refl
digits_fill (d ∷ ds) e =
    let both = and_parts (is_ascii_digit d) (list_all is_ascii_digit ds) e in
    rw (digit_fills d both.0, digits_fill ds both.1) refl

-- no byte is no field
pub no_field : (bytes : List ℕ) → eqb (length bytes) 0 ≡ true → fields_of bytes ≡ []
no_field [] e = fields_of-nil
no_field (b ∷ bytes) e = absurd (omega (arith, eqb-true (length (b ∷ bytes)) 0 e))

-- a text without a byte has no line
pub no_byte : (text : List ℕ) → length text ≡ 0 → lines_of text ≡ []
no_byte [] e = no_lines
no_byte (b ∷ text) e = absurd (omega (arith, e))
