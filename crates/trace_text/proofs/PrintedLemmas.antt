-- The lines of a printed text are read as the fields that were printed.
use Rattle.std.proofs.Common.{◌≡◌, ℕ, suc, ◌+◌, ◌-◌, ◌^◌, ◌<◌, ◌≤◌, Bool, true, false, eqb, leb, ◌&&◌, List, [], ◌∷◌, ◌++◌, length, get_or, Ok, refl, ap, ◌∙◌, append_assoc, arith, inl, inr, lit≤}
use Rattle.std.specs.Fmt.{decimal}
use Rattle.std.specs.List.{All, AllByRecursion, list_all, slice_split, join_with_byte}
use Rattle.std.proofs.lemmas.Bool.{cases_Bool, cases_lt, and_parts, le-leb, leb-true, ne_eqb}
use Rattle.std.proofs.lemmas.Fmt.{decimal_nonempty}
use Rattle.std.proofs.lemmas.List.{get_or_past}
use Rattle.std.proofs.lemmas.List.Elements.{All-from_recursion}
use Rattle.std.proofs.lemmas.List.Splits.{slice_split_at, slice_split_none}
use Rattle.std.proofs.lemmas.Str.Parse.{digit_at}
use Rattle.trace_text.specs.declared.limits.TheConstants.{SPACE, LINE_FEED}
use Rattle.trace_text.specs.declared.stage.ReadingStage.{ReadingStage}
use Rattle.trace_text.specs.declared.trace.Version.TheVariants.{Two}
use Rattle.trace_text.specs.Lines.{without_return, lines_in, lines_of, is_blank, is_plain, has_bytes, fields_of}
use Rattle.trace_text.specs.Reading.{Reading, reading_from}
use Rattle.trace_text.specs.Said.{after_line, after_fields}
use Rattle.trace_text.specs.Text.{line}
use Rattle.trace_text.proofs.LineLemmas.{lines_in-cons}
use Rattle.trace_text.proofs.NumberLemmas.{decimal_digits}

-- a printed byte of a field, and one of a line
abbrev pub is_graphic : ℕ → Bool
is_graphic b = leb 33 b && leb b 126

-- bytes that a printed field has: at least one, and graphic ones alone
pub record IsField (field : List ℕ) : Type 0 where
  pub some : has_bytes field ≡ true
  pub graphic : list_all is_graphic field ≡ true

abbrev pub AreFields : List (List ℕ) → Type 0
AreFields fields = AllByRecursion IsField fields

-- a byte of a printed line is no line feed and no carriage return, and may stand in a line
abbrev pub Printed : ℕ → Type 0
Printed b = (32 ≤ b) × (b ≤ 126)

graphic_bytes : (field : List ℕ) → list_all is_graphic field ≡ true → AllByRecursion (λ b. (33 ≤ b) × (b ≤ 126)) field
graphic_bytes [] e = tt
graphic_bytes (b ∷ field) e =
    let both = and_parts (is_graphic b) (list_all is_graphic field) e in
    let ends = and_parts (leb 33 b) (leb b 126) both.0 in
    ((leb-true 33 b ends.0, leb-true b 126 ends.1), graphic_bytes field both.1)

printed_bytes : (field : List ℕ) → AllByRecursion (λ b. (33 ≤ b) × (b ≤ 126)) field → AllByRecursion Printed field
printed_bytes [] h = tt
printed_bytes (b ∷ field) h = ((omega (arith, h.0.0), h.0.1), printed_bytes field h.1)

no_blank : (b : ℕ) → 33 ≤ b → is_blank b ≡ false
no_blank b low = rw (ne_eqb b 32 (λ is. absurd (omega arith)), ne_eqb b 9 (λ is. absurd (omega arith))) refl

no_blanks : (field : List ℕ) → AllByRecursion (λ b. (33 ≤ b) × (b ≤ 126)) field → AllByRecursion (λ b. is_blank b ≡ false) field
no_blanks [] h = tt
no_blanks (b ∷ field) h = (no_blank b h.0.0, no_blanks field h.1)

Printed-append : (front rest : List ℕ) → AllByRecursion Printed front → AllByRecursion Printed rest → AllByRecursion Printed (front ++ rest)
Printed-append [] rest h k = k
Printed-append (b ∷ front) rest h k = (h.0, Printed-append front rest h.1 k)

-- fields parted by a space are bytes of a printed line
pub Printed-joined : (fields : List (List ℕ)) → AreFields fields → AllByRecursion Printed (join_with_byte SPACE fields)
Printed-joined [] h = tt
Printed-joined (field ∷ []) h = printed_bytes field (graphic_bytes field h.0.graphic)
Printed-joined (field ∷ next ∷ fields) h =
    Printed-append field (SPACE ∷ join_with_byte SPACE (next ∷ fields)) (printed_bytes field (graphic_bytes field h.0.graphic))
    ((lit≤ tt, lit≤ tt), Printed-joined (next ∷ fields) h.1)

apart : (field : List ℕ) → IsField field → All (λ b. is_blank b ≡ false) field
apart field h = All-from_recursion (λ b. is_blank b ≡ false) field (no_blanks field (graphic_bytes field h.graphic))

-- the fields of a line of fields parted by a space are those fields
pub fields_of-joined : (fields : List (List ℕ)) → AreFields fields → 0 < length fields → fields_of (join_with_byte SPACE fields) ≡ fields
unfolding fields_of
fields_of-joined [] h some = absurd (omega (arith, some))
fields_of-joined (field ∷ []) h some = rw (slice_split_none is_blank field (apart field h.0), h.0.some) refl
fields_of-joined (field ∷ next ∷ fields) h some =
    let split : slice_split is_blank (field ++ SPACE ∷ join_with_byte SPACE (next ∷ fields)) ≡ field ∷ slice_split is_blank (join_with_byte SPACE (next ∷ fields)) =
    slice_split_at is_blank field SPACE (join_with_byte SPACE (next ∷ fields)) (apart field h.0) refl in
    rw (split, h.0.some) (ap (λ rest. field ∷ rest) (fields_of-joined (next ∷ fields) h.1 (omega arith)))

plain_byte : (b : ℕ) → Printed b → is_plain b ≡ true
plain_byte b h =
    let both : (leb 32 b && leb b 126) ≡ true = rw (le-leb 32 b h.0, le-leb b 126 h.1) refl in
    elim (cases_Bool (eqb b 9)) [ inl tab ↦ rw tab refl | inr other ↦ rw (other, both) refl ]

-- the bytes of a printed line pass the test of a line's bytes
pub plain_line : (bytes : List ℕ) → AllByRecursion Printed bytes → list_all is_plain bytes ≡ true
plain_line [] h = refl
plain_line (b ∷ bytes) h = rw (plain_byte b h.0, plain_line bytes h.1) refl

printed_at : (bytes : List ℕ) → AllByRecursion Printed bytes → (i : ℕ) → get_or bytes i 0 ≡ 13 → ⊥
printed_at bytes h i is =
    elim (cases_lt i (length bytes)) [
      | inl below ↦ let at : Printed (get_or bytes i 0) = All-from_recursion Printed bytes h i 0 below in absurd (omega (arith, at.0, is))
      | inr past ↦ let at : get_or bytes i 0 ≡ 0 = get_or_past bytes i 0 past in absurd (omega (arith, at, is))
    ]

-- a printed line has no carriage return at its end
pub without_return-printed : (bytes : List ℕ) → AllByRecursion Printed bytes → without_return bytes ≡ bytes
without_return-printed bytes h = rw (ne_eqb (get_or bytes (length bytes - 1) 0) 13 (printed_at bytes h (length bytes - 1))) refl

no_feeds : (bytes : List ℕ) → AllByRecursion Printed bytes → AllByRecursion (λ b. eqb b LINE_FEED ≡ false) bytes
no_feeds [] h = tt
no_feeds (b ∷ bytes) h = (ne_eqb b LINE_FEED (λ is. absurd (omega (arith, h.0.0))), no_feeds bytes h.1)

-- a printed line is the first line of its text
pub lines_of-line : (fields : List (List ℕ)) (rest : List ℕ) → AreFields fields → lines_of (line fields ++ rest) ≡ join_with_byte SPACE fields ∷ lines_of rest
unfolding lines_of
lines_of-line fields rest h =
    let joined = join_with_byte SPACE fields in
    let printed = Printed-joined fields h in
    let p : ℕ → Bool = λ b. eqb b LINE_FEED in
    let split : slice_split p (joined ++ LINE_FEED ∷ rest) ≡ joined ∷ slice_split p rest =
    slice_split_at p joined LINE_FEED rest (All-from_recursion (λ b. p b ≡ false) joined (no_feeds joined printed)) refl in
    ap (λ text. lines_in (slice_split p text)) (append_assoc joined (LINE_FEED ∷ []) rest)
    ∙ ap lines_in split
    ∙ lines_in-cons joined p rest
    ∙ ap (λ first. first ∷ lines_in (slice_split p rest)) (without_return-printed joined printed)

-- a text is read as this reading from a stage on, whatever the number of its first line
abbrev pub ReadsTo : Reading → ReadingStage → List ℕ → Type 0
ReadsTo reading stage text = (number : ℕ) → reading_from Two (lines_of text) number stage ≡ reading

-- a text that begins with a printed line is read as what comes behind the line is from the next stage on
pub reads_line :
    (reading : Reading) (stage next : ReadingStage) (fields : List (List ℕ)) (rest : List ℕ) → AreFields fields → 0 < length fields
    → after_fields Two stage fields ≡ Ok next → ReadsTo reading next rest → ReadsTo reading stage (line fields ++ rest)
unfolding reading_from after_line
reads_line reading stage next fields rest h some said reads number =
    rw (lines_of-line fields rest h, plain_line _ (Printed-joined fields h), fields_of-joined fields h some, said) (reads (number + 1))

-- a number is a field
pub IsField-decimal : (n : ℕ) → n < 2 ^ 64 → IsField (decimal n)
IsField-decimal n small = record {
  some = has_some (decimal n) (decimal_nonempty n small);
  graphic = digits_graphic (decimal n) (λ i within. let r = digit_at (decimal n) i (decimal_digits n small) within in (omega (arith, r.0), omega (arith, r.1)));
}
  where
    has_some : (bytes : List ℕ) → 0 < length bytes → has_bytes bytes ≡ true
    has_some [] some = absurd (omega (arith, some))
    has_some (b ∷ bytes) some = refl

    digits_graphic : (bytes : List ℕ) → ((i : ℕ) → i < length bytes → (33 ≤ get_or bytes i 0) × (get_or bytes i 0 ≤ 126)) → list_all is_graphic bytes ≡ true
    digits_graphic [] h = refl
    digits_graphic (b ∷ bytes) h =
        let first = h 0 (omega arith) in
        rw (le-leb 33 b first.0, le-leb b 126 first.1) (digits_graphic bytes (λ i within. h (suc i) (omega arith)))
