-- A text of version 1 is read as where version 1 alone is known; and what version a trace is of.
use Rattle.std.proofs.Common.{◌≡◌, ◌⊎◌, ℕ, ◌+◌, cond, List, [], ◌∷◌, map, Some, Result, Ok, Err, refl, sym, ap, ◌∙◌, subst, inl, inr}
use Rattle.std.specs.List.{list_all}
use Rattle.std.specs.Str.{bytes_eq}
use Rattle.std.proofs.lemmas.Bool.{cases_Bool}
use Rattle.std.proofs.lemmas.Slice.Eq.{bytes_eq-Decides}
use Rattle.trace_text.specs.declared.fault.Cause.{Cause}
use Rattle.trace_text.specs.declared.fault.Cause.TheVariants.{NotAscii, NoHeapLine}
use Rattle.trace_text.specs.declared.stage.ReadingStage.{ReadingStage}
use Rattle.trace_text.specs.declared.stage.ReadingStage.TheVariants.{Before, Inside, Ended}
use Rattle.trace_text.specs.declared.trace.Trace.{Trace}
use Rattle.trace_text.specs.declared.trace.Version.{Version}
use Rattle.trace_text.specs.declared.trace.Version.TheVariants.{One, Two}
use Rattle.trace_text.specs.Lines.{lines_of, fields_of, is_comment, is_plain}
use Rattle.trace_text.specs.Reading.{Reading, Read, at_end, continued, reading_from, reading_up_to, reading_of, first_word_in, first_word}
use Rattle.trace_text.specs.Said.{version_in, after_first, after_word, after_fields, after_line}
use Rattle.trace_text.specs.Traces.{heap_word}
use Rattle.trace_text.proofs.LawLemmas.{read_is, went_on}
use Rattle.trace_text.proofs.NamedLemmas.{IsBehind, Goes, kept, ok_is, after_first_named, line_goes, behind_named}

-- ---- behind the heap line no version is asked for

fields_alike : (known other version : Version) (stage : ReadingStage) (fields : List (List ℕ)) → IsBehind version stage → after_fields known stage fields ≡ after_fields other stage fields
unfolding after_fields after_word
fields_alike known other version Before fields is = absurd is
fields_alike known other version (Inside trace) [] is = refl
fields_alike known other version (Inside trace) (word ∷ fields) is = refl
fields_alike known other version (Ended trace) [] is = refl
fields_alike known other version (Ended trace) (word ∷ fields) is = refl

-- a line whose fields are answered alike under two known versions is answered alike
line_alike : (known other : Version) (stage : ReadingStage) (line : List ℕ) → after_fields known stage (fields_of line) ≡ after_fields other stage (fields_of line) → after_line known stage line ≡ after_line other stage line
unfolding after_line
line_alike known other stage line e = ap (λ said. cond (list_all is_plain line) said (Err NotAscii)) e

continued_alike :
    (number : ℕ) (said : Result ReadingStage Cause) (f g : ReadingStage → Reading) → ((next : ReadingStage) → said ≡ Ok next → f next ≡ g next)
    → continued number said f ≡ continued number said g
continued_alike number (Ok next) f g e = e next refl
continued_alike number (Err cause) f g e = refl

behind_goes : (version : Version) (stage next : ReadingStage) → IsBehind version stage → Goes stage next → IsBehind version next
behind_goes version Before next is goes = absurd is
behind_goes version (Inside trace) next is goes = subst (λ v. IsBehind v next) is.1 goes
behind_goes version (Ended trace) next is goes = subst (λ v. IsBehind v next) is.1 goes

line_behind : (known version : Version) (stage next : ReadingStage) (line : List ℕ) → IsBehind version stage → after_line known stage line ≡ Ok next → IsBehind version next
line_behind known version stage next line is e =
    behind_goes version stage next is (line_goes known stage next line (behind_named version stage is) e)

lines_alike :
    (known other version : Version) (lines : List (List ℕ)) (number : ℕ) (stage : ReadingStage) → IsBehind version stage
    → reading_from known lines number stage ≡ reading_from other lines number stage
unfolding reading_from
lines_alike known other version [] number stage is = refl
lines_alike known other version (line ∷ lines) number stage is =
    ap (λ said. continued number said (λ next. reading_from known lines (number + 1) next)) (line_alike known other stage line (fields_alike known other version stage (fields_of line) is))
    ∙ continued_alike number (after_line other stage line) (λ next. reading_from known lines (number + 1) next) (λ next. reading_from other lines (number + 1) next)
    (λ next e. lines_alike known other version lines (number + 1) next (line_behind other version stage next line is e))

-- ---- before the heap line

abbrev IsLater : List (List (List ℕ)) → Type 0
IsLater lines = first_word_in lines ≡ Some (heap_word Two)

version_alike : (word : List ℕ) → (Some word ≡ Some (heap_word Two) → ⊥) → version_in Two word ≡ version_in One word
unfolding version_in
version_alike word other =
    elim (cases_Bool (bytes_eq word (heap_word Two))) [
      | inl same ↦ absurd (other (ap (λ w. Some w) ((bytes_eq-Decides word (heap_word Two)).0 same)))
      | inr differs ↦ rw differs refl
    ]

first_alike : (fields : List (List ℕ)) (lines : List (List (List ℕ))) → (IsLater (fields ∷ lines) → ⊥) → after_fields Two Before fields ≡ after_fields One Before fields
unfolding after_fields after_word after_first first_word_in
first_alike [] lines other = refl
first_alike (word ∷ fields) lines other =
    elim (cases_Bool (is_comment word)) [
      | inl comment ↦ rw comment refl
      | inr line ↦ rw (line, version_alike word (rw line at other)) refl
    ]

-- a heap line is of the version that its word says, and of one that is known
version_said : (known version : Version) (word : List ℕ) → version_in known word ≡ Ok version → (known ≡ One → version ≡ One) × (word ≡ heap_word version)
unfolding version_in
version_said One version word e =
    let one = kept (bytes_eq word (heap_word One)) (Ok One) NoHeapLine version e in
    let is : One ≡ version = ok_is One version one.1 in
    (λ _. sym is, rw (← is) ((bytes_eq-Decides word (heap_word One)).0 one.0))
version_said Two version word e =
    elim (cases_Bool (bytes_eq word (heap_word One))) [
      | inl same ↦
          let is : One ≡ version = ok_is One version (rw same at e) in
          (λ known. absurd cc, rw (← is) ((bytes_eq-Decides word (heap_word One)).0 same))
      | inr differs ↦
          let two = kept (bytes_eq word (heap_word Two)) (Ok Two) NoHeapLine version (rw differs at e) in
          let is : Two ≡ version = ok_is Two version two.1 in
          (λ known. absurd cc, rw (← is) ((bytes_eq-Decides word (heap_word Two)).0 two.0))
    ]

-- a line before the heap line is passed over, or it is the heap line and has the word of its version
abbrev Begins : Version → List (List ℕ) → List (List (List ℕ)) → ReadingStage → Type 0
Begins known fields lines next =
    ((next ≡ Before) × (first_word_in (fields ∷ lines) ≡ first_word_in lines))
    ⊎ ((version : Version) × (known ≡ One → version ≡ One) × (first_word_in (fields ∷ lines) ≡ Some (heap_word version)) × IsBehind version next)

fields_begin : (known : Version) (fields : List (List ℕ)) (lines : List (List (List ℕ))) (next : ReadingStage) → after_fields known Before fields ≡ Ok next → Begins known fields lines next
unfolding first_word_in after_fields after_word
fields_begin known [] lines next e = inl (sym (ok_is Before next e), refl)
fields_begin known (word ∷ fields) lines next e =
    elim (cases_Bool (is_comment word)) [
      | inl comment ↦ inl (sym (ok_is Before next (rw comment at e)), rw comment refl)
      | inr line ↦
          let begun = after_first_named known word fields next (rw line at e) in
          let said = version_said known begun.0 word begun.1 in
          inr (begun.0, said.0, rw line (ap (λ w. Some w) said.1), begun.2)
    ]

-- a line that is not refused before the heap line is passed over, or it is the heap line and has the word of its version
line_begins : (known : Version) (line : List ℕ) (lines : List (List (List ℕ))) (next : ReadingStage) → after_line known Before line ≡ Ok next → Begins known (fields_of line) lines next
unfolding after_line
line_begins known line lines next e =
    fields_begin known (fields_of line) lines next (kept (list_all is_plain line) (after_fields known Before (fields_of line)) NotAscii next e).1

lines_before : (lines : List (List ℕ)) (number : ℕ) → (IsLater (map fields_of lines) → ⊥) → reading_from Two lines number Before ≡ reading_from One lines number Before
unfolding reading_from
lines_before [] number other = refl
lines_before (line ∷ lines) number other =
    ap (λ said. continued number said (λ next. reading_from Two lines (number + 1) next)) (line_alike Two One Before line (first_alike (fields_of line) (map fields_of lines) other))
    ∙ continued_alike number (after_line One Before line) (λ next. reading_from Two lines (number + 1) next) (λ next. reading_from One lines (number + 1) next)
    (λ next e. elim (line_begins One line (map fields_of lines) next e) [
      | inl passed ↦ rw passed.0 (lines_before lines (number + 1) (λ later. other (passed.1 ∙ later)))
      | inr begun ↦ lines_alike Two One begun.0 lines (number + 1) next begun.3
    ])

pub same : (text : List ℕ) → (first_word text ≡ Some (heap_word Two) → ⊥) → reading_of text ≡ reading_up_to One text
unfolding reading_of reading_up_to
same text other = lines_before (lines_of text) 1 other

-- ---- the version of what is read

behind_read : (known version : Version) (lines : List (List ℕ)) (number : ℕ) (stage : ReadingStage) (t : Trace) → IsBehind version stage → reading_from known lines number stage ≡ Read t → t.version ≡ version
unfolding reading_from at_end
behind_read known version [] number Before t is e = absurd is
behind_read known version [] number (Inside trace) t is e = absurd cc
behind_read known version [] number (Ended trace) t is e = subst (λ (t : Trace). t.version ≡ version) (read_is trace t e) is.1
behind_read known version (line ∷ lines) number stage t is e =
    let next = went_on number (after_line known stage line) (λ next. reading_from known lines (number + 1) next) t e in
    behind_read known version lines (number + 1) next.0 t (line_behind known version stage next.0 line is next.1) next.2

before_read :
    (known : Version) (lines : List (List ℕ)) (number : ℕ) (t : Trace) → reading_from known lines number Before ≡ Read t
    → (known ≡ One → t.version ≡ One) × (first_word_in (map fields_of lines) ≡ Some (heap_word t.version))
unfolding reading_from at_end
before_read known [] number t e = absurd cc
before_read known (line ∷ lines) number t e =
    let next = went_on number (after_line known Before line) (λ next. reading_from known lines (number + 1) next) t e in
    elim (line_begins known line (map fields_of lines) next.0 next.1) [
      | inl passed ↦
          let rest = before_read known lines (number + 1) t (rw passed.0 at next.2) in
          (rest.0, passed.1 ∙ rest.1)
      | inr begun ↦
          let is = behind_read known begun.0 lines (number + 1) next.0 t begun.3 next.2 in
          (λ one. is ∙ begun.1 one, begun.2 ∙ ap (λ version. Some (heap_word version)) (sym is))
    ]

pub one : (text : List ℕ) (t : Trace) → reading_up_to One text ≡ Read t → t.version ≡ One
unfolding reading_up_to
one text t e = (before_read One (lines_of text) 1 t e).0 refl

pub said : (text : List ℕ) (t : Trace) → reading_of text ≡ Read t → first_word text ≡ Some (heap_word t.version)
unfolding reading_of reading_up_to
said text t e = (before_read Two (lines_of text) 1 t e).1
