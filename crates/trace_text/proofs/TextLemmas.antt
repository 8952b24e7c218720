-- Lines by their fields.
use Rattle.std.proofs.Common.{ℕ, ◌≡◌, ◌+◌, ◌<◌, List, [], ◌∷◌, ◌++◌, append-nil, append_assoc, refl, sym, ap, ◌∙◌, arith}
use Rattle.std.specs.Char.{encode_utf8}
use Rattle.std.specs.Fmt.{decimal}
use Rattle.std.specs.List.{flat_map, join_with_byte}
use Rattle.std.proofs.lemmas.Fmt.{decimal_digit}
use Rattle.std.proofs.lemmas.List.Concat.{flat_map-append}
use Rattle.std.proofs.lemmas.Str.{encode_ascii}
use Rattle.trace_text.specs.declared.limits.TheConstants.{SPACE, LINE_FEED}
use Rattle.trace_text.specs.Text.{line}

-- fields behind a first one, each with a space before it
pub join_with_byte-cons :
    (c : ℕ) (first : List ℕ) (fields : List (List ℕ))
    → join_with_byte c (first ∷ fields) ≡ first ++ flat_map (λ field. c ∷ field) fields
join_with_byte-cons c first [] = sym (append-nil first)
join_with_byte-cons c first (field ∷ fields) = ap (λ rest. first ++ c ∷ rest) (join_with_byte-cons c field fields)

-- a line of a first field, some fields and some more: each but the first has a space before it
pub line-append :
    (first : List ℕ) (fields more : List (List ℕ))
    → line (first ∷ fields ++ more)
    ≡ first ++ flat_map (λ field. SPACE ∷ field) fields ++ flat_map (λ field. SPACE ∷ field) more ++ LINE_FEED ∷ []
line-append first fields more =
    rw (join_with_byte-cons SPACE first (fields ++ more), flat_map-append (λ field. SPACE ∷ field) fields more)
    (ap (λ text. text ++ LINE_FEED ∷ []) (sym (append_assoc first _ _)))

-- a line of some fields and some more, behind a text that has the first ones already
pub line-joined :
    (first : List ℕ) (fields more : List (List ℕ))
    → line (first ∷ fields ++ more)
    ≡ join_with_byte SPACE (first ∷ fields) ++ flat_map (λ field. SPACE ∷ field) more ++ LINE_FEED ∷ []
line-joined first fields more = rw (line-append first fields more, join_with_byte-cons SPACE first fields) refl

-- a space and a word behind a text are the word as a field
pub word_field : (old one two word : List ℕ) → one ≡ old ++ encode_utf8 32 → two ≡ one ++ word → two ≡ old ++ SPACE ∷ word
word_field old one two word space is =
    is ∙ ap (λ text. text ++ word) (space ∙ ap (λ blank. old ++ blank) (encode_ascii 32 (omega arith))) ∙ append_assoc old (32 ∷ []) word

-- a space and a digit behind a text are the digit in decimal as a field
pub digit_field :
    (old one two : List ℕ) (ch d : ℕ) → d < 10 → ch ≡ 48 + d → one ≡ old ++ encode_utf8 32 → two ≡ one ++ encode_utf8 ch → two ≡ old ++ SPACE ∷ decimal d
digit_field old one two ch d below is space digit =
    let field : encode_utf8 ch ≡ decimal d = ap encode_utf8 is ∙ encode_ascii (48 + d) (omega (arith, below)) ∙ sym (decimal_digit d below) in
    word_field old one two (encode_utf8 ch) space digit ∙ ap (λ field. old ++ SPACE ∷ field) field
