-- The lines of a text, and the fields of a line.
use Rattle.std.specs.Prelude.{ℕ, ◌≡◌, ◌<◌, ◌-◌, Bool, true, false, ◌&&◌, ◌||◌, ◌==◌, nat_le, if◌then◌else◌, List, [], ◌∷◌, length, take, filter, slice_index}
use Rattle.std.specs.List.{slice_split}
use Rattle.trace_text.specs.declared.limits.TheConstants.{SPACE, TAB, LINE_FEED, CARRIAGE_RETURN, LAST_PRINTABLE, COMMENT}

-- a line less the one carriage return at its end, if it has one
abbrev pub without_return : List ℕ → List ℕ
without_return line =
    if slice_index line (length line - 1) == CARRIAGE_RETURN then take (length line - 1) line else line

-- the lines in the parts between line feeds: an empty last part is no line
abbrev pub lines_in : List (List ℕ) → List (List ℕ)
lines_in [] = []
lines_in (last ∷ []) = if length last == 0 then [] else without_return last ∷ []
lines_in (part ∷ next ∷ more) = without_return part ∷ lines_in (next ∷ more)

-- the lines of a text
unfoldable pub lines_of : List ℕ → List (List ℕ)
lines_of text = lines_in (slice_split (λ b. b == LINE_FEED) text)

-- a byte that parts fields
abbrev pub is_blank : ℕ → Bool
is_blank b = b == SPACE || b == TAB

-- a byte that a line may have: a tab, or a printable one
abbrev pub is_plain : ℕ → Bool
is_plain b = b == TAB || (nat_le SPACE b && nat_le b LAST_PRINTABLE)

-- a part is a field where it has a byte
abbrev pub has_bytes : List ℕ → Bool
has_bytes [] = false
has_bytes (b ∷ bytes) = true

-- the fields of a line: the longest runs of bytes between blanks
unfoldable pub fields_of : List ℕ → List (List ℕ)
fields_of line = filter has_bytes (slice_split is_blank line)

-- the bytes begin with a field
abbrev pub BeginsField : List ℕ → Type 0
BeginsField bytes = (0 < length bytes) × (is_blank (slice_index bytes 0) ≡ false)

-- the bytes begin with the mark of a comment
abbrev pub is_comment : List ℕ → Bool
is_comment [] = false
is_comment (b ∷ bytes) = b == COMMENT
