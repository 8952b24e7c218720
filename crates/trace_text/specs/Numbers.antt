-- The numbers that fields are.
use Rattle.std.specs.Prelude.{ℕ, ◌^◌, Bool, false, ◌&&◌, ◌==◌, nat_lt, if◌then◌else◌, List, [], ◌∷◌, length, Option, Some, None}
use Rattle.std.specs.List.{list_all}
use Rattle.std.specs.Char.{is_ascii_digit}
use Rattle.std.specs.Str.Parse.{digits_value}
use Rattle.trace_text.specs.declared.limits.TheConstants.{ZERO}

-- `0`, or digits that don't begin with 0
unfoldable pub is_numeral : List ℕ → Bool
is_numeral [] = false
is_numeral (d ∷ ds) = if d == ZERO then length ds == 0 else list_all is_ascii_digit (d ∷ ds)

-- the number that a field is
unfoldable pub number_in : List ℕ → Option ℕ
number_in field =
    if is_numeral field && nat_lt (digits_value 10 field) (2 ^ 64) then Some (digits_value 10 field) else None
