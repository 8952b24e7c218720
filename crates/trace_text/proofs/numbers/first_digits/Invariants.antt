use Rattle.std.proofs.Common.{◌≡◌, ◌≤◌, true, take}
use Rattle.std.specs.Char.{is_ascii_digit}
use Rattle.std.specs.List.{list_all}
use Rattle.std.specs.Str.Parse.{digits_value}
use Rattle.trace_text.proofs.numbers.first_digits.Given as goal

abbrev pub invariant-loop-b : goal.invariant-loop-b
invariant-loop-b l = record {
  place : l.len ≡ l.b-index;
  digits : list_all is_ascii_digit (take l.b-index l.bytes) ≡ true;
  value : l.b-index ≤ 19 → l.n ≡ digits_value 10 (take l.b-index l.bytes);
}
