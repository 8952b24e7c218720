use Rattle.std.proofs.Common.{◌≡◌, ◌-◌, ◌<◌, ◌≤◌, drop, length, take, true}
use Rattle.std.specs.Char.{is_ascii_digit}
use Rattle.std.specs.List.{list_all}
use Rattle.std.specs.Str.Parse.{digits_value}
use Rattle.trace_text.proofs.canonical.digits_at.Given as goal

abbrev pub invariant-loop-n : goal.invariant-loop-n
invariant-loop-n l = record {
  start : l.start ≤ l.at;
  within : l.at < length l.text;
  digits : list_all is_ascii_digit (take (l.at - l.start) (drop l.start l.text)) ≡ true;
  value : l.at - l.start ≤ 19 → l.n ≡ digits_value 10 (take (l.at - l.start) (drop l.start l.text));
}

abbrev pub decreases-loop-n : goal.decreases-loop-n
decreases-loop-n l = length l.text - l.at
