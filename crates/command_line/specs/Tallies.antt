-- How many outcomes of each kind lanes have.
use Rattle.std.specs.Prelude.{ℕ, ◌≤◌, ◌+◌, List, Bool, true, false, count_by}
use Rattle.std.specs.List.{flat_map, sum_by}
use Rattle.lane_outcomes.specs.declared.outcome.Outcome.{Outcome}
use Rattle.lane_outcomes.specs.declared.outcome.Outcome.TheVariants as outcome
use Rattle.command_line.specs.declared.tally.OutcomeTally.{OutcomeTally}

-- whether an outcome is of a kind that is counted
abbrev pub is_given : Outcome → Bool
is_given (outcome.Given words place) = true
is_given result = false

abbrev pub is_refused : Outcome → Bool
is_refused outcome.Refused = true
is_refused result = false

abbrev pub is_spent : Outcome → Bool
is_spent outcome.Spent = true
is_spent result = false

abbrev pub is_freed : Outcome → Bool
is_freed outcome.Freed = true
is_freed result = false

abbrev pub is_sum : Outcome → Bool
is_sum (outcome.Sum total) = true
is_sum result = false

-- the usable words of the block that was given
abbrev pub given_words : Outcome → ℕ
given_words (outcome.Given words place) = words
given_words result = 0

-- what stands in some lists, one behind the other
abbrev pub all_of : {A : Type 0} → List (List A) → List A
all_of lists = flat_map (λ list. list) lists

-- how many of some outcomes are of each kind, and the usable words that they give
abbrev pub tally_of : List Outcome → OutcomeTally
tally_of outcomes =
    record {
      given = count_by is_given outcomes;
      words = sum_by given_words outcomes;
      refused = count_by is_refused outcomes;
      spent = count_by is_spent outcomes;
      freed = count_by is_freed outcomes;
      summed = count_by is_sum outcomes;
    }

-- the sum of two tallies
abbrev pub sum_of : OutcomeTally → OutcomeTally → OutcomeTally
sum_of some more =
    record {
      given = some.given + more.given;
      words = some.words + more.words;
      refused = some.refused + more.refused;
      spent = some.spent + more.spent;
      freed = some.freed + more.freed;
      summed = some.summed + more.summed;
    }

-- no number of a tally is more than this
pub record AreFew (most : ℕ) (tally : OutcomeTally) : Type 0 where
  pub given : tally.given ≤ most
  pub words : tally.words ≤ most
  pub refused : tally.refused ≤ most
  pub spent : tally.spent ≤ most
  pub freed : tally.freed ≤ most
  pub summed : tally.summed ≤ most
