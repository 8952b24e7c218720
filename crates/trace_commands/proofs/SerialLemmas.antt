-- The summary of a workload whose trace is roomy.
use Rattle.std.proofs.Common.{ℕ, Bool, ◌≡◌, ◌+◌, List, [], ◌∷◌, ◌++◌, map, length, decimal, codes, refl, sym, ap, ◌∙◌}
use Rattle.std.specs.Prelude.{count_by, if◌then◌else◌}
use Rattle.std.specs.List.{sum_by}
use Rattle.std.proofs.lemmas.List.{map-append}
use Rattle.std.proofs.lemmas.List.Sums.{sum_by-cons}
use Rattle.heap_geometry.specs.declared.need.Need.{Need}
use Rattle.lane_outcomes.specs.declared.outcome.Outcome.{Outcome}
use Rattle.lane_outcomes.specs.declared.outcome.Outcome.TheVariants as outcome
use Rattle.roomy_traces.specs.Serial.{without_place}
use Rattle.trace_text.specs.Text.{line}
use Rattle.trace_text.specs.declared.trace.Op.{Op}
use Rattle.command_line.specs.Command.{workload_words}
use Rattle.command_line.specs.Summaries.{counts_text, summary_with}
use Rattle.command_line.specs.Tallies.{all_of, given_words, is_freed, is_given, is_refused, is_spent, is_sum, tally_of}
use Rattle.command_line.specs.declared.command.Workload.{Workload}
use Rattle.command_line.specs.declared.tally.OutcomeTally.{OutcomeTally}

-- what is counted of outcomes is the same without their places
sums-same :
    (f : Outcome → ℕ) → ((o : Outcome) → f (without_place o) ≡ f o) → (results : List Outcome)
    → sum_by f (map without_place results) ≡ sum_by f results
sums-same f same [] = refl
sums-same f same (o ∷ results) =
    sum_by-cons f (without_place o) (map without_place results)
    ∙ (ap (λ n. n + sum_by f (map without_place results)) (same o)
    ∙ (ap (λ n. f o + n) (sums-same f same results) ∙ sym (sum_by-cons f o results)))

count-same :
    (p : Outcome → Bool) → ((o : Outcome) → p (without_place o) ≡ p o) → (results : List Outcome)
    → count_by p (map without_place results) ≡ count_by p results
count-same p same results = sums-same (λ o. if p o then 1 else 0) (λ o. ap (λ (b : Bool). if b then 1 else 0) (same o)) results

-- what sees no place of a block is the same without places
same-without-place :
    {T : Type 0} (f : Outcome → T) → ((words place : ℕ) → f (outcome.Given words 0) ≡ f (outcome.Given words place))
    → ((words place : ℕ) (need : Need) → f (outcome.Took words 0 need) ≡ f (outcome.Took words place need))
    → ((words place : ℕ) → f (outcome.Kept words 0) ≡ f (outcome.Kept words place))
    → ((words place : ℕ) → f (outcome.Resized words 0) ≡ f (outcome.Resized words place)) → (o : Outcome) → f (without_place o) ≡ f o
same-without-place f given took kept resized (outcome.Given words place) = given words place
same-without-place f given took kept resized (outcome.Took words place need) = took words place need
same-without-place f given took kept resized (outcome.Kept words place) = kept words place
same-without-place f given took kept resized (outcome.Resized words place) = resized words place
same-without-place f given took kept resized o = refl

tallies-same : (results : List Outcome) → tally_of (map without_place results) ≡ tally_of results
tallies-same results =
    rw (count-same is_given (same-without-place is_given (λ w p. refl) (λ w p n. refl) (λ w p. refl) (λ w p. refl)) results)
    (rw (sums-same given_words (same-without-place given_words (λ w p. refl) (λ w p n. refl) (λ w p. refl) (λ w p. refl)) results)
    (rw (count-same is_refused (same-without-place is_refused (λ w p. refl) (λ w p n. refl) (λ w p. refl) (λ w p. refl)) results)
    (rw (count-same is_spent (same-without-place is_spent (λ w p. refl) (λ w p n. refl) (λ w p. refl) (λ w p. refl)) results)
    (rw (count-same is_freed (same-without-place is_freed (λ w p. refl) (λ w p n. refl) (λ w p. refl) (λ w p. refl)) results)
    (rw (count-same is_sum (same-without-place is_sum (λ w p. refl) (λ w p n. refl) (λ w p. refl) (λ w p. refl)) results) refl)))))

all-same : (outcomes : List (List Outcome)) → all_of (map (map without_place) outcomes) ≡ map without_place (all_of outcomes)
all-same [] = refl
all-same (results ∷ outcomes) =
    ap (λ (l : List Outcome). map without_place results ++ l) (all-same outcomes) ∙ sym (map-append without_place results (all_of outcomes))

-- a summary tells no place
pub summaries-same :
    (workload : Workload) (lanes : List (List Op)) (outcomes others : List (List Outcome)) (live words : ℕ)
    → map (map without_place) outcomes ≡ others → summary_with workload lanes outcomes live words ≡ summary_with workload lanes others live words
summaries-same workload lanes outcomes others live words same =
    let tally : tally_of (all_of outcomes) ≡ tally_of (all_of others) =
    sym (tallies-same (all_of outcomes)) ∙ (ap tally_of (sym (all-same outcomes)) ∙ ap (λ (o : List (List Outcome)). tally_of (all_of o)) same) in
    ap (λ (t : OutcomeTally).
    line (codes "make" ∷ workload_words workload)
    ++ line (codes "lanes" ∷ decimal (length lanes) ∷ codes "operations" ∷ decimal (length (all_of lanes)) ∷ [])
    ++ counts_text t
    ++ line (codes "live" ∷ decimal live ∷ codes "words" ∷ decimal words ∷ [])) tally
