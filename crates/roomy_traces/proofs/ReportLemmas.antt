-- The report of outcomes that are those of the lanes computed on their own.
use Rattle.std.proofs.Common.{ℕ, zero, suc, get_or, replicate, codes, decimal, ◌≡◌, ◌+◌, ◌<◌, List, [], ◌∷◌, ◌++◌, Option, None, map, length, refl, sym, ◌∙◌, ap, arith}
use Rattle.std.specs.List.{flat_map}
use Rattle.std.proofs.lemmas.List.Sums.{sum_by-cons}
use Rattle.pool_model.specs.declared.event.Event.{Event}
use Rattle.pool_model.specs.Pool.{pool_of, live_words}
use Rattle.trace_text.specs.declared.limits.TheConstants.{REGISTERS}
use Rattle.trace_text.specs.Text.{line, heap_fields}
use Rattle.trace_text.specs.declared.trace.Op.{Op}
use Rattle.trace_text.specs.declared.trace.Trace.{Trace}
use Rattle.lane_outcomes.specs.declared.registers.HeldBlock.{HeldBlock}
use Rattle.lane_outcomes.specs.declared.outcome.Outcome.{Outcome}
use Rattle.lane_outcomes.specs.declared.outcome.Outcome.TheVariants as outcome
use Rattle.lane_outcomes.specs.LaneCounts.{count_with, as_one, as_words, lane_given, lane_freed, lanes_given, lanes_freed}
use Rattle.lane_outcomes.specs.Report.{outcome_fields, lane_report, lanes_report, report_with, report_of}
use Rattle.roomy_traces.specs.Roomy.{held_by, no_blocks}
use Rattle.roomy_traces.specs.Serial.{serial_outcomes, serial_end, left_by, without_place, serial_report_of}
use Rattle.roomy_traces.proofs.RegisterLemmas.{words_held, own_by}

-- places aren't printed
fields-same : (result : Outcome) → outcome_fields (without_place result) ≡ outcome_fields result
fields-same (outcome.Given words place) = refl
fields-same (outcome.Took words place need) = refl
fields-same (outcome.Kept words place) = refl
fields-same (outcome.Resized words place) = refl
fields-same result = refl

lines-same :
    (results : List Outcome)
    → flat_map (λ result. line (outcome_fields result)) (map without_place results) ≡ flat_map (λ result. line (outcome_fields result)) results
lines-same [] = refl
lines-same (result ∷ results) =
    ap (λ fields. line fields ++ flat_map (λ o. line (outcome_fields o)) (map without_place results)) (fields-same result)
    ∙ ap (λ rest. line (outcome_fields result) ++ rest) (lines-same results)

lane-same : (lane : ℕ) (results : List Outcome) → lane_report lane (map without_place results) ≡ lane_report lane results
lane-same lane results = ap (λ (lines : List ℕ). line (codes "lane" ∷ decimal lane ∷ []) ++ lines) (lines-same results)

reports-same : (lane : ℕ) (outcomes : List (List Outcome)) → lanes_report lane (map (map without_place) outcomes) ≡ lanes_report lane outcomes
reports-same lane [] = refl
reports-same lane (results ∷ outcomes) =
    ap (λ (rest : List ℕ). lane_report lane (map without_place results) ++ rest) (reports-same (suc lane) outcomes)
    ∙ ap (λ (lines : List ℕ). lines ++ lanes_report (suc lane) outcomes) (lane-same lane results)

report-lanes :
    (trace : Trace) (one other : List (List Outcome)) (live words : ℕ) → lanes_report 0 one ≡ lanes_report 0 other
    → report_with trace one live words ≡ report_with trace other live words
report-lanes trace one other live words same =
    ap (λ (lines : List ℕ). line (heap_fields trace ++ codes "lanes" ∷ decimal (length trace.lanes) ∷ []) ++ lines
    ++ line (codes "live" ∷ decimal live ∷ codes "words" ∷ decimal words ∷ [])) same

-- empty registers hold nothing
pub nothing-counts : (f : ℕ → ℕ) (n : ℕ) → own_by f (replicate n None) ≡ 0
nothing-counts f zero = refl
nothing-counts f (suc n) =
    omega (arith, sum_by-cons (λ (held : Option HeldBlock). count_with f (words_held held)) None (replicate n None), nothing-counts f n)

-- what a lane was given is what it freed and what it holds at its end
abbrev pub IsEven : (ℕ → ℕ) → List Op → List Outcome → Type 0
IsEven f operations results =
    lane_given f operations results ≡ lane_freed f (replicate REGISTERS None) operations results + held_by f (serial_end no_blocks operations)

pub lanes-even :
    (f : ℕ → ℕ) (lanes : List (List Op)) (outcomes : List (List Outcome)) → length outcomes ≡ length lanes
    → ((k : ℕ) → k < length lanes → IsEven f (get_or lanes k []) (get_or outcomes k []))
    → lanes_given f lanes outcomes ≡ lanes_freed f lanes outcomes + left_by f lanes
lanes-even f [] [] many each = refl
lanes-even f [] (results ∷ outcomes) many each = absurd (omega (arith, many))
lanes-even f (operations ∷ lanes) [] many each = absurd (omega (arith, many))
lanes-even f (operations ∷ lanes) (results ∷ outcomes) many each =
    omega (
      arith,
      each 0 (omega arith),
      lanes-even f lanes outcomes (omega (arith, many)) (λ k below. each (suc k) (omega arith)),
      sum_by-cons (λ (ops : List Op). held_by f (serial_end no_blocks ops)) operations lanes,
    )

-- the report of outcomes that are those of the lanes computed on their own, and of a history that leaves what these hold
pub report-serial :
    (trace : Trace) (outcomes : List (List Outcome)) (history : List Event) → map (map without_place) outcomes ≡ map serial_outcomes trace.lanes
    → length (pool_of history) ≡ left_by as_one trace.lanes → live_words (pool_of history) ≡ left_by as_words trace.lanes
    → report_of trace outcomes history ≡ serial_report_of trace
report-serial trace outcomes history serial blocks words =
    report-lanes trace outcomes (map serial_outcomes trace.lanes) (length (pool_of history)) (live_words (pool_of history))
    (sym (reports-same 0 outcomes) ∙ ap (lanes_report 0) serial)
    ∙ ap (λ n. report_with trace (map serial_outcomes trace.lanes) n (live_words (pool_of history))) blocks
    ∙ ap (report_with trace (map serial_outcomes trace.lanes) (left_by as_one trace.lanes)) words
