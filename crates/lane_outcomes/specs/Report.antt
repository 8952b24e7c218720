-- The text of a report.
use Rattle.std.specs.Prelude.{ℕ, suc, ◌∷◌, ◌++◌, List, [], length, codes}
use Rattle.std.specs.Fmt.{decimal}
use Rattle.pool_model.specs.declared.event.Event.{Event}
use Rattle.pool_model.specs.Pool.{pool_of, live_words}
use Rattle.trace_text.specs.declared.trace.Trace.{Trace}
use Rattle.std.specs.List.{flat_map}
use Rattle.trace_text.specs.Text.{heap_fields, line}
use Rattle.lane_outcomes.specs.declared.outcome.Outcome.{Outcome}
use Rattle.lane_outcomes.specs.declared.outcome.Outcome.TheVariants.{Given, Refused, Spent, Freed, Filled, Sum, Put, ShelfFull, Took, ShelfEmpty, Kept, Resized, Skipped}

-- the fields of an outcome's line
abbrev pub outcome_fields : Outcome → List (List ℕ)
outcome_fields (Given words place) = codes "given" ∷ decimal words ∷ []
outcome_fields Refused = codes "refused" ∷ []
outcome_fields Spent = codes "spent" ∷ []
outcome_fields Freed = codes "freed" ∷ []
outcome_fields Filled = codes "filled" ∷ []
outcome_fields (Sum total) = codes "sum" ∷ decimal total ∷ []
outcome_fields Put = codes "put" ∷ []
outcome_fields ShelfFull = codes "shelf" ∷ codes "full" ∷ []
outcome_fields (Took words place need) = codes "took" ∷ decimal words ∷ []
outcome_fields ShelfEmpty = codes "shelf" ∷ codes "empty" ∷ []
outcome_fields (Kept words place) = codes "kept" ∷ decimal words ∷ []
outcome_fields (Resized words place) = codes "resized" ∷ decimal words ∷ []
outcome_fields Skipped = codes "skipped" ∷ []

-- the lines of a lane: its number, and a line for each outcome
abbrev pub lane_report : ℕ → List Outcome → List ℕ
lane_report lane outcomes =
    line (codes "lane" ∷ decimal lane ∷ []) ++ flat_map (λ outcome. line (outcome_fields outcome)) outcomes

-- the lines of the lanes, numbered from `lane` on
abbrev pub lanes_report : ℕ → List (List Outcome) → List ℕ
lanes_report lane [] = []
lanes_report lane (outcomes ∷ lanes) = lane_report lane outcomes ++ lanes_report (suc lane) lanes

-- the report with these numbers of live blocks and of their usable words
abbrev pub report_with : Trace → List (List Outcome) → ℕ → ℕ → List ℕ
report_with trace lanes live words =
    line (heap_fields trace ++ codes "lanes" ∷ decimal (length trace.lanes) ∷ [])
    ++ lanes_report 0 lanes
    ++ line (codes "live" ∷ decimal live ∷ codes "words" ∷ decimal words ∷ [])

-- the report of a trace, its outcomes and the history of the closed heap, whose live blocks are counted
abbrev pub report_of : Trace → List (List Outcome) → List Event → List ℕ
report_of trace lanes history = report_with trace lanes (length (pool_of history)) (live_words (pool_of history))
