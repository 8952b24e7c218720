-- The reports of one lane more.
use Rattle.std.proofs.Common.{ℕ, ◌≡◌, ◌<◌, ◌+◌, suc, List, [], ◌∷◌, ◌++◌, length, map, take, get_or, add-zero, zero-add, append-nil, append_assoc, sym, ap, ◌∙◌, arith}
use Rattle.std.proofs.lemmas.List.{take_more, map-append, length-map, length-take-le}
use Rattle.lane_outcomes.specs.declared.outcome.Outcome.{Outcome}
use Rattle.lane_outcomes.specs.Report.{lane_report, lanes_report}

-- the report of one lane more
pub lanes_report-push :
    (lane : ℕ) (lanes : List (List Outcome)) (last : List Outcome)
    → lanes_report lane (lanes ++ last ∷ []) ≡ lanes_report lane lanes ++ lane_report (lane + length lanes) last
lanes_report-push lane [] last = append-nil (lane_report lane last) ∙ ap (λ n. lane_report n last) (sym (add-zero lane))
lanes_report-push lane (outcomes ∷ lanes) last =
    let next : suc lane + length lanes ≡ lane + suc (length lanes) = omega arith in
    ap (λ rest. lane_report lane outcomes ++ rest) (lanes_report-push (suc lane) lanes last ∙ ap (λ n. lanes_report (suc lane) lanes ++ lane_report n last) next)
    ∙ sym (append_assoc (lane_report lane outcomes) _ _)

-- the report of the lanes up to one, and of that one
pub lanes_report-take :
    {V : Type 0} (items : V → List Outcome) (lanes : List V) (lane : ℕ) (outcomes : V) → lane < length lanes
    → lanes_report 0 (map items (take (lane + 1) lanes))
    ≡ lanes_report 0 (map items (take lane lanes)) ++ lane_report lane (items (get_or lanes lane outcomes))
lanes_report-take items lanes lane outcomes within =
    let last = items (get_or lanes lane outcomes) in
    let before = map items (take lane lanes) in
    let count : 0 + length before ≡ lane =
    zero-add _ ∙ length-map (take lane lanes) items ∙ length-take-le lane lanes (omega arith)
    in
    ap (λ list. lanes_report 0 (map items list)) (take_more lanes lane outcomes within)
    ∙ ap (lanes_report 0) (map-append items (take lane lanes) _)
    ∙ lanes_report-push 0 before last
    ∙ ap (λ n. lanes_report 0 before ++ lane_report n last) count

-- a text with one lane more written behind its start
pub lane_written :
    {V : Type 0} (items : V → List Outcome) (lanes : List V) (lane : ℕ) (outcomes : V) (listed : List Outcome) (start before after : List ℕ)
    → lane < length lanes → outcomes ≡ get_or lanes lane outcomes → listed ≡ items outcomes
    → before ≡ start ++ lanes_report 0 (map items (take lane lanes)) → after ≡ before ++ lane_report lane listed
    → after ≡ start ++ lanes_report 0 (map items (take (lane + 1) lanes))
lane_written items lanes lane outcomes listed start before after within is lists so_far piece =
    piece
    ∙ ap (λ text. text ++ lane_report lane listed) so_far
    ∙ append_assoc start _ _
    ∙ ap (λ last. start ++ (lanes_report 0 (map items (take lane lanes)) ++ lane_report lane last)) (lists ∙ ap items is)
    ∙ ap (λ text. start ++ text) (sym (lanes_report-take items lanes lane outcomes within))
