use Rattle.std.proofs.Common.{rules, ◌≡◌, ◌∷◌, ◌++◌, [], length, codes, decimal, OnOk, append_assoc, sym, subst}
use Rattle.std.proofs.lemmas.Result.{IfOk-equal}
use Rattle.trace_text.specs.Text.{limit_fields}
use Rattle.trace_text.specs.Traces.{heap_word}
use Rattle.trace_text.proofs.TextLemmas.{line-joined}
use Rattle.lane_outcomes.proofs.report.write_header.Goals as goal

pub returns : goal.returns
returns c =
    let trace = c.args.trace.now in
    let numbers = decimal trace.heap.frames ∷ decimal trace.heap.heaps ∷ decimal trace.heap.units ∷ limit_fields trace in
    let lanes = codes "lanes" ∷ decimal (length trace.lanes) ∷ [] in
    subst (λ t. OnOk c.end_line.result (c.end_line.new.self ≡ c.args.text.now ++ t)) (sym (line-joined (heap_word trace.version) numbers lanes))
    (search (rules, IfOk-equal, append_assoc))
