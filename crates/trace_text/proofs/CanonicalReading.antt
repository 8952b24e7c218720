-- Lines of operations as they are printed are read as those operations.
use Rattle.std.proofs.Common.{◌≡◌, ℕ, ◌+◌, ◌<◌, ◌&&◌, true, List, [], ◌∷◌, ◌++◌, length, refl, sym, ap, ◌∙◌, subst, add-zero, append_assoc, arith}
use Rattle.std.specs.List.{All, flat_map}
use Rattle.std.specs.Prelude.{nat_lt}
use Rattle.std.proofs.lemmas.Bool.{and_parts, eqb-true, ltb-true}
use Rattle.std.proofs.lemmas.List.Elements.{All-head, All-tail}
use Rattle.trace_text.specs.Canonical.{BeginsWithOps, last_with_all}
use Rattle.trace_text.specs.Lines.{lines_of}
use Rattle.trace_text.specs.Reading.{reading_from}
use Rattle.trace_text.specs.Said.{is_unordered, last_with, with_op, after_line}
use Rattle.trace_text.specs.Text.{op_fields, op_line}
use Rattle.trace_text.specs.Traces.{IsOp, IsAllowed, IsTrace}
use Rattle.trace_text.specs.declared.stage.ReadingStage.TheVariants.{Inside}
use Rattle.trace_text.specs.declared.trace.Op.{Op}
use Rattle.trace_text.specs.declared.trace.Trace.{Trace}
use Rattle.trace_text.specs.declared.trace.Version.TheVariants.{Two}
use Rattle.trace_text.proofs.NamedLemmas.{length-last_with, op_more}
use Rattle.trace_text.proofs.OperationLemmas.{op_are_fields, op_some}
use Rattle.trace_text.proofs.PrintedLemmas.{Printed-joined, fields_of-joined, lines_of-line, plain_line}
use Rattle.trace_text.proofs.RoundLemmas.{op_after}

-- the line of an operation, in a lane, is read, and then the rest
one_read :
    (trace : Trace) (op : Op) (rest : List ℕ) (number : ℕ) → IsOp op → IsAllowed trace.version op → 0 < length trace.lanes → length trace.orders ≡ 0
    → reading_from Two (lines_of (op_line op ++ rest)) number (Inside trace) ≡ reading_from Two (lines_of rest) (number + 1) (Inside (with_op trace op))
unfolding reading_from after_line
one_read trace op rest number named allowed some none =
    let are = op_are_fields op named in
    rw (lines_of-line (op_fields op) rest are, plain_line _ (Printed-joined (op_fields op) are), fields_of-joined (op_fields op) are (op_some op), op_after trace op named allowed some none) refl

-- the lines of some operations, in a lane, are read, and then the rest
ops_read :
    (ops : List Op) (trace : Trace) (rest : List ℕ) (number : ℕ) → All IsOp ops → All (IsAllowed trace.version) ops → 0 < length trace.lanes → length trace.orders ≡ 0
    → reading_from Two (lines_of (flat_map op_line ops ++ rest)) number (Inside trace)
    ≡ reading_from Two (lines_of rest) (number + length ops) (Inside (record trace { lanes = last_with_all ops trace.lanes }))
ops_read [] trace rest number named allowed some none = ap (λ (n : ℕ). reading_from Two (lines_of rest) n (Inside trace)) (sym (add-zero number))
ops_read (op ∷ ops) trace rest number named allowed some none =
    let behind = flat_map op_line ops ++ rest in
    let next = with_op trace op in
    ap (λ (text : List ℕ). reading_from Two (lines_of text) number (Inside trace)) (append_assoc (op_line op) (flat_map op_line ops) rest)
    ∙ one_read trace op behind number (All-head IsOp op ops named) (All-head (IsAllowed trace.version) op ops allowed) some none
    ∙ ops_read ops next rest (number + 1) (All-tail IsOp op ops named) (All-tail (IsAllowed trace.version) op ops allowed) (omega (arith, some, length-last_with op trace.lanes)) none
    ∙ ap (λ (n : ℕ). reading_from Two (lines_of rest) n (Inside (record trace { lanes = last_with_all ops (last_with op trace.lanes) }))) (omega arith)

-- a trace that a text can name is one with the operations of some lines more
ops_named :
    (ops : List Op) (trace : Trace) → IsTrace trace → All IsOp ops → All (IsAllowed trace.version) ops → IsTrace (record trace { lanes = last_with_all ops trace.lanes })
ops_named [] trace is named allowed = is
ops_named (op ∷ ops) trace is named allowed =
    ops_named ops (with_op trace op) (op_more trace op is (All-head IsOp op ops named, All-head (IsAllowed trace.version) op ops allowed))
    (All-tail IsOp op ops named) (All-tail (IsAllowed trace.version) op ops allowed)

-- a text that begins with lines of operations, in a lane, is read as the rest is behind them
pub lane_read :
    (trace : Trace) (text rest : List ℕ) (ops : List Op) (lanes : List (List Op)) (count : ℕ) → (nat_lt 0 (length trace.lanes) && is_unordered trace) ≡ true
    → lanes ≡ last_with_all ops trace.lanes → length ops ≡ count → BeginsWithOps trace.version text ops rest → (number : ℕ)
    → reading_from Two (lines_of text) number (Inside trace) ≡ reading_from Two (lines_of rest) (number + count) (Inside (record trace { lanes = lanes }))
lane_read trace text rest ops lanes count here more len begins number =
    let both = and_parts (nat_lt 0 (length trace.lanes)) (is_unordered trace) here in
    ap (λ (text : List ℕ). reading_from Two (lines_of text) number (Inside trace)) begins.spelled
    ∙ ops_read ops trace rest number begins.named begins.allowed (ltb-true 0 (length trace.lanes) both.0) (eqb-true (length trace.orders) 0 both.1)
    ∙ ap (λ (n : ℕ). reading_from Two (lines_of rest) n (Inside (record trace { lanes = last_with_all ops trace.lanes }))) (ap (λ n. number + n) len)
    ∙ ap (λ (lanes : List (List Op)). reading_from Two (lines_of rest) (number + count) (Inside (record trace { lanes = lanes }))) (sym more)

pub lane_named :
    (trace : Trace) (text rest : List ℕ) (ops : List Op) (lanes : List (List Op)) → IsTrace trace → lanes ≡ last_with_all ops trace.lanes → BeginsWithOps trace.version text ops rest
    → IsTrace (record trace { lanes = lanes })
lane_named trace text rest ops lanes is more begins =
    subst (λ (lanes : List (List Op)). IsTrace (record trace { lanes = lanes })) (sym more) (ops_named ops trace is begins.named begins.allowed)
