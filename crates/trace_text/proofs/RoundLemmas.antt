-- A printed trace is read again.
use Rattle.std.proofs.Common.{◌≡◌, ℕ, ◌^◌, ◌<◌, ◌≤◌, ◌⊎◌, max, true, false, eqb, List, [], ◌∷◌, ◌++◌, length, Some, Ok, refl, sym, ap, ◌∙◌, subst, append_assoc, append-nil, length-append, arith, inl, inr}
use Rattle.std.specs.Prelude.{codes}
use Rattle.std.specs.Fmt.{decimal}
use Rattle.std.specs.List.{All, flat_map}
use Rattle.std.specs.Str.{bytes_eq}
use Rattle.std.proofs.lemmas.Bool.{cases_Bool, false≢true, lt-ltb, le-leb, eq-eqb}
use Rattle.std.proofs.lemmas.List.Elements.{All-head, All-tail}
use Rattle.heap_geometry.specs.declared.limits.TheConstants.{MAX_FRAMES, MAX_HEAPS, MAX_UNITS, MAX_TURNS}
use Rattle.trace_text.specs.declared.limits.TheConstants.{COMMENT, MAX_LANES, ORDER_MOST}
use Rattle.trace_text.specs.declared.fault.Cause.{Cause}
use Rattle.trace_text.specs.declared.fault.Cause.TheVariants.{BadGeometry, OutOfRange}
use Rattle.trace_text.specs.declared.stage.ReadingStage.{ReadingStage}
use Rattle.trace_text.specs.declared.stage.ReadingStage.TheVariants.{Before, Inside, Ended}
use Rattle.trace_text.specs.declared.kinds.Kind.{Kind}
use Rattle.trace_text.specs.declared.kinds.Kinds.{Kinds}
use Rattle.trace_text.specs.declared.kinds.Kinds.TheVariants as kinds
use Rattle.trace_text.specs.declared.kinds.Numbers.{Numbers}
use Rattle.trace_text.specs.declared.trace.Op.{Op}
use Rattle.trace_text.specs.declared.trace.OrderRun.{OrderRun}
use Rattle.trace_text.specs.declared.trace.Trace.{Trace}
use Rattle.trace_text.specs.declared.trace.Version.{Version}
use Rattle.trace_text.specs.declared.trace.Version.TheVariants.{One, Two}
use Rattle.trace_text.specs.Lines.{lines_of, is_comment}
use Rattle.trace_text.specs.Operations.{Maker, Written, written_of, written_by, made_by, maker_of, most_of, is_since, IsKind, AreWithin, decimals}
use Rattle.trace_text.specs.Reading.{Reading, Read, at_end, reading_from, reading_up_to, reading_of}
use Rattle.trace_text.specs.Said.{numeral_in, ranged, kind_of, one_in, two_in, three_in, heap_numbers_in, version_in, heap_in, numbers_in, op_by, op_of, order_in, last_with, with_lane, with_op, with_order, after_lane, after_order, after_end, after_op, after_inner, after_first, after_word, after_fields}
use Rattle.trace_text.specs.Text.{line, limit_fields, heap_fields, op_fields, op_line, lane_line, lane_lines, order_line, end_line, canonical_of}
use Rattle.trace_text.specs.Traces.{heap_word, IsOp, IsAllowed, IsOrder, IsTrace, callers_of}
use Rattle.trace_text.proofs.LawLemmas.{read_is}
use Rattle.trace_text.proofs.LineLemmas.{no_lines}
use Rattle.trace_text.proofs.NumberLemmas.{number_again}
use Rattle.trace_text.proofs.OperationLemmas.{cut, kind_most, kind_small, maker, made_as, since_test, no_comment, op_are_fields, op_some}
use Rattle.trace_text.proofs.PrintedLemmas.{IsField, AreFields, ReadsTo, reads_line, IsField-decimal}
use Rattle.trace_text.proofs.StageLemmas.{last_with-append}

numeral_again : (n : ℕ) → n < 2 ^ 64 → numeral_in (decimal n) ≡ Ok n
unfolding numeral_in
numeral_again n small = rw (number_again n small) refl

ranged_again : (cause : Cause) (low high n : ℕ) → low ≤ n → n ≤ high → ranged cause low high n ≡ Ok n
unfolding ranged
ranged_again cause low high n above below = rw (le-leb low n above, le-leb n high below) refl

-- ---- each line's fields are fields

are_two : (name : List ℕ) (a b : ℕ) → IsField name → a < 2 ^ 64 → b < 2 ^ 64 → AreFields (name ∷ decimal a ∷ decimal b ∷ [])
are_two name a b h x y = (h, (IsField-decimal a x, (IsField-decimal b y, tt)))

-- ---- what each printed line says

one_again : (a : ℕ) → a < 2 ^ 64 → one_in (decimal a ∷ []) ≡ Ok a
unfolding one_in
one_again a small = numeral_again a small

two_again : (a b : ℕ) → a < 2 ^ 64 → b < 2 ^ 64 → two_in (decimal a ∷ decimal b ∷ []) ≡ Ok (a, b)
unfolding two_in
two_again a b small low = rw (numeral_again a small, numeral_again b low) refl

three_again : (a b c : ℕ) → a < 2 ^ 64 → b < 2 ^ 64 → c < 2 ^ 64 → three_in (decimal a ∷ decimal b ∷ decimal c ∷ []) ≡ Ok (a, b, c)
unfolding three_in
three_again a b c x y z = rw (numeral_again a x, numeral_again b y, numeral_again c z) refl

kind_again : (a : Kind) (n : ℕ) → IsKind a n → kind_of a n ≡ Ok n
kind_again a n h = ranged_again OutOfRange 0 (most_of a) n (omega arith) (kind_most a n h)

numbers_again : (k : Kinds) (n : Numbers) → AreWithin k n → numbers_in k (decimals k n) ≡ Ok (cut k n)
unfolding numbers_in
numbers_again (kinds.One a) n h = rw (one_again n.first (kind_small a n.first h), kind_again a n.first h) refl
numbers_again (kinds.Two a b) n h =
    rw (two_again n.first n.second (kind_small a n.first h.0) (kind_small b n.second h.1), kind_again a n.first h.0, kind_again b n.second h.1) refl
numbers_again (kinds.Three a b c) n h =
    rw (
      three_again n.first n.second n.third (kind_small a n.first h.0) (kind_small b n.second h.1) (kind_small c n.third h.2),
      kind_again a n.first h.0,
      kind_again b n.second h.1,
      kind_again c n.third h.2,
    ) refl

by_maker :
    (version : Version) (maker : Maker) (fields : List (List ℕ)) (n : Numbers) → is_since (written_by maker).since version ≡ true → numbers_in (written_by maker).kinds fields ≡ Ok n
    → op_by version (Some maker) fields ≡ Ok (made_by maker n)
unfolding op_by
by_maker version maker fields n since e = rw (since, e) refl

-- the letter of an operation, and the numbers behind it, say the operation
op_again : (version : Version) (op : Op) → IsOp op → IsAllowed version op → op_by version (maker_of (written_of op).letter) (decimals (written_of op).kinds (written_of op).numbers) ≡ Ok op
op_again version op h allowed =
    let w = written_of op in
    let by = maker op in
    let is : w ≡ record (written_by by.0) { numbers = cut (written_by by.0).kinds w.numbers } = ap written_of (sym by.2) ∙ (made_as w.letter w.numbers by.0 by.1).1 in
    let same : (written_by by.0).kinds ≡ w.kinds = sym (ap (λ (w : Written). w.kinds) is) in
    let since : is_since (written_by by.0).since version ≡ true = subst (λ since. is_since since version ≡ true) (ap (λ (w : Written). w.since) is) (since_test w.since version allowed) in
    let numbers : w.numbers ≡ cut w.kinds w.numbers = ap (λ (w : Written). w.numbers) is ∙ ap (λ k. cut k w.numbers) same in
    let read : numbers_in (written_by by.0).kinds (decimals w.kinds w.numbers) ≡ Ok w.numbers =
    ap (λ k. numbers_in k (decimals w.kinds w.numbers)) same ∙ numbers_again w.kinds w.numbers h ∙ ap (λ n. Ok n) (sym numbers) in
    ap (λ o. op_by version o (decimals w.kinds w.numbers)) by.1 ∙ by_maker version by.0 (decimals w.kinds w.numbers) w.numbers since read ∙ ap (λ op. Ok op) by.2

-- a line of one letter, which begins no comment, is an operation
letter_after :
    (trace : Trace) (letter : ℕ) (fields : List (List ℕ)) (op : Op) → eqb letter COMMENT ≡ false → op_by trace.version (maker_of letter) fields ≡ Ok op
    → 0 < length trace.lanes → length trace.orders ≡ 0 → after_fields Two (Inside trace) ((letter ∷ []) ∷ fields) ≡ Ok (Inside (with_op trace op))
unfolding after_fields after_word after_inner after_op op_of
letter_after trace letter fields op line said some none =
    rw (line, one_word letter 108 (97 ∷ 110 ∷ 101 ∷ []) (omega arith), one_word letter 111 (114 ∷ 100 ∷ 101 ∷ 114 ∷ []) (omega arith), one_word letter 101 (110 ∷ 100 ∷ []) (omega arith), lt-ltb 0 (length trace.lanes) some, eq-eqb (length trace.orders) 0 none, said) refl
  where
    one_word : (letter b : ℕ) (more : List ℕ) → 0 < length more → bytes_eq (letter ∷ []) (b ∷ more) ≡ false
    one_word letter b [] longer = absurd (omega (arith, longer))
    one_word letter b (c ∷ more) longer = elim (cases_Bool (eqb letter b)) [ inl same ↦ rw same refl | inr other ↦ rw other refl ]

-- the line of an operation, in a lane, leads to the trace with that operation more
pub op_after :
    (trace : Trace) (op : Op) → IsOp op → IsAllowed trace.version op → 0 < length trace.lanes → length trace.orders ≡ 0
    → after_fields Two (Inside trace) (op_fields op) ≡ Ok (Inside (with_op trace op))
unfolding op_fields
op_after trace op h allowed some none =
    letter_after trace (written_of op).letter (decimals (written_of op).kinds (written_of op).numbers) op (no_comment op) (op_again trace.version op h allowed) some none

lane_after : (trace : Trace) → length trace.orders ≡ 0 → length trace.lanes < MAX_LANES → after_fields Two (Inside trace) (codes "lane" ∷ []) ≡ Ok (Inside (with_lane trace))
unfolding after_fields after_word after_inner after_lane
lane_after trace none few = rw (eq-eqb (length trace.orders) 0 none, lt-ltb (length trace.lanes) MAX_LANES few) refl

order_after :
    (trace : Trace) (run : OrderRun) → IsOrder trace.lanes run → length trace.lanes ≤ MAX_LANES
    → after_fields Two (Inside trace) (codes "order" ∷ decimal run.lane ∷ decimal run.steps ∷ []) ≡ Ok (Inside (with_order trace run))
unfolding after_fields after_word after_inner after_order order_in
order_after trace run h few =
    rw (
      two_again run.lane run.steps (omega (arith, h.0)) (omega (arith, h.1)),
      ranged_again OutOfRange 1 ORDER_MOST run.steps h.1.0 h.1.1,
      lt-ltb run.lane (length trace.lanes) h.0,
    ) refl

end_after : (trace : Trace) → after_fields Two (Inside trace) (codes "end" ∷ []) ≡ Ok (Ended trace)
unfolding after_fields after_word after_inner after_end
end_after trace = refl

-- ---- the word of the heap line

version_again : (version : Version) → version_in Two (heap_word version) ≡ Ok version
unfolding version_in
version_again One = refl
version_again Two = refl

no_comment_word : (version : Version) → is_comment (heap_word version) ≡ false
no_comment_word One = refl
no_comment_word Two = refl

word_is_field : (version : Version) → IsField (heap_word version)
word_is_field One = record { some = refl; graphic = refl }
word_is_field Two = record { some = refl; graphic = refl }

-- ---- the trace so far

-- a trace with these lanes and order runs so far
abbrev so_far : Trace → List (List Op) → List OrderRun → Trace
so_far t lanes orders = record t { heap = record t.heap { callers = callers_of lanes }; lanes = lanes; orders = orders }

heap_after : (t : Trace) → IsTrace t → after_fields Two Before (heap_fields t) ≡ Ok (Inside (so_far t [] []))
unfolding after_fields after_word after_first heap_in heap_numbers_in
heap_after t is =
    elim (cases_Bool t.named_limit) [
      | inl named ↦
          rw (
            no_comment_word t.version,
            version_again t.version,
            named,
            numeral_again t.heap.frames (omega (arith, is.heap.frames)),
            numeral_again t.heap.heaps (omega (arith, is.heap.heaps)),
            numeral_again t.heap.units (omega (arith, is.heap.units)),
            numeral_again t.heap.turn_limit (omega (arith, is.heap.turn_limit)),
            ranged_again BadGeometry 1 MAX_FRAMES t.heap.frames is.heap.frames.0 is.heap.frames.1,
            ranged_again BadGeometry 1 MAX_HEAPS t.heap.heaps is.heap.heaps.0 is.heap.heaps.1,
            ranged_again BadGeometry 0 MAX_UNITS t.heap.units is.heap.units.0 is.heap.units.1,
            ranged_again BadGeometry 1 MAX_TURNS t.heap.turn_limit is.heap.turn_limit.0 is.heap.turn_limit.1,
          ) refl
      | inr unnamed ↦
          let limit : t.heap.turn_limit ≡ MAX_TURNS = unnamed_limit t is.turn_limit unnamed in
          rw (
            no_comment_word t.version,
            version_again t.version,
            unnamed,
            numeral_again t.heap.frames (omega (arith, is.heap.frames)),
            numeral_again t.heap.heaps (omega (arith, is.heap.heaps)),
            numeral_again t.heap.units (omega (arith, is.heap.units)),
            ranged_again BadGeometry 1 MAX_FRAMES t.heap.frames is.heap.frames.0 is.heap.frames.1,
            ranged_again BadGeometry 1 MAX_HEAPS t.heap.heaps is.heap.heaps.0 is.heap.heaps.1,
            ranged_again BadGeometry 0 MAX_UNITS t.heap.units is.heap.units.0 is.heap.units.1,
            ranged_again BadGeometry 1 MAX_TURNS MAX_TURNS (omega arith) (omega arith),
            limit,
          ) refl
    ]
  where
    unnamed_limit : (t : Trace) → (t.named_limit ≡ true) ⊎ (t.heap.turn_limit ≡ MAX_TURNS) → t.named_limit ≡ false → t.heap.turn_limit ≡ MAX_TURNS
    unnamed_limit t (inl named) unnamed = absurd (false≢true (sym unnamed ∙ named))
    unnamed_limit t (inr limit) unnamed = limit

heap_are_fields : (t : Trace) → IsTrace t → AreFields (heap_fields t)
heap_are_fields t is =
    let three : AreFields (limit_fields t) → AreFields (heap_fields t) = λ limit. (
      word_is_field t.version,
      (
        IsField-decimal t.heap.frames (omega (arith, is.heap.frames)),
        (IsField-decimal t.heap.heaps (omega (arith, is.heap.heaps)), (IsField-decimal t.heap.units (omega (arith, is.heap.units)), limit)),
      ),
    ) in
    elim (cases_Bool t.named_limit) [
      | inl named ↦ three (rw named (IsField-decimal t.heap.turn_limit (omega (arith, is.heap.turn_limit)), tt))
      | inr unnamed ↦ three (rw unnamed tt)
    ]

-- ---- the parts of a printed text, read from where they stand

append_last : (lanes : List (List Op)) (last : List Op) (op : Op) → callers_of (lanes ++ last ∷ []) ≡ callers_of (lanes ++ (last ++ op ∷ []) ∷ [])
append_last lanes last op = ap (λ n. max 1 n) (length-append lanes (last ∷ []) ∙ sym (length-append lanes ((last ++ op ∷ []) ∷ [])))

-- a trace so far with one operation more has it in its last lane
op_added : (t : Trace) (lanes : List (List Op)) (last : List Op) (op : Op) → with_op (so_far t (lanes ++ last ∷ []) []) op ≡ so_far t (lanes ++ (last ++ op ∷ []) ∷ []) []
op_added t lanes last op =
    ap (λ (n : ℕ). record t { heap = record t.heap { callers = n }; lanes = last_with op (lanes ++ last ∷ []); orders = [] }) (append_last lanes last op)
    ∙ ap (λ (ls : List (List Op)). record t { heap = record t.heap { callers = callers_of (lanes ++ (last ++ op ∷ []) ∷ []) }; lanes = ls; orders = [] }) (last_with-append op lanes last)

-- the printed operations of a lane are read, and then what comes behind them
ops_read :
    (reading : Reading) (t : Trace) (lanes : List (List Op)) (ops last : List Op) (rest : List ℕ) → All IsOp ops → All (IsAllowed t.version) ops
    → ReadsTo reading (Inside (so_far t (lanes ++ (last ++ ops) ∷ []) [])) rest
    → ReadsTo reading (Inside (so_far t (lanes ++ last ∷ []) [])) (flat_map op_line ops ++ rest)
ops_read reading t lanes [] last rest h allowed reads =
    subst (λ (ops : List Op). ReadsTo reading (Inside (so_far t (lanes ++ ops ∷ []) [])) rest) (append-nil last) reads
ops_read reading t lanes (op ∷ ops) last rest h allowed reads =
    let here = All-head IsOp op ops h in
    let others = ops_read reading t lanes ops (last ++ op ∷ []) rest (All-tail IsOp op ops h) (All-tail (IsAllowed t.version) op ops allowed)
    (subst (λ (all : List Op). ReadsTo reading (Inside (so_far t (lanes ++ all ∷ []) [])) rest) (sym (append_assoc last (op ∷ []) ops)) reads) in
    let said = op_after (so_far t (lanes ++ last ∷ []) []) op here (All-head (IsAllowed t.version) op ops allowed) (omega (arith, length-append lanes (last ∷ []))) refl in
    let next = ap (λ (trace : Trace). Inside trace) (op_added t lanes last op) in
    let one = reads_line reading (Inside (so_far t (lanes ++ last ∷ []) [])) (Inside (so_far t (lanes ++ (last ++ op ∷ []) ∷ []) [])) (op_fields op) (flat_map op_line ops ++ rest)
    (op_are_fields op here) (op_some op) (said ∙ ap (λ (stage : ReadingStage). Ok stage) next) others in
    subst (λ (text : List ℕ). ReadsTo reading (Inside (so_far t (lanes ++ last ∷ []) [])) text) (sym (append_assoc (op_line op) (flat_map op_line ops) rest)) one

-- the printed lanes are read, and then what comes behind them
lanes_read :
    (reading : Reading) (t : Trace) (before lanes : List (List Op)) (rest : List ℕ) → All (All IsOp) lanes → All (All (IsAllowed t.version)) lanes → length (before ++ lanes) ≤ MAX_LANES
    → ReadsTo reading (Inside (so_far t (before ++ lanes) [])) rest
    → ReadsTo reading (Inside (so_far t before [])) (flat_map lane_lines lanes ++ rest)
lanes_read reading t before [] rest h allowed few reads =
    subst (λ (lanes : List (List Op)). ReadsTo reading (Inside (so_far t lanes [])) rest) (append-nil before) reads
lanes_read reading t before (ops ∷ lanes) rest h allowed few reads =
    let count = length-append before (ops ∷ lanes) in
    let same = append_assoc before (ops ∷ []) lanes in
    let others = lanes_read reading t (before ++ ops ∷ []) lanes rest (All-tail (All IsOp) ops lanes h) (All-tail (All (IsAllowed t.version)) ops lanes allowed) (omega (arith, few, ap length same))
    (subst (λ (all : List (List Op)). ReadsTo reading (Inside (so_far t all [])) rest) (sym same) reads) in
    let here = ops_read reading t before ops [] (flat_map lane_lines lanes ++ rest) (All-head (All IsOp) ops lanes h) (All-head (All (IsAllowed t.version)) ops lanes allowed) others in
    let said = lane_after (so_far t before []) refl (omega (arith, few, count)) in
    let one = reads_line reading (Inside (so_far t before [])) (Inside (so_far t (before ++ [] ∷ []) [])) (codes "lane" ∷ []) (flat_map op_line ops ++ (flat_map lane_lines lanes ++ rest))
    (record { some = refl; graphic = refl }, tt) (omega arith) said here in
    subst (λ (text : List ℕ). ReadsTo reading (Inside (so_far t before [])) text)
    (sym (append_assoc lane_line (flat_map op_line ops) (flat_map lane_lines lanes ++ rest)) ∙ sym (append_assoc (lane_lines ops) (flat_map lane_lines lanes) rest)) one

-- the printed order lines are read, and then what comes behind them
orders_read :
    (reading : Reading) (t : Trace) (lanes : List (List Op)) (before orders : List OrderRun) (rest : List ℕ) → All (IsOrder lanes) orders → length lanes ≤ MAX_LANES
    → ReadsTo reading (Inside (so_far t lanes (before ++ orders))) rest
    → ReadsTo reading (Inside (so_far t lanes before)) (flat_map order_line orders ++ rest)
orders_read reading t lanes before [] rest h few reads =
    subst (λ (orders : List OrderRun). ReadsTo reading (Inside (so_far t lanes orders)) rest) (append-nil before) reads
orders_read reading t lanes before (run ∷ orders) rest h few reads =
    let here = All-head (IsOrder lanes) run orders h in
    let others = orders_read reading t lanes (before ++ run ∷ []) orders rest (All-tail (IsOrder lanes) run orders h) few
    (subst (λ (all : List OrderRun). ReadsTo reading (Inside (so_far t lanes all)) rest) (sym (append_assoc before (run ∷ []) orders)) reads) in
    let said = order_after (so_far t lanes before) run here few in
    let one = reads_line reading (Inside (so_far t lanes before)) (Inside (so_far t lanes (before ++ run ∷ []))) (codes "order" ∷ decimal run.lane ∷ decimal run.steps ∷ []) (flat_map order_line orders ++ rest)
    (are_two (codes "order") run.lane run.steps (record { some = refl; graphic = refl }) (omega (arith, here.0)) (omega (arith, here.1))) (omega arith) said others in
    subst (λ (text : List ℕ). ReadsTo reading (Inside (so_far t lanes before)) text) (sym (append_assoc (order_line run) (flat_map order_line orders) rest)) one

nothing_left : (t : Trace) → ReadsTo (Read t) (Ended t) []
unfolding reading_from at_end
nothing_left t number = rw no_lines refl

-- the printed last line ends the reading with the trace
end_read : (t : Trace) → ReadsTo (Read t) (Inside t) (end_line ++ [])
end_read t =
    reads_line (Read t) (Inside t) (Ended t) (codes "end" ∷ []) [] (record { some = refl; graphic = refl }, tt) (omega arith) (end_after t) (nothing_left t)

-- the trace so far, with all lanes and order runs, is the trace
all_of : (t : Trace) → IsTrace t → so_far t t.lanes t.orders ≡ t
all_of t is = ap (λ (n : ℕ). record t { heap = record t.heap { callers = n } }) (sym is.callers)

pub printed_is_read : (t : Trace) → IsTrace t → reading_of (canonical_of t) ≡ Read t
unfolding reading_of reading_up_to canonical_of
printed_is_read t is =
    let lanes = flat_map lane_lines t.lanes in
    let orders = flat_map order_line t.orders in
    let last = subst (λ (trace : Trace). ReadsTo (Read t) (Inside trace) (end_line ++ [])) (sym (all_of t is)) (end_read t) in
    let by_orders = orders_read (Read t) t t.lanes [] t.orders (end_line ++ []) is.orders is.few_lanes last in
    let by_lanes = lanes_read (Read t) t [] t.lanes (orders ++ (end_line ++ [])) is.ops is.version is.few_lanes by_orders in
    let whole = reads_line (Read t) Before (Inside (so_far t [] [])) (heap_fields t) (lanes ++ (orders ++ (end_line ++ []))) (heap_are_fields t is) (omega arith) (heap_after t is) by_lanes in
    ap (λ (text : List ℕ). reading_from Two (lines_of text) 1 Before) (regrouped (line (heap_fields t)) lanes orders end_line) ∙ whole 1
  where
    regrouped : (a b c d : List ℕ) → ((a ++ b) ++ c) ++ d ≡ a ++ (b ++ (c ++ (d ++ [])))
    regrouped a b c d = simp (append_assoc, append-nil)

-- a text that was canonical is printed as it was
pub canonical_is_printed : (text : List ℕ) (t u : Trace) → IsTrace t → text ≡ canonical_of t → reading_of text ≡ Read u → canonical_of u ≡ text
canonical_is_printed text t u is e read =
    let same : t ≡ u = read_is t u (sym (printed_is_read t is) ∙ sym (ap reading_of e) ∙ read) in
    sym (ap canonical_of same) ∙ sym e
