-- What is read so far is a trace that a text can name.
use Rattle.std.proofs.Common.{◌≡◌, ℕ, suc, ◌+◌, ◌<◌, ◌⊎◌, max, Bool, true, false, cond, ltb, leb, List, [], ◌∷◌, ◌++◌, length, Option, Some, None, is_some, unwrap_or, Result, Ok, Err, refl, sym, ap, ◌∙◌, subst, arith, inl, inr, length-append}
use Rattle.std.specs.Option.{ok_or}
use Rattle.std.specs.Prelude.{codes}
use Rattle.std.specs.List.{All, list_all}
use Rattle.std.specs.Str.{bytes_eq}
use Rattle.std.proofs.lemmas.Bool.{cases_Bool, and_parts, eqb-true, ltb-true, leb-true}
use Rattle.std.proofs.lemmas.List.Elements.{All-nil, All-cons, All-push, All-head, All-tail}
use Rattle.heap_geometry.specs.Geometry.{IsWithin}
use Rattle.heap_geometry.specs.declared.limits.TheConstants.{MAX_FRAMES, MAX_HEAPS, MAX_UNITS, MAX_TURNS}
use Rattle.trace_text.specs.declared.limits.TheConstants.{MAX_LANES, ORDER_MOST}
use Rattle.trace_text.specs.declared.fault.Cause.{Cause}
use Rattle.trace_text.specs.declared.fault.Cause.TheVariants.{BadGeometry, OutOfRange, UnknownOp, NotAscii, TooManyLanes}
use Rattle.trace_text.specs.declared.stage.ReadingStage.{ReadingStage}
use Rattle.trace_text.specs.declared.stage.ReadingStage.TheVariants.{Before, Inside, Ended}
use Rattle.trace_text.specs.declared.kinds.Kind.{Kind}
use Rattle.trace_text.specs.declared.kinds.Kinds.{Kinds}
use Rattle.trace_text.specs.declared.kinds.Kinds.TheVariants as kinds
use Rattle.trace_text.specs.declared.kinds.Numbers.{Numbers}
use Rattle.trace_text.specs.declared.trace.Op.{Op}
use Rattle.trace_text.specs.declared.trace.OrderRun.{OrderRun}
use Rattle.trace_text.specs.declared.trace.Trace.{Trace}
use Rattle.trace_text.specs.declared.trace.Version.{Version}
use Rattle.trace_text.specs.Causes.{◌>>=◌}
use Rattle.trace_text.specs.Lines.{is_plain, is_comment, fields_of}
use Rattle.trace_text.specs.Numbers.{number_in}
use Rattle.trace_text.specs.Operations.{Maker, written_by, made_by, made_by_some, kinds_by, maker_of, most_of, is_since, IsKind, AreWithin}
use Rattle.trace_text.specs.Said.{numeral_in, ranged, kind_of, none_in, one_in, two_in, three_in, heap_numbers_in, version_in, heap_in, numbers_in, op_by, op_of, order_in, last_with, with_lane, with_op, with_order, is_unordered, after_lane, after_order, after_end, after_op, after_inner, after_first, after_word, after_fields, after_line}
use Rattle.trace_text.specs.Stages.{HasTrace}
use Rattle.trace_text.specs.Traces.{IsOp, IsAllowed, IsOrder, IsTrace, callers_of}
use Rattle.trace_text.proofs.OperationLemmas.{kept_some, made_named, most_kind}

-- a step that did not fail gave a value, and what follows was made of it
pub bind_ok : {A B : Type 0} (r : Result A Cause) (f : A → Result B Cause) (y : B) → (r >>= f) ≡ Ok y → (x : A) × (r ≡ Ok x) × (f x ≡ Ok y)
bind_ok (Ok x) f y e = (x, refl, e)
bind_ok (Err cause) f y e = absurd cc

-- a test that did not fail was passed
pub kept : {A : Type 0} (b : Bool) (r : Result A Cause) (cause : Cause) (y : A) → cond b r (Err cause) ≡ Ok y → (b ≡ true) × (r ≡ Ok y)
kept true r cause y e = (refl, e)
kept false r cause y e = absurd cc

abbrev done : {A : Type 0} → A → Result A Cause
done x = Ok x

pub ok_is : {A : Type 0} (x y : A) → done x ≡ done y → x ≡ y
ok_is x y e = cc

-- what follows from each of two ways follows from a choice between them
pub either : {A : Type 0} (b : Bool) (x y z : A) (P : Type 0) → cond b x y ≡ z → (x ≡ z → P) → (y ≡ z → P) → P
either true x y z P e f g = f e
either false x y z P e f g = g e

pub ranged_ok : (cause : Cause) (low high n m : ℕ) → ranged cause low high n ≡ Ok m → (n ≡ m) × IsWithin low high m
unfolding ranged
ranged_ok cause low high n m e =
    let k = kept _ (Ok n) cause m e in
    let both = and_parts (leb low n) (leb n high) k.0 in
    let is : n ≡ m = ok_is n m k.1 in
    (is, (rw (← is) (leb-true low n both.0), rw (← is) (leb-true n high both.1)))

ok_or_some : (o : Option ℕ) (cause : Cause) (n : ℕ) → ok_or o cause ≡ Ok n → o ≡ Some n
ok_or_some (Some m) cause n e = cc
ok_or_some None cause n e = absurd cc

pub numeral_some : (field : List ℕ) (n : ℕ) → numeral_in field ≡ Ok n → number_in field ≡ Some n
unfolding numeral_in
numeral_some field n e = ok_or_some (number_in field) _ n e

pub kind_ok : (a : Kind) (n m : ℕ) → kind_of a n ≡ Ok m → (n ≡ m) × IsKind a m
kind_ok a n m e = let r = ranged_ok OutOfRange 0 (most_of a) n m e in (r.0, most_kind a m r.1.1)

abbrev numbers : ℕ → ℕ → ℕ → Numbers
numbers x y z = record { first = x; second = y; third = z }

pub numbers_ok : (k : Kinds) (fields : List (List ℕ)) (n : Numbers) → numbers_in k fields ≡ Ok n → AreWithin k n
unfolding numbers_in
numbers_ok (kinds.One a) fields n e =
    let f = bind_ok (one_in fields) (λ n. kind_of a n >>= λ x. Ok (numbers x 0 0)) n e in
    let x = bind_ok (kind_of a f.0) (λ x. Ok (numbers x 0 0)) n f.2 in
    subst (AreWithin (kinds.One a)) (ok_is (numbers x.0 0 0) n x.2) (kind_ok a f.0 x.0 x.1).1
numbers_ok (kinds.Two a b) fields n e =
    let f = bind_ok (two_in fields) (λ n. kind_of a n.0 >>= λ x. kind_of b n.1 >>= λ y. Ok (numbers x y 0)) n e in
    let x = bind_ok (kind_of a f.0.0) (λ x. kind_of b f.0.1 >>= λ y. Ok (numbers x y 0)) n f.2 in
    let y = bind_ok (kind_of b f.0.1) (λ y. Ok (numbers x.0 y 0)) n x.2 in
    subst (AreWithin (kinds.Two a b)) (ok_is (numbers x.0 y.0 0) n y.2) ((kind_ok a f.0.0 x.0 x.1).1, (kind_ok b f.0.1 y.0 y.1).1)
numbers_ok (kinds.Three a b c) fields n e =
    let f = bind_ok (three_in fields) (λ n. kind_of a n.0 >>= λ x. kind_of b n.1 >>= λ y. kind_of c n.2 >>= λ z. Ok (numbers x y z)) n e in
    let x = bind_ok (kind_of a f.0.0) (λ x. kind_of b f.0.1 >>= λ y. kind_of c f.0.2 >>= λ z. Ok (numbers x y z)) n f.2 in
    let y = bind_ok (kind_of b f.0.1) (λ y. kind_of c f.0.2 >>= λ z. Ok (numbers x.0 y z)) n x.2 in
    let z = bind_ok (kind_of c f.0.2) (λ z. Ok (numbers x.0 y.0 z)) n y.2 in
    subst (AreWithin (kinds.Three a b c)) (ok_is (numbers x.0 y.0 z.0) n z.2) ((kind_ok a f.0.0 x.0 x.1).1, (kind_ok b f.0.1 y.0 y.1).1, (kind_ok c f.0.2 z.0 z.1).1)

-- an operation that was read was made by the maker of its letter
abbrev pub IsRead : Version → Option Maker → List (List ℕ) → Op → Type 0
IsRead version o fields op =
    (maker : Maker) × (o ≡ Some maker) × (is_since (written_by maker).since version ≡ true) × (n : Numbers) × (numbers_in (written_by maker).kinds fields ≡ Ok n) × (made_by maker n ≡ op)

pub op_by_read : (version : Version) (o : Option Maker) (fields : List (List ℕ)) (op : Op) → op_by version o fields ≡ Ok op → IsRead version o fields op
unfolding op_by
op_by_read version None fields op e = absurd cc
op_by_read version (Some maker) fields op e =
    let known = kept (is_since (written_by maker).since version) (numbers_in (written_by maker).kinds fields >>= λ n. Ok (made_by maker n)) UnknownOp op e in
    let n = bind_ok (numbers_in (written_by maker).kinds fields) (λ n. Ok (made_by maker n)) op known.1 in
    (maker, refl, known.0, n.0, n.1, ok_is (made_by maker n.0) op n.2)

-- a letter behind which nothing is said is no operation's
pub no_kinds : (version : Version) (o : Option Maker) (fields : List (List ℕ)) → kinds_by version o ≡ None → op_by version o fields ≡ Err UnknownOp
unfolding op_by
no_kinds version None fields e = refl
no_kinds version (Some maker) fields e =
    elim (cases_Bool (is_since (written_by maker).since version)) [
      | inl known ↦ let absent : Some (written_by maker).kinds ≡ None = rw known at e in absurd cc
      | inr other ↦ rw other refl
    ]

some_known :
    (version : Version) (maker : Maker) (k : Kinds) (fields : List (List ℕ)) → is_since (written_by maker).since version ≡ true → (written_by maker).kinds ≡ k
    → op_by version (Some maker) fields ≡ (numbers_in k fields >>= λ n. Ok (made_by maker n))
unfolding op_by
some_known version maker k fields since same = rw (since, ← same) refl

-- the operation of a letter is what is made of it and of the numbers behind it
pub some_kinds :
    (version : Version) (o : Option Maker) (k : Kinds) (fields : List (List ℕ)) → kinds_by version o ≡ Some k
    → op_by version o fields ≡ (numbers_in k fields >>= λ n. ok_or (made_by_some o n) UnknownOp)
some_kinds version None k fields e = absurd cc
some_kinds version (Some maker) k fields e = let both = kept_some (is_since (written_by maker).since version) (written_by maker).kinds k e in some_known version maker k fields both.0 both.1

-- an operation that a text of this version can name
abbrev pub IsNamed : Version → Op → Type 0
IsNamed version op = IsOp op × IsAllowed version op

op_of_ok : (version : Version) (word : List ℕ) (fields : List (List ℕ)) (op : Op) → op_of version word fields ≡ Ok op → IsNamed version op
unfolding op_of
op_of_ok version [] fields op e = absurd cc
op_of_ok version (letter ∷ next ∷ more) fields op e = absurd cc
op_of_ok version (letter ∷ []) fields op e =
    let read = op_by_read version (maker_of letter) fields op e in
    let by = made_named version letter read.0 read.3 read.1 read.2 (numbers_ok (written_by read.0).kinds fields read.3 read.4) in
    subst (IsNamed version) read.5 (by.0, by.1)

pub order_ok : (lanes : List (List Op)) (fields : List (List ℕ)) (run : OrderRun) → order_in (length lanes) fields ≡ Ok run → IsOrder lanes run
unfolding order_in
order_ok lanes fields run e =
    let n = bind_ok (two_in fields) (λ n. ranged OutOfRange 1 ORDER_MOST n.1 >>= λ steps. cond (ltb n.0 (length lanes)) (Ok (record { lane = n.0; steps = steps })) (Err OutOfRange)) run e in
    let steps = bind_ok (ranged OutOfRange 1 ORDER_MOST n.0.1) (λ steps. cond (ltb n.0.0 (length lanes)) (Ok (record { lane = n.0.0; steps = steps })) (Err OutOfRange)) run n.2 in
    let below = kept (ltb n.0.0 (length lanes)) (Ok (record { lane = n.0.0; steps = steps.0 })) OutOfRange run steps.2 in
    let made : OrderRun = record { lane = n.0.0; steps = steps.0 } in
    subst (IsOrder lanes) (ok_is made run below.1) (ltb-true _ _ below.0, (ranged_ok OutOfRange 1 ORDER_MOST n.0.1 steps.0 steps.1).1)

-- ---- the trace after each line

-- a trace of this version that a text can name
abbrev IsTraceOf : Version → Trace → Type 0
IsTraceOf version trace = IsTrace trace × (trace.version ≡ version)

-- the reading stands behind a heap line of this version
abbrev pub IsBehind : Version → ReadingStage → Type 0
IsBehind version Before = ⊥
IsBehind version (Inside trace) = IsTraceOf version trace
IsBehind version (Ended trace) = IsTraceOf version trace

limit_named : (n : Option ℕ) (limit : ℕ) → unwrap_or n MAX_TURNS ≡ limit → (is_some n ≡ true) ⊎ (limit ≡ MAX_TURNS)
limit_named (Some m) limit e = inl refl
limit_named None limit e = inr (sym e)

heap_ok : (version : Version) (fields : List (List ℕ)) (trace : Trace) → heap_in version fields ≡ Ok trace → IsTraceOf version trace
unfolding heap_in
heap_ok version fields trace e =
    let made : ℕ → ℕ → ℕ → ℕ → Bool → Trace = λ frames heaps units limit named. record {
      version = version;
      heap = record { frames = frames; heaps = heaps; units = units; callers = callers_of []; turn_limit = limit };
      named_limit = named;
      lanes = [];
      orders = [];
    } in
    let n = bind_ok (heap_numbers_in fields) (λ n. ranged BadGeometry 1 MAX_FRAMES n.0 >>= λ frames. ranged BadGeometry 1 MAX_HEAPS n.1 >>= λ heaps. ranged BadGeometry 0 MAX_UNITS n.2 >>= λ units. ranged BadGeometry 1 MAX_TURNS (unwrap_or n.3 MAX_TURNS) >>= λ limit. Ok (made frames heaps units limit (is_some n.3))) trace e in
    let frames = bind_ok (ranged BadGeometry 1 MAX_FRAMES n.0.0) (λ frames. ranged BadGeometry 1 MAX_HEAPS n.0.1 >>= λ heaps. ranged BadGeometry 0 MAX_UNITS n.0.2 >>= λ units. ranged BadGeometry 1 MAX_TURNS (unwrap_or n.0.3 MAX_TURNS) >>= λ limit. Ok (made frames heaps units limit (is_some n.0.3))) trace n.2 in
    let heaps = bind_ok (ranged BadGeometry 1 MAX_HEAPS n.0.1) (λ heaps. ranged BadGeometry 0 MAX_UNITS n.0.2 >>= λ units. ranged BadGeometry 1 MAX_TURNS (unwrap_or n.0.3 MAX_TURNS) >>= λ limit. Ok (made frames.0 heaps units limit (is_some n.0.3))) trace frames.2 in
    let units = bind_ok (ranged BadGeometry 0 MAX_UNITS n.0.2) (λ units. ranged BadGeometry 1 MAX_TURNS (unwrap_or n.0.3 MAX_TURNS) >>= λ limit. Ok (made frames.0 heaps.0 units limit (is_some n.0.3))) trace heaps.2 in
    let limit = bind_ok (ranged BadGeometry 1 MAX_TURNS (unwrap_or n.0.3 MAX_TURNS)) (λ limit. Ok (made frames.0 heaps.0 units.0 limit (is_some n.0.3))) trace units.2 in
    let in_limit = ranged_ok BadGeometry 1 MAX_TURNS (unwrap_or n.0.3 MAX_TURNS) limit.0 limit.1 in
    subst (IsTraceOf version) (ok_is (made frames.0 heaps.0 units.0 limit.0 (is_some n.0.3)) trace limit.2) (
      record {
        heap = record {
          frames = (ranged_ok BadGeometry 1 MAX_FRAMES n.0.0 frames.0 frames.1).1;
          heaps = (ranged_ok BadGeometry 1 MAX_HEAPS n.0.1 heaps.0 heaps.1).1;
          units = (ranged_ok BadGeometry 0 MAX_UNITS n.0.2 units.0 units.1).1;
          callers = (omega arith, omega arith);
          turn_limit = in_limit.1;
        };
        callers = refl;
        turn_limit = limit_named n.0.3 limit.0 in_limit.0;
        few_lanes = omega arith;
        ops = All-nil (All IsOp);
        version = All-nil (All (IsAllowed version));
        orders = All-nil (IsOrder []);
      },
      refl,
    )

-- one operation more leaves as many lanes
pub length-last_with : (op : Op) (lanes : List (List Op)) → length (last_with op lanes) ≡ length lanes
length-last_with op [] = refl
length-last_with op (last ∷ []) = refl
length-last_with op (lane ∷ next ∷ more) = ap (λ (n : ℕ). suc n) (length-last_with op (next ∷ more))

All-last_with : (P : Op → Type 0) (op : Op) (lanes : List (List Op)) → All (All P) lanes → P op → All (All P) (last_with op lanes)
All-last_with P op [] h is = h
All-last_with P op (last ∷ []) h is = All-cons (All P) (last ++ op ∷ []) [] (All-push P last op (All-head (All P) last [] h) is) (All-nil (All P))
All-last_with P op (lane ∷ next ∷ more) h is =
    All-cons (All P) lane (last_with op (next ∷ more)) (All-head (All P) lane (next ∷ more) h)
    (All-last_with P op (next ∷ more) (All-tail (All P) lane (next ∷ more) h) is)

-- a list of no order runs fits any lanes
no_orders : (lanes : List (List Op)) (orders : List OrderRun) → length orders ≡ 0 → All (IsOrder lanes) orders
no_orders lanes [] none = All-nil (IsOrder lanes)
no_orders lanes (run ∷ orders) none = absurd (omega (arith, none))

-- order runs that fit some lanes fit as many others
same_orders : (lanes more : List (List Op)) (orders : List OrderRun) → length more ≡ length lanes → All (IsOrder lanes) orders → All (IsOrder more) orders
same_orders lanes more orders same h =
    let P : ℕ → Type 0 = λ n. All (λ (run : OrderRun). (run.lane < n) × IsWithin 1 ORDER_MOST run.steps) orders in
    subst P (sym same) h

pub lane_more : (trace : Trace) → IsTrace trace → length trace.orders ≡ 0 → length trace.lanes < MAX_LANES → IsTrace (with_lane trace)
lane_more trace is none few =
    let count : length (trace.lanes ++ [] ∷ []) ≡ length trace.lanes + 1 = length-append trace.lanes ([] ∷ []) in
    let callers : callers_of (trace.lanes ++ [] ∷ []) ≡ length trace.lanes + 1 = omega (arith, count) in
    record {
      heap = record {
        frames = is.heap.frames;
        heaps = is.heap.heaps;
        units = is.heap.units;
        callers = (omega (arith, callers), omega (arith, callers));
        turn_limit = is.heap.turn_limit;
      };
      callers = refl;
      turn_limit = is.turn_limit;
      few_lanes = omega (arith, count);
      ops = All-push (All IsOp) trace.lanes [] is.ops (All-nil IsOp);
      version = All-push (All (IsAllowed trace.version)) trace.lanes [] is.version (All-nil (IsAllowed trace.version));
      orders = no_orders (trace.lanes ++ [] ∷ []) trace.orders none;
    }

pub op_more : (trace : Trace) (op : Op) → IsTrace trace → IsNamed trace.version op → IsTrace (with_op trace op)
op_more trace op is in_range =
    let count = length-last_with op trace.lanes in
    record {
      heap = is.heap;
      callers = is.callers ∙ ap (λ n. max 1 n) (sym count);
      turn_limit = is.turn_limit;
      few_lanes = omega (arith, count, is.few_lanes);
      ops = All-last_with IsOp op trace.lanes is.ops in_range.0;
      version = All-last_with (IsAllowed trace.version) op trace.lanes is.version in_range.1;
      orders = same_orders trace.lanes (last_with op trace.lanes) trace.orders count is.orders;
    }

pub order_more : (trace : Trace) (run : OrderRun) → IsTrace trace → IsOrder trace.lanes run → IsTrace (with_order trace run)
order_more trace run is in_range =
    record {
      heap = is.heap;
      callers = is.callers;
      turn_limit = is.turn_limit;
      few_lanes = is.few_lanes;
      ops = is.ops;
      version = is.version;
      orders = All-push (IsOrder trace.lanes) trace.orders run is.orders in_range;
    }

-- ---- the stage after each line

after_lane_named : (trace : Trace) (fields : List (List ℕ)) (next : ReadingStage) → IsTrace trace → after_lane trace fields ≡ Ok next → IsBehind trace.version next
unfolding after_lane
after_lane_named trace fields next is e =
    let unordered = kept (is_unordered trace) (none_in fields >>= λ _. cond (ltb (length trace.lanes) MAX_LANES) (Ok (Inside (with_lane trace))) (Err TooManyLanes)) UnknownOp next e in
    let none = bind_ok (none_in fields) (λ _. cond (ltb (length trace.lanes) MAX_LANES) (Ok (Inside (with_lane trace))) (Err TooManyLanes)) next unordered.1 in
    let few = kept (ltb (length trace.lanes) MAX_LANES) (Ok (Inside (with_lane trace))) TooManyLanes next none.2 in
    subst (IsBehind trace.version) (ok_is (Inside (with_lane trace)) next few.1)
    (lane_more trace is (eqb-true (length trace.orders) 0 unordered.0) (ltb-true (length trace.lanes) MAX_LANES few.0), refl)

after_order_named : (trace : Trace) (fields : List (List ℕ)) (next : ReadingStage) → IsTrace trace → after_order trace fields ≡ Ok next → IsBehind trace.version next
unfolding after_order
after_order_named trace fields next is e =
    let run = bind_ok (order_in (length trace.lanes) fields) (λ run. Ok (Inside (with_order trace run))) next e in
    subst (IsBehind trace.version) (ok_is (Inside (with_order trace run.0)) next run.2)
    (order_more trace run.0 is (order_ok trace.lanes fields run.0 run.1), refl)

after_end_named : (trace : Trace) (fields : List (List ℕ)) (next : ReadingStage) → IsTrace trace → after_end trace fields ≡ Ok next → IsBehind trace.version next
unfolding after_end
after_end_named trace fields next is e =
    let none = bind_ok (none_in fields) (λ _. Ok (Ended trace)) next e in
    subst (IsBehind trace.version) (ok_is (Ended trace) next none.2) (is, refl)

after_op_named : (trace : Trace) (word : List ℕ) (fields : List (List ℕ)) (next : ReadingStage) → IsTrace trace → after_op trace word fields ≡ Ok next → IsBehind trace.version next
unfolding after_op
after_op_named trace word fields next is e =
    let in_lane = kept _ (op_of trace.version word fields >>= λ op. Ok (Inside (with_op trace op))) UnknownOp next e in
    let op = bind_ok (op_of trace.version word fields) (λ op. Ok (Inside (with_op trace op))) next in_lane.1 in
    subst (IsBehind trace.version) (ok_is (Inside (with_op trace op.0)) next op.2) (op_more trace op.0 is (op_of_ok trace.version word fields op.0 op.1), refl)

after_inner_named : (trace : Trace) (word : List ℕ) (fields : List (List ℕ)) (next : ReadingStage) → IsTrace trace → after_inner trace word fields ≡ Ok next → IsBehind trace.version next
unfolding after_inner
after_inner_named trace word fields next is e =
    either (bytes_eq word (codes "lane")) _ _ _ (IsBehind trace.version next) e (after_lane_named trace fields next is)
    (λ e. either (bytes_eq word (codes "order")) _ _ _ (IsBehind trace.version next) e (after_order_named trace fields next is)
    (λ e. either (bytes_eq word (codes "end")) _ _ _ (IsBehind trace.version next) e (after_end_named trace fields next is)
    (after_op_named trace word fields next is)))

-- a heap line begins a trace of the version that its word says
pub after_first_named :
    (known : Version) (word : List ℕ) (fields : List (List ℕ)) (next : ReadingStage) → after_first known word fields ≡ Ok next
    → (version : Version) × (version_in known word ≡ Ok version) × IsBehind version next
unfolding after_first
after_first_named known word fields next e =
    let version = bind_ok (version_in known word) (λ version. heap_in version fields >>= λ trace. Ok (Inside trace)) next e in
    let trace = bind_ok (heap_in version.0 fields) (λ trace. Ok (Inside trace)) next version.2 in
    (version.0, version.1, subst (IsBehind version.0) (ok_is (Inside trace.0) next trace.2) (heap_ok version.0 fields trace.0 trace.1))

-- from one stage to the next: a trace stays of its version
abbrev pub Goes : ReadingStage → ReadingStage → Type 0
Goes Before next = (next ≡ Before) ⊎ ((version : Version) × IsBehind version next)
Goes (Inside trace) next = IsBehind trace.version next
Goes (Ended trace) next = IsBehind trace.version next

stays : (stage next : ReadingStage) → HasTrace stage → done stage ≡ Ok next → Goes stage next
stays Before next is e = inl (sym (ok_is Before next e))
stays (Inside trace) next is e = subst (IsBehind trace.version) (ok_is (Inside trace) next e) (is, refl)
stays (Ended trace) next is e = subst (IsBehind trace.version) (ok_is (Ended trace) next e) (is, refl)

after_word_named : (known : Version) (stage next : ReadingStage) (word : List ℕ) (fields : List (List ℕ)) → HasTrace stage → after_word known stage word fields ≡ Ok next → Goes stage next
unfolding after_word
after_word_named known Before next word fields is e =
    let begun = after_first_named known word fields next e in
    inr (begun.0, begun.2)
after_word_named known (Inside trace) next word fields is e = after_inner_named trace word fields next is e
after_word_named known (Ended trace) next word fields is e = absurd cc

after_fields_named : (known : Version) (stage next : ReadingStage) (fields : List (List ℕ)) → HasTrace stage → after_fields known stage fields ≡ Ok next → Goes stage next
unfolding after_fields
after_fields_named known stage next [] is e = stays stage next is e
after_fields_named known stage next (word ∷ fields) is e =
    either (is_comment word) (done stage) (after_word known stage word fields) _ (Goes stage next) e (stays stage next is)
    (after_word_named known stage next word fields is)

-- a line that is not refused
pub line_goes : (known : Version) (stage next : ReadingStage) (line : List ℕ) → HasTrace stage → after_line known stage line ≡ Ok next → Goes stage next
unfolding after_line
line_goes known stage next line is e =
    let plain = kept (list_all is_plain line) (after_fields known stage (fields_of line)) NotAscii next e in
    after_fields_named known stage next (fields_of line) is plain.1

pub behind_named : (version : Version) (stage : ReadingStage) → IsBehind version stage → HasTrace stage
behind_named version Before is = absurd is
behind_named version (Inside trace) is = is.0
behind_named version (Ended trace) is = is.0

goes_named : (stage next : ReadingStage) → Goes stage next → HasTrace next
goes_named Before next (inl passed) = subst HasTrace (sym passed) tt
goes_named Before next (inr begun) = behind_named begun.0 next begun.1
goes_named (Inside trace) next goes = behind_named trace.version next goes
goes_named (Ended trace) next goes = behind_named trace.version next goes

-- a line that is not refused leaves a trace that a text can name, where there was one so far
pub line_named : (known : Version) (stage next : ReadingStage) (line : List ℕ) → HasTrace stage → after_line known stage line ≡ Ok next → HasTrace next
line_named known stage next line is e = goes_named stage next (line_goes known stage next line is e)
