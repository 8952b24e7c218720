-- What a workload makes is a trace that a text can name.
use Rattle.std.proofs.Common.{◌≡◌, ℕ, zero, suc, ◌+◌, ◌-◌, ◌*◌, ◌/◌, ◌%◌, ◌^◌, ◌<◌, ◌≤◌, Bool, true, false, cond, List, [], ◌∷◌, length, refl, arith, inr}
use Rattle.std.proofs.lemmas.List.Elements.{All-nil, All-cons, All-push, All-append, All-weaker}
use Rattle.std.proofs.lemmas.List.{length-append}
use Rattle.std.proofs.Math.Nat.{div-le_self}
use Rattle.std.specs.Prelude.{bit_or, bit_xor}
use Rattle.std.specs.List.{All}
use Rattle.std.specs.Int.Bits.{or_add_and}
use Rattle.heap_geometry.specs.declared.limits.TheConstants.{LARGE_MOST}
use Rattle.rand_pcg.specs.Lcg.{Lcg}
use Rattle.trace_text.specs.declared.limits.TheConstants.{REGISTERS}
use Rattle.trace_text.specs.declared.trace.Op.{Op}
use Rattle.trace_text.specs.declared.trace.Op.TheVariants.{Alloc, Free, Check, Put, Take, Resize}
use Rattle.trace_text.specs.declared.trace.Version.TheVariants.{One}
use Rattle.trace_text.specs.Traces.{IsOp, IsAllowed, IsTrace}
use Rattle.workloads.specs.declared.kind.Kind.{Kind}
use Rattle.workloads.specs.declared.kind.Kind.TheVariants as kinds
use Rattle.workloads.specs.Draws.{Draws, just, draw, seeded_by}
use Rattle.workloads.specs.Held.{is_held, frees_below}
use Rattle.workloads.specs.Lanes.{scalability, scalability_round, batch_allocs, batch_frees, batch, full_batches, threadtest, given_back, larson_round, larson_rounds, larson, produced, consumed, shelf_of, pipeline}
use Rattle.workloads.specs.Made.{rounds_of, lane_of, lanes_of, made}

-- ---- a draw is a word

or_below : (a b m : ℕ) → a + b < m → bit_or a b < m
or_below a b m below = let e = or_add_and a b in omega arith

pub draw-below : (g : Lcg) → (draw g).0 < 2 ^ 64
unfolding draw
draw-below g =
    let word : ℕ = bit_xor (g.state / 2 ^ 18) g.state / 2 ^ 27 % 2 ^ 32 in
    let below : word < 2 ^ 32 = omega arith in
    let turn : ℕ = g.state / 2 ^ 59 % 32 in
    or_below (word / 2 ^ turn) (word * 2 ^ ((32 - turn) % 32) % 2 ^ 32) (2 ^ 64) (omega (arith, div-le_self word (2 ^ turn)))

-- ---- operations in their ranges, none of them a resize

abbrev IsPlainOp : Op → Type 0
IsPlainOp (Resize r need) = ⊥
IsPlainOp operation = IsOp operation

in-ranges : (operation : Op) → IsPlainOp operation → IsOp operation
in-ranges (Resize r need) is = absurd is
in-ranges operation is = is

allowed : (operation : Op) → IsPlainOp operation → IsAllowed One operation
allowed (Resize r need) is = absurd is
allowed operation is = tt

abbrev IsGood : Draws (List Op) → Type 0
IsGood ops = (g : Lcg) → All IsPlainOp (ops g).0

none : All IsPlainOp []
none = All-nil IsPlainOp

one : (a : Op) → IsPlainOp a → All IsPlainOp (a ∷ [])
one a is = All-cons IsPlainOp a [] is none

two : (a b : Op) → IsPlainOp a → IsPlainOp b → All IsPlainOp (a ∷ b ∷ [])
two a b is also = All-cons IsPlainOp a (b ∷ []) is (one b also)

three : (a b c : Op) → IsPlainOp a → IsPlainOp b → IsPlainOp c → All IsPlainOp (a ∷ b ∷ c ∷ [])
three a b c is also last = All-cons IsPlainOp a (b ∷ c ∷ []) is (two b c also last)

alloc : (r need v : ℕ) → r < REGISTERS → need ≤ LARGE_MOST → v < 2 ^ 64 → IsPlainOp (Alloc r need v)
alloc r need v in_r in_need in_v = (in_r, in_need, in_v)

scalability_round-good : IsGood scalability_round
unfolding scalability_round
scalability_round-good g =
    two (Alloc 0 1 (draw g).0) (Free 0) (alloc 0 1 (draw g).0 (omega arith) (omega arith) (draw-below g)) (omega arith)

scalability-good : (n : ℕ) → IsGood (scalability n)
unfolding scalability
scalability-good zero g = none
scalability-good (suc n) g = All-append IsPlainOp _ _ (scalability-good n g) (scalability_round-good (scalability n g).1)

batch_allocs-good : (n : ℕ) → n ≤ REGISTERS → IsGood (batch_allocs n)
unfolding batch_allocs
batch_allocs-good zero few g = none
batch_allocs-good (suc r) few g =
    let k = (batch_allocs r g).1 in
    All-append IsPlainOp _ _ (batch_allocs-good r (omega arith) g) (one (Alloc r 7 (draw k).0) (alloc r 7 (draw k).0 (omega arith) (omega arith) (draw-below k)))

batch_frees-good : (n : ℕ) → n ≤ REGISTERS → All IsPlainOp (batch_frees n)
unfolding batch_frees
batch_frees-good zero few = none
batch_frees-good (suc r) few =
    let in_r : r < REGISTERS = omega arith in
    All-append IsPlainOp _ _ (batch_frees-good r (omega arith)) (two (Check r) (Free r) in_r in_r)

batch-good : (n : ℕ) → n ≤ 64 → IsGood (batch n)
unfolding batch
batch-good n few g = All-append IsPlainOp _ _ (batch_allocs-good n (omega arith) g) (batch_frees-good n (omega arith))

full_batches-good : (n : ℕ) → IsGood (full_batches n)
unfolding full_batches
full_batches-good zero g = none
full_batches-good (suc n) g = All-append IsPlainOp _ _ (full_batches-good n g) (batch-good 64 (omega arith) (full_batches n g).1)

threadtest-good : (n : ℕ) → IsGood (threadtest n)
unfolding threadtest
threadtest-good n g =
    All-append IsPlainOp _ _ (full_batches-good (n / 64) g) (batch-good (n % 64) (omega arith) (full_batches (n / 64) g).1)

given_back-good : (r : ℕ) (was : Bool) → r < REGISTERS → All IsPlainOp (given_back r was)
given_back-good r true in_r = two (Check r) (Free r) in_r in_r
given_back-good r false in_r = none

larson_round-good : (before : List Op) → IsGood (larson_round before)
unfolding larson_round
larson_round-good before g =
    let number = (draw g).0 in
    let h = (draw g).1 in
    let need = (draw h).0 in
    let k = (draw h).1 in
    All-append IsPlainOp _ _ (given_back-good (number % 64) (is_held (number % 64) before) (omega arith))
    (one (Alloc (number % 64) (need % 63 + 1) (draw k).0) (alloc (number % 64) (need % 63 + 1) (draw k).0 (omega arith) (omega arith) (draw-below k)))

larson_rounds-good : (n : ℕ) → IsGood (larson_rounds n)
unfolding larson_rounds
larson_rounds-good zero g = none
larson_rounds-good (suc n) g =
    All-append IsPlainOp _ _ (larson_rounds-good n g) (larson_round-good (larson_rounds n g).0 (larson_rounds n g).1)

freed-good : (r : ℕ) (was : Bool) → r < REGISTERS → All IsPlainOp (cond was (Free r ∷ []) [])
freed-good r true in_r = one (Free r) in_r
freed-good r false in_r = none

frees-good : (n : ℕ) (ops : List Op) → n ≤ REGISTERS → All IsPlainOp (frees_below n ops)
unfolding frees_below
frees-good zero ops few = none
frees-good (suc r) ops few =
    All-append IsPlainOp _ _ (frees-good r ops (omega arith)) (freed-good r (is_held r ops) (omega arith))

larson-good : (n : ℕ) → IsGood (larson n)
unfolding larson
larson-good n g = All-append IsPlainOp _ _ (larson_rounds-good n g) (frees-good 64 (larson_rounds n g).0 (omega arith))

shelf-below : (pair round : ℕ) → pair < 4 → shelf_of pair round < 64
shelf-below pair round few = omega arith

produced-good : (pair n : ℕ) → pair < 4 → IsGood (produced pair n)
unfolding produced
produced-good pair zero few g = none
produced-good pair (suc n) few g =
    let k = (produced pair n g).1 in
    All-append IsPlainOp _ _ (produced-good pair n few g)
    (two (Alloc 0 3 (draw k).0) (Put 0 (shelf_of pair n)) (alloc 0 3 (draw k).0 (omega arith) (omega arith) (draw-below k)) (omega arith, shelf-below pair n few))

consumed-good : (pair n : ℕ) → pair < 4 → All IsPlainOp (consumed pair n)
unfolding consumed
consumed-good pair zero few = none
consumed-good pair (suc n) few =
    All-append IsPlainOp _ _ (consumed-good pair n few)
    (three (Take 0 (shelf_of pair n)) (Check 0) (Free 0) (omega arith, shelf-below pair n few) (omega arith) (omega arith))

either-good : (even : Bool) (d e : Draws (List Op)) → IsGood d → IsGood e → (g : Lcg) → All IsPlainOp (cond even d e g).0
either-good true d e is also g = is g
either-good false d e is also g = also g

pipeline-good : (lane n : ℕ) → lane < 8 → IsGood (pipeline lane n)
unfolding pipeline
pipeline-good lane n few g =
    either-good _ (produced (lane / 2) n) (just (consumed (lane / 2) n)) (produced-good (lane / 2) n (omega arith)) (λ g. consumed-good (lane / 2) n (omega arith)) g

-- ---- the lanes

lane-good : (kind : Kind) (lane n : ℕ) → lane < 8 → IsGood (lane_of kind lane n)
lane-good kinds.Scalability lane n few = scalability-good n
lane-good kinds.Threadtest lane n few = threadtest-good n
lane-good kinds.Larson lane n few = larson-good n
lane-good kinds.Pipeline lane n few = pipeline-good lane n few

lanes-good : (kind : Kind) (size lanes : ℕ) → lanes ≤ 8 → (g : Lcg) → All (All IsPlainOp) (lanes_of kind size lanes g).0
unfolding lanes_of
lanes-good kind size zero few g = All-nil (All IsPlainOp)
lanes-good kind size (suc lane) few g =
    All-push (All IsPlainOp) _ _ (lanes-good kind size lane (omega arith) g)
    (lane-good kind lane (rounds_of size lane) (omega arith) (lanes_of kind size lane g).1)

lanes-length : (kind : Kind) (size lanes : ℕ) (g : Lcg) → length (lanes_of kind size lanes g).0 ≡ lanes
unfolding lanes_of
lanes-length kind size zero g = refl
lanes-length kind size (suc lane) g = simp length-append (omega (arith, lanes-length kind size lane g))

-- a workload's trace is one that a text can name
pub made-is_trace : (kind : Kind) (size start : ℕ) → IsTrace (made kind size start)
unfolding made
made-is_trace kind size start =
    let g = seeded_by start in
    let many = lanes-length kind size 8 g in
    record {
      heap = record {
        frames = (omega arith, omega arith);
        heaps = (omega arith, omega arith);
        units = (omega arith, omega arith);
        callers = (omega arith, omega arith);
        turn_limit = (omega arith, omega arith);
      };
      callers = rw many refl;
      turn_limit = inr refl;
      few_lanes = rw many (omega arith);
      ops =
          All-weaker (All IsPlainOp) (All IsOp) (All-weaker IsPlainOp IsOp in-ranges) (lanes_of kind size 8 g).0 (lanes-good kind size 8 (omega arith) g);
      version =
          All-weaker (All IsPlainOp) (All (IsAllowed One)) (All-weaker IsPlainOp (IsAllowed One) allowed) (lanes_of kind size 8 g).0
          (lanes-good kind size 8 (omega arith) g);
      orders = All-nil _;
    }
