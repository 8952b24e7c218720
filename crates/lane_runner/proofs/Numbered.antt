-- Elements with their numbers: passes, and what threads work on.
use Rattle.std.proofs.Common.{ℕ, suc, ◌≡◌, ◌<◌, ◌≤◌, ◌+◌, ◌↔◌, Bool, false, IsTrue, List, [], ◌∷◌, ◌++◌, length, max, get_or, take, drop, refl, sym, ap, ◌∙◌, subst, inl, inr, arith}
use Rattle.std.specs.Prelude.{All}
use Rattle.std.proofs.lemmas.Bool.{true≢false, cases_eq, cases_lt}
use Rattle.std.proofs.lemmas.Grind.{common_steps}
use Rattle.std.proofs.lemmas.List.{append-nil, get_or_append_left, get_or_push, length-append}
use Rattle.std.proofs.lemmas.List.Elements.{All-cons, All-nil}
use Rattle.std.proofs.Math.ListN.{get_or-eq_default}
use Rattle.errand_steps.specs.Begins.{IsIdle}
use Rattle.trace_text.specs.declared.trace.Op.{Op}
use Rattle.trace_text.specs.declared.trace.Trace.{Trace}
use Rattle.lane_outcomes.specs.Passed.{AllPassed}
use Rattle.live_heap.specs.Heaps.{HeapFields}
use Rattle.live_heap.specs.declared.pass.Pass.{Pass}
use Rattle.live_heap.specs.Passes.{AreFrom, IsFresh}
use Rattle.trace_lane.specs.Paths.{FirstPassed}
use Rattle.lane_runner.specs.Running.{operations_in}
use Rattle.lane_runner.specs.Threads.{AreDown}

-- elements with their numbers: one more behind them, and the last one gone
module _ {X : Type 0} (P : ℕ → X → Type 0) where
  pub down-push : (last : ℕ) (xs : List X) (x : X) → AreDown P (suc last) xs → P last x → AreDown P last (xs ++ x ∷ [])
  down-push last [] x all one = (subst (λ n. P n x) (omega arith) one, tt)
  down-push last (y ∷ ys) x all one = (
    subst (λ n. P n y) (omega (arith, length-append ys (x ∷ []))) all.0,
    down-push last ys x all.1 one,
  )

  pub down-pop : (last : ℕ) (xs : List X) (x : X) → AreDown P last (xs ++ x ∷ []) → P last x × AreDown P (suc last) xs
  down-pop last [] x all = (subst (λ n. P n x) (omega arith) all.0, tt)
  down-pop last (y ∷ ys) x all =
      let rest = down-pop last ys x all.1 in
      (rest.0, (subst (λ n. P n y) (omega (arith, length-append ys (x ∷ []))) all.0, rest.1))

  -- what follows for each numbered element is so of all
  pub down-all : (Q : X → Type 0) → ((n : ℕ) (x : X) → P n x → Q x) → (last : ℕ) (xs : List X) → AreDown P last xs → All Q xs
  down-all Q follows last [] all = All-nil Q
  down-all Q follows last (x ∷ xs) all = All-cons Q x xs (follows (last + length xs) x all.0) (down-all Q follows last xs all.1)

  -- the element with a number
  pub down-find : (last : ℕ) (xs : List X) (n : ℕ) → last ≤ n → n < last + length xs → AreDown P last xs → (x : X) × P n x
  down-find last [] n least lt all = absurd (omega (arith, least, lt))
  down-find last (x ∷ xs) n least lt all =
      elim (cases_eq n (last + length xs)) [
        | inl same ↦ (x, subst (λ k. P k x) (sym same) all.0)
        | inr ne ↦ down-find last xs n least (omega (arith, ne, lt)) all.1
      ]

-- numbered elements keep their numbers when something is done with each of them
pub down-done :
    {X : Type 0} (P Q : ℕ → X → Type 0) (R : X → X → Type 0) → ((n : ℕ) (x y : X) → P n x → R x y → Q n y) → (last : ℕ) (xs ys : List X)
    → length ys ≡ length xs → ((i : ℕ) (d : X) → i < length xs → R (get_or xs i d) (get_or ys i d)) → AreDown P last xs → AreDown Q last ys
down-done P Q R follows last [] [] same each all = tt
down-done P Q R follows last [] (y ∷ ys) same each all = absurd (omega (arith, same))
down-done P Q R follows last (x ∷ xs) [] same each all = absurd (omega (arith, same))
down-done P Q R follows last (x ∷ xs) (y ∷ ys) same each all =
    let fewer : length ys ≡ length xs = omega (arith, same) in (
      subst (λ n. Q (last + n) y) (sym fewer) (follows (last + length xs) x y all.0 (each 0 x (omega arith))),
      down-done P Q R follows last xs ys fewer (λ i d lt. each (suc i) d (omega (arith, lt))) all.1,
    )

-- the last pass is taken away
pub from-pop :
    (h : HeapFields) (k : ℕ) (ps : List Pass) (p : Pass) → AreFrom h k (ps ++ p ∷ [])
    → AreFrom h k ps × IsFresh h p × (p.errand.caller ≡ k + length ps)
from-pop h k [] p all = (tt, all.0, all.1 ∙ omega arith)
from-pop h k (q ∷ ps) p all =
    let rest = from-pop h (suc k) ps p all.2 in
    ((all.0, all.1, rest.0), rest.1, rest.2 ∙ omega arith)

-- a pass that has made no step is in no call
pub fresh-idle : (h : HeapFields) (p : Pass) → IsFresh h p → IsIdle p.errand
fresh-idle h p fresh = subst IsIdle (sym fresh.errand) refl

-- each lane's operations have passed the gate, and so have all
pub all-gone :
    (passed : ℕ → ℕ → Type 0) (trace : Trace) → ((k : ℕ) → k < length trace.lanes → FirstPassed passed k (length (operations_in trace k)))
    → AllPassed passed trace.lanes
all-gone passed trace each lane op lt =
    elim (cases_lt lane (length trace.lanes)) [
      | inl below ↦ each lane below op lt
      | inr least ↦
          let none : get_or trace.lanes lane [] ≡ [] = get_or-eq_default trace.lanes [] least in
          absurd (let zero_long : length (get_or trace.lanes lane []) ≡ 0 = ap length none in omega (arith, lt, zero_long))
    ]

-- a list that was written whole
pub written-whole : {X : Type 0} (xs ys : List X) (n : ℕ) → length xs ≡ n → length ys ≡ n → take n (xs ++ drop (length xs) ys) ≡ xs
written-whole xs ys n a b =
    let none : drop (length xs) ys ≡ [] = grind (arith, common_steps) in
    ap (λ l. take n (xs ++ l)) none ∙ (ap (take n) (append-nil xs) ∙ grind (arith, common_steps))

-- a trace that isn't without a lane has one
pub some-lane : (lanes : List (List Op)) (empty : Bool) → IsTrue empty ↔ (lanes ≡ []) → empty ≡ false → 0 < length lanes
some-lane [] empty is isnt = absurd (true≢false (sym (is.1 refl) ∙ isnt))
some-lane (lane ∷ lanes) empty is isnt = omega arith

pub push-long : {X : Type 0} (xs ys : List X) (x : X) → xs ≡ ys ++ x ∷ [] → length xs ≡ length ys + 1
push-long xs ys x is = ap length is ∙ omega (arith, length-append ys (x ∷ []))

-- a trace's heap has a caller for each lane
pub at-least-one : (n m : ℕ) → m ≡ max 1 n → n ≤ m
at-least-one n m is = omega (arith, is)

-- what is so of a new last element, and of the others in their places, is so of each
pub pushed :
    {X : Type 0} (P : ℕ → X → Type 0) (xs : List X) (new : X) (at : ℕ) (x : X) → at < length (xs ++ new ∷ []) → x ≡ get_or (xs ++ new ∷ []) at x
    → P (length xs) new → (at < length xs → x ≡ get_or xs at x → P at x) → P at x
pushed P xs new at x below is here others =
    elim (cases_lt at (length xs)) [
      | inl early ↦ others early (is ∙ get_or_append_left xs (new ∷ []) x at early)
      | inr least ↦
          let same : length xs ≡ at = omega (arith, least, below, length-append xs (new ∷ [])) in
          subst (λ k. P k x) same (subst (P (length xs)) (sym (is ∙ get_or_push xs new x at same)) here)
    ]
