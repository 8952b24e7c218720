-- Passes that are taken in one after another.
use Rattle.std.proofs.Common.{ℕ, zero, suc, Bool, true, false, ◌≡◌, ◌<◌, ◌+◌, inl, inr, List, [], ◌∷◌, ◌++◌, length, All, refl, sym, ap, ◌∙◌, subst, arith}
use Rattle.std.specs.List.{list_all}
use Rattle.std.specs.Prelude.{Any, sum_by, ◌==◌, ◌&&◌}
use Rattle.std.proofs.lemmas.Bool.{and_parts, cases_eq, eq-eqb, ne_eqb, true≢false}
use Rattle.std.proofs.lemmas.List.Elements.{All-append}
use Rattle.std.proofs.lemmas.List.Sums.{sum_by-cons}
use mathlib.Core.Option.{some, some-injective, some-ne-none}
use lib.ListN.{get_elem?}
use Rattle.atomic_table.proofs.Lists.{at_longer}
use Rattle.pool_model.specs.declared.event.Event.{Event}
use Rattle.errand_steps.specs.Begins.{IsIdle}
use Rattle.errand_steps.specs.Errands.{ErrandFields}
use Rattle.live_heap.specs.Heaps.{HeapFields}
use Rattle.live_heap.specs.declared.pass.Pass.{Pass}
use Rattle.live_heap.specs.declared.view.Lent.{Lent}
use Rattle.live_heap.specs.declared.view.Standing.{Standing}
use Rattle.live_heap.specs.declared.view.View.{View}
use Rattle.live_heap.specs.Endings.{IsIn}
use Rattle.live_heap.specs.Passes.{IsOf, accesses_of, seen}
use Rattle.live_heap.specs.Sights.{IsBegun}
use Rattle.live_heap.specs.Views.{gathered}
use Rattle.live_heap.proofs.Begun.{begun-idle}

module _ {X : Type 0} (P : X → Type 0) where
  pub front : (xs : List X) (x : X) → All P (xs ++ x ∷ []) → All P xs
  front [] x h k d l = absurd (omega arith)
  front (y ∷ ys) x h zero d l = h 0 d (omega arith)
  front (y ∷ ys) x h (suc k) d l = front ys x (λ j e m. h (suc j) e (omega arith)) k d (omega arith)

  pub last : (xs : List X) (x : X) → All P (xs ++ x ∷ []) → P x
  last [] x h = h 0 x (omega arith)
  last (y ∷ ys) x h = last ys x (λ j e m. h (suc j) e (omega arith))

-- an idle pass has the errand that its last step left
pub before-idle : (log : List Event) (before e : ErrandFields) → IsBegun log before e → IsIdle e → before ≡ e
before-idle log before e (inl same) idle = sym same
before-idle log before e (inr (call, was, may, begun)) idle = sym (begun ∙ begun-idle before call was (subst IsIdle begun idle))

-- the test that no block's words are out, with one pass after the other
abbrev counts_none : Pass → Bool
counts_none p = p.out == 0

out-none : (p : Pass) → counts_none p ≡ true → p.out ≡ 0
out-none p is = elim (cases_eq p.out 0) [ inl none ↦ none | inr more ↦ absurd (true≢false (sym is ∙ ne_eqb p.out 0 more)) ]

pub are-home : (ps : List Pass) → list_all counts_none ps ≡ true → All (λ (p : Pass). p.out ≡ 0) ps
are-home [] is k d within = absurd (omega arith)
are-home (p ∷ ps) is zero d within = out-none p (and_parts (counts_none p) (list_all counts_none ps) is).0
are-home (p ∷ ps) is (suc k) d within = are-home ps (and_parts (counts_none p) (list_all counts_none ps) is).1 k d (omega arith)

one-more : (p : Pass) (ps : List Pass) → Any (λ (q : Pass). 0 < q.out) ps → Any (λ (q : Pass). 0 < q.out) (p ∷ ps)
one-more p ps (k, q, within, is, more) = (suc k, q, omega (arith, within), is, more)

pub one-out : (ps : List Pass) → list_all counts_none ps ≡ false → Any (λ (p : Pass). 0 < p.out) ps
one-out [] is = absurd (true≢false is)
one-out (p ∷ ps) is =
    elim (cases_eq p.out 0) [
      | inl none ↦ one-more p ps (one-out ps (sym (ap (λ b. b && list_all counts_none ps) (eq-eqb p.out 0 none)) ∙ is))
      | inr more ↦ (0, p, omega arith, refl, omega (arith, more))
    ]

-- no block's words are out with a pass that counts none
no-blocks : (blocks : List Lent) → length blocks ≡ 0 → blocks ≡ []
no-blocks [] none = refl
no-blocks (b ∷ bs) none = absurd (omega (arith, none))

pub nothing-out : (h : HeapFields) (p : Pass) → IsOf h p → p.out ≡ 0 → p.seat.me.0.lent ≡ []
nothing-out h p of none = no-blocks p.seat.me.0.lent (of.counted ∙ none)

-- the callers of a view that stands for one idle caller
pub one-idle :
    (h : HeapFields) (p : Pass) → IsOf h p → IsIdle p.errand
    → All (λ (x : Standing). IsIdle x.errand) p.seat.me.0.callers × (length p.seat.me.0.callers ≡ 1)
one-idle h p of idle =
    let I : List Standing → Type 0 = λ l. All (λ (x : Standing). IsIdle x.errand) l × (length l ≡ 1) in
    subst I (sym of.one) (single, refl)
  where
    single : All (λ (x : Standing). IsIdle x.errand) (of.before ∷ [])
    single zero d l = subst IsIdle (sym (before-idle p.seat.me.0.seen of.before.errand p.errand of.begun idle)) idle
    single (suc k) d l = absurd (omega arith)

single-sum : (f : Standing → ℕ) (x : Standing) → sum_by f (x ∷ []) ≡ f x
single-sum f x = omega (arith, sum_by-cons f x [])

-- the callers of the view of a pass in no call weigh what the pass's errand does
pub one-sum :
    (h : HeapFields) (p : Pass) (weight : ErrandFields → ℕ) → IsOf h p → IsIdle p.errand
    → sum_by (λ (x : Standing). weight x.errand) p.seat.me.0.callers ≡ weight p.errand
one-sum h p weight of idle =
    let S : List Standing → Type 0 = λ l. sum_by (λ (x : Standing). weight x.errand) l ≡ weight of.before.errand in
    subst S (sym of.one) (single-sum (λ (x : Standing). weight x.errand) of.before)
    ∙ ap weight (before-idle (seen p) of.before.errand p.errand of.begun idle)

pub all-idle :
    (xs ys : List Standing) → All (λ (x : Standing). IsIdle x.errand) xs → All (λ (x : Standing). IsIdle x.errand) ys
    → All (λ (x : Standing). IsIdle x.errand) (xs ++ ys)
all-idle = All-append (λ (x : Standing). IsIdle x.errand)

after : {A : Type 0} (xs ys : List A) (i : ℕ) → get_elem? (xs ++ ys) (length xs + i) ≡ get_elem? ys i
after [] ys i = let e : 0 + i ≡ i = omega arith in ap (get_elem? ys) e
after (x ∷ xs) ys i = let e : suc (length xs) + i ≡ suc (length xs + i) = omega arith in ap (get_elem? (x ∷ (xs ++ ys))) e ∙ after xs ys i

-- a pass of the heap stands for its caller
pub is_in-itself : (h : HeapFields) (p : Pass) → IsOf h p → IsIdle p.errand → IsIn p.seat.me.0 p
is_in-itself h p of idle = record {
  number = 0;
  standing = of.before;
  at = ap (λ (l : List Standing). get_elem? l 0) of.one;
  errand = before-idle p.seat.me.0.seen of.before.errand p.errand of.begun idle;
  seen_last = of.sight;
  counted = sym (ap accesses_of of.one);
}

is_in-first : (v w : View) (p : Pass) → IsIn v p → IsIn (gathered v w) p
is_in-first v w p i =
    record { number = i.number; standing = i.standing; at = at_longer v.callers w.callers i.number i.standing i.at; errand = i.errand; seen_last = i.seen_last; counted = i.counted }

is_in-other : (v w : View) (p : Pass) → IsIn w p → IsIn (gathered v w) p
is_in-other v w p i =
    record { number = length v.callers + i.number; standing = i.standing; at = after v.callers w.callers i.number ∙ i.at; errand = i.errand; seen_last = i.seen_last; counted = i.counted }

-- the passes that were taken in are so still, once one more is
pub more-in : (v w : View) (p : Pass) (ps : List Pass) → IsIn w p → All (IsIn v) ps → All (IsIn (gathered v w)) (p ∷ ps)
more-in v w p ps i all zero d l = is_in-other v w p i
more-in v w p ps i all (suc k) d l = is_in-first v w _ (all k d (omega arith))

pub idle-at :
    (xs : List Standing) → All (λ (x : Standing). IsIdle x.errand) xs → (k : ℕ) (x : Standing) → get_elem? xs k ≡ some x → IsIdle x.errand
idle-at [] all k x is = absurd (some-ne-none x (sym is))
idle-at (y ∷ ys) all zero x is = subst (λ (z : Standing). IsIdle z.errand) (some-injective y x is) (all 0 y (omega arith))
idle-at (y ∷ ys) all (suc k) x is = idle-at ys (λ j d l. all (suc j) d (omega arith)) k x is

pub one-in : (v : View) (p : Pass) → IsIn v p → All (IsIn v) (p ∷ [])
one-in v p i zero d l = i
one-in v p i (suc k) d l = absurd (omega arith)
