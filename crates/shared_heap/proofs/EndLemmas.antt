-- What is taken out of the places at the end.
use Rattle.std.proofs.Common.{ℕ, zero, suc, ◌≡◌, ◌<◌, ◌+◌, ◌⊎◌, ⊎_elim, List, [], ◌∷◌, ◌++◌, Option, Some, None, IfSome, IsSomeAnd, length, get_or, append_assoc, append-nil, refl, sym, ap, subst, ◌∙◌, arith}
use Rattle.std.proofs.lemmas.List.{length-append, length-map}
use Rattle.std.specs.Arc.{arc_value}
use mathlib.Core.Option.{some}
use lib.ListN.{get_elem?}
use Rattle.atomic_table.specs.Table.{rest, turned}
use Rattle.errand_steps.specs.Begins.{IsIdle}
use Rattle.live_heap.specs.Heaps.{HeapFields}
use Rattle.live_heap.specs.declared.pass.Pass.{Pass}
use Rattle.live_heap.specs.Endings.{AreAllIdle}
use Rattle.live_heap.specs.Passes.{IsOf}
use Rattle.shared_heap.specs.declared.places.Given.{Given}
use Rattle.shared_heap.specs.Counted.{AllLay, AreShares, TakesOver, pass_in, passes_of, slots_from}
use Rattle.shared_heap.specs.Gathered.{AllGiven}

abbrev Slots : Type 0
Slots = List (ℕ × Option Given)

-- of what lay in all places, that from one place on is yet with the seat, and the passes before are taken in
pub record Going (h : HeapFields) (givens : List Given) (place : ℕ) (carried : List (ℕ × Option Given)) (passes : List Pass) (heap : Option HeapFields) : Type 0 where
  pub left : List Given
  pub done : List (ℕ × Option Given)
  pub carried_is : carried ≡ slots_from place left ++ done
  pub passes_are : passes ++ passes_of left ≡ passes_of givens
  pub many : place + length left ≡ length givens
  pub shares : AreShares h left
  pub heap_is : IfSome heap (λ x. x ≡ h)

pub starts :
    (h : HeapFields) (givens : List Given) (carried : List (ℕ × Option Given)) → carried ≡ slots_from 0 givens → AreShares h givens
    → Going h givens 0 carried [] None
starts h givens carried is shares = record {
  left = givens;
  done = [];
  carried_is = is ∙ sym (append-nil (slots_from 0 givens));
  passes_are = refl;
  many = omega arith;
  shares = shares;
  heap_is = tt;
}

head_in : Slots → Option Given
head_in [] = None
head_in (x ∷ xs) = x.1

top-is : (place : ℕ) (x y : Option Given) (xs ys : Slots) → (place, x) ∷ xs ≡ (place, y) ∷ ys → x ≡ y
unfolding head_in
top-is place x y xs ys same = ap head_in same

-- a share that was the last one has the heap
heap-in :
    (h : HeapFields) (heap : Option HeapFields) (given : Option Given) (g : Given) → given ≡ Some g → arc_value g.share ≡ h
    → IfSome heap (λ x. IsSomeAnd given (λ f. x ≡ arc_value f.share)) → IfSome heap (λ x. x ≡ h)
heap-in h None given g is share found = tt
heap-in h (Some x) given g is share found =
    let it : x ≡ arc_value g.share = subst (λ (o : Option Given). IsSomeAnd o (λ f. x ≡ arc_value f.share)) is found in it ∙ share

-- what the seat has on top is that of the next place
pub on-top :
    (h : HeapFields) (givens : List Given) (place : ℕ) (carried : List (ℕ × Option Given)) (passes : List Pass) (heap : Option HeapFields)
    → Going h givens place carried passes heap → place < length givens → (old : Option Given) × (carried ≡ (place, old) ∷ rest carried)
on-top h givens place carried passes heap g low = top g.left g.carried_is g.many
  where
    top : (left : List Given) → carried ≡ slots_from place left ++ g.done → place + length left ≡ length givens → (old : Option Given) × (carried ≡ (place, old) ∷ rest carried)
    top [] is many = absurd (omega (arith, many, low))
    top (f ∷ fs) is many = (Some f, is ∙ ap (λ (l : Slots). (place, Some f) ∷ l) (sym (ap rest is)))

-- it is taken in
pub goes-on :
    (h : HeapFields) (givens : List Given) (place : ℕ) (carried after : List (ℕ × Option Given)) (passes more : List Pass) (heap now : Option HeapFields)
    (given : Option Given) → Going h givens place carried passes heap → place < length givens → carried ≡ (place, given) ∷ rest carried
    → after ≡ turned ((place, None) ∷ rest carried) → more ≡ passes ++ pass_in given
    → IfSome now (λ x. IsSomeAnd given (λ f. x ≡ arc_value f.share)) → Going h givens (place + 1) after more now
goes-on h givens place carried after passes more heap now given g low top turns takes_in found = on g.left g.carried_is g.passes_are g.many g.shares
  where
    on :
        (left : List Given) → carried ≡ slots_from place left ++ g.done → passes ++ passes_of left ≡ passes_of givens
        → place + length left ≡ length givens → AreShares h left → Going h givens (place + 1) after more now
    on [] is are many shares = absurd (omega (arith, many, low))
    on (f ∷ fs) is are many shares =
        let given_is : given ≡ Some f = top-is place given (Some f) (rest carried) (slots_from (suc place) fs ++ g.done) (sym top ∙ is) in
        let others : rest carried ≡ slots_from (suc place) fs ++ g.done = ap rest is in
        let next : suc place ≡ place + 1 = omega arith in
        let done = g.done ++ (place, None) ∷ [] in
        record {
          left = fs;
          done = done;
          carried_is = turns ∙ ap (λ (l : Slots). l ++ (place, None) ∷ []) others ∙ append_assoc (slots_from (suc place) fs) g.done ((place, None) ∷ [])
              ∙ ap (λ (n : ℕ). slots_from n fs ++ done) next;
          passes_are = ap (λ (l : List Pass). l ++ passes_of fs) (takes_in ∙ ap (λ (o : Option Given). passes ++ pass_in o) given_is)
              ∙ append_assoc passes (f.pass ∷ []) (passes_of fs) ∙ are;
          many = omega (arith, many);
          shares = λ i x at. shares (suc i) x at;
          heap_is = heap-in h now given f given_is (shares zero f refl) found;
        }

-- as many are taken in as there are places before
pub as-many :
    (h : HeapFields) (givens : List Given) (place : ℕ) (carried : List (ℕ × Option Given)) (passes : List Pass) (heap : Option HeapFields)
    → Going h givens place carried passes heap → length passes ≡ place
as-many h givens place carried passes heap g =
    let all : length (passes ++ passes_of g.left) ≡ length (passes_of givens) = ap length g.passes_are in
    let both : length (passes ++ passes_of g.left) ≡ length passes + length (passes_of g.left) = length-append passes (passes_of g.left) in
    let left : length (passes_of g.left) ≡ length g.left = length-map g.left (λ (f : Given). f.pass) in
    let whole : length (passes_of givens) ≡ length givens = length-map givens (λ (f : Given). f.pass) in
    omega (arith, all, both, left, whole, g.many)

-- and at last all of it is
pub gone :
    (h : HeapFields) (givens : List Given) (place : ℕ) (carried : List (ℕ × Option Given)) (passes : List Pass) (heap : Option HeapFields)
    → Going h givens place carried passes heap → place ≡ length givens → (passes ≡ passes_of givens) × IfSome heap (λ x. x ≡ h)
gone h givens place carried passes heap g all = (none-left g.left g.passes_are g.many, g.heap_is)
  where
    none-left : (left : List Given) → passes ++ passes_of left ≡ passes_of givens → place + length left ≡ length givens → passes ≡ passes_of givens
    none-left [] are many = sym (append-nil passes) ∙ are
    none-left (f ∷ fs) are many = absurd (omega (arith, many, all))

pass-at :
    (givens : List Given) (i : ℕ) (d : Pass) → i < length (passes_of givens)
    → (g : Given) × (get_elem? givens i ≡ some g) × (get_or (passes_of givens) i d ≡ g.pass)
pass-at [] i d low = absurd (omega (arith, low))
pass-at (g ∷ givens) zero d low = (g, refl, refl)
pass-at (g ∷ givens) (suc i) d low = pass-at givens i d (omega (arith, low))

-- what lay in the places are all passes of the heap
pub all-idle : (h : HeapFields) (own : Given) (givens : List Given) → AllLay h own givens → AreAllIdle h (passes_of givens)
all-idle h own givens lay = record {
  all = length-map givens (λ (g : Given). g.pass) ∙ lay.many;
  each = λ i d low.
      let it = pass-at givens i d low in
      let lies = (lay.lie i it.0 it.1).2 in
      subst (λ (p : Pass). IsOf h p × IsIdle p.errand) (sym it.2) (lies.0, lies.1);
}

abbrev pub all-given : (h : HeapFields) (own : Given) (givens : List Given) → AllLay h own givens → AllGiven h own.pass
all-given h own givens lay = record { own = own; own_is = refl; givens = givens; lay = lay; all = all-idle h own givens lay }

pub all-shares : (h : HeapFields) (own : Given) (givens : List Given) → AllLay h own givens → AreShares h givens
all-shares h own givens lay place g at = let given = (lay.lie place g at).2 in given.3

-- where no others are to be counted, all were taken
pub takes-all :
    (h : HeapFields) (own : Given) (number : ℕ) (taken : List (ℕ × Option Given)) → TakesOver h own number taken
    → (number + 1 < h.layout.callers → ⊥)
    → (suc number ≡ h.layout.callers) × (givens : List Given) × (taken ≡ slots_from 0 givens) × AllLay h own givens
takes-all h own number taken over past = ⊎_elim (λ others. absurd (past (omega (arith, others.0)))) (λ last. last) over
