-- What comes of passes that are back with nothing, once their heap is closed.
use Rattle.std.proofs.Common.{ℕ, zero, suc, ◌≡◌, ◌<◌, List, [], ◌∷◌, ◌++◌, Option, None, Some, IfSome, All, length, slice_index_or, take, drop, sym, ap, ◌∙◌, subst, inl, inr, ◌⊎◌, arith}
use Rattle.std.proofs.lemmas.List.{nil_from_length}
use Rattle.std.proofs.lemmas.List.Elements.{All-cons, All-nil}
use Rattle.heap_geometry.specs.declared.geometry.Geometry.{Geometry}
use Rattle.errand_steps.specs.Begins.{IsIdle}
use Rattle.errand_steps.specs.Errands.{ErrandFields}
use Rattle.step_machine.specs.Cores.{errand_at}
use Rattle.live_heap.specs.declared.pass.Pass.{Pass}
use Rattle.live_heap.specs.Contents.{owned_after, owned_in}
use Rattle.live_heap.specs.Endings.{AreAllIdle, ClosedFields, HasClosed, HasTakenIn, IsResting}
use Rattle.live_heap.specs.Heaps.{HeapFields}
use Rattle.live_heap.specs.Passes.{AreFrom, IsOf}
use Rattle.worked_programs.specs.declared.collections.build.Built.{Built}
use Rattle.worked_programs.specs.collections.Shared.{HasBuilt, HasNothing, HaveAllWorked, IsBuiltIn, OwnNothing}

-- a closed heap has just what each pass owned
abbrev pub HasWhatPassesOwned : Type 0
HasWhatPassesOwned =
    (c : ClosedFields) (p : Pass) (place : ℕ) → IsResting c → HasTakenIn c p → owned_after c.events p.errand.caller place ≡ owned_in p place

-- what a thread came to
pub has-built : (h : HeapFields) (n : ℕ) (p : Pass) (told : Option (Built × Pass)) (done : Built × Pass) → told ≡ Some done
    → IfSome told (λ d. HasBuilt h p n d.0 d.1) → HasBuilt h p n done.0 done.1
has-built h n p told done is ends = let P : Option (Built × Pass) → Type 0 = λ o. IfSome o (λ d. HasBuilt h p n d.0 d.1) in subst P is ends

-- the heap of the allocator over which things were built was closed
pub built-there : (h : HeapFields) (c : ClosedFields) (items : List Pass) (built : Built) → HasClosed h items c → built.heap.value ≡ h → IsBuiltIn c built
built-there h c items built closed is = ap (λ (x : HeapFields). x.region) is ∙ sym closed.table

-- the callers of the passes of a new heap
pub only-caller : (h : HeapFields) (items : List Pass) (p : Pass) → AreFrom h 0 items → length items ≡ 1 → p ≡ slice_index_or items 0 p → p.errand.caller ≡ 0
only-caller h [] p from all is = absurd (omega (arith, all))
only-caller h (x ∷ items) p from all is = ap (λ (q : Pass). q.errand.caller) is ∙ from.1

pub both-callers : (h : HeapFields) (items left : List Pass) (first second : Pass) → AreFrom h 0 items → length items ≡ 2
    → second ≡ slice_index_or items 1 second → left ≡ take 1 items ++ drop 2 items → first ≡ slice_index_or left 0 first
    → (first.errand.caller ≡ 0) × (second.errand.caller ≡ 1)
both-callers h [] left first second from all s l f = absurd (omega (arith, all))
both-callers h (x ∷ []) left first second from all s l f = absurd (omega (arith, all))
both-callers h (x ∷ y ∷ items) left first second from all s l f = (
  ap (λ (q : Pass). q.errand.caller) (f ∙ ap (λ (xs : List Pass). slice_index_or xs 0 first) l) ∙ from.1,
  ap (λ (q : Pass). q.errand.caller) s ∙ from.2.1,
)

-- the passes that go back into a list without any
pub one-pass : (rest items : List Pass) (p : Pass) → length rest ≡ 0 → items ≡ rest ++ p ∷ [] → items ≡ p ∷ []
one-pass rest items p none is = let empty = nil_from_length rest none in is ∙ ap (λ (xs : List Pass). xs ++ p ∷ []) empty

pub two-passes : (rest some items : List Pass) (p q : Pass) → length rest ≡ 0 → some ≡ rest ++ p ∷ [] → items ≡ some ++ q ∷ [] → items ≡ p ∷ q ∷ []
two-passes rest some items p q none is more = more ∙ ap (λ (xs : List Pass). xs ++ q ∷ []) (one-pass rest some p none is)

-- they are all passes of the heap, each in no call
pub both-idle : (h : HeapFields) (items : List Pass) (p q : Pass) → h.layout.callers ≡ 2 → items ≡ p ∷ q ∷ [] → HasNothing h p → HasNothing h q → AreAllIdle h items
both-idle h items p q callers is has has' =
    let P : List Pass → Type 0 = λ xs. AreAllIdle h xs in
    let Q : Pass → Type 0 = λ x. IsOf h x × IsIdle x.errand in
    subst P (sym is) (record {
      all = sym callers;
      each = All-cons Q p (q ∷ []) (has.of, has.idle) (All-cons Q q [] (has'.of, has'.idle) (All-nil Q));
    })

-- the caller of a pass that is back with nothing owns nothing
owns-nothing : HasWhatPassesOwned → (h : HeapFields) (c : ClosedFields) (p : Pass) (caller place : ℕ) → IsResting c → HasTakenIn c p → HasNothing h p
    → p.errand.caller ≡ caller → owned_after c.events caller place ≡ None
owns-nothing owned h c p caller place rests has nothing is =
    let P : ℕ → Type 0 = λ k. owned_after c.events k place ≡ None in
    subst P is (owned c p place rests has ∙ nothing.holds.1 place (All-nil _))

pub one-owns-nothing : HasWhatPassesOwned → (h : HeapFields) (c : ClosedFields) (items : List Pass) (p : Pass) → h.layout.callers ≡ 1 → items ≡ p ∷ []
    → HasClosed h items c → IsResting c → HasNothing h p → p.errand.caller ≡ 0 → OwnNothing c
one-owns-nothing owned h c items p callers is closed rests nothing zero_is caller place few =
    let P : List Pass → Type 0 = λ xs. All (HasTakenIn c) xs in
    let each = subst P is closed.each in
    let count = ap (λ (g : Geometry). g.callers) closed.heap in
    owns-nothing owned h c p caller place rests (each 0 p (omega arith)) nothing (omega (arith, zero_is, few, count, callers))

pub both-own-nothing : HasWhatPassesOwned → (h : HeapFields) (c : ClosedFields) (items : List Pass) (p q : Pass) → h.layout.callers ≡ 2 → items ≡ p ∷ q ∷ []
    → HasClosed h items c → IsResting c → HasNothing h p → HasNothing h q → p.errand.caller ≡ 0 → q.errand.caller ≡ 1 → OwnNothing c
both-own-nothing owned h c items p q callers is closed rests nothing nothing' zero_is one_is caller place few =
    let P : List Pass → Type 0 = λ xs. All (HasTakenIn c) xs in
    let each = subst P is closed.each in
    let count = ap (λ (g : Geometry). g.callers) closed.heap in
    let which : (p.errand.caller ≡ caller) ⊎ (q.errand.caller ≡ caller) = by-caller caller (omega (arith, few, count, callers)) in
    elim which [
      | inl first ↦ owns-nothing owned h c p caller place rests (each 0 p (omega arith)) nothing first
      | inr second ↦ owns-nothing owned h c q caller place rests (each 1 q (omega arith)) nothing' second
    ]
  where
    by-caller : (k : ℕ) → k < 2 → (p.errand.caller ≡ k) ⊎ (q.errand.caller ≡ k)
    by-caller zero lt = inl zero_is
    by-caller (suc k) lt = inr (omega (arith, one_is, lt))

-- the caller of a pass that has begun calls has begun them in the closed heap
has-worked : (c : ClosedFields) (p : Pass) (caller : ℕ) → HasTakenIn c p → 0 < p.errand.turns → p.errand.caller ≡ caller → 0 < (errand_at c.errands caller).turns
has-worked c p caller has some is =
    let P : ℕ → Type 0 = λ k. 0 < (errand_at c.errands k).turns in
    subst P is (omega (arith, some, ap (λ (e : ErrandFields). e.turns) has.errand))

pub one-has-worked : (h : HeapFields) (c : ClosedFields) (items : List Pass) (p : Pass) → h.layout.callers ≡ 1 → items ≡ p ∷ [] → HasClosed h items c → 0 < p.errand.turns
    → p.errand.caller ≡ 0 → HaveAllWorked 1 c
one-has-worked h c items p callers is closed some zero_is =
    let P : List Pass → Type 0 = λ xs. All (HasTakenIn c) xs in
    let each = subst P is closed.each in
    (ap (λ (g : Geometry). g.callers) closed.heap ∙ callers, λ caller few. has-worked c p caller (each 0 p (omega arith)) some (omega (arith, zero_is, few)))

pub both-have-worked : (h : HeapFields) (c : ClosedFields) (items : List Pass) (p q : Pass) → h.layout.callers ≡ 2 → items ≡ p ∷ q ∷ [] → HasClosed h items c → 0 < p.errand.turns
    → 0 < q.errand.turns → p.errand.caller ≡ 0 → q.errand.caller ≡ 1 → HaveAllWorked 2 c
both-have-worked h c items p q callers is closed some some' zero_is one_is =
    let P : List Pass → Type 0 = λ xs. All (HasTakenIn c) xs in
    let each = subst P is closed.each in (
      ap (λ (g : Geometry). g.callers) closed.heap ∙ callers,
      λ caller few. elim (by-caller caller few) [
        | inl first ↦ has-worked c p caller (each 0 p (omega arith)) some first
        | inr second ↦ has-worked c q caller (each 1 q (omega arith)) some' second
      ],
    )
  where
    by-caller : (k : ℕ) → k < 2 → (p.errand.caller ≡ k) ⊎ (q.errand.caller ≡ k)
    by-caller zero lt = inl zero_is
    by-caller (suc k) lt = inr (omega (arith, one_is, lt))
