-- The first two passes of a new heap.
use Rattle.std.proofs.Common.{ℕ, ◌≡◌, ◌<◌, List, [], ◌∷◌, length, refl, sym, ◌∙◌, ap, subst, rules, arith, slice_index_or, true≢false}
use Rattle.std.specs.Prelude.{remove}
use Rattle.errand_steps.specs.Begins.{IsIdle}
use Rattle.live_heap.specs.Heaps.{HeapFields}
use Rattle.live_heap.specs.declared.pass.Pass.{Pass}
use Rattle.live_heap.specs.Hands.{IsHand}
use Rattle.live_heap.specs.Passes.{AreFrom, IsFresh}
use Rattle.typed_store.specs.declared.store.Pending.TheVariants.{Nothing}
use Rattle.typed_store.specs.declared.store.Store.{Store}
use Rattle.typed_store.specs.Stores.{IsReady}
use Rattle.heap_scripts.specs.stores.Twins.{Waits}

pub first-fresh :
    (h : HeapFields) (caller : ℕ) (passes : List Pass) (p : Pass) → AreFrom h caller passes → 0 < length passes → p ≡ slice_index_or passes 0 p
    → IsFresh h p
first-fresh h caller [] p from some is = absurd (omega (arith, some))
first-fresh h caller (x ∷ xs) p from some is = subst (IsFresh h) (sym is) from.0

pub second-fresh :
    (h : HeapFields) (passes rest : List Pass) (p : Pass) → AreFrom h 0 passes → rest ≡ remove passes 0 → 0 < length rest → p ≡ slice_index_or rest 0 p
    → IsFresh h p
second-fresh h [] rest p from is some first =
    let none : length rest ≡ 0 = ap (λ (l : List Pass). length l) is in
    absurd (omega (arith, some, none))
second-fresh h (x ∷ xs) rest p from is some first = first-fresh h 1 rest p (subst (AreFrom h 1) (sym is) from.2) some first

-- a caller that has made no call has an empty hand
pub fresh-hand : (h : HeapFields) (p : Pass) → IsFresh h p → IsHand h p []
fresh-hand h p fresh =
    let idle : IsIdle p.errand = subst IsIdle (sym fresh.errand) refl in
    record {
      of = fresh.of;
      holds = λ idle. tt;
      waits = λ busy. absurd (true≢false (sym idle ∙ busy));
    }

-- a store in no call waits for nothing
pub ready-waits : (h : HeapFields) (s : Store) (words : List ℕ) → IsReady h s → Waits h s Nothing words
ready-waits h s words ready = record {
  ready = λ same. ready;
  under_way = λ other. absurd (other refl);
  counted = λ many is. absurd (search rules);
}
