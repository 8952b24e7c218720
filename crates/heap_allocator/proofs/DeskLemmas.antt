-- What a desk begins with, which pieces are out, and where they lie.
use Rattle.std.proofs.Common.{ℕ, ◌≡◌, ◌≢◌, ◌<◌, ◌/◌, ◌^◌, ◌⊎◌, [], Option, Some, Result, Ok, Err, IsSomeAnd, inl, inr, refl, sym, subst, arith}
use Rattle.std.specs.declared.alloc.AllocError.{AllocError}
use Rattle.std.proofs.lemmas.List.Elements.{All-nil}
use Rattle.heap_geometry.specs.declared.geometry.Geometry.{Geometry}
use Rattle.heap_geometry.specs.declared.need.Need.{Need}
use Rattle.heap_geometry.specs.declared.need.Need.TheVariants.{Small, Large, TooLarge}
use Rattle.heap_geometry.specs.Geometry.{IsChecked}
use Rattle.heap_geometry.proofs.PlaceLemmas.{block-within}
use Rattle.errand_steps.specs.Begins.{IsHeapBlock, IsIdle}
use Rattle.live_heap.specs.declared.answers.AllocAnswer.{AllocAnswer}
use Rattle.live_heap.specs.declared.answers.AllocAnswer.TheVariants.{Given}
use Rattle.live_heap.specs.Heaps.{HeapFields}
use Rattle.live_heap.specs.declared.pass.Pass.{Pass}
use Rattle.live_heap.specs.declared.plain.Memory.{Memory}
use Rattle.live_heap.specs.Holdings.{HoldsExactly}
use Rattle.live_heap.specs.Passes.{IsOf}
use Rattle.live_heap.proofs.laws_for_builders.Memory.{owned-in_heap, taken-owned}
use Rattle.memory_cache.specs.declared.paged.PagedCache.{PagedCache}
use Rattle.memory_cache.specs.declared.piece.Piece.{Piece}
use Rattle.memory_cache.specs.Paged.{IsOut, IsPaged, LiesElsewhere}
use Rattle.memory_cache.specs.Settled.{IsPassFor, IsSettled}
use Rattle.heap_allocator.specs.declared.desk.Desk.{Desk}
use Rattle.heap_allocator.specs.Desks.{IsOutOf}

-- a pass in no call that holds no blocks is settled
pub settles : (h : HeapFields) (p : Pass) → IsOf h p → IsIdle p.errand → HoldsExactly p [] → IsSettled h p
settles h p of idle holds = record { of = of; idle = idle; out = λ place home. holds.1 place (All-nil _) }

-- what is out of a desk is out of its cache, and back
module _ (d : Desk) (cache : PagedCache) (is : d.cache ≡ Some cache) (first size : ℕ) where
  abbrev Has : Option PagedCache → Type 0
  Has o = IsSomeAnd o (λ c. IsOut c first size)

  pub out-of_cache : IsOutOf d first size → IsOut cache first size
  out-of_cache out = subst Has is out

  pub out-of_desk : IsOut cache first size → IsOutOf d first size
  out-of_desk out = subst Has (sym is) out

-- where nothing was given, all lies elsewhere
pub elsewhere : (told : Result (AllocAnswer Piece) AllocError) (first : ℕ) → ((x : Piece) → told ≢ Ok (Given x)) → LiesElsewhere told first
elsewhere (Ok (Given x)) first none = absurd (none x refl)
elsewhere told first none = tt

pass-of : (h : HeapFields) (p : Pass) → IsPassFor h p → IsOf h p
pass-of h p is = elim is [ inl settled ↦ settled.of | inr under_way ↦ under_way.of ]

-- a heap's words have numbers of 32 bits
place-near : (g : Geometry) (place : ℕ) (n : Need) → IsChecked g → IsHeapBlock g place n → place < 2 ^ 32
place-near g place (Small class) checked (needs, (frame, index, has, within, is)) =
    omega (arith, block-within class index within, is, has, checked.frames.1)
place-near g place (Large units) checked (needs, (unit, within, is)) = omega (arith, is, within, checked.frames.1, checked.units.1)
place-near g place TooLarge checked (needs, nowhere) = absurd nowhere

-- a piece that is out begins at such a number, or a few words behind
pub begins-near : (h : HeapFields) (c : PagedCache) (first size : ℕ) → IsPaged h c → IsOut c first size → first < 2 ^ 33
begins-near h c first size is out =
    let p : Pass = c.cache.pass in let of : IsOf h p = pass-of h p is.cache.pass in
    let page = is.pages (first / 2048) out.page out.there in let m : Memory = page.memory in
    let block : IsHeapBlock p.errand.geometry m.block.place m.block.need =
    owned-in_heap h p m.block.place m.block.need of (taken-owned h p m.block.place m.block.need of page.held.0) in
    let place : m.block.place < 2 ^ 32 = place-near p.errand.geometry m.block.place m.block.need of.served.own_errand.rule.geometry block in
    let narrow = page.for.narrow out.out.number (subst (λ (k : ℕ). out.out.number < k) page.page.count out.out.within) in
    omega (arith, place, narrow, page.of.0, out.out.there)
