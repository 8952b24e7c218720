-- The desk has a cache of a settled pass.
use Rattle.std.proofs.Common.{sym, ap, ◌∙◌, arith}
use Rattle.live_heap.specs.declared.pass.Pass.{Pass}
use Rattle.heap_allocator.specs.declared.desk.Desk.{Desk}
use Rattle.heap_allocator.proofs.DeskLemmas.{settles}
use Rattle.heap_allocator.proofs.allocator.HeapAllocator.new.Goals as goal

pub new-slot-requires : goal.new-slot-requires
new-slot-requires c =
    let tries = ap (λ (x : Desk). x.tries) (c.deref_mut.ensures.value ∙ c.in-Ok.ensures.ok) in
    let cache = c.in-Ok-open.ensures.paged _ (settles _ c.args.pass c.requires.of c.requires.idle c.requires.holds) c.requires.holds in (
      record { cache = cache; tries = omega (arith, tries, c.requires.tries) },
      ap (λ (p : Pass). p.errand.caller) c.in-Ok-open.ensures.pass ∙ sym c.caller-caller.ensures.value,
    )
