use Rattle.std.proofs.Common.{◌≡◌, ◌++◌, List, length}
use Rattle.std.specs.List.{AllByRecursion}
use Rattle.balloc_malloc.specs.declared.entry.Entry.{Entry}
use Rattle.balloc_malloc.specs.Bundles.{HasTaken, IsOfHeap, bundled}
use Rattle.balloc_malloc.specs.Tenants.{heap_of}
use Rattle.balloc_malloc.proofs.tenant.Tenant.empty.Given as goal

abbrev pub invariant-loop-first : goal.invariant-loop-first
invariant-loop-first l = record {
  taken : List Entry;
  all : bundled l.initial.bundle ≡ bundled l.bundle ++ taken;
  has : HasTaken l.initial.self taken l.self;
  home : AllByRecursion (IsOfHeap (heap_of l.initial.self)) (bundled l.bundle);
}

abbrev pub decreases-loop-first : goal.decreases-loop-first
decreases-loop-first l = length (bundled l.bundle)
