-- Collections in a heap that is shared by threads.
use Rattle.std.specs.Prelude.{ℕ, ◌≡◌, ◌<◌, [], None}
use Rattle.errand_steps.specs.Begins.{IsIdle}
use Rattle.step_machine.specs.Cores.{errand_at}
use Rattle.live_heap.specs.Contents.{owned_after}
use Rattle.live_heap.specs.Endings.{ClosedFields}
use Rattle.live_heap.specs.Heaps.{HeapFields}
use Rattle.live_heap.specs.Holdings.{HoldsExactly}
use Rattle.live_heap.specs.declared.pass.Pass.{Pass}
use Rattle.live_heap.specs.Passes.{IsOf}
use Rattle.worked_programs.specs.declared.collections.build.Built.{Built}

-- a pass of the heap that is in no call and holds no blocks
pub record HasNothing (h : HeapFields) (p : Pass) : Type 0 where
  pub of : IsOf h p
  pub idle : IsIdle p.errand
  pub holds : HoldsExactly p []

-- a pass has come back that is the same caller's, with nothing, and has begun calls of the heap in the meantime
abbrev pub ComesBack : HeapFields → Pass → Pass → Type 0
ComesBack h p q = HasNothing h q × (q.errand.caller ≡ p.errand.caller) × (p.errand.turns < q.errand.turns)

-- so many things were built over an allocator of the heap, and its pass has come back
abbrev pub HasBuilt : HeapFields → Pass → ℕ → Built → Pass → Type 0
HasBuilt h p count built q = (built.count ≡ count) × (built.heap.value ≡ h) × ComesBack h p q

-- the things were built over an allocator of the heap that is closed here
abbrev pub IsBuiltIn : ClosedFields → Built → Type 0
IsBuiltIn c built = built.heap.value.region ≡ c.region

-- no caller of a closed heap owns a block in it
abbrev pub OwnNothing : ClosedFields → Type 0
OwnNothing c = (caller place : ℕ) → caller < c.geometry.callers → owned_after c.events caller place ≡ None

-- a closed heap has so many callers, and each of them has begun calls in it
abbrev pub HaveAllWorked : ℕ → ClosedFields → Type 0
HaveAllWorked callers c =
    (c.geometry.callers ≡ callers) × ((caller : ℕ) → caller < callers → 0 < (errand_at c.errands caller).turns)
