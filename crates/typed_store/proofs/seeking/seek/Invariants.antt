use Rattle.std.proofs.Common.{ℕ, ◌≡◌, List, None, length}
use Rattle.live_heap.specs.Contents.{owned_in}
use Rattle.typed_store.specs.Nodes.{Spells, first_with, nodes_at}
use Rattle.typed_store.specs.Passings.{IsPassing, KeepsWords}
use Rattle.typed_store.proofs.seeking.seek.Given as goal

-- whatever list is spelled, so many of its pairs are passed, and none of them has the key
abbrev pub invariant-loop-passed : goal.invariant-loop-passed
invariant-loop-passed l = record {
  reads : KeepsWords l.heap l.initial.pass l.pass;
  passing : (pairs : List (ℕ × ℕ)) → Spells (owned_in l.initial.pass) l.slots.items l.head pairs
      → (length pairs ≡ l.count) × (p : IsPassing (nodes_at (owned_in l.initial.pass) l.slots.items) l.head l.previous l.here l._passed pairs)
      × (first_with l.key p.before ≡ None);
}
