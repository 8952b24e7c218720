use Rattle.std.proofs.Common.{ℕ, ◌≡◌, List, length}
use Rattle.std.specs.Vec.{vec_capacity, vec_len}
use Rattle.live_heap.specs.Contents.{owned_in}
use Rattle.typed_store.specs.Nodes.{Spells, nodes_at}
use Rattle.typed_store.specs.Passings.{IsPassing, KeepsWords}
use Rattle.sound_laws.specs.events.Made.{Made}
use Rattle.typed_store.specs.Walks.{LedBy, ReadsAlong}
use Rattle.typed_store.proofs.seeking.list_pairs.Given as goal

-- whatever list is spelled, the pairs that are listed are those that are passed
abbrev pub invariant-loop-passed : goal.invariant-loop-passed
invariant-loop-passed l = record {
  reads : KeepsWords l.heap l.initial.pass l.pass;
  made : (made : List Made) × ReadsAlong l.slots.items l.head l.listed.items l.here made × LedBy l.heap l.initial.pass made l.pass;
  room : (vec_len l.listed ≡ l._passed) × (vec_capacity l.listed ≡ l.count);
  passing : (pairs : List (ℕ × ℕ)) → Spells (owned_in l.initial.pass) l.slots.items l.head pairs
      → (length pairs ≡ l.count) × (previous : ℕ)
      × (p : IsPassing (nodes_at (owned_in l.initial.pass) l.slots.items) l.head previous l.here l._passed pairs) × (l.listed.items ≡ p.before);
}
