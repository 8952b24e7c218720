use Rattle.live_heap.specs.Contents.{owned_in}
use Rattle.typed_store.specs.Nodes.{nodes_at}
use Rattle.typed_store.proofs.LinkLemmas.{leads-one}
use Rattle.typed_store.proofs.OnListLemmas.{on-list, records-one}
use Rattle.typed_store.proofs.laws.stores_have_one_list.Goals as goal

pub returns-clause-list : goal.returns-clause-list
returns-clause-list c = λ s pairs others has too. leads-one (nodes_at (owned_in s.pass) s.slots.items) s.head pairs others has.0 too.0

pub returns-clause-records : goal.returns-clause-records
returns-clause-records c = λ s records others has too. records-one s.pass s.records.items records others has.0 too.0

pub returns-clause-nodes : goal.returns-clause-nodes
returns-clause-nodes c = λ h s slot block ready is.
    let b = ready.built in
    on-list (owned_in s.pass) s.slots.items s.head b.pairs slot block b.list.0 b.nodes is
