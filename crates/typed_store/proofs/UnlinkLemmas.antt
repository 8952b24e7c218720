-- What a store is once a node is taken out of it, and once that node's block is freed.
use Rattle.std.proofs.Common.{ℕ, suc, ◌≡◌, ◌≢◌, ◌-◌, List, [], ◌∷◌, ◌++◌, Option, Some, Vec, Global, length, length-append, refl, sym, ◌∙◌, ap, subst, arith, inl, inr}
use Rattle.std.specs.Prelude.{All}
use Rattle.std.specs.List.{slice_get, slice_set}
use Rattle.std.proofs.lemmas.List.Elements.{All-nil}
use Rattle.heap_geometry.specs.Need.{need_of}
use Rattle.errand_steps.specs.declared.reply.Reply.TheVariants as reply
use Rattle.errand_steps.specs.Calls.{free}
use Rattle.live_heap.specs.declared.answers.FreeAnswer.TheVariants as free_answer
use Rattle.live_heap.specs.declared.block.Block.{Block}
use Rattle.live_heap.specs.Heaps.{HeapFields}
use Rattle.live_heap.specs.declared.pass.Pass.{Pass}
use Rattle.live_heap.specs.Answers.{FreeTells}
use Rattle.live_heap.specs.Contents.{owned_in}
use Rattle.live_heap.specs.Holdings.{Holds, HoldsExactly}
use Rattle.live_heap.specs.Passes.{IsOf}
use Rattle.live_heap.proofs.laws_for_builders.AllBlocks.{called-exact}
use Rattle.live_heap.proofs.laws_for_builders.Hands.{hand-left}
use Rattle.typed_store.specs.declared.seeking.Sought.{Sought}
use Rattle.typed_store.specs.declared.slot.Slot.{Slot}
use Rattle.typed_store.specs.declared.slot.Slot.TheVariants.{Node, Spare}
use Rattle.typed_store.specs.declared.store.Pending.TheVariants.{Free}
use Rattle.typed_store.specs.declared.store.Store.{Store}
use Rattle.typed_store.specs.Links.{Leads}
use Rattle.typed_store.specs.Nodes.{IsSpare, Spells, nodes_at, tokens_in}
use Rattle.typed_store.specs.declared.nodes.Node as declared_node
use Rattle.typed_store.specs.declared.store.Popped.{Popped}
use Rattle.typed_store.specs.declared.store.Popped.TheVariants.{Got, Empty}
use Rattle.typed_store.specs.Causes.{IsFreed}
use Rattle.typed_store.specs.Passings.{IsLink, KeepsWords, Rests, StandsBetween, but}
use Rattle.typed_store.specs.Stores.{HasList, HasRecords, IsBuilt, IsReady, IsUnderWay, blocks_of}
use Rattle.typed_store.proofs.LinkLemmas.{leads-append, leads-one, leads-same}
use Rattle.std.proofs.lemmas.Option.{some_pair_parts}
use Rattle.typed_store.proofs.PassLemmas.{rests-on}
use Rattle.typed_store.proofs.RelinkLemmas.{behind}
use Rattle.typed_store.proofs.SlotLemmas.{all-front, all-set}
use Rattle.typed_store.proofs.StayLemmas.{SameFor, calling-free-same, freed-same, nodes-stay, records-stay, same-all}
use Rattle.typed_store.proofs.StoreLemmas.{built-stays, exact-out, fewer-tokens, list-unlinked, spare-out}

-- the pairs in front, the one that is sought, and those behind are the list
pub stands-whole :
    (at : ℕ → Option (ℕ × (ℕ × ℕ))) (head : ℕ) (before : List (ℕ × ℕ)) (sought : Sought) (after pairs : List (ℕ × ℕ))
    → StandsBetween at head before sought after → Leads at head pairs 0 → pairs ≡ before ++ (sought.node.key, sought.node.value) ∷ after
stands-whole at head before sought after pairs stands leads =
    leads-one at head pairs (before ++ (sought.node.key, sought.node.value) ∷ after) leads
    (leads-append at head (suc sought.slot) 0 before ((sought.node.key, sought.node.value) ∷ after) stands.come
    (behind at head before sought after stands))

-- a list without one of its pairs has one pair less
pub one-less :
    (before after pairs : List (ℕ × ℕ)) (pair : ℕ × ℕ) → pairs ≡ before ++ pair ∷ after → length pairs ≡ suc (length (before ++ after))
one-less before after pairs pair whole =
    let long = ap (λ (l : List (ℕ × ℕ)). length l) whole ∙ length-append before (pair ∷ after) in
    let short = length-append before after in
    omega (arith, long, short)

-- blocks behind others stay where the places of these alone change
same-others :
    (p r : Pass) (xs ys : List Block) → ((place : ℕ) → All (λ block. block.place ≢ place) xs → owned_in r place ≡ owned_in p place)
    → Holds p (xs ++ ys) → SameFor p r ys
same-others p r xs [] others held = tt
same-others p r xs (y ∷ ys) others held =
    let out = hand-left p xs ys y held in
    (others y.place (all-front (λ (b : Block). b.place ≢ y.place) xs ys out.1), same-others p r xs ys others out.2)

-- a store whose pass owns one block more than its own
pub record IsOut (s : Store) (sought : Sought) (block : Block) (t : Store) : Type 0 where
  pub exactly : HoldsExactly t.pass (block ∷ blocks_of t)
  pub built : IsBuilt t
  pub list :
      (before after : List (ℕ × ℕ)) → StandsBetween (nodes_at (owned_in s.pass) s.slots.items) s.head before sought after → HasList t (before ++ after)
  pub records : (records : List (List ℕ)) → HasRecords s records → HasRecords t records

pub taken-out :
    (h : HeapFields) (s : Store) (r : Pass) (slots : Vec Slot Global) (unused head : ℕ) (block : Block) (sought : Sought) (before after : List (ℕ × ℕ))
    → IsReady h s → StandsBetween (nodes_at (owned_in s.pass) s.slots.items) s.head before sought after → Rests h s.pass r
    → ((front back : List (ℕ × ℕ)) → StandsBetween (nodes_at (owned_in s.pass) s.slots.items) s.head front sought back
    → Leads (but (nodes_at (owned_in r) s.slots.items) sought.slot) head (front ++ back) 0)
    → ((place : ℕ) → All (λ b. b.place ≢ place) (tokens_in s.slots.items) → owned_in r place ≡ owned_in s.pass place)
    → slice_get s.slots.items sought.slot ≡ Some (Node block) → unused ≡ suc sought.slot
    → slots.items ≡ slice_set s.slots.items sought.slot (Spare s.unused)
    → IsOut s sought block (record s { pass = r; slots = slots; unused = unused; head = head; count = s.count - 1 })
taken-out h s r slots unused head block sought before after ready stands rests led others is number now =
    let at = nodes_at (owned_in s.pass) s.slots.items in
    let b = ready.built in
    let same = same-others s.pass r (tokens_in s.slots.items) s.records.items others ready.exactly.0 in
    let spelled : (front back : List (ℕ × ℕ)) → StandsBetween at s.head front sought back → Spells (owned_in r) slots.items head (front ++ back) =
    λ front back there.
    subst (λ (l : List Slot). Spells (owned_in r) l head (front ++ back)) (sym now)
    (list-unlinked (owned_in r) s.slots.items sought.slot s.unused head block (front ++ back) is (led front back there)) in
    let less : (front back : List (ℕ × ℕ)) → StandsBetween at s.head front sought back → length b.pairs ≡ suc (length (front ++ back)) =
    λ front back there. one-less front back b.pairs _ (stands-whole at s.head front sought back b.pairs there b.list.0) in
    let has : (front back : List (ℕ × ℕ)) → StandsBetween at s.head front sought back
    → Spells (owned_in r) slots.items head (front ++ back) × (s.count - 1 ≡ length (front ++ back)) =
    λ front back there. (spelled front back there, omega (arith, less front back there, b.list.1)) in
    let fewer = fewer-tokens s.slots.items sought.slot s.unused block is in
    let tokens : length (tokens_in slots.items) ≡ length (tokens_in (slice_set s.slots.items sought.slot (Spare s.unused))) =
    ap (λ (l : List Slot). length (tokens_in l)) now in
    record {
      exactly =
          subst (λ (l : List Slot). HoldsExactly r (block ∷ tokens_in l ++ s.records.items)) (sym now)
          (exact-out r s.slots.items sought.slot s.unused block s.records.items is (rests.hand (blocks_of s) ready.exactly));
      built = record {
        pairs = before ++ after;
        list = has before after stands;
        nodes = omega (arith, tokens, fewer, b.nodes, less before after stands);
        words = b.words;
        records = (records-stay s.pass r s.records.items b.words same b.records.0, b.records.1);
        sized = (
          subst (λ (l : List Slot). All (λ (x : Block). x.need ≡ need_of 3) (tokens_in l)) (sym now)
              (all-set (λ (x : Block). x.need ≡ need_of 3) s.slots.items sought.slot (Node block) (Spare s.unused) is b.sized.0
              (All-nil (λ (x : Block). x.need ≡ need_of 3))),
          b.sized.1,
        );
        spare =
            subst (λ (l : List Slot). IsSpare l unused) (sym now)
            (subst (IsSpare (slice_set s.slots.items sought.slot (Spare s.unused))) (sym number)
            (spare-out s.slots.items s.unused sought.slot block b.spare is));
      };
      list = has;
      records = λ records had. (records-stay s.pass r s.records.items records same had.0, had.1);
    }

-- the store is ready once the block that is out of it is freed
pub freed-ready :
    (h : HeapFields) (t : Store) (block : Block) (tries : ℕ) (q : Pass) → IsOf h t.pass → HoldsExactly t.pass (block ∷ blocks_of t) → IsBuilt t → IsOf h q
    → FreeTells t.pass block tries free_answer.Freed q → IsReady h (record t { pass = q })
freed-ready h t block tries q was held built of tells =
    let called = tells.called in
    let same = freed-same h t.pass q block tells.steps (blocks_of t) of called held.0.1 in
    record {
      of = of;
      idle = called.idle;
      exactly =
          called-exact h t.pass q (free block.place block.need) tells.steps reply.Freed (block ∷ blocks_of t) (blocks_of t) was of called
          (block, refl, refl) held;
      built = built-stays t q t.pending same built;
    }

-- the store is under way where the free of the block that is out of it is interrupted
pub free-under-way :
    (h : HeapFields) (t : Store) (block : Block) (tries : ℕ) (q : Pass) → IsOf h t.pass → HoldsExactly t.pass (block ∷ blocks_of t) → IsBuilt t → IsOf h q
    → FreeTells t.pass block tries free_answer.Busy q → IsUnderWay h (record t { pass = q; pending = Free })
free-under-way h t block tries q was held built of tells = record {
  of = of;
  first = t.pass;
  was = was;
  call = free block.place block.need;
  steps = suc tells.steps;
  calling = tells.calling;
  waits = (block, refl, held);
  built = built-stays t q Free (calling-free-same h t.pass q block (suc tells.steps) (blocks_of t) of tells.calling held.0.1) built;
}

-- reads in front of a call that freed a block change nothing of what it says
pub freed-behind :
    (h : HeapFields) (s : Store) (q : Pass) (tries : ℕ) (popped : Popped) (t : Store) → KeepsWords h s.pass q → IsFreed h (record s { pass = q }) tries popped t
    → IsFreed h s tries popped t
freed-behind h s q tries Empty t reads freed = rests-on h s.pass q t.pass reads.rests freed
freed-behind h s q tries (Got key value done) t reads (slot, block, between, is, rests, tells) =
    (slot, block, between, is, rests-on h s.pass q between reads.rests rests, tells)

link-read :
    (at now : ℕ → Option (ℕ × (ℕ × ℕ))) (head : ℕ) (before : List (ℕ × ℕ)) (previous here : ℕ) → ((slot : ℕ) → now slot ≡ at slot)
    → IsLink at head before previous here → IsLink now head before previous here
link-read at now head before previous here stay (inl first) = inl first
link-read at now head before previous here stay (inr (front, pair, slot, whole, number, come, there)) =
    inr (front, pair, slot, whole, number, leads-same at now stay head front (suc slot) come, stay slot ∙ there)

-- a node that stands in a list that was read stands there still
pub stands-read :
    (h : HeapFields) (s : Store) (q : Pass) (before : List (ℕ × ℕ)) (sought : Sought) (after : List (ℕ × ℕ)) → KeepsWords h s.pass q
    → StandsBetween (nodes_at (owned_in s.pass) s.slots.items) s.head before sought after → StandsBetween (nodes_at (owned_in q) s.slots.items) s.head before sought after
stands-read h s q before sought after reads stands =
    let at = nodes_at (owned_in s.pass) s.slots.items in
    let now = nodes_at (owned_in q) s.slots.items in
    let stay : (slot : ℕ) → now slot ≡ at slot = nodes-stay s.pass q s.slots.items (same-all s.pass q reads.same (tokens_in s.slots.items)) in
    record {
      come = leads-same at now stay s.head before (suc sought.slot) stands.come;
      here = stay sought.slot ∙ stands.here;
      left = leads-same at now stay sought.node.next after 0 stands.left;
      link = link-read at now s.head before sought.previous (suc sought.slot) stay stands.link;
    }

-- the first node of a list stands in front
pub first-stands :
    (at : ℕ → Option (ℕ × (ℕ × ℕ))) (head : ℕ) (pairs : List (ℕ × ℕ)) (node : declared_node.Node) → head ≢ 0 → Leads at head pairs 0
    → at (head - 1) ≡ Some (node.next, (node.key, node.value))
    → (rest : List (ℕ × ℕ)) × (pairs ≡ (node.key, node.value) ∷ rest)
    × StandsBetween at head [] (record { previous = 0; slot = head - 1; node = node }) rest
first-stands at head [] node some leads there = absurd (some leads)
first-stands at head (pair ∷ pairs) node some (slot, next, is, here, left) there =
    let same : head - 1 ≡ slot = omega (arith, is) in
    let both = some_pair_parts next node.next pair (node.key, node.value) (sym here ∙ (ap at (sym same) ∙ there)) in (
      pairs,
      ap (λ x. x ∷ pairs) both.1,
      record {
        come = omega (arith, is);
        here = there;
        left = subst (λ n. Leads at n pairs 0) both.0 left;
        link = inl (refl, refl);
      },
    )
