-- What a change of one slot makes of a store.
use Rattle.std.proofs.Common.{ℕ, suc, ◌≡◌, ◌≢◌, ◌+◌, ◌-◌, List, [], ◌∷◌, ◌++◌, Option, Some, None, Vec, Global, length, length-append, refl, sym, ◌∙◌, ap, subst, arith, append_assoc, inl, inr, eq-eqb, ne_eqb}
use Rattle.std.specs.List.{AllZip, slice_get, slice_set}
use Rattle.std.specs.Prelude.{All}
use Rattle.heap_geometry.specs.Need.{need_of}
use Rattle.std.proofs.lemmas.Bool.{cases_eq}
use Rattle.std.proofs.lemmas.Option.{none-some, some_pair_parts}
use Rattle.pool_model.specs.Pool.{Block as PoolBlock}
use Rattle.live_heap.specs.declared.block.Block.{Block}
use Rattle.live_heap.specs.Heaps.{HeapFields}
use Rattle.live_heap.specs.declared.pass.Pass.{Pass}
use Rattle.live_heap.specs.Contents.{owned_in}
use Rattle.live_heap.specs.Holdings.{HoldsExactly}
use Rattle.live_heap.proofs.laws_for_builders.AllBlocks.{order-exact}
use Rattle.typed_store.specs.declared.slot.Slot.{Slot}
use Rattle.typed_store.specs.declared.slot.Slot.TheVariants.{Node, Spare}
use Rattle.typed_store.specs.declared.store.Pending.{Pending}
use Rattle.typed_store.specs.declared.store.Store.{Store}
use Rattle.typed_store.specs.Links.{Leads}
use Rattle.typed_store.specs.Nodes.{IsSpare, Spells, node_at, node_in, nodes_at, spare_in, spares_at, tokens_in}
use Rattle.typed_store.specs.Passings.{KeepsWords, but}
use Rattle.typed_store.specs.Records.{IsRecord}
use Rattle.typed_store.specs.Stores.{HasList, HasRecords, IsBuilt, IsReady, blocks_of}
use Rattle.typed_store.proofs.LinkLemmas.{leads-behind, leads-new, leads-same}
use Rattle.typed_store.proofs.PassLemmas.{StaysSame, reads-stay}
use Rattle.typed_store.proofs.SlotLemmas.{around, get-other, get-push, get-set, length-set, tokens-push}
use Rattle.typed_store.proofs.StayLemmas.{SameFor, nodes-stay, records-stay, same-all, same-back, same-front, spells-stay}

-- a token goes from the hand into a slot, and back
pub exact-in :
    (p : Pass) (slots : List Slot) (slot next : ℕ) (block : Block) (more : List Block) → slice_get slots slot ≡ Some (Spare next)
    → HoldsExactly p (block ∷ tokens_in slots ++ more) → HoldsExactly p (tokens_in (slice_set slots slot (Node block)) ++ more)
exact-in p slots slot next block more is held =
    let a = around slots slot (Spare next) is in
    let was : tokens_in slots ++ more ≡ a.before ++ (a.after ++ more) = ap (λ l. l ++ more) a.was ∙ append_assoc a.before a.after more in
    let now : tokens_in (slice_set slots slot (Node block)) ++ more ≡ a.before ++ block ∷ (a.after ++ more) =
    ap (λ l. l ++ more) (a.now (Node block)) ∙ append_assoc a.before (block ∷ a.after) more in
    subst (HoldsExactly p) (sym now)
    ((order-exact p a.before (a.after ++ more) block).1 (subst (λ (l : List Block). HoldsExactly p (block ∷ l)) was held))

pub exact-out :
    (p : Pass) (slots : List Slot) (slot next : ℕ) (block : Block) (more : List Block) → slice_get slots slot ≡ Some (Node block)
    → HoldsExactly p (tokens_in slots ++ more) → HoldsExactly p (block ∷ tokens_in (slice_set slots slot (Spare next)) ++ more)
exact-out p slots slot next block more is held =
    let a = around slots slot (Node block) is in
    let was : tokens_in slots ++ more ≡ a.before ++ block ∷ (a.after ++ more) =
    ap (λ l. l ++ more) a.was ∙ append_assoc a.before (block ∷ a.after) more in
    let now : tokens_in (slice_set slots slot (Spare next)) ++ more ≡ a.before ++ (a.after ++ more) =
    ap (λ l. l ++ more) (a.now (Spare next)) ∙ append_assoc a.before a.after more in
    subst (λ (l : List Block). HoldsExactly p (block ∷ l)) (sym now)
    ((order-exact p a.before (a.after ++ more) block).0 (subst (HoldsExactly p) was held))

-- the slots have one token more, or one less
pub more-tokens :
    (slots : List Slot) (slot next : ℕ) (block : Block) → slice_get slots slot ≡ Some (Spare next)
    → length (tokens_in (slice_set slots slot (Node block))) ≡ suc (length (tokens_in slots))
more-tokens slots slot next block is =
    let a = around slots slot (Spare next) is in
    let was : length (tokens_in slots) ≡ length a.before + length a.after = ap (λ l. length l) a.was ∙ length-append a.before a.after in
    let now : length (tokens_in (slice_set slots slot (Node block))) ≡ length a.before + length (block ∷ a.after) =
    ap (λ l. length l) (a.now (Node block)) ∙ length-append a.before (block ∷ a.after) in
    omega (arith, was, now)

pub fewer-tokens :
    (slots : List Slot) (slot next : ℕ) (block : Block) → slice_get slots slot ≡ Some (Node block)
    → length (tokens_in slots) ≡ suc (length (tokens_in (slice_set slots slot (Spare next))))
fewer-tokens slots slot next block is =
    let a = around slots slot (Node block) is in
    let was : length (tokens_in slots) ≡ length a.before + length (block ∷ a.after) = ap (λ l. length l) a.was ∙ length-append a.before (block ∷ a.after) in
    let now : length (tokens_in (slice_set slots slot (Spare next))) ≡ length a.before + length a.after =
    ap (λ l. length l) (a.now (Spare next)) ∙ length-append a.before a.after in
    omega (arith, was, now)

-- a slot on the chain of spare slots is spare
spare-token : (o : Option Slot) (next : ℕ) (u : Unit {0}) → spare_in o ≡ Some (next, u) → o ≡ Some (Spare next)
spare-token None next u is = absurd (none-some (next, u) is)
spare-token (Some (Node block)) next u is = absurd (none-some (next, u) is)
spare-token (Some (Spare n)) next u is = ap (λ (k : ℕ). Some (Spare k)) (some_pair_parts n next tt u is).0

-- behind a first spare slot there is a chain, and there are as many slots more than tokens
pub record HasSpare (slots : List Slot) (unused : ℕ) : Type 0 where
  pub next : ℕ
  pub rest : List (Unit {0})
  pub number : unused ≡ suc (unused - 1)
  pub there : slice_get slots (unused - 1) ≡ Some (Spare next)
  pub left : Leads (spares_at slots) next rest 0
  pub counted : length (tokens_in slots) + suc (length rest) ≡ length slots

pub spare-has : (slots : List Slot) (unused : ℕ) → IsSpare slots unused → unused ≢ 0 → HasSpare slots unused
spare-has slots unused ([], leads, counted) some = absurd (some leads)
spare-has slots unused (u ∷ rest, (slot, next, is, here, left), counted) some =
    let same : unused - 1 ≡ slot = omega (arith, is) in
    record {
      next = next;
      rest = rest;
      number = omega (arith, is);
      there = spare-token (slice_get slots (unused - 1)) next u (ap (spares_at slots) same ∙ here);
      left = left;
      counted = counted;
    }

pub spare-in :
    (slots : List Slot) (unused next : ℕ) (block : Block) → IsSpare slots unused → unused ≢ 0 → slice_get slots (unused - 1) ≡ Some (Spare next)
    → IsSpare (slice_set slots (unused - 1) (Node block)) next
spare-in slots unused next block spare some is =
    let has = spare-has slots unused spare some in
    let same : Some (Spare has.next) ≡ Some (Spare next) = sym has.there ∙ is in
    let one : has.next ≡ next = cc in
    let slot = unused - 1 in
    let now = slice_set slots slot (Node block) in
    let first : Leads (spares_at slots) (suc slot) (tt ∷ has.rest) 0 = (slot, has.next, refl, ap spare_in has.there, has.left) in
    let left : Leads (spares_at now) has.next has.rest 0 =
    leads-behind (spares_at slots) (spares_at now) slot (tt ∷ has.rest) first
    (λ other away. ap spare_in (get-other slots slot other (Node block) away)) has.next has.rest (omega arith) has.left in
    let more = more-tokens slots slot next block is in (
      has.rest,
      subst (λ n. Leads (spares_at now) n has.rest 0) one left,
      omega (arith, has.counted, more, length-set slots slot (Node block)),
    )

pub spare-out :
    (slots : List Slot) (unused slot : ℕ) (block : Block) → IsSpare slots unused → slice_get slots slot ≡ Some (Node block)
    → IsSpare (slice_set slots slot (Spare unused)) (suc slot)
spare-out slots unused slot block (chain, leads, counted) is =
    let now = slice_set slots slot (Spare unused) in
    let left : Leads (spares_at now) unused chain 0 =
    leads-new (spares_at slots) (spares_at now) slot (ap spare_in is)
    (λ other away. ap spare_in (get-other slots slot other (Spare unused) away)) unused chain leads in
    let fewer = fewer-tokens slots slot unused block is in (
      tt ∷ chain,
      (slot, unused, refl, ap spare_in (get-set slots slot (Node block) (Spare unused) is), left),
      omega (arith, counted, fewer, length-set slots slot (Spare unused)),
    )

-- where no slot is spare, each has a token
pub spare-none : (slots : List Slot) → IsSpare slots 0 → length (tokens_in slots) ≡ length slots
spare-none slots ([], leads, counted) = omega (arith, counted)
spare-none slots (u ∷ rest, (slot, next, is, here, left), counted) = absurd (omega (arith, is))

-- where no slot is spare, one more slot is the first spare one
pub spare-push : (slots : List Slot) → IsSpare slots 0 → IsSpare (slots ++ Spare 0 ∷ []) (suc (length slots))
spare-push slots ([], leads, counted) =
    let now = slots ++ Spare 0 ∷ [] in
    let fewer : length (tokens_in now) ≡ length (tokens_in slots) = ap (λ l. length l) (tokens-push slots 0) in
    (tt ∷ [], (length slots, 0, refl, ap spare_in (get-push slots (Spare 0)), refl), omega (arith, counted, fewer, length-append slots (Spare 0 ∷ [])))
spare-push slots (u ∷ rest, (slot, next, is, here, left), counted) = absurd (omega (arith, is))

-- the list with a node that comes in front
pub list-linked :
    (p q : Pass) (slots : List Slot) (unused head next key value : ℕ) (block : Block) (pairs : List (ℕ × ℕ)) → unused ≢ 0
    → slice_get slots (unused - 1) ≡ Some (Spare next) → node_at (owned_in q block.place) ≡ Some (head, (key, value))
    → SameFor p q (tokens_in slots) → Spells (owned_in p) slots head pairs
    → Spells (owned_in q) (slice_set slots (unused - 1) (Node block)) unused ((key, value) ∷ pairs)
list-linked p q slots unused head next key value block pairs some is node same spells =
    let slot = unused - 1 in
    let now = slice_set slots slot (Node block) in
    let here : nodes_at (owned_in q) now slot ≡ Some (head, (key, value)) =
    ap (node_in (owned_in q)) (get-set slots slot (Spare next) (Node block) is) ∙ node in
    let left =
    leads-new (nodes_at (owned_in p) slots) (nodes_at (owned_in q) now) slot (ap (node_in (owned_in p)) is)
    (λ other away. ap (node_in (owned_in q)) (get-other slots slot other (Node block) away) ∙ nodes-stay p q slots same other) head pairs spells in
    (slot, head, omega (arith, some), here, left)

pub but-here : (at : ℕ → Option (ℕ × (ℕ × ℕ))) (gone slot : ℕ) → slot ≡ gone → but at gone slot ≡ None
but-here at gone slot is = rw (eq-eqb slot gone is) refl

pub but-away : (at : ℕ → Option (ℕ × (ℕ × ℕ))) (gone slot : ℕ) → slot ≢ gone → but at gone slot ≡ at slot
but-away at gone slot away = rw (ne_eqb slot gone away) refl

-- the list without a node that nothing leads to
pub list-unlinked :
    (owned : ℕ → Option PoolBlock) (slots : List Slot) (slot unused head : ℕ) (block : Block) (pairs : List (ℕ × ℕ))
    → slice_get slots slot ≡ Some (Node block) → Leads (but (nodes_at owned slots) slot) head pairs 0
    → Spells owned (slice_set slots slot (Spare unused)) head pairs
list-unlinked owned slots slot unused head block pairs is leads =
    let now = slice_set slots slot (Spare unused) in
    leads-same (but (nodes_at owned slots) slot) (nodes_at owned now)
    (λ other. elim (cases_eq other slot) [
      | inl here ↦
          ap (nodes_at owned now) here ∙ (ap (node_in owned) (get-set slots slot (Node block) (Spare unused) is) ∙ sym (but-here (nodes_at owned slots) slot other here))
      | inr away ↦ ap (node_in owned) (get-other slots slot other (Spare unused) away) ∙ sym (but-away (nodes_at owned slots) slot other away)
    ]) head pairs 0 leads

-- what is built stays where what its blocks hold does
pub built-stays : (s : Store) (q : Pass) (waiting : Pending) → SameFor s.pass q (blocks_of s) → IsBuilt s → IsBuilt (record s { pass = q; pending = waiting })
built-stays s q waiting same b =
    let tokens = same-front s.pass q (tokens_in s.slots.items) s.records.items same in
    let back = same-back s.pass q (tokens_in s.slots.items) s.records.items same in
    record {
      pairs = b.pairs;
      list = (spells-stay s.pass q s.slots.items s.head b.pairs tokens b.list.0, b.list.1);
      nodes = b.nodes;
      words = b.words;
      records = (records-stay s.pass q s.records.items b.words back b.records.0, b.records.1);
      sized = b.sized;
      spare = b.spare;
    }

pub list-stays :
    (s : Store) (q : Pass) (pairs : List (ℕ × ℕ)) → SameFor s.pass q (blocks_of s) → HasList s pairs
    → Spells (owned_in q) s.slots.items s.head pairs × (s.count ≡ length pairs)
list-stays s q pairs same has =
    (spells-stay s.pass q s.slots.items s.head pairs (same-front s.pass q (tokens_in s.slots.items) s.records.items same) has.0, has.1)

pub words-stay :
    (s : Store) (q : Pass) (records : List (List ℕ)) → SameFor s.pass q (blocks_of s) → HasRecords s records
    → AllZip (λ block words. IsRecord q block words) s.records.items records × (s.recorded ≡ length records)
words-stay s q records same has =
    (records-stay s.pass q s.records.items records (same-back s.pass q (tokens_in s.slots.items) s.records.items same) has.0, has.1)

pub ready-stays : (h : HeapFields) (s : Store) (q : Pass) → IsReady h s → StaysSame h s.pass q → IsReady h (record s { pass = q })
ready-stays h s q ready stays = record {
  of = stays.of;
  idle = stays.idle;
  exactly = stays.hand (blocks_of s) ready.exactly;
  built = built-stays s q s.pending (same-all s.pass q stays.same (blocks_of s)) ready.built;
}

pub ready-reads : (h : HeapFields) (s : Store) (q : Pass) → IsReady h s → KeepsWords h s.pass q → IsReady h (record s { pass = q })
ready-reads h s q ready reads = ready-stays h s q ready (reads-stay h s.pass q reads)

pub room-list :
    (s : Store) (slots : Vec Slot Global) (pairs : List (ℕ × ℕ))
    → ((owned : ℕ → Option PoolBlock) (slot : ℕ) → nodes_at owned slots.items slot ≡ nodes_at owned s.slots.items slot) → HasList s pairs
    → Spells (owned_in s.pass) slots.items s.head pairs × (s.count ≡ length pairs)
room-list s slots pairs nodes has =
    (leads-same (nodes_at (owned_in s.pass) s.slots.items) (nodes_at (owned_in s.pass) slots.items) (nodes (owned_in s.pass)) s.head pairs 0 has.0, has.1)

-- a store with one slot more is ready still
pub room-ready :
    (h : HeapFields) (s : Store) (slots : Vec Slot Global) (unused : ℕ) → tokens_in slots.items ≡ tokens_in s.slots.items
    → ((owned : ℕ → Option PoolBlock) (slot : ℕ) → nodes_at owned slots.items slot ≡ nodes_at owned s.slots.items slot) → IsSpare slots.items unused
    → IsReady h s → IsReady h (record s { slots = slots; unused = unused })
room-ready h s slots unused tokens nodes spare ready =
    let b = ready.built in
    record {
      of = ready.of;
      idle = ready.idle;
      exactly = subst (λ (l : List Block). HoldsExactly s.pass (l ++ s.records.items)) (sym tokens) ready.exactly;
      built = record {
        pairs = b.pairs;
        list = room-list s slots b.pairs nodes b.list;
        nodes = ap (λ l. length l) tokens ∙ b.nodes;
        words = b.words;
        records = b.records;
        sized = (subst (All (λ (x : Block). x.need ≡ need_of 3)) (sym tokens) b.sized.0, b.sized.1);
        spare = spare;
      };
    }
