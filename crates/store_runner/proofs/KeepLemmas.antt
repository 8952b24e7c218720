-- What a store's blocks spell, said of what is owned alone.
use Rattle.std.proofs.Common.{ℕ, suc, ◌≡◌, ◌+◌, List, [], ◌∷◌, ◌++◌, Option, Some, None, length, refl, sym, ◌∙◌, ap, subst}
use Rattle.std.specs.List.{AllZip}
use Rattle.heap_geometry.specs.Need.{need_of}
use Rattle.pool_model.specs.Pool.{Block as PoolBlock}
use Rattle.live_heap.specs.declared.block.Block.{Block}
use Rattle.live_heap.specs.Heaps.{HeapFields}
use Rattle.live_heap.specs.declared.pass.Pass.{Pass}
use Rattle.live_heap.specs.Contents.{owned_in, word_of}
use Rattle.live_heap.specs.Holdings.{Holds, HoldsExactly}
use Rattle.typed_store.specs.declared.slot.Slot.{Slot}
use Rattle.typed_store.specs.declared.slot.Slot.TheVariants.{Node, Spare}
use Rattle.typed_store.specs.declared.store.Store.{Store}
use Rattle.typed_store.specs.Nodes.{node_at, node_in, nodes_at, tokens_in}
use Rattle.typed_store.specs.Records.{IsRecord}
use Rattle.typed_store.specs.Stores.{HasList, HasRecords, IsReady}
use Rattle.typed_store.proofs.LinkLemmas.{leads-one, leads-same}
use Rattle.typed_store.proofs.PassLemmas.{owned-token}
use Rattle.typed_store.specs.Walks.{LedBy, ReadsPairs, ReadsRecord, record_reads}
use Rattle.store_runner.specs.Ends.{AreOwned, IsSpelled, ReadsBack}

holds-owned : (p : Pass) (blocks : List Block) → Holds p blocks → AreOwned (owned_in p) blocks
holds-owned p [] holds = tt
holds-owned p (b ∷ bs) holds = ((holds.0.0.0, owned-token p b holds.0, holds.0.0.3), holds.1, holds-owned p bs holds.2)

-- the one record's block
one-record :
    (p : Pass) (blocks : List Block) (words : List ℕ) → AllZip (λ block words. IsRecord p block words) blocks (words ∷ [])
    → (block : Block) × (blocks ≡ block ∷ []) × IsRecord p block words
one-record p [] words are = absurd are
one-record p (b ∷ []) words are = (b, refl, are.0)
one-record p (b ∷ c ∷ bs) words are = absurd are.1

-- which was given for these words and how many they are: those by which the store was built are as many
one-serves :
    (p : Pass) (block : Block) (words : List ℕ) (built : List (List ℕ)) → IsRecord p block words
    → AllZip (λ block words. IsRecord p block words) (block ∷ []) built → AllZip (λ x words. x.need ≡ need_of (length words + 1)) (block ∷ []) built
    → block.need ≡ need_of (length words + 1)
one-serves p block words [] is are sized = absurd are
one-serves p block words (w ∷ []) is are sized =
    let both : Some (length w) ≡ Some (length words) = sym are.0.counted ∙ is.counted in
    let same : length w ≡ length words = cc in
    sized.0 ∙ ap (λ n. need_of (n + 1)) same
one-serves p block words (w ∷ v ∷ ws) is are sized = absurd are.1

-- blocks that spell a list and a record, and that were read last
abbrev pub KeepsRead : (ℕ → Option PoolBlock) → HeapFields → List (ℕ × ℕ) → List ℕ → List (ℕ × ℕ) → List ℕ → Pass → Type 0
KeepsRead owned h pairs words listed found p =
    (keeps : IsSpelled owned pairs words) × ReadsBack h keeps.slots keeps.head keeps.block listed found p

-- what the store's list and its record were read as, where both reads left all but its pass
read-last :
    (h : HeapFields) (s t u : Store) (listed : List (ℕ × ℕ)) (found : List ℕ) (block : Block) → t ≡ record s { pass = t.pass }
    → u ≡ record t { pass = u.pass } → u.records.items ≡ block ∷ [] → ReadsPairs h s.pass s.slots.items s.head listed t.pass
    → ReadsRecord h t.pass t.records.items 0 (Some found) u.pass → ReadsBack h u.slots.items u.head block listed found u.pass
read-last h s t u listed found block first second only pairs (token, there, record_read) =
    let slots : u.slots.items ≡ s.slots.items =
    ap (λ (x : Store). x.slots.items) second ∙ ap (λ (x : Store). x.slots.items) first in
    let head : u.head ≡ s.head = ap (λ (x : Store). x.head) second ∙ ap (λ (x : Store). x.head) first in
    let one : t.records.items ≡ block ∷ [] = sym (ap (λ (x : Store). x.records.items) second) ∙ only in
    let same : Some token ≡ Some block = sym there ∙ ap (λ (l : List Block). Rattle.std.specs.List.slice_get l 0) one in
    let is : token ≡ block = cc in
    let listed_then : ReadsPairs h s.pass u.slots.items u.head listed t.pass =
    subst (λ (l : List Slot). ReadsPairs h s.pass l u.head listed t.pass) (sym slots)
    (subst (λ (n : ℕ). ReadsPairs h s.pass s.slots.items n listed t.pass) (sym head) pairs) in
    (s.pass, t.pass, listed_then, subst (λ (b : Block). LedBy h t.pass (record_reads b found) u.pass) is record_read)

pub store-keeps :
    (h : HeapFields) (s t u : Store) (listed pairs : List (ℕ × ℕ)) (found words : List ℕ) → t ≡ record s { pass = t.pass }
    → u ≡ record t { pass = u.pass } → ReadsPairs h s.pass s.slots.items s.head listed t.pass
    → ReadsRecord h t.pass t.records.items 0 (Some found) u.pass → IsReady h u → HasList u pairs → HasRecords u (words ∷ [])
    → KeepsRead (owned_in u.pass) h pairs words listed found u.pass
store-keeps h before t s listed pairs found words first second pairs_read record_read ready list records =
    let one = one-record s.pass s.records.items words records.0 in
    let b = ready.built in
    let same : b.pairs ≡ pairs = leads-one (nodes_at (owned_in s.pass) s.slots.items) s.head b.pairs pairs b.list.0 list.0 in
    let exactly : HoldsExactly s.pass (tokens_in s.slots.items ++ one.0 ∷ []) =
    subst (λ (l : List Block). HoldsExactly s.pass (tokens_in s.slots.items ++ l)) one.1 ready.exactly in (
      record {
        slots = s.slots.items;
        head = s.head;
        list = list.0;
        nodes = b.nodes ∙ ap length same;
        block = one.0;
        counted = one.2.counted;
        each = one.2.each;
        threes = b.sized.0;
        serves =
            one-serves s.pass one.0 words b.words one.2 (subst (λ (l : List Block). AllZip (λ block words. IsRecord s.pass block words) l b.words) one.1 b.records.0)
            (subst (λ (l : List Block). AllZip (λ x words. x.need ≡ need_of (length words + 1)) l b.words) one.1 b.sized.1);
        owns = holds-owned s.pass (tokens_in s.slots.items ++ one.0 ∷ []) exactly.0;
        others = exactly.1;
      },
      read-last h before t s listed found one.0 first second one.1 pairs_read record_read,
    )

-- blocks spell the same where the same is owned at every place
node-same : (owned now : ℕ → Option PoolBlock) (o : Option Slot) → ((place : ℕ) → now place ≡ owned place) → node_in now o ≡ node_in owned o
node-same owned now None same = refl
node-same owned now (Some (Node b)) same = ap node_at (same b.place)
node-same owned now (Some (Spare n)) same = refl

owned-same :
    (owned now : ℕ → Option PoolBlock) (blocks : List Block) → ((place : ℕ) → now place ≡ owned place) → AreOwned owned blocks
    → AreOwned now blocks
owned-same owned now [] same are = tt
owned-same owned now (b ∷ bs) same are = ((are.0.0, same b.place ∙ are.0.1, are.0.2), are.1, owned-same owned now bs same are.2)

pub keeps-same :
    (owned now : ℕ → Option PoolBlock) (h : HeapFields) (pairs : List (ℕ × ℕ)) (words : List ℕ) (listed : List (ℕ × ℕ)) (found : List ℕ) (p : Pass)
    → ((place : ℕ) → now place ≡ owned place) → (k : IsSpelled owned pairs words) → ReadsBack h k.slots k.head k.block listed found p
    → KeepsRead now h pairs words listed found p
keeps-same owned now h pairs words listed found p same k read = (
  record {
    slots = k.slots;
    head = k.head;
    list =
        leads-same (nodes_at owned k.slots) (nodes_at now k.slots)
        (λ slot. node-same owned now (Rattle.std.specs.List.slice_get k.slots slot) same) k.head pairs 0 k.list;
    nodes = k.nodes;
    block = k.block;
    counted = ap (λ (o : Option PoolBlock). word_of o 0) (same k.block.place) ∙ k.counted;
    each = λ i few. ap (λ (o : Option PoolBlock). word_of o (suc i)) (same k.block.place) ∙ k.each i few;
    threes = k.threes;
    serves = k.serves;
    owns = owned-same owned now (tokens_in k.slots ++ k.block ∷ []) same k.owns;
    others = λ place away. same place ∙ k.others place away;
  },
  read,
)
