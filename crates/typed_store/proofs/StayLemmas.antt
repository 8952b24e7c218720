-- What blocks hold stays where what is owned at their places does.
use Rattle.std.proofs.Common.{ℕ, zero, suc, ◌≡◌, ◌≢◌, List, [], ◌∷◌, ◌++◌, Option, None, refl, sym, ◌∙◌, ap}
use Rattle.std.specs.Prelude.{All}
use Rattle.std.specs.List.{AllZip}
use Rattle.std.proofs.lemmas.List.Elements.{All-head, All-tail}
use Rattle.std.proofs.lemmas.Option.{none-some}
use Rattle.errand_steps.specs.tables.CallStage.{StageOfCall, freed, given}
use Rattle.sound_laws.specs.events.Stages.{stage_of}
use Rattle.pool_model.specs.Pool.{Block as PoolBlock}
use Rattle.errand_steps.specs.declared.reply.Reply.TheVariants as reply
use Rattle.errand_steps.specs.Calls.{alloc, free}
use Rattle.heap_geometry.specs.declared.need.Need.{Need}
use Rattle.live_heap.specs.declared.block.Block.{Block}
use Rattle.live_heap.specs.Heaps.{HeapFields}
use Rattle.live_heap.specs.declared.pass.Pass.{Pass}
use Rattle.live_heap.specs.Calls.{HasCalled, IsCalling}
use Rattle.live_heap.specs.Contents.{HasChangedSoFar, OwnsSame, owned_in, word_of}
use Rattle.live_heap.specs.Holdings.{Holds}
use Rattle.live_heap.specs.Passes.{IsOf}
use Rattle.live_heap.proofs.laws_for_builders.Changing.{called-changes, calling-changes}
use Rattle.typed_store.specs.declared.slot.Slot.{Slot}
use Rattle.typed_store.specs.declared.slot.Slot.TheVariants.{Node, Spare}
use Rattle.typed_store.specs.Nodes.{Spells, node_at, nodes_at, tokens_in}
use Rattle.typed_store.specs.Records.{IsRecord}
use Rattle.typed_store.proofs.LinkLemmas.{leads-same}
use Rattle.typed_store.proofs.PassLemmas.{owned-token}

-- what is owned at the places of these blocks is the same
abbrev pub SameFor : Pass → Pass → List Block → Type 0
SameFor p q [] = Unit {0}
SameFor p q (block ∷ blocks) = (owned_in q block.place ≡ owned_in p block.place) × SameFor p q blocks

pub same-all : (p q : Pass) → OwnsSame p q → (blocks : List Block) → SameFor p q blocks
same-all p q same [] = tt
same-all p q same (b ∷ bs) = (same b.place, same-all p q same bs)

pub same-on : (p q r : Pass) (blocks : List Block) → SameFor p q blocks → SameFor q r blocks → SameFor p r blocks
same-on p q r [] s t = tt
same-on p q r (b ∷ bs) s t = (t.0 ∙ s.0, same-on p q r bs s.1 t.1)

-- two passes that own the same as one pass at the places of blocks own the same there
pub same-since : (p q r : Pass) (blocks : List Block) → SameFor p q blocks → SameFor p r blocks → SameFor q r blocks
same-since p q r [] s t = tt
same-since p q r (b ∷ bs) s t = (t.0 ∙ sym s.0, same-since p q r bs s.1 t.1)

pub same-front : (p q : Pass) (xs ys : List Block) → SameFor p q (xs ++ ys) → SameFor p q xs
same-front p q [] ys s = tt
same-front p q (x ∷ xs) ys s = (s.0, same-front p q xs ys s.1)

pub same-back : (p q : Pass) (xs ys : List Block) → SameFor p q (xs ++ ys) → SameFor p q ys
same-back p q [] ys s = s
same-back p q (x ∷ xs) ys s = same-back p q xs ys s.1

-- where one place changes, the blocks elsewhere stay
pub same-away :
    (p q : Pass) (place : ℕ) → ((other : ℕ) → other ≢ place → owned_in q other ≡ owned_in p other) → (blocks : List Block)
    → All (λ block. block.place ≢ place) blocks → SameFor p q blocks
same-away p q place others [] away = tt
same-away p q place others (b ∷ bs) away = (
  others b.place (All-head (λ (x : Block). x.place ≢ place) b bs away),
  same-away p q place others bs (All-tail (λ (x : Block). x.place ≢ place) b bs away),
)

-- blocks that are held stay where nothing was owned at the place that changes
pub same-given :
    (p q : Pass) (place : ℕ) → owned_in p place ≡ None → ((other : ℕ) → other ≢ place → owned_in q other ≡ owned_in p other)
    → (blocks : List Block) → Holds p blocks → SameFor p q blocks
same-given p q place nothing others [] held = tt
same-given p q place nothing others (b ∷ bs) held =
    let away : b.place ≢ place = λ same. none-some held.0.0.0 (sym nothing ∙ (ap (owned_in p) (sym same) ∙ owned-token p b held.0)) in
    (others b.place away, same-given p q place nothing others bs held.2)

-- blocks that are held stay through an allocation, and through a free of another block
so-far-alloc :
    (p q : Pass) (words : ℕ) (at : StageOfCall) (blocks : List Block) → HasChangedSoFar p (alloc words) at q → Holds p blocks → SameFor p q blocks
so-far-alloc p q words (given place need) blocks changes held = same-given p q place changes.nothing changes.given.others blocks held
so-far-alloc p q words at blocks changes held = same-all p q changes blocks

so-far-free :
    (p q : Pass) (block : Block) (at : StageOfCall) (blocks : List Block) → HasChangedSoFar p (free block.place block.need) at q
    → All (λ other. other.place ≢ block.place) blocks → SameFor p q blocks
so-far-free p q block freed blocks changes away = same-away p q block.place changes.others blocks away
so-far-free p q block at blocks changes away = same-all p q changes blocks

pub calling-alloc-same :
    (h : HeapFields) (p q : Pass) (words steps : ℕ) (blocks : List Block) → IsOf h q → IsCalling p (alloc words) steps q → Holds p blocks
    → SameFor p q blocks
calling-alloc-same h p q words steps blocks of calling held =
    so-far-alloc p q words (stage_of q.errand.point) blocks (calling-changes h p q (alloc words) steps of calling) held

pub calling-free-same :
    (h : HeapFields) (p q : Pass) (block : Block) (steps : ℕ) (blocks : List Block) → IsOf h q → IsCalling p (free block.place block.need) steps q
    → All (λ other. other.place ≢ block.place) blocks → SameFor p q blocks
calling-free-same h p q block steps blocks of calling away =
    so-far-free p q block (stage_of q.errand.point) blocks (calling-changes h p q (free block.place block.need) steps of calling) away

pub given-same :
    (h : HeapFields) (p q : Pass) (words steps place : ℕ) (need : Need) (blocks : List Block) → IsOf h q
    → HasCalled p (alloc words) steps (reply.Given place need) q → Holds p blocks → SameFor p q blocks
given-same h p q words steps place need blocks of called held =
    let changes = called-changes h p q (alloc words) steps (reply.Given place need) of called in
    same-given p q place changes.nothing changes.given.others blocks held

pub freed-same :
    (h : HeapFields) (p q : Pass) (block : Block) (steps : ℕ) (blocks : List Block) → IsOf h q
    → HasCalled p (free block.place block.need) steps reply.Freed q → All (λ other. other.place ≢ block.place) blocks → SameFor p q blocks
freed-same h p q block steps blocks of called away =
    same-away p q block.place (called-changes h p q (free block.place block.need) steps reply.Freed of called).others blocks away

-- the nodes stay where what is owned at the places of their tokens does
pub nodes-stay :
    (p q : Pass) (slots : List Slot) → SameFor p q (tokens_in slots) → (slot : ℕ) → nodes_at (owned_in q) slots slot ≡ nodes_at (owned_in p) slots slot
nodes-stay p q [] same slot = refl
nodes-stay p q (Node b ∷ xs) same zero = ap node_at same.0
nodes-stay p q (Node b ∷ xs) same (suc slot) = nodes-stay p q xs same.1 slot
nodes-stay p q (Spare n ∷ xs) same zero = refl
nodes-stay p q (Spare n ∷ xs) same (suc slot) = nodes-stay p q xs same slot

pub spells-stay :
    (p q : Pass) (slots : List Slot) (head : ℕ) (pairs : List (ℕ × ℕ)) → SameFor p q (tokens_in slots) → Spells (owned_in p) slots head pairs
    → Spells (owned_in q) slots head pairs
spells-stay p q slots head pairs same spells =
    leads-same (nodes_at (owned_in p) slots) (nodes_at (owned_in q) slots) (nodes-stay p q slots same) head pairs 0 spells

-- the records stay where what is owned at their blocks' places does
record-stays :
    (p q : Pass) (block : Block) (words : List ℕ) → owned_in q block.place ≡ owned_in p block.place → IsRecord p block words → IsRecord q block words
record-stays p q block words same is = record {
  counted = ap (λ (o : Option PoolBlock). word_of o 0) same ∙ is.counted;
  each = λ i within. ap (λ (o : Option PoolBlock). word_of o (suc i)) same ∙ is.each i within;
}

pub records-stay :
    (p q : Pass) (blocks : List Block) (records : List (List ℕ)) → SameFor p q blocks → AllZip (λ block words. IsRecord p block words) blocks records
    → AllZip (λ block words. IsRecord q block words) blocks records
records-stay p q [] [] same are = tt
records-stay p q [] (r ∷ rs) same are = absurd are
records-stay p q (b ∷ bs) [] same are = absurd are
records-stay p q (b ∷ bs) (r ∷ rs) same are = (record-stays p q b r same.0 are.0, records-stay p q bs rs same.1 are.1)
