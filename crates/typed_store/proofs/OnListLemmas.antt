-- Each token in a slot is on the list, since there are as many tokens as pairs.
use Rattle.std.proofs.Common.{ℕ, suc, ◌≡◌, ◌<◌, List, [], ◌∷◌, Option, Some, length, refl, sym, ◌∙◌, ap, subst, arith, inl, inr}
use Rattle.std.specs.List.{AllZip, slice_get, slice_set}
use Rattle.std.proofs.lemmas.Bool.{cases_eq}
use Rattle.std.proofs.lemmas.Option.{none-some}
use Rattle.pool_model.specs.Pool.{Block as PoolBlock}
use Rattle.live_heap.specs.declared.block.Block.{Block}
use Rattle.live_heap.specs.declared.pass.Pass.{Pass}
use Rattle.typed_store.specs.declared.slot.Slot.{Slot}
use Rattle.typed_store.specs.declared.slot.Slot.TheVariants.{Node, Spare}
use Rattle.typed_store.specs.Links.{Leads}
use Rattle.typed_store.specs.Nodes.{node_in, nodes_at, tokens_in}
use Rattle.typed_store.specs.Records.{IsRecord}
use Rattle.typed_store.proofs.LinkLemmas.{leads-behind}
use Rattle.typed_store.proofs.RecordLemmas.{words-one}
use Rattle.typed_store.proofs.SlotLemmas.{get-other, get-set, node-token}
use Rattle.typed_store.proofs.StoreLemmas.{fewer-tokens}

-- a way among fewer slots is a way among all
leads-wider :
    {A : Type 0} (at wide : ℕ → Option (ℕ × A)) → ((slot next : ℕ) (x : A) → at slot ≡ Some (next, x) → wide slot ≡ Some (next, x))
    → (from : ℕ) (xs : List A) (to : ℕ) → Leads at from xs to → Leads wide from xs to
leads-wider at wide more from [] to leads = leads
leads-wider at wide more from (x ∷ xs) to (slot, next, is, here, rest) =
    (slot, next, is, more slot next x here, leads-wider at wide more next xs to rest)

pub on-list :
    (owned : ℕ → Option PoolBlock) (slots : List Slot) (head : ℕ) (pairs : List (ℕ × ℕ)) (slot : ℕ) (block : Block)
    → Leads (nodes_at owned slots) head pairs 0 → length (tokens_in slots) ≡ length pairs → slice_get slots slot ≡ Some (Node block)
    → (before : List (ℕ × ℕ)) × Leads (nodes_at owned slots) head before (suc slot)
on-list owned slots head [] slot block leads as_many is =
    let fewer = fewer-tokens slots slot 0 block is in
    absurd (omega (arith, fewer, as_many))
on-list owned slots head (pair ∷ pairs) slot block (first, next, number, here, rest) as_many is =
    elim (cases_eq slot first) [
      | inl same ↦ ([], number ∙ ap suc (sym same))
      | inr away ↦
          let at = nodes_at owned slots in
          let token = node-token owned (slice_get slots first) next pair here in
          let left = slice_set slots first (Spare 0) in
          let fewer = fewer-tokens slots first 0 token.0 token.1 in
          let behind : Leads (nodes_at owned left) next pairs 0 =
          leads-behind at (nodes_at owned left) first (pair ∷ pairs) (first, next, refl, here, rest)
          (λ other far. ap (node_in owned) (get-other slots first other (Spare 0) far)) next pairs (omega arith) rest in
          let more : (k n : ℕ) (x : ℕ × ℕ) → nodes_at owned left k ≡ Some (n, x) → at k ≡ Some (n, x) =
          λ k n x there. elim (cases_eq k first) [
            | inl gone ↦
                absurd (none-some (n, x) (sym (ap (nodes_at owned left) gone ∙ ap (node_in owned) (get-set slots first (Node token.0) (Spare 0) token.1)) ∙ there))
            | inr far ↦ sym (ap (node_in owned) (get-other slots first k (Spare 0) far)) ∙ there
          ] in
          let on =
          on-list owned left next pairs slot block behind (omega (arith, fewer, as_many)) (get-other slots first slot (Spare 0) away ∙ is) in
          (pair ∷ on.0, (first, next, number, here, leads-wider (nodes_at owned left) at more next on.0 (suc slot) on.1))
    ]

-- a block spells one record
record-one : (p : Pass) (block : Block) (xs ys : List ℕ) → IsRecord p block xs → IsRecord p block ys → xs ≡ ys
record-one p block xs ys a b =
    let many : Some (length xs) ≡ Some (length ys) = sym a.counted ∙ b.counted in
    let long : length xs ≡ length ys = cc in
    words-one xs ys long (λ i within. sym (a.each i within) ∙ b.each i (subst (λ n. i < n) long within))

pub records-one :
    (p : Pass) (blocks : List Block) (xs ys : List (List ℕ)) → AllZip (λ block words. IsRecord p block words) blocks xs
    → AllZip (λ block words. IsRecord p block words) blocks ys → xs ≡ ys
records-one p [] [] [] a b = refl
records-one p [] [] (y ∷ ys) a b = absurd b
records-one p [] (x ∷ xs) ys a b = absurd a
records-one p (block ∷ blocks) [] ys a b = absurd a
records-one p (block ∷ blocks) (x ∷ xs) [] a b = absurd b
records-one p (block ∷ blocks) (x ∷ xs) (y ∷ ys) a b =
    ap (λ z. z ∷ xs) (record-one p block x y a.0 b.0) ∙ ap (λ l. y ∷ l) (records-one p blocks xs ys a.1 b.1)
