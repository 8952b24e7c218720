-- A walk along the list: what stands where it has come, and how it goes on.
use Rattle.std.proofs.Common.{ℕ, suc, ◌≡◌, ◌≢◌, ◌<◌, ◌+◌, ◌-◌, List, [], ◌∷◌, ◌++◌, Option, Some, None, length, length-append, refl, sym, ◌∙◌, ap, subst, arith, append_assoc, append-nil, inl, inr, eq-eqb, ne_eqb, eqb}
use Rattle.std.specs.List.{slice_get}
use Rattle.std.proofs.lemmas.Bool.{cases_Bool}
use Rattle.std.proofs.lemmas.Option.{none-some, some_pair_parts}
use Rattle.pool_model.specs.Pool.{Block as PoolBlock}
use Rattle.live_heap.specs.declared.block.Block.{Block}
use Rattle.live_heap.specs.Heaps.{HeapFields}
use Rattle.live_heap.specs.declared.pass.Pass.{Pass}
use Rattle.live_heap.specs.Contents.{owned_in}
use Rattle.typed_store.specs.declared.slot.Slot.{Slot}
use Rattle.typed_store.specs.declared.slot.Slot.TheVariants.{Node}
use Rattle.typed_store.specs.Links.{Leads}
use Rattle.typed_store.specs.Nodes.{first_with, node_at, node_in, nodes_at, without_first}
use Rattle.typed_store.specs.declared.nodes.Node as declared_node
use Rattle.typed_store.specs.Passings.{FindsNode, IsLink, IsPassing, KeepsWords}
use Rattle.typed_store.proofs.LinkLemmas.{leads-append, leads-one}
use Rattle.typed_store.proofs.SlotLemmas.{node-token}

-- the node at which a list goes on
pub record IsAt (at : ℕ → Option (ℕ × (ℕ × ℕ))) (here : ℕ) (after : List (ℕ × ℕ)) : Type 0 where
  pub next : ℕ
  pub pair : ℕ × ℕ
  pub rest : List (ℕ × ℕ)
  pub here_is : here ≡ suc (here - 1)
  pub there : at (here - 1) ≡ Some (next, pair)
  pub after_is : after ≡ pair ∷ rest
  pub left : Leads at next rest 0

at-node : (at : ℕ → Option (ℕ × (ℕ × ℕ))) (here : ℕ) (after : List (ℕ × ℕ)) → 0 < length after → Leads at here after 0 → IsAt at here after
at-node at here [] some leads = absurd (omega (arith, some))
at-node at here (pair ∷ rest) some (slot, next, is, there, left) =
    let same : here - 1 ≡ slot = omega (arith, is) in
    record {
      next = next;
      pair = pair;
      rest = rest;
      here_is = omega (arith, is);
      there = ap at same ∙ there;
      after_is = refl;
      left = left;
    }

none-after : (at : ℕ → Option (ℕ × (ℕ × ℕ))) (here : ℕ) (after : List (ℕ × ℕ)) → length after ≡ 0 → Leads at here after 0 → here ≡ 0
none-after at here [] none leads = leads
none-after at here (pair ∷ rest) none leads = absurd (omega (arith, none))

pub passing-at :
    (at : ℕ → Option (ℕ × (ℕ × ℕ))) (head previous here passed : ℕ) (pairs : List (ℕ × ℕ))
    → (p : IsPassing at head previous here passed pairs) → passed < length pairs → IsAt at here p.after
passing-at at head previous here passed pairs p few =
    let long : length pairs ≡ length p.before + length p.after = ap (λ l. length l) p.whole ∙ length-append p.before p.after in
    at-node at here p.after (omega (arith, long, p.passed_is, few)) p.left

-- a walk that has passed all pairs stands at no number more
pub passed-all :
    (at : ℕ → Option (ℕ × (ℕ × ℕ))) (head previous here passed : ℕ) (pairs : List (ℕ × ℕ)) → IsPassing at head previous here passed pairs
    → length pairs ≡ passed → here ≡ 0
passed-all at head previous here passed pairs p all =
    let long : length pairs ≡ length p.before + length p.after = ap (λ l. length l) p.whole ∙ length-append p.before p.after in
    none-after at here p.after (omega (arith, long, p.passed_is, all)) p.left

-- the slot where a walk stands has a token, which is the pass's, and its block holds a node
pub walk-token :
    (owned : ℕ → Option PoolBlock) (slots : List Slot) (head previous here passed : ℕ) (pairs : List (ℕ × ℕ))
    → IsPassing (nodes_at owned slots) head previous here passed pairs → passed < length pairs
    → (block : Block) × (slice_get slots (here - 1) ≡ Some (Node block))
walk-token owned slots head previous here passed pairs p few =
    let a = passing-at (nodes_at owned slots) head previous here passed pairs p few in
    let t = node-token owned (slice_get slots (here - 1)) a.next a.pair a.there in
    (t.0, t.1)

pub walk-node :
    (h : HeapFields) (p q : Pass) (slots : List Slot) (head previous here passed : ℕ) (pairs : List (ℕ × ℕ)) (block : Block) → KeepsWords h p q
    → IsPassing (nodes_at (owned_in p) slots) head previous here passed pairs → passed < length pairs
    → slice_get slots (here - 1) ≡ Some (Node block) → (next : ℕ) × (pair : ℕ × ℕ) × (node_at (owned_in q block.place) ≡ Some (next, pair))
walk-node h p q slots head previous here passed pairs block reads passing few is =
    let a = passing-at (nodes_at (owned_in p) slots) head previous here passed pairs passing few in
    (a.next, a.pair, ap node_at (reads.same block.place) ∙ (ap (node_in (owned_in p)) (sym is) ∙ a.there))

-- the node that was read in a slot stands there
pub walk-read :
    (h : HeapFields) (p q : Pass) (slots : List Slot) (slot : ℕ) (block : Block) (next : ℕ) (pair : ℕ × ℕ) → KeepsWords h p q
    → slice_get slots slot ≡ Some (Node block) → node_at (owned_in q block.place) ≡ Some (next, pair)
    → nodes_at (owned_in p) slots slot ≡ Some (next, pair)
walk-read h p q slots slot block next pair reads is node =
    ap (node_in (owned_in p)) is ∙ (sym (ap node_at (reads.same block.place)) ∙ node)

-- the walk goes on from one node to the next
pub record GoesTo (at : ℕ → Option (ℕ × (ℕ × ℕ))) (head here next passed : ℕ) (pair : ℕ × ℕ) (before pairs : List (ℕ × ℕ)) : Type 0 where
  pub passing : IsPassing at head here next (passed + 1) pairs
  pub before_is : passing.before ≡ before ++ pair ∷ []

pub walk-on :
    (at : ℕ → Option (ℕ × (ℕ × ℕ))) (head previous here passed next : ℕ) (pair : ℕ × ℕ) (pairs : List (ℕ × ℕ))
    → (p : IsPassing at head previous here passed pairs) → passed < length pairs → at (here - 1) ≡ Some (next, pair)
    → GoesTo at head here next passed pair p.before pairs
walk-on at head previous here passed next pair pairs p few there =
    let a = passing-at at head previous here passed pairs p few in
    let both = some_pair_parts a.next next a.pair pair (sym a.there ∙ there) in
    let come : Leads at head p.before (suc (here - 1)) = subst (Leads at head p.before) a.here_is p.come in
    let step : Leads at here (pair ∷ []) next = (here - 1, next, a.here_is, there, refl) in
    record {
      passing = record {
        before = p.before ++ pair ∷ [];
        after = a.rest;
        whole = p.whole ∙ (ap (λ l. p.before ++ l) (a.after_is ∙ ap (λ x. x ∷ a.rest) both.1) ∙ sym (append_assoc p.before (pair ∷ []) a.rest));
        passed_is = length-append p.before (pair ∷ []) ∙ ap (λ n. n + 1) p.passed_is;
        come = leads-append at head here next p.before (pair ∷ []) p.come step;
        left = subst (λ n. Leads at n a.rest 0) both.0 a.left;
        link = inr (p.before, pair, here - 1, refl, a.here_is, come, there);
      };
      before_is = refl;
    }

-- a walk that begins has passed nothing
abbrev pub walk-begins :
    (at : ℕ → Option (ℕ × (ℕ × ℕ))) (head : ℕ) (pairs : List (ℕ × ℕ)) → Leads at head pairs 0 → IsPassing at head 0 head 0 pairs
walk-begins at head pairs leads = record {
  before = [];
  after = pairs;
  whole = refl;
  passed_is = refl;
  come = refl;
  left = leads;
  link = inl (refl, refl);
}

no-more : (before after pairs : List (ℕ × ℕ)) → pairs ≡ before ++ after → length before ≡ length pairs → before ≡ pairs
no-more before [] pairs whole long = sym (whole ∙ append-nil before)
no-more before (x ∷ after) pairs whole long =
    absurd (omega (arith, long, ap (λ l. length l) whole, length-append before (x ∷ after)))

-- a walk at its end has passed all pairs
pub walk-ends :
    (at : ℕ → Option (ℕ × (ℕ × ℕ))) (head previous here passed : ℕ) (pairs : List (ℕ × ℕ))
    → (p : IsPassing at head previous here passed pairs) → length pairs ≡ passed → p.before ≡ pairs
walk-ends at head previous here passed pairs p all = no-more p.before p.after pairs p.whole (p.passed_is ∙ sym all)

-- no pair has a key where neither those before nor the next one has it; the first pair with a key is the next one where that has it
pub first-none :
    (key : ℕ) (before : List (ℕ × ℕ)) (pair : ℕ × ℕ) → first_with key before ≡ None → pair.0 ≢ key → first_with key (before ++ pair ∷ []) ≡ None
first-none key [] pair none differ = rw (ne_eqb pair.0 key differ) refl
first-none key (x ∷ xs) pair none differ =
    elim (cases_Bool (eqb x.0 key)) [
      | inl is ↦ absurd (none-some x (sym none ∙ (rw is refl)))
      | inr off ↦ let rest : first_with key xs ≡ None = rw off at none in (rw off (first-none key xs pair rest differ))
    ]

pub first-found :
    (key : ℕ) (before after : List (ℕ × ℕ)) (pair : ℕ × ℕ) → first_with key before ≡ None → pair.0 ≡ key
    → (first_with key (before ++ pair ∷ after) ≡ Some pair) × (without_first key (before ++ pair ∷ after) ≡ before ++ after)
first-found key [] after pair none is = (rw (eq-eqb pair.0 key is) refl, rw (eq-eqb pair.0 key is) refl)
first-found key (x ∷ xs) after pair none is =
    elim (cases_Bool (eqb x.0 key)) [
      | inl on ↦ absurd (none-some x (sym none ∙ (rw on refl)))
      | inr off ↦
          let rest : first_with key xs ≡ None = rw off at none in
          let found = first-found key xs after pair rest is in
          (rw off found.0, rw off (ap (λ l. x ∷ l) found.1))
    ]

-- how many pairs are spelled is known, since they are one list
pub counted :
    (at : ℕ → Option (ℕ × (ℕ × ℕ))) (head count : ℕ) (known pairs : List (ℕ × ℕ)) → Leads at head known 0 → count ≡ length known
    → Leads at head pairs 0 → length pairs ≡ count
counted at head count known pairs leads is others = ap (λ l. length l) (leads-one at head pairs known others leads) ∙ sym is

-- the node that a walk finds is the one that was sought
pub walk-finds :
    (at : ℕ → Option (ℕ × (ℕ × ℕ))) (head previous here passed key : ℕ) (node : declared_node.Node) (pairs : List (ℕ × ℕ))
    → (p : IsPassing at head previous here passed pairs) → first_with key p.before ≡ None → passed < length pairs
    → at (here - 1) ≡ Some (node.next, (node.key, node.value)) → node.key ≡ key
    → FindsNode at head key pairs (record { previous = previous; slot = here - 1; node = node })
walk-finds at head previous here passed key node pairs p none few there is =
    let a = passing-at at head previous here passed pairs p few in
    let both = some_pair_parts a.next node.next a.pair (node.key, node.value) (sym a.there ∙ there) in
    record {
      before = p.before;
      after = a.rest;
      whole = p.whole ∙ ap (λ l. p.before ++ l) (a.after_is ∙ ap (λ x. x ∷ a.rest) both.1);
      key_is = is;
      first = none;
      stands = record {
        come = subst (Leads at head p.before) a.here_is p.come;
        here = there;
        left = subst (λ n. Leads at n a.rest 0) both.0 a.left;
        link = subst (IsLink at head p.before previous) a.here_is p.link;
      };
    }

-- all pairs stay where none has the key
pub first-kept : (key : ℕ) (pairs : List (ℕ × ℕ)) → first_with key pairs ≡ None → without_first key pairs ≡ pairs
first-kept key [] none = refl
first-kept key (x ∷ xs) none =
    elim (cases_Bool (eqb x.0 key)) [
      | inl on ↦ absurd (none-some x (sym none ∙ (rw on refl)))
      | inr off ↦ let rest : first_with key xs ≡ None = rw off at none in (rw off (ap (λ l. x ∷ l) (first-kept key xs rest)))
    ]
