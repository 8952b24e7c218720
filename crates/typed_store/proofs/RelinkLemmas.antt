-- The list without one of its nodes, once what leads to it leads to the next one.
use Rattle.std.proofs.Common.{ℕ, suc, ◌≡◌, ◌≢◌, ◌-◌, List, [], ◌∷◌, ◌++◌, Option, Some, refl, sym, ◌∙◌, ap, subst, arith, append_assoc, inl, inr}
use Rattle.typed_store.specs.declared.seeking.Sought.{Sought}
use Rattle.typed_store.specs.Links.{Leads}
use Rattle.typed_store.specs.Passings.{StandsBetween, but}
use Rattle.typed_store.proofs.LinkLemmas.{apart, leads-append, leads-behind, leads-kept}
use Rattle.typed_store.proofs.StoreLemmas.{but-away}

-- the node and those behind it begin at its number
pub behind :
    (at : ℕ → Option (ℕ × (ℕ × ℕ))) (head : ℕ) (before : List (ℕ × ℕ)) (sought : Sought) (after : List (ℕ × ℕ)) → StandsBetween at head before sought after
    → Leads at (suc sought.slot) ((sought.node.key, sought.node.value) ∷ after) 0
behind at head before sought after stands = (sought.slot, sought.node.next, refl, stands.here, stands.left)

-- the list without its first node
pub unlinked-first :
    (at : ℕ → Option (ℕ × (ℕ × ℕ))) (head : ℕ) (before : List (ℕ × ℕ)) (sought : Sought) (after : List (ℕ × ℕ)) → StandsBetween at head before sought after
    → sought.previous ≡ 0 → Leads (but at sought.slot) sought.node.next (before ++ after) 0
unlinked-first at head before sought after stands none =
    elim stands.link [
      | inl first ↦
          subst (λ (l : List (ℕ × ℕ)). Leads (but at sought.slot) sought.node.next (l ++ after) 0) (sym first.0)
          (leads-behind at (but at sought.slot) sought.slot ((sought.node.key, sought.node.value) ∷ after) (behind at head before sought after stands)
          (λ slot away. but-away at sought.slot slot away) sought.node.next after (omega arith) stands.left)
      | inr later ↦ absurd (omega (arith, later.4, none))
    ]

-- the node in front of the one that is sought
pub record Follows (at : ℕ → Option (ℕ × (ℕ × ℕ))) (head : ℕ) (before : List (ℕ × ℕ)) (sought : Sought) : Type 0 where
  pub front : List (ℕ × ℕ)
  pub pair : ℕ × ℕ
  pub whole : before ≡ front ++ pair ∷ []
  pub number : sought.previous ≡ suc (sought.previous - 1)
  pub come : Leads at head front (suc (sought.previous - 1))
  pub there : at (sought.previous - 1) ≡ Some (suc sought.slot, pair)

pub follows :
    (at : ℕ → Option (ℕ × (ℕ × ℕ))) (head : ℕ) (before : List (ℕ × ℕ)) (sought : Sought) (after : List (ℕ × ℕ)) → StandsBetween at head before sought after
    → sought.previous ≢ 0 → Follows at head before sought
follows at head before sought after stands some =
    elim stands.link [
      | inl first ↦ absurd (some first.1)
      | inr later ↦
          let same : sought.previous - 1 ≡ later.2 = omega (arith, later.4) in
          record {
            front = later.0;
            pair = later.1;
            whole = later.3;
            number = omega (arith, later.4);
            come = subst (λ k. Leads at head later.0 (suc k)) (sym same) later.5;
            there = ap at same ∙ later.6;
          }
    ]

-- the list without a node that has one in front of it
pub unlinked-later :
    (at now : ℕ → Option (ℕ × (ℕ × ℕ))) (head : ℕ) (before : List (ℕ × ℕ)) (sought : Sought) (after : List (ℕ × ℕ))
    → StandsBetween at head before sought after → (f : Follows at head before sought) → now (sought.previous - 1) ≡ Some (sought.node.next, f.pair)
    → ((slot : ℕ) → slot ≢ sought.previous - 1 → now slot ≡ at slot) → Leads (but now sought.slot) head (before ++ after) 0
unlinked-later at now head before sought after stands f led keep =
    let j = sought.previous - 1 in
    let k = sought.slot in
    let gone : ℕ × ℕ = (sought.node.key, sought.node.value) in
    let at_k = behind at head before sought after stands in
    let at_j : Leads at (suc j) (f.pair ∷ gone ∷ after) 0 = (j, suc k, refl, f.there, at_k) in
    let differ : j ≢ k = apart at j k (f.pair ∷ gone ∷ after) (gone ∷ after) at_j at_k (λ e. absurd (omega (arith, e))) in
    let stay : (slot : ℕ) → (slot ≢ j) × (slot ≢ k) → but now k slot ≡ at slot =
    λ slot away. but-away now k slot away.1 ∙ keep slot away.0 in
    let front : Leads (but now k) head f.front (suc j) =
    leads-kept at (but now k) (λ slot. (slot ≢ j) × (slot ≢ k)) stay (f.pair ∷ gone ∷ after) (suc j) at_j head f.front
    (λ slot n ys leads many some few. (
      apart at slot j ys (f.pair ∷ gone ∷ after) leads at_j (λ e. absurd (omega (arith, e, many, some))),
      apart at slot k ys (gone ∷ after) leads at_k (λ e. absurd (omega (arith, e, many, some))),
    )) f.come in
    let rest : Leads (but now k) sought.node.next after 0 =
    leads-kept at (but now k) (λ slot. (slot ≢ j) × (slot ≢ k)) stay [] 0 refl sought.node.next after
    (λ slot n ys leads many some few. (
      apart at slot j ys (f.pair ∷ gone ∷ after) leads at_j (λ e. absurd (omega (arith, e, many, few))),
      apart at slot k ys (gone ∷ after) leads at_k (λ e. absurd (omega (arith, e, many, few))),
    )) stands.left in
    let here : but now k j ≡ Some (sought.node.next, f.pair) = but-away now k j differ ∙ led in
    let tail : Leads (but now k) (suc j) (f.pair ∷ after) 0 = (j, sought.node.next, refl, here, rest) in
    subst (λ (l : List (ℕ × ℕ)). Leads (but now k) head l 0)
    (sym (ap (λ (l : List (ℕ × ℕ)). l ++ after) f.whole ∙ append_assoc f.front (f.pair ∷ []) after))
    (leads-append (but now k) head (suc j) 0 f.front (f.pair ∷ after) front tail)
