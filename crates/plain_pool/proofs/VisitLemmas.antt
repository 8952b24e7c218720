-- A loop over the stored blocks: what holds of each that is no longer left.
use Rattle.std.proofs.Common.{ℕ, true, false, cond, ◌≡◌, ◌≢◌, ◌⊎◌, List, [], ◌∷◌, Some, None, refl, sym, ◌∙◌, ap, subst₂, inl, inr, eq-eqb, ne_eqb, arith}
use Rattle.std.proofs.lemmas.Bool.{cases_eq, cases_lt, lt-ltb, le-ltb}
use Rattle.std.specs.Ordering.{nat_cmp}
use Rattle.std.specs.BTreeMap.{BTreeMap, is_at}
use Rattle.std.specs.Map.{lookup}
use Rattle.plain_pool.specs.declared.live_block.LiveBlock.{LiveBlock}
use Rattle.plain_pool.specs.Stored.{IsStored}

-- each stored block is one of those left to visit, or has a property
abbrev pub AllBut : (ℕ → LiveBlock → Type 0) → BTreeMap ℕ LiveBlock → List (ℕ × LiveBlock) → Type 0
AllBut P blocks left =
    (place : ℕ) (block : LiveBlock) → IsStored blocks place block → (lookup (is_at (nat_cmp place)) left ≡ Some block) ⊎ P place block

pub is_at-same : (x y : ℕ) → x ≡ y → is_at (nat_cmp x) y ≡ true
is_at-same x y e = rw (le-ltb x y (omega arith), eq-eqb x y e) refl

pub is_at-other : (x y : ℕ) → x ≢ y → is_at (nat_cmp x) y ≡ false
is_at-other x y ne =
    elim (cases_lt x y) [ inl below ↦ rw (lt-ltb x y below) refl | inr above ↦ rw (le-ltb x y above, ne_eqb x y ne) refl ]

pub all_but-start :
    (P : ℕ → LiveBlock → Type 0) (blocks : BTreeMap ℕ LiveBlock) (left : List (ℕ × LiveBlock)) → left ≡ blocks.entries
    → AllBut P blocks left
all_but-start P blocks left e place block stored =
    let found : lookup (is_at (nat_cmp place)) blocks.entries ≡ Some block = stored in
    inl (ap (lookup (is_at (nat_cmp place))) e ∙ found)

pub all_but-more :
    (P Q : ℕ → LiveBlock → Type 0) (blocks : BTreeMap ℕ LiveBlock) (left rest : List (ℕ × LiveBlock)) (at : ℕ) (now : LiveBlock)
    → left ≡ (at, now) ∷ rest → ((place : ℕ) (block : LiveBlock) → IsStored blocks place block → P place block → Q place block) → Q at now
    → AllBut P blocks left → AllBut Q blocks rest
all_but-more P Q blocks left rest at now is keeps new so_far place block stored =
    elim (so_far place block stored) [
      | inl in_left ↦
          let found : lookup (is_at (nat_cmp place)) ((at, now) ∷ rest) ≡ Some block =
          sym (ap (lookup (is_at (nat_cmp place))) is) ∙ in_left in
          elim (cases_eq place at) [
            | inl here ↦
                let first : cond true (Some now) (lookup (is_at (nat_cmp place)) rest) ≡ Some block =
                rw (is_at-same place at here) at found in
                let same : now ≡ block = let e : Some now ≡ Some block = first in cc in
                inr (subst₂ Q (sym here) same new)
            | inr past ↦
                let later : cond false (Some now) (lookup (is_at (nat_cmp place)) rest) ≡ Some block =
                rw (is_at-other place at past) at found in
                inl later
          ]
      | inr seen ↦ inr (keeps place block stored seen)
    ]

pub all_but-end :
    (P : ℕ → LiveBlock → Type 0) (blocks : BTreeMap ℕ LiveBlock) (left : List (ℕ × LiveBlock)) → left ≡ [] → AllBut P blocks left
    → (place : ℕ) (block : LiveBlock) → IsStored blocks place block → P place block
all_but-end P blocks left none so_far place block stored =
    elim (so_far place block stored) [
      | inl in_left ↦ absurd (let e : None ≡ Some block = sym (ap (lookup (is_at (nat_cmp place))) none) ∙ in_left in cc)
      | inr seen ↦ seen
    ]
