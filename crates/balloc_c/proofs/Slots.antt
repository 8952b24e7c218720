-- A block is taken out of its slot, and put into a vacant one.
use Rattle.std.proofs.Common.{◌%◌, ◌^◌, ℕ, suc, zero, ◌≡◌, ◌≢◌, ◌<◌, ◌+◌, Option, Some, None, List, [], ◌∷◌, ◌++◌, length, take, drop, slice_index_or, refl, sym, ap, ◌∙◌, subst, append-nil, length-set, ◌⊎◌, inl, inr}
use Rattle.std.specs.Prelude.{slice_set}
use Rattle.std.proofs.lemmas.Bool.Decides.{eqb_tells}
use Rattle.std.proofs.lemmas.List.{take-append-drop, drop_more, take-set, drop-set, get_or_read, get_or-set_same, get_or-set_other}
use Rattle.balloc_c.specs.declared.kept.Kept.{Kept}
use Rattle.balloc_c.specs.declared.kept.Kept.TheVariants as kept
use Rattle.balloc_c.specs.declared.table.Slot.{Slot}
use Rattle.balloc_c.specs.Slots.{HasAged, IsVacant, age_at, block_at, block_in, blocks_of, no_slot, set_block, with_block}
use Rattle.balloc_c.specs.Kept.{content_of, kept_in}

-- a block that is put into a slot lies there
pub kept-back : (block : Option Kept) → kept_in (content_of block) ≡ block
kept-back None = refl
kept-back (Some (kept.Home block)) = refl
kept-back (Some (kept.Out lent)) = refl
kept-back (Some (kept.Resting block)) = refl
kept-back (Some (kept.Laid memory)) = refl

-- the blocks of two rows of slots
with-append : (slot : Option Kept) (xs ys : List Kept) → with_block slot (xs ++ ys) ≡ with_block slot xs ++ ys
with-append None xs ys = refl
with-append (Some b) xs ys = refl

pub blocks-append : (xs ys : List Slot) → blocks_of (xs ++ ys) ≡ blocks_of xs ++ blocks_of ys
blocks-append [] ys = refl
blocks-append (x ∷ xs) ys = ap (with_block (block_in x)) (blocks-append xs ys) ∙ with-append (block_in x) (blocks_of xs) (blocks_of ys)

-- the blocks in slots, with one slot more that has none
pub grown : (slots : List Slot) (slot : Slot) → block_in slot ≡ None → blocks_of (slots ++ slot ∷ []) ≡ blocks_of slots
grown slots slot none =
    blocks-append slots (slot ∷ []) ∙ ap (λ (b : Option Kept). blocks_of slots ++ with_block b []) none ∙ append-nil (blocks_of slots)

pub grown-block : (slots : List Slot) (slot : Slot) (i : ℕ) → block_in slot ≡ None → block_at (slots ++ slot ∷ []) i ≡ block_at slots i
grown-block [] slot zero none = none
grown-block [] slot (suc i) none = refl
grown-block (x ∷ xs) slot zero none = refl
grown-block (x ∷ xs) slot (suc i) none = grown-block xs slot i none

pub grown-age : (slots : List Slot) (slot : Slot) (i : ℕ) → slot.age ≡ 0 → age_at (slots ++ slot ∷ []) i ≡ age_at slots i
grown-age [] slot zero none = none
grown-age [] slot (suc i) none = refl
grown-age (x ∷ xs) slot zero none = refl
grown-age (x ∷ xs) slot (suc i) none = grown-age xs slot i none

-- the blocks in slots, by one slot and those about it
pub about :
    (slots : List Slot) (i : ℕ) → i < length slots
    → blocks_of slots ≡ blocks_of (take i slots) ++ with_block (block_at slots i) (blocks_of (drop (i + 1) slots))
about slots i within =
    ap blocks_of (sym (take-append-drop i slots) ∙ ap (λ (rest : List Slot). take i slots ++ rest) (drop_more slots i no_slot within))
    ∙ blocks-append (take i slots) (slice_index_or slots i no_slot ∷ drop (i + 1) slots)

pub about-set :
    (slots : List Slot) (i : ℕ) (slot : Slot) → i < length slots
    → blocks_of (slice_set slots i slot) ≡ blocks_of (take i slots) ++ with_block (block_in slot) (blocks_of (drop (i + 1) slots))
about-set slots i slot within =
    ap blocks_of (sym (take-append-drop i (slice_set slots i slot)) ∙ (λ j. take-set slots i slot j ++ drop-set slots i slot within j))
    ∙ blocks-append (take i slots) (slot ∷ drop (i + 1) slots)

-- the blocks in slots, by one slot with a block and those about it
pub whole-at :
    (slots : List Slot) (i : ℕ) (block : Kept) → i < length slots → block_at slots i ≡ Some block
    → blocks_of slots ≡ blocks_of (take i slots) ++ block ∷ blocks_of (drop (i + 1) slots)
whole-at slots i block within is =
    about slots i within ∙ ap (λ (s : Option Kept). blocks_of (take i slots) ++ with_block s (blocks_of (drop (i + 1) slots))) is

-- the blocks in slots stay where one slot is replaced by one with the same block
pub about-put :
    (slots : List Slot) (i : ℕ) (block : Option Kept) → i < length slots
    → blocks_of (set_block slots i block) ≡ blocks_of (take i slots) ++ with_block block (blocks_of (drop (i + 1) slots))
about-put slots i block within =
    about-set slots i (record (slice_index_or slots i no_slot) { content = content_of block }) within
    ∙ ap (λ (b : Option Kept). blocks_of (take i slots) ++ with_block b (blocks_of (drop (i + 1) slots))) (kept-back block)

pub same-blocks : (slots : List Slot) (i : ℕ) (slot : Slot) → i < length slots → block_in slot ≡ block_at slots i → blocks_of (slice_set slots i slot) ≡ blocks_of slots
same-blocks slots i slot within same =
    about-set slots i slot within
    ∙ ap (λ (b : Option Kept). blocks_of (take i slots) ++ with_block b (blocks_of (drop (i + 1) slots))) same
    ∙ sym (about slots i within)

pub by_case : {A B C : Type 0} → (A → C) → (B → C) → A ⊎ B → C
by_case f g (inl a) = f a
by_case f g (inr b) = g b

-- what lies in the slots behind a change of one
pub block-set_same : (slots : List Slot) (i : ℕ) (slot : Slot) → i < length slots → block_at (slice_set slots i slot) i ≡ block_in slot
block-set_same slots i slot within = ap block_in (get_or-set_same slots i slot no_slot within)

pub block-set_other : (slots : List Slot) (i j : ℕ) (slot : Slot) → j ≢ i → block_at (slice_set slots i slot) j ≡ block_at slots j
block-set_other slots i j slot other = ap block_in (get_or-set_other slots i j slot no_slot other)

pub age-set_same : (slots : List Slot) (i : ℕ) (slot : Slot) → i < length slots → age_at (slice_set slots i slot) i ≡ slot.age
age-set_same slots i slot within = ap (λ (s : Slot). s.age) (get_or-set_same slots i slot no_slot within)

pub age-set_other : (slots : List Slot) (i j : ℕ) (slot : Slot) → j ≢ i → age_at (slice_set slots i slot) j ≡ age_at slots j
age-set_other slots i j slot other = ap (λ (s : Slot). s.age) (get_or-set_other slots i j slot no_slot other)

-- a block that is set leaves all ages
pub age-set : (slots : List Slot) (i : ℕ) (block : Option Kept) (j : ℕ) → i < length slots → age_at (set_block slots i block) j ≡ age_at slots j
age-set slots i block j within =
    let slot : Slot = record (slice_index_or slots i no_slot) { content = content_of block } in
    by_case (λ same. subst (λ (n : ℕ). age_at (slice_set slots i slot) n ≡ age_at slots n) (sym same.1) (age-set_same slots i slot within))
    (λ other. age-set_other slots i j slot other.1) (eqb_tells j i)

-- a slot that a block was taken out of is vacant
pub vacant-set : (slots : List Slot) (i : ℕ) → i < length slots → IsVacant (set_block slots i None) i
vacant-set slots i within =
    let slot : Slot = record (slice_index_or slots i no_slot) { content = content_of None } in
    (subst (λ (n : ℕ). i < n) (sym (length-set slots i slot)) within, block-set_same slots i slot within)

-- a slot gives its block away once more: its age is one more
pub aged-set :
    (slots : List Slot) (i : ℕ) (slot old : Slot) → i < length slots → old ≡ slice_index_or slots i old → block_in slot ≡ block_in old
    → slot.age ≡ (old.age + 1) % 2 ^ 32 → HasAged slots i (slice_set slots i slot)
aged-set slots i slot old within is same older =
    let here : old ≡ slice_index_or slots i no_slot = get_or_read slots i old within is no_slot in
    let block : block_in slot ≡ block_at slots i = same ∙ ap block_in here in
    record {
      count = length-set slots i slot;
      blocks = same-blocks slots i slot within block;
      same = λ other. by_case
          (λ at. subst (λ (n : ℕ). block_at (slice_set slots i slot) n ≡ block_at slots n) (sym at.1) (block-set_same slots i slot within ∙ block))
          (λ apart. block-set_other slots i other slot apart.1) (eqb_tells other i);
      here = age-set_same slots i slot within ∙ older ∙ ap (λ (s : Slot). (s.age + 1) % 2 ^ 32) here;
      others = λ other apart. age-set_other slots i other slot apart;
    }
