-- No slot is lost: each has a block, or stands ready for one.
use Rattle.std.proofs.Common.{ℕ, ◌≡◌, ◌≢◌, ◌<◌, ◌≤◌, ◌+◌, ◌-◌, ◌^◌, Option, Some, None, List, [], ◌∷◌, ◌++◌, length, take, drop, slice_index_or, refl, sym, ap, ◌∙◌, subst, length-append, length-set, arith}
use Rattle.std.specs.Prelude.{slice_set}
use Rattle.std.proofs.lemmas.List.{get_or-set_other, get_or-set_same}
use Rattle.balloc_c.specs.declared.kept.Kept.{Kept}
use Rattle.balloc_c.specs.declared.table.Slot.{Slot}
use Rattle.balloc_c.specs.declared.table.Table.{Table}
use Rattle.balloc_c.specs.declared.table.TheConstants.{NONE}
use Rattle.balloc_c.specs.Packed.{AreSpare, HasOneMoreAtMost, IsLinked, IsNoneOf, IsPacked}
use Rattle.balloc_c.specs.Slots.{HasAged, IsVacant, block_at, block_in, blocks_of, next_at, no_slot, set_block, with_block}
use Rattle.balloc_c.proofs.Slots.{about, about-set, block-set_other, block-set_same, grown, kept-back, vacant-set}
use Rattle.balloc_c.specs.Kept.{content_of}

is_some : Option Kept → ℕ
is_some None = 0
is_some (Some block) = 1

none-is : (block : Kept) → None ≡ Some block → ⊥
unfolding is_some
none-is block same = let apart : 0 ≡ 1 = ap is_some same in omega (arith, apart)

-- a slot with a block stands not ready
pub apart-from :
    (slots : List Slot) (spare i : ℕ) (block : Kept) (spares : List ℕ) → block_at slots i ≡ Some block → AreSpare slots spare spares
    → IsNoneOf i spares
apart-from slots spare i block [] is are = tt
apart-from slots spare i block (j ∷ rest) is are =
    ((λ same. none-is block (sym are.1.1 ∙ ap (block_at slots) same ∙ is)), apart-from slots (next_at slots j) i block rest is are.3)

-- slots stand ready where just one that doesn't has changed
pub keep-spare :
    (slots after : List Slot) (spare i : ℕ) (spares : List ℕ) → length after ≡ length slots
    → ((j : ℕ) → j ≢ i → (block_at after j ≡ block_at slots j) × (next_at after j ≡ next_at slots j)) → IsNoneOf i spares
    → AreSpare slots spare spares → AreSpare after spare spares
keep-spare slots after spare i [] count same apart are = are
keep-spare slots after spare i (j ∷ rest) count same apart are =
    let at = same j apart.0 in (
      are.0,
      (subst (λ (n : ℕ). j < n) (sym count) are.1.0, at.0 ∙ are.1.1),
      are.2,
      subst (λ (n : ℕ). AreSpare after n rest) (sym at.1) (keep-spare slots after (next_at slots j) i rest count same apart.1 are.3),
    )

pub next-set_other : (slots : List Slot) (i j : ℕ) (slot : Slot) → j ≢ i → next_at (slice_set slots i slot) j ≡ next_at slots j
next-set_other slots i j slot other = ap (λ (s : Slot). s.next) (get_or-set_other slots i j slot no_slot other)

-- how many blocks there are, by one slot and those about it
with-count : (slot : Option Kept) (blocks : List Kept) → length (with_block slot blocks) ≡ length (with_block slot []) + length blocks
with-count None blocks = omega arith
with-count (Some block) blocks = omega arith

about-count :
    (slots : List Slot) (i : ℕ) (slot : Slot) → i < length slots
    → length (blocks_of (slice_set slots i slot)) + length (with_block (block_at slots i) [])
    ≡ length (blocks_of slots) + length (with_block (block_in slot) [])
about-count slots i slot within =
    let before = blocks_of (take i slots) in
    let after = blocks_of (drop (i + 1) slots) in
    let old : length (blocks_of slots) ≡ length before + length (with_block (block_at slots i) after) =
    ap length (about slots i within) ∙ length-append before (with_block (block_at slots i) after) in
    let new : length (blocks_of (slice_set slots i slot)) ≡ length before + length (with_block (block_in slot) after) =
    ap length (about-set slots i slot within) ∙ length-append before (with_block (block_in slot) after) in
    omega (arith, old, new, with-count (block_at slots i) after, with-count (block_in slot) after)

pub one-more :
    (slots : List Slot) (i : ℕ) (block : Kept) → IsVacant slots i
    → length (blocks_of (set_block slots i (Some block))) ≡ length (blocks_of slots) + 1
one-more slots i block vacant =
    let slot : Slot = record (slice_index_or slots i no_slot) { content = content_of (Some block) } in
    let none : length (with_block (block_at slots i) []) ≡ 0 = ap (λ (b : Option Kept). length (with_block b [])) vacant.1 in
    let one : length (with_block (block_in slot) []) ≡ 1 = ap (λ (b : Option Kept). length (with_block b [])) (kept-back (Some block)) in
    omega (arith, about-count slots i slot vacant.0, none, one)

one-less :
    (slots : List Slot) (i : ℕ) (block : Kept) → i < length slots → block_at slots i ≡ Some block
    → length (blocks_of (set_block slots i None)) + 1 ≡ length (blocks_of slots)
one-less slots i block within is =
    let slot : Slot = record (slice_index_or slots i no_slot) { content = content_of None } in
    let one : length (with_block (block_at slots i) []) ≡ 1 = ap (λ (b : Option Kept). length (with_block b [])) is in
    omega (arith, about-count slots i slot within, one)

-- the spare slot has no block, where there is one; and where there is none each slot has a block
pub spare-vacant : (t : Table) → IsPacked t → t.spare ≢ NONE → IsVacant t.slots.items t.spare
spare-vacant t packed apart = at packed.spares packed.spare
  where
    at : (spares : List ℕ) → AreSpare t.slots.items t.spare spares → IsVacant t.slots.items t.spare
    at [] are = absurd (apart are)
    at (j ∷ rest) are = subst (IsVacant t.slots.items) (sym are.0) are.1

pub spare-full : (t : Table) → IsPacked t → t.spare ≡ NONE → length t.slots.items ≤ length (blocks_of t.slots.items)
spare-full t packed none = at packed.spares packed.spare packed.all
  where
    at :
        (spares : List ℕ) → AreSpare t.slots.items t.spare spares
        → length t.slots.items ≤ length (blocks_of t.slots.items) + length spares → length t.slots.items ≤ length (blocks_of t.slots.items)
    at [] are all = omega (arith, all)
    at (j ∷ rest) are all = let few = packed.few in let low = are.1.0 in absurd (omega (arith, few, low, are.0, none))

-- a table without slots
pub bare-packed : (t : Table) → t.slots.items ≡ [] → t.spare ≡ NONE → IsPacked t
bare-packed t bare none =
    let few : length t.slots.items ≡ 0 = ap length bare in
    record { spares = []; spare = none; all = omega (arith, few); few = omega (arith, few) }

long : (slots : List Slot) (slot : Slot) → length (slots ++ slot ∷ []) ≡ length slots + 1
long slots slot = length-append slots (slot ∷ [])

last-next : (slots : List Slot) (slot : Slot) → next_at (slots ++ slot ∷ []) (length slots) ≡ slot.next
last-next [] slot = refl
last-next (x ∷ xs) slot = last-next xs slot

last-block : (slots : List Slot) (slot : Slot) → block_at (slots ++ slot ∷ []) (length slots) ≡ block_in slot
last-block [] slot = refl
last-block (x ∷ xs) slot = last-block xs slot

-- one slot more, where each has a block
pub grown-packed :
    (t u : Table) (slot : Slot) → t.spare ≡ NONE → length t.slots.items ≤ length (blocks_of t.slots.items)
    → length t.slots.items < 2 ^ 32 - 1 → block_in slot ≡ None → slot.next ≡ t.spare → u.slots.items ≡ t.slots.items ++ slot ∷ []
    → u.spare ≡ length t.slots.items → IsPacked u
grown-packed t u slot none full few bare next is spare =
    let slots = t.slots.items in
    let more : length u.slots.items ≡ length slots + 1 = ap length is ∙ long slots slot in
    let blocks : length (blocks_of u.slots.items) ≡ length (blocks_of slots) = ap (λ (l : List Slot). length (blocks_of l)) is ∙ ap length (grown slots slot bare) in
    record {
      spares = length slots ∷ [];
      spare = (
        spare,
        (omega (arith, more), ap (λ (l : List Slot). block_at l (length slots)) is ∙ last-block slots slot ∙ bare),
        tt,
        ap (λ (l : List Slot). next_at l (length slots)) is ∙ last-next slots slot ∙ next ∙ none,
      );
      all = omega (arith, more, blocks, full);
      few = omega (arith, more, few);
    }

abbrev with_one : List Slot → ℕ → Kept → Slot
with_one slots i block = record (slice_index_or slots i no_slot) { content = content_of (Some block) }

-- the spare slot is filled
pub filled-packed :
    (t u : Table) (i : ℕ) (block : Kept) → IsPacked t → t.spare ≡ i → IsVacant t.slots.items i
    → u.slots.items ≡ set_block t.slots.items i (Some block) → u.spare ≡ next_at t.slots.items i → IsPacked u
filled-packed t u i block packed spare vacant is next = at packed.spares packed.spare packed.all
  where
    count : length u.slots.items ≡ length t.slots.items
    count = ap length is ∙ length-set t.slots.items i (with_one t.slots.items i block)

    more : length (blocks_of u.slots.items) ≡ length (blocks_of t.slots.items) + 1
    more = ap (λ (l : List Slot). length (blocks_of l)) is ∙ one-more t.slots.items i block vacant

    same : (j : ℕ) → j ≢ i → (block_at u.slots.items j ≡ block_at t.slots.items j) × (next_at u.slots.items j ≡ next_at t.slots.items j)
    same j other = (
      ap (λ (l : List Slot). block_at l j) is ∙ block-set_other t.slots.items i j (with_one t.slots.items i block) other,
      ap (λ (l : List Slot). next_at l j) is ∙ next-set_other t.slots.items i j (with_one t.slots.items i block) other,
    )

    at :
        (spares : List ℕ) → AreSpare t.slots.items t.spare spares
        → length t.slots.items ≤ length (blocks_of t.slots.items) + length spares → IsPacked u
    at [] are all = let few = packed.few in let low = vacant.0 in absurd (omega (arith, few, low, are, spare))
    at (j ∷ rest) are all =
        let here : j ≡ i = sym are.0 ∙ spare in
        record {
          spares = rest;
          spare = subst (λ (n : ℕ). AreSpare u.slots.items n rest) (ap (next_at t.slots.items) here ∙ sym next)
              (keep-spare t.slots.items u.slots.items (next_at t.slots.items j) i rest count same (subst (λ (n : ℕ). IsNoneOf n rest) here are.2) are.3);
          all = omega (arith, count, more, all);
          few = let few = packed.few in omega (arith, count, few);
        }

-- a block leaves its slot for good, which is the spare one then
pub gone-packed :
    (t m u : Table) (i : ℕ) (block : Kept) → IsPacked t → i < length t.slots.items → block_at t.slots.items i ≡ Some block
    → m.slots.items ≡ set_block t.slots.items i None → m.spare ≡ t.spare → HasAged m.slots.items i u.slots.items → IsLinked m i u → IsPacked u
gone-packed t m u i block packed within is out spare aged linked =
    let slots = t.slots.items in
    let none : Slot = record (slice_index_or slots i no_slot) { content = content_of None } in
    let count : length u.slots.items ≡ length slots = aged.count ∙ ap length out ∙ length-set slots i none in
    let fewer : length (blocks_of u.slots.items) + 1 ≡ length (blocks_of slots) =
    ap (λ (l : List Kept). length l + 1) (aged.blocks ∙ ap blocks_of out) ∙ one-less slots i block within is in
    let same : (j : ℕ) → j ≢ i → (block_at u.slots.items j ≡ block_at slots j) × (next_at u.slots.items j ≡ next_at slots j) =
    λ j other. (
      aged.same j ∙ ap (λ (l : List Slot). block_at l j) out ∙ block-set_other slots i j none other,
      linked.others j other ∙ ap (λ (l : List Slot). next_at l j) out ∙ next-set_other slots i j none other,
    ) in
    let apart = apart-from slots t.spare i block packed.spares is packed.spare in
    let all = packed.all in
    let few = packed.few in
    record {
      spares = i ∷ packed.spares;
      spare = (
        linked.spare,
        (subst (λ (n : ℕ). i < n) (sym count) within, aged.same i ∙ ap (λ (l : List Slot). block_at l i) out ∙ block-set_same slots i none within),
        apart,
        subst (λ (n : ℕ). AreSpare u.slots.items n packed.spares) (sym (linked.here ∙ spare))
            (keep-spare slots u.slots.items t.spare i packed.spares count same apart packed.spare),
      );
      all = omega (arith, count, fewer, all);
      few = omega (arith, count, few);
    }

-- a block comes back into its slot
pub back-packed :
    (t m u : Table) (i : ℕ) (block back : Kept) → IsPacked t → i < length t.slots.items → block_at t.slots.items i ≡ Some block
    → m.slots.items ≡ set_block t.slots.items i None → m.spare ≡ t.spare → u.slots.items ≡ set_block m.slots.items i (Some back)
    → u.spare ≡ m.spare → IsPacked u
back-packed t m u i block back packed within is out spare again stays =
    let slots = t.slots.items in
    let none : Slot = record (slice_index_or slots i no_slot) { content = content_of None } in
    let bare = set_block slots i None in
    let some_block : Slot = record (slice_index_or bare i no_slot) { content = content_of (Some back) } in
    let whole : u.slots.items ≡ set_block bare i (Some back) = again ∙ ap (λ (l : List Slot). set_block l i (Some back)) out in
    let count : length u.slots.items ≡ length slots = ap length whole ∙ length-set bare i some_block ∙ length-set slots i none in
    let blocks : length (blocks_of u.slots.items) ≡ length (blocks_of slots) =
    ap (λ (l : List Slot). length (blocks_of l)) whole ∙ one-more bare i back (vacant-set slots i within) ∙ one-less slots i block within is in
    let same : (j : ℕ) → j ≢ i → (block_at u.slots.items j ≡ block_at slots j) × (next_at u.slots.items j ≡ next_at slots j) =
    λ j other. (
      ap (λ (l : List Slot). block_at l j) whole ∙ block-set_other bare i j some_block other ∙ block-set_other slots i j none other,
      ap (λ (l : List Slot). next_at l j) whole ∙ next-set_other bare i j some_block other ∙ next-set_other slots i j none other,
    ) in
    let apart = apart-from slots t.spare i block packed.spares is packed.spare in
    let all = packed.all in
    let few = packed.few in
    record {
      spares = packed.spares;
      spare = subst (λ (n : ℕ). AreSpare u.slots.items n packed.spares) (sym (stays ∙ spare))
          (keep-spare slots u.slots.items t.spare i packed.spares count same apart packed.spare);
      all = omega (arith, count, blocks, all);
      few = omega (arith, count, few);
    }

-- a table has no more slots behind a change of one
pub few-set :
    (t m u : Table) (i : ℕ) (block : Option Kept) → HasOneMoreAtMost t m → u.slots.items ≡ set_block m.slots.items i block → HasOneMoreAtMost t u
few-set t m u i block few is more =
    let slot : Slot = record (slice_index_or m.slots.items i no_slot) { content = content_of block } in
    let count : length u.slots.items ≡ length m.slots.items = ap length is ∙ length-set m.slots.items i slot in
    let least = few (omega (arith, count, more)) in
    omega (arith, count, least)

pub few-same : (t u : Table) → length u.slots.items ≡ length t.slots.items → HasOneMoreAtMost t u
few-same t u count more = absurd (omega (arith, count, more))

pub few-gone :
    (t m u : Table) (i : ℕ) → m.slots.items ≡ set_block t.slots.items i None → HasAged m.slots.items i u.slots.items → HasOneMoreAtMost t u
few-gone t m u i out aged =
    let none : Slot = record (slice_index_or t.slots.items i no_slot) { content = content_of None } in
    few-same t u (aged.count ∙ ap length out ∙ length-set t.slots.items i none)

-- the slot that gave its block away names the one that was spare
pub linked-set :
    (t u : Table) (i : ℕ) (slot : Slot) → i < length t.slots.items → u.slots.items ≡ slice_set t.slots.items i slot → slot.next ≡ t.spare
    → u.spare ≡ i → IsLinked t i u
linked-set t u i slot within is next spare = record {
  spare = spare;
  here = ap (λ (l : List Slot). next_at l i) is ∙ ap (λ (s : Slot). s.next) (get_or-set_same t.slots.items i slot no_slot within) ∙ next;
  others = λ j other. ap (λ (l : List Slot). next_at l j) is ∙ next-set_other t.slots.items i j slot other;
}

pub few-out : (t m : Table) (i : ℕ) → m.slots.items ≡ set_block t.slots.items i None → HasOneMoreAtMost t m
few-out t m i out =
    let none : Slot = record (slice_index_or t.slots.items i no_slot) { content = content_of None } in
    few-same t m (ap length out ∙ length-set t.slots.items i none)

-- where no slot stands ready the spare one is none
pub spare-none : (t : Table) → IsPacked t → t.spare ≡ NONE → IsVacant t.slots.items t.spare → ⊥
spare-none t packed none vacant = let few = packed.few in let low = vacant.0 in omega (arith, few, low, none)

-- a table has as many blocks where one came back into its slot
pub back-count :
    (t m u : Table) (i : ℕ) (block back : Kept) → i < length t.slots.items → block_at t.slots.items i ≡ Some block
    → m.slots.items ≡ set_block t.slots.items i None → u.slots.items ≡ set_block m.slots.items i (Some back)
    → length (blocks_of u.slots.items) ≡ length (blocks_of t.slots.items)
back-count t m u i block back within is out again =
    let slots = t.slots.items in
    let bare = set_block slots i None in
    let whole : u.slots.items ≡ set_block bare i (Some back) = again ∙ ap (λ (l : List Slot). set_block l i (Some back)) out in
    ap (λ (l : List Slot). length (blocks_of l)) whole ∙ one-more bare i back (vacant-set slots i within) ∙ one-less slots i block within is

-- no more slots than a call leaves, in front of it or behind it
pub few-behind :
    (t v u : Table) → length v.slots.items ≡ length t.slots.items → length (blocks_of v.slots.items) ≡ length (blocks_of t.slots.items) → HasOneMoreAtMost v u
    → HasOneMoreAtMost t u
few-behind t v u count blocks few more =
    let least = few (omega (arith, count, more)) in
    omega (arith, blocks, least)

pub few-before : (t v u : Table) → HasOneMoreAtMost t v → length u.slots.items ≡ length v.slots.items → HasOneMoreAtMost t u
few-before t v u few count more = let least = few (omega (arith, count, more)) in omega (arith, count, least)
