-- What a pass keeps in a slot, and the slots about it.
use Rattle.std.proofs.Common.{ℕ, suc, ◌≡◌, ◌≢◌, ◌<◌, ◌+◌, ◌*◌, ◌%◌, ◌^◌, ◌++◌, ◌∙◌, List, [], ◌∷◌, Option, Some, None, length, slice_index_or, refl, sym, ap, subst, arith, length-set}
use Rattle.std.specs.Prelude.{map, slice_set}
use Rattle.std.proofs.lemmas.Bool.Decides.{eqb_tells}
use Rattle.std.proofs.lemmas.List.{get_or_read, get_or-set_same, length-map}
use Rattle.heap_geometry.specs.declared.need.Need.{Need}
use Rattle.plain_words.specs.declared.plain.PlainWords.{PlainWords}
use Rattle.live_heap.specs.declared.block.Block.{Block}
use Rattle.live_heap.specs.Heaps.{HeapFields}
use Rattle.block_cache.specs.declared.cache.Cache.{Cache}
use Rattle.block_cache.specs.Caches.{cached_in}
use Rattle.balloc_c.specs.declared.kept.Kept.{Kept}
use Rattle.balloc_c.specs.declared.table.Slot.{Slot}
use Rattle.balloc_c.specs.declared.table.Table.{Table}
use Rattle.balloc_c.specs.Kept.{block_of, content_of, seen}
use Rattle.balloc_c.specs.Laid.{HasTurned}
use Rattle.balloc_c.specs.Numbers.{NamesOneLess, NamesOneMore, named, number_at}
use Rattle.balloc_c.specs.Packed.{AreSpare, IsPacked}
use Rattle.balloc_c.specs.Slots.{after_at, age_at, block_at, block_in, blocks_of, lots_of, next_at, no_slot, set_block, with_block}
use Rattle.balloc_c.specs.Tended.{HasAll, IsRoomAt, Stands, Tends}
use Rattle.balloc_c.proofs.Numbers.{gains, loses}
use Rattle.balloc_c.proofs.Packing.{apart-from, keep-spare, next-set_other}
use Rattle.balloc_c.proofs.Slots.{age-set_other, age-set_same, block-set_other, block-set_same, by_case, kept-back}

-- the token in a slot, before others
abbrev token : Option Kept → Option Block
token None = None
token (Some k) = Some (block_of k)

abbrev with_lot : Option Block → List Block → List Block
with_lot None lots = lots
with_lot (Some b) lots = b ∷ lots

with-token : (slot : Option Kept) (blocks : List Kept) → map block_of (with_block slot blocks) ≡ with_lot (token slot) (map block_of blocks)
with-token None blocks = refl
with-token (Some k) blocks = refl

-- slots that have the same tokens have the same lots
lots-same : (xs ys : List Slot) → length xs ≡ length ys → ((k : ℕ) → token (block_at xs k) ≡ token (block_at ys k)) → lots_of xs ≡ lots_of ys
lots-same [] [] count each = refl
lots-same [] (y ∷ ys) count each = absurd (omega (arith, count))
lots-same (x ∷ xs) [] count each = absurd (omega (arith, count))
lots-same (x ∷ xs) (y ∷ ys) count each =
    let rest : lots_of xs ≡ lots_of ys = lots-same xs ys (omega (arith, count)) (λ k. each (suc k)) in
    with-token (block_in x) (blocks_of xs) ∙ ap (λ (b : Option Block). with_lot b (lots_of xs)) (each 0) ∙ ap (with_lot (token (block_in y))) rest
    ∙ sym (with-token (block_in y) (blocks_of ys))

-- a slot that has the same block in another way leaves the lots
pub turned-lots :
    (before after : List Slot) (i : ℕ) (was now : Kept) → block_at before i ≡ Some was → HasTurned before i now after → block_of now ≡ block_of was
    → lots_of after ≡ lots_of before
turned-lots before after i was now is turned of =
    lots-same after before turned.count
    (λ k. by_case
    (λ same.
    ap (λ (n : ℕ). token (block_at after n)) same.1 ∙ ap token turned.here ∙ ap (λ (b : Block). Some b) of ∙ sym (ap token is)
    ∙ sym (ap (λ (n : ℕ). token (block_at before n)) same.1))
    (λ apart. ap token (turned.others k apart.1))
    (eqb_tells k i))

turned-count :
    (before after : List Slot) (i : ℕ) (was now : Kept) → block_at before i ≡ Some was → HasTurned before i now after → block_of now ≡ block_of was
    → length (blocks_of after) ≡ length (blocks_of before)
turned-count before after i was now is turned of =
    sym (length-map (blocks_of after) block_of) ∙ ap length (turned-lots before after i was now is turned of) ∙ length-map (blocks_of before) block_of

-- no slot is lost
pub turned-packed :
    (t u : Table) (i : ℕ) (was now : Kept) → IsPacked t → block_at t.slots.items i ≡ Some was → HasTurned t.slots.items i now u.slots.items
    → block_of now ≡ block_of was → u.spare ≡ t.spare → IsPacked u
turned-packed t u i was now packed is turned of spare =
    let slots = t.slots.items in
    let after = u.slots.items in
    let count : length after ≡ length slots = turned.count in
    let blocks : length (blocks_of after) ≡ length (blocks_of slots) = turned-count slots after i was now is turned of in
    let all = packed.all in
    let few = packed.few in
    record {
      spares = packed.spares;
      spare = subst (λ (n : ℕ). AreSpare after n packed.spares) (sym spare)
          (keep-spare slots after t.spare i packed.spares count (λ j other. (turned.others j other, turned.nexts j other))
          (apart-from slots t.spare i was packed.spares is packed.spare) packed.spare);
      all = omega (arith, count, blocks, all);
      few = omega (arith, count, few);
    }

-- and the cache tends the table, where the words stand as the slot says now
pub turned-tends :
    (h : HeapFields) (c : Cache) (slots after : List Slot) (i : ℕ) (was now : Kept) → Tends h c slots → block_at slots i ≡ Some was
    → HasTurned slots i now after → block_of now ≡ block_of was → Stands h c.pass (Some now) → Tends h c after
turned-tends h c slots after i was now tends is turned of stands =
    record {
      cache = tends.cache;
      all = subst (λ (xs : List Block). HasAll h c.pass (xs ++ cached_in c)) (sym (turned-lots slots after i was now is turned of)) tends.all;
      stand = λ j. by_case
          (λ same. subst (λ (n : ℕ). Stands h c.pass (block_at after n)) (sym same.1) (subst (Stands h c.pass) (sym turned.here) stands))
          (λ apart. subst (Stands h c.pass) (sym (turned.others j apart.1)) (tends.stand j))
          (eqb_tells j i);
    }

-- a slot is emptied and filled again
still : (slots middle : List Slot) (i : ℕ) → i < length slots → middle ≡ set_block slots i None → i < length middle
still slots middle i within out =
    let none : Slot = record (slice_index_or slots i no_slot) { content = content_of None } in
    subst (λ (n : ℕ). i < n) (sym (ap length out ∙ length-set slots i none)) within

pub turned-set :
    (slots middle after : List Slot) (i : ℕ) (now : Kept) → i < length slots → middle ≡ set_block slots i None → after ≡ set_block middle i (Some now)
    → HasTurned slots i now after
turned-set slots middle after i now within out back =
    let none : Slot = record (slice_index_or slots i no_slot) { content = content_of None } in
    let full : Slot = record (slice_index_or middle i no_slot) { content = content_of (Some now) } in
    record {
      count = ap length back ∙ length-set middle i full ∙ ap length out ∙ length-set slots i none;
      here = ap (λ (l : List Slot). block_at l i) back ∙ block-set_same middle i full (still slots middle i within out) ∙ kept-back (Some now);
      others = λ j other.
          ap (λ (l : List Slot). block_at l j) back ∙ block-set_other middle i j full other ∙ ap (λ (l : List Slot). block_at l j) out
          ∙ block-set_other slots i j none other;
      nexts = λ j other.
          ap (λ (l : List Slot). next_at l j) back ∙ next-set_other middle i j full other ∙ ap (λ (l : List Slot). next_at l j) out
          ∙ next-set_other slots i j none other;
    }

-- a slot is written anew
pub turned-at :
    (slots : List Slot) (i : ℕ) (slot : Slot) (now : Kept) → i < length slots → block_in slot ≡ Some now → HasTurned slots i now (slice_set slots i slot)
turned-at slots i slot now within is =
    record {
      count = length-set slots i slot;
      here = block-set_same slots i slot within ∙ is;
      others = λ j other. block-set_other slots i j slot other;
      nexts = λ j other. next-set_other slots i j slot other;
    }

-- what was read of a slot was in it
pub block-read : (slots : List Slot) (i : ℕ) (old : Slot) → i < length slots → old ≡ slice_index_or slots i old → block_at slots i ≡ block_in old
block-read slots i old within is = ap block_in (sym (get_or_read slots i old within is no_slot))

pub age-read : (slots : List Slot) (i : ℕ) (old : Slot) → i < length slots → old ≡ slice_index_or slots i old → age_at slots i ≡ old.age
age-read slots i old within is = ap (λ (s : Slot). s.age) (sym (get_or_read slots i old within is no_slot))

pub after-read : (slots : List Slot) (i : ℕ) (old : Slot) → i < length slots → old ≡ slice_index_or slots i old → after_at slots i ≡ old.after
after-read slots i old within is = ap (λ (s : Slot). s.after) (sym (get_or_read slots i old within is no_slot))

pub after-set_same : (slots : List Slot) (i : ℕ) (slot : Slot) → i < length slots → after_at (slice_set slots i slot) i ≡ slot.after
after-set_same slots i slot within = ap (λ (s : Slot). s.after) (get_or-set_same slots i slot no_slot within)

-- the number of a slot that has given its block away once more, and the slot that it names
pub older-number : (age i n : ℕ) → age * 2 ^ 32 + i % 2 ^ 32 ≡ n → (age + 1) % 2 ^ 32 * 2 ^ 32 + i % 2 ^ 32 ≡ (n + 2 ^ 32) % 2 ^ 64
older-number age i n is = omega (arith, is)

pub older-slot : (n : ℕ) → (n + 2 ^ 32) % 2 ^ 64 % 2 ^ 32 ≡ n % 2 ^ 32
older-slot n = omega arith

-- a slot with the age that it had leaves all ages
pub ages-kept :
    (slots : List Slot) (i : ℕ) (slot : Slot) → i < length slots → slot.age ≡ age_at slots i → (j : ℕ) → age_at (slice_set slots i slot) j ≡ age_at slots j
ages-kept slots i slot within same j =
    by_case (λ at. subst (λ (n : ℕ). age_at (slice_set slots i slot) n ≡ age_at slots n) (sym at.1) (age-set_same slots i slot within ∙ same))
    (λ other. age-set_other slots i j slot other.1) (eqb_tells j i)

-- and a slot that was turned and is emptied then is as one that is emptied
pub turned-none :
    (slots after : List Slot) (i : ℕ) (now : Kept) → i < length slots → HasTurned slots i now after → (j : ℕ)
    → block_at (set_block after i None) j ≡ block_at (set_block slots i None) j
turned-none slots after i now within turned j =
    let one : Slot = record (slice_index_or after i no_slot) { content = content_of None } in
    let other : Slot = record (slice_index_or slots i no_slot) { content = content_of None } in
    let here : i < length after = subst (λ (n : ℕ). i < n) (sym turned.count) within in
    by_case
    (λ same.
    ap (block_at (set_block after i None)) same.1 ∙ block-set_same after i one here ∙ sym (block-set_same slots i other within)
    ∙ sym (ap (block_at (set_block slots i None)) same.1))
    (λ apart. block-set_other after i j one apart.1 ∙ turned.others j apart.1 ∙ sym (block-set_other slots i j other apart.1))
    (eqb_tells j i)

-- words are those of the same place and need
pub room-on :
    (h : HeapFields) (p q : ℕ) (n m : Need) (v w : PlainWords) → p ≡ q → n ≡ m → v ≡ w → IsRoomAt h p n v → IsRoomAt h q m w
room-on h p q n m v w place need words room =
    subst (λ (x : ℕ). IsRoomAt h x m w) place (subst (λ (x : Need). IsRoomAt h p x w) need (subst (IsRoomAt h p n) words room))

-- what the pass keeps from now on has no number
pub lays-less :
    (t u : Table) (i n : ℕ) (slot : Slot) (now : Kept) → i ≡ n % 2 ^ 32 → named t n ≢ None → i < length t.slots.items
    → u.slots.items ≡ slice_set t.slots.items i slot → block_in slot ≡ Some now → seen (Some now) ≡ None → slot.age ≡ (age_at t.slots.items i + 1) % 2 ^ 32 → NamesOneLess t n u
lays-less t u i n slot now at names within set is unseen older =
    let slots = t.slots.items in
    loses t u n names
    (subst (λ (k : ℕ). seen (block_at u.slots.items k) ≡ None) at
    (ap seen (ap (λ (l : List Slot). block_at l i) set ∙ block-set_same slots i slot within ∙ is) ∙ unseen))
    (λ j other. ap (λ (l : List Slot). block_at l j) set ∙ block-set_other slots i j slot (λ same. other (same ∙ at)))
    (subst (λ (k : ℕ). age_at u.slots.items k ≡ (age_at slots k + 1) % 2 ^ 32) at
    (ap (λ (l : List Slot). age_at l i) set ∙ age-set_same slots i slot within ∙ older))
    (λ j other. ap (λ (l : List Slot). age_at l j) set ∙ age-set_other slots i j slot (λ same. other (same ∙ at)))

-- and when it is given again it has one
pub lifts-more :
    (t u : Table) (i : ℕ) (was now : Kept) → i < 2 ^ 32 → block_at t.slots.items i ≡ Some was → seen (Some was) ≡ None → seen (Some now) ≡ Some now
    → HasTurned t.slots.items i now u.slots.items → ((j : ℕ) → age_at u.slots.items j ≡ age_at t.slots.items j)
    → NamesOneMore t (number_at u i) now u
lifts-more t u i was now small is unseen shown turned ages = gains t u i now small (ap seen is ∙ unseen) (ap seen turned.here ∙ shown) turned.others ages
