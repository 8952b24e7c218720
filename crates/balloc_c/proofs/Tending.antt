-- A cache tends the blocks of a table, through calls and changes of slots.
use Rattle.std.proofs.Common.{ℕ, zero, suc, ◌≡◌, ◌≢◌, ◌<◌, ◌+◌, ◌++◌, ◌∙◌, List, [], ◌∷◌, Option, Some, None, length, take, drop, slice_index_or, refl, sym, ap, subst, append_assoc, arith}
use Rattle.std.specs.Prelude.{All, map}
use Rattle.std.proofs.lemmas.Bool.Decides.{eqb_tells}
use Rattle.std.proofs.lemmas.List.{map-append}
use Rattle.std.proofs.lemmas.List.Elements.{All-cons, All-head, All-nil, All-tail}
use Rattle.std.proofs.lemmas.Option.{none-some}
use Rattle.errand_steps.specs.Begins.{IsIdle}
use Rattle.live_heap.specs.declared.block.Block.{Block}
use Rattle.live_heap.specs.Heaps.{HeapFields}
use Rattle.live_heap.specs.declared.pass.Pass.{Pass}
use Rattle.live_heap.specs.Holdings.{HoldsExactly}
use Rattle.live_heap.specs.Passes.{IsHome}
use Rattle.block_cache.specs.declared.cache.Cache.{Cache}
use Rattle.block_cache.specs.Caches.{HoldsBlock, IsCache, cached_in}
use Rattle.block_cache.specs.Caches.{Holds as HoldsCached}
use Rattle.block_cache.proofs.AccountLemmas.{rests as rests-home}
use Rattle.block_cache.proofs.CacheLemmas.{all-back}
use Rattle.balloc_c.specs.declared.kept.Kept.{Kept}
use Rattle.balloc_c.specs.declared.kept.Kept.TheVariants as kept
use Rattle.balloc_c.specs.declared.table.Slot.{Slot}
use Rattle.balloc_c.specs.Kept.{block_of, content_of}
use Rattle.balloc_c.specs.Slots.{IsVacant, block_at, block_in, blocks_of, lots_of, no_slot, set_block, with_block}
use Rattle.balloc_c.specs.Tended.{HasAll, Stands, Tends, at_home}
use Rattle.balloc_c.proofs.AllBlocks.{all-home, from-front, to-front}
use Rattle.balloc_c.proofs.Going.{Goes, stands-on}
use Rattle.balloc_c.proofs.Slots.{about, about-put, block-set_other, block-set_same, by_case, vacant-set, whole-at}

-- the blocks in slots, by one slot and those about it
abbrev front_of : List Slot → ℕ → List Block
front_of slots i = map block_of (blocks_of (take i slots))

abbrev back_of : List Slot → ℕ → List Block
back_of slots i = map block_of (blocks_of (drop (i + 1) slots))

lots-at :
    (slots : List Slot) (i : ℕ) (block : Kept) → i < length slots → block_at slots i ≡ Some block
    → lots_of slots ≡ front_of slots i ++ block_of block ∷ back_of slots i
lots-at slots i block within is =
    ap (map block_of) (whole-at slots i block within is) ∙ map-append block_of (blocks_of (take i slots)) (block ∷ blocks_of (drop (i + 1) slots))

lots-bare :
    (slots : List Slot) (i : ℕ) → i < length slots → lots_of (set_block slots i None) ≡ front_of slots i ++ back_of slots i
lots-bare slots i within =
    ap (map block_of) (about-put slots i None within)
    ∙ map-append block_of (blocks_of (take i slots)) (blocks_of (drop (i + 1) slots))

lots-set :
    (slots : List Slot) (i : ℕ) (block : Kept) → i < length slots
    → lots_of (set_block slots i (Some block)) ≡ front_of slots i ++ block_of block ∷ back_of slots i
lots-set slots i block within =
    ap (map block_of) (about-put slots i (Some block) within)
    ∙ map-append block_of (blocks_of (take i slots)) (block ∷ blocks_of (drop (i + 1) slots))

lots-vacant : (slots : List Slot) (i : ℕ) → IsVacant slots i → lots_of slots ≡ front_of slots i ++ back_of slots i
lots-vacant slots i vacant =
    ap (map block_of) (about slots i vacant.0 ∙ ap (λ (s : Option Kept). blocks_of (take i slots) ++ with_block s (blocks_of (drop (i + 1) slots))) vacant.1)
    ∙ map-append block_of (blocks_of (take i slots)) (blocks_of (drop (i + 1) slots))

-- a block in a slot comes to the front of all
pub taken-out :
    (h : HeapFields) (p : Pass) (slots : List Slot) (i : ℕ) (block : Kept) (cached : List Block) → i < length slots → block_at slots i ≡ Some block
    → HasAll h p (lots_of slots ++ cached) → HasAll h p (block_of block ∷ (lots_of (set_block slots i None) ++ cached))
taken-out h p slots i block cached within is all =
    let front = front_of slots i in
    let back = back_of slots i in
    let b = block_of block in
    subst (λ (xs : List Block). HasAll h p (b ∷ xs)) (sym (ap (λ (xs : List Block). xs ++ cached) (lots-bare slots i within) ∙ append_assoc front back cached))
    (to-front h p [] front (back ++ cached) b
    (subst (HasAll h p) (ap (λ (xs : List Block). xs ++ cached) (lots-at slots i block within is) ∙ append_assoc front (b ∷ back) cached) all))

-- and one at the front goes into a vacant slot
pub placed :
    (h : HeapFields) (p : Pass) (slots : List Slot) (i : ℕ) (block : Kept) (cached : List Block) → IsVacant slots i
    → HasAll h p (block_of block ∷ (lots_of slots ++ cached)) → HasAll h p (lots_of (set_block slots i (Some block)) ++ cached)
placed h p slots i block cached vacant all =
    let front = front_of slots i in
    let back = back_of slots i in
    let b = block_of block in
    subst (HasAll h p) (sym (ap (λ (xs : List Block). xs ++ cached) (lots-set slots i block vacant.0) ∙ append_assoc front (b ∷ back) cached))
    (from-front h p [] front (back ++ cached) b
    (subst (λ (xs : List Block). HasAll h p (b ∷ xs)) (ap (λ (xs : List Block). xs ++ cached) (lots-vacant slots i vacant) ∙ append_assoc front back cached) all))

-- what is so of all blocks is so of that in a slot
all-behind : (P : Block → Type 0) (slot : Option Kept) (blocks : List Kept) → All P (map block_of (with_block slot blocks)) → All P (map block_of blocks)
all-behind P None blocks all = all
all-behind P (Some block) blocks all = All-tail P (block_of block) (map block_of blocks) all

pub lot-at :
    (P : Block → Type 0) (slots : List Slot) (i : ℕ) (block : Kept) → All P (lots_of slots) → block_at slots i ≡ Some block → P (block_of block)
lot-at P [] i block all is = absurd (none-some block is)
lot-at P (slot ∷ slots) zero block all is =
    All-head P (block_of block) (map block_of (blocks_of slots))
    (subst (λ (s : Option Kept). All P (map block_of (with_block s (blocks_of slots)))) is all)
lot-at P (slot ∷ slots) (suc i) block all is = lot-at P slots i block (all-behind P (block_in slot) (blocks_of slots) all) is

all-of : (P : Block → Type 0) (xs ys : List Block) → All P (xs ++ ys) → All P xs
all-of P [] ys all = All-nil P
all-of P (x ∷ xs) ys all = All-cons P x xs (All-head P x (xs ++ ys) all) (all-of P xs ys (All-tail P x (xs ++ ys) all))

-- a slot that has a block is there
pub within-of : (slots : List Slot) (i : ℕ) (block : Kept) → block_at slots i ≡ Some block → i < length slots
within-of [] i block is = absurd (none-some block is)
within-of (slot ∷ slots) zero block is = omega arith
within-of (slot ∷ slots) (suc i) block is = let low = within-of slots i block is in omega (arith, low)

-- the caller of the cache holds a block in a slot whose words are home
pub held-of :
    (h : HeapFields) (c : Cache) (slots : List Slot) (i : ℕ) (was : Kept) → Tends h c slots → IsIdle c.pass.errand → i < length slots
    → block_at slots i ≡ Some was → IsHome c.pass (block_of was).place → HoldsBlock c (block_of was)
held-of h c slots i was tends idle within is home =
    let all = taken-out h c.pass slots i was (cached_in c) within is tends.all in
    let held = (all.at_rest idle).0 in
    ((held.0.0, home), all-back (λ (other : Block). other.place ≢ (block_of was).place) (lots_of (set_block slots i None)) (cached_in c) held.1)

pub held-at :
    (h : HeapFields) (c : Cache) (slots : List Slot) (i : ℕ) (block : Block) → Tends h c slots → IsIdle c.pass.errand → i < length slots
    → block_at slots i ≡ Some (kept.Home block) → HoldsBlock c block
held-at h c slots i block tends idle within is =
    held-of h c slots i (kept.Home block) tends idle within is (subst (Stands h c.pass) is (tends.stand i))

-- the blocks in other slots lie at other places
pub apart-at :
    (h : HeapFields) (c : Cache) (slots : List Slot) (i j : ℕ) (block other : Kept) → Tends h c slots → IsIdle c.pass.errand → i < length slots
    → block_at slots i ≡ Some block → j ≢ i → block_at slots j ≡ Some other → (block_of other).place ≢ (block_of block).place
apart-at h c slots i j block other tends idle within is ne there =
    let all = taken-out h c.pass slots i block (cached_in c) within is tends.all in
    let held = (all.at_rest idle).0 in
    let P : Block → Type 0 = λ x. x.place ≢ (block_of block).place in
    lot-at P (set_block slots i None) j other (all-of P (lots_of (set_block slots i None)) (cached_in c) held.1)
    (block-set_other slots i j (record (slice_index_or slots i no_slot) { content = content_of None }) ne ∙ there)

-- the cache tends a table that has the same blocks
pub same-tends :
    (h : HeapFields) (c d : Cache) (slots after : List Slot) → Tends h c slots → IsCache h d → Goes h c d (lots_of slots) (lots_of slots)
    → blocks_of after ≡ blocks_of slots → ((i : ℕ) → block_at after i ≡ block_at slots i) → Tends h d after
same-tends h c d slots after tends is goes blocks same =
    record {
      cache = is;
      all = subst (λ (l : List Kept). HasAll h d.pass (map block_of l ++ cached_in d)) (sym blocks) (goes.all tends.all);
      stand = λ i. subst (Stands h d.pass) (sym (same i)) (stands-on h c.pass d.pass (block_at slots i) goes.lent (tends.stand i));
    }

-- and one where a block comes into a vacant slot
pub filled-tends :
    (h : HeapFields) (c d : Cache) (slots middle after : List Slot) (i : ℕ) (block : Block) → Tends h c slots → IsCache h d
    → Goes h c d (lots_of slots) (block ∷ lots_of slots) → IsHome d.pass block.place → blocks_of middle ≡ blocks_of slots
    → ((j : ℕ) → block_at middle j ≡ block_at slots j) → IsVacant middle i → after ≡ set_block middle i (Some (kept.Home block)) → Tends h d after
filled-tends h c d slots middle after i block tends is goes home blocks same vacant set =
    let slot : Slot = record (slice_index_or middle i no_slot) { content = content_of (Some (kept.Home block)) } in
    record {
      cache = is;
      all = subst (λ (l : List Slot). HasAll h d.pass (lots_of l ++ cached_in d)) (sym set)
          (placed h d.pass middle i (kept.Home block) (cached_in d) vacant
          (subst (λ (l : List Kept). HasAll h d.pass (block ∷ (map block_of l ++ cached_in d))) (sym blocks) (goes.all tends.all)));
      stand = λ j. subst (λ (l : List Slot). Stands h d.pass (block_at l j)) (sym set)
          (by_case
          (λ at. subst (λ (k : ℕ). Stands h d.pass (block_at (set_block middle i (Some (kept.Home block))) k)) (sym at.1)
          (subst (Stands h d.pass) (sym (block-set_same middle i slot vacant.0)) home))
          (λ apart. subst (Stands h d.pass) (sym (block-set_other middle i j slot apart.1 ∙ same j))
          (stands-on h c.pass d.pass (block_at slots j) goes.lent (tends.stand j)))
          (eqb_tells j i));
    }

-- and one where a block leaves its slot
pub gone-tends :
    (h : HeapFields) (c d : Cache) (slots middle after : List Slot) (i : ℕ) (was : Kept) → Tends h c slots → i < length slots
    → block_at slots i ≡ Some was → middle ≡ set_block slots i None → blocks_of after ≡ blocks_of middle
    → ((j : ℕ) → block_at after j ≡ block_at middle j) → IsCache h d
    → ((held : List Block) → Goes h c d (block_of was ∷ held) held) → Tends h d after
gone-tends h c d slots middle after i was tends within is set blocks same cache goes =
    let none : Slot = record (slice_index_or slots i no_slot) { content = content_of None } in
    let bare = set_block slots i None in
    let went = goes (lots_of bare) in
    record {
      cache = cache;
      all = subst (λ (l : List Kept). HasAll h d.pass (map block_of l ++ cached_in d)) (sym (blocks ∙ ap blocks_of set))
          (went.all (taken-out h c.pass slots i was (cached_in c) within is tends.all));
      stand = λ j. subst (Stands h d.pass) (sym (same j ∙ ap (λ (l : List Slot). block_at l j) set))
          (by_case
          (λ at. subst (λ (k : ℕ). Stands h d.pass (block_at bare k)) (sym at.1) (subst (Stands h d.pass) (sym (block-set_same slots i none within)) tt))
          (λ apart. subst (Stands h d.pass) (sym (block-set_other slots i j none apart.1))
          (stands-on h c.pass d.pass (block_at slots j) went.lent (tends.stand j)))
          (eqb_tells j i));
    }

-- and one where a block comes back into its slot
pub back-tends :
    (h : HeapFields) (c d : Cache) (slots middle after : List Slot) (i : ℕ) (block back : Block) → Tends h c slots → i < length slots
    → block_at slots i ≡ Some (kept.Home block) → middle ≡ set_block slots i None → after ≡ set_block middle i (Some (kept.Home back)) → IsCache h d
    → ((held : List Block) → Goes h c d (block ∷ held) (back ∷ held)) → IsHome d.pass back.place → Tends h d after
back-tends h c d slots middle after i block back tends within is out_is back_is cache goes home =
    let none : Slot = record (slice_index_or slots i no_slot) { content = content_of None } in
    let bare = set_block slots i None in
    let vacant = vacant-set slots i within in
    let some_block : Slot = record (slice_index_or bare i no_slot) { content = content_of (Some (kept.Home back)) } in
    let whole : after ≡ set_block bare i (Some (kept.Home back)) = back_is ∙ ap (λ (l : List Slot). set_block l i (Some (kept.Home back))) out_is in
    let went = goes (lots_of bare) in
    record {
      cache = cache;
      all = subst (λ (l : List Slot). HasAll h d.pass (lots_of l ++ cached_in d)) (sym whole)
          (placed h d.pass bare i (kept.Home back) (cached_in d) vacant
          (went.all (taken-out h c.pass slots i (kept.Home block) (cached_in c) within is tends.all)));
      stand = λ j. subst (λ (l : List Slot). Stands h d.pass (block_at l j)) (sym whole)
          (by_case
          (λ at. subst (λ (k : ℕ). Stands h d.pass (block_at (set_block bare i (Some (kept.Home back))) k)) (sym at.1)
          (subst (Stands h d.pass) (sym (block-set_same bare i some_block vacant.0)) home))
          (λ apart. subst (Stands h d.pass) (sym (block-set_other bare i j some_block apart.1 ∙ block-set_other slots i j none apart.1))
          (stands-on h c.pass d.pass (block_at slots j) went.lent (tends.stand j)))
          (eqb_tells j i));
    }

-- a table without blocks has none in any slot
with-none : (slot : Option Kept) (blocks : List Kept) → with_block slot blocks ≡ [] → (slot ≡ None) × (blocks ≡ [])
with-none None blocks none = (refl, none)
with-none (Some block) blocks none = absurd (let no : block ∷ blocks ≡ [] = none in cc)

pub bare-at : (slots : List Slot) (i : ℕ) → blocks_of slots ≡ [] → block_at slots i ≡ None
bare-at [] i bare = refl
bare-at (slot ∷ slots) zero bare = (with-none (block_in slot) (blocks_of slots) bare).0
bare-at (slot ∷ slots) (suc i) bare = bare-at slots i (with-none (block_in slot) (blocks_of slots) bare).1

-- a cache that tends no block holds none, and the other way round
pub bare-holds : (h : HeapFields) (c : Cache) (slots : List Slot) → Tends h c slots → IsIdle c.pass.errand → blocks_of slots ≡ [] → HoldsCached c []
bare-holds h c slots tends idle bare =
    let exact : HoldsExactly (at_home c.pass) (cached_in c) =
    (subst (λ (l : List Kept). HasAll h c.pass (map block_of l ++ cached_in c)) bare tends.all).at_rest idle in
    rests-home c.pass (cached_in c) idle (tends.cache.hand.holds idle, exact.1)

pub holds-bare : (h : HeapFields) (c : Cache) (slots : List Slot) → IsCache h c → HoldsCached c [] → blocks_of slots ≡ [] → Tends h c slots
holds-bare h c slots is holds bare =
    record {
      cache = is;
      all = subst (λ (l : List Kept). HasAll h c.pass (map block_of l ++ cached_in c)) (sym bare) (all-home h c.pass (cached_in c) is.hand.of holds);
      stand = λ i. subst (Stands h c.pass) (sym (bare-at slots i bare)) tt;
    }
