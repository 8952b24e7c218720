-- A cache tends the blocks of a table while words go out and come home.
use Rattle.std.proofs.Common.{ℕ, zero, suc, true, false, true≢false, ◌≡◌, ◌≢◌, ◌<◌, ◌+◌, ◌*◌, ◌%◌, ◌^◌, ◌++◌, ◌∙◌, List, ◌∷◌, Option, Some, None, length, slice_index_or, refl, sym, ap, subst, arith}
use Rattle.std.proofs.lemmas.Bool.Decides.{eqb_tells}
use mathlib.Core.Option.{some-injective}
use lib.ListN.{get_elem?}
use denote.RawPtr.{InBlock}
use Rattle.heap_geometry.specs.declared.need.Need.{Need}
use Rattle.errand_steps.specs.Begins.{IsIdle}
use Rattle.sound_laws.specs.events.Made.{LeadsBy}
use Rattle.plain_words.specs.Owned.{Lies}
use Rattle.plain_words.specs.declared.plain.PlainWords.{PlainWords}
use Rattle.live_heap.specs.declared.block.Block.{Block}
use Rattle.live_heap.specs.declared.view.Lent.{Lent as OutBlock}
use Rattle.live_heap.specs.Heaps.{HeapFields}
use Rattle.live_heap.specs.declared.pass.Pass.{Pass}
use Rattle.live_heap.specs.declared.plain.Memory.{Memory}
use Rattle.live_heap.specs.Holdings.{HoldsExactly}
use Rattle.live_heap.specs.Lending.{lent_block}
use Rattle.live_heap.specs.Memory.{HasTaken, IsLastTaken, IsMemoryOf, IsTaken, before_taking, writes_from}
use Rattle.live_heap.specs.Passes.{IsHome, Owns, view}
use Rattle.live_heap.specs.Words.{CallsOnWord}
use Rattle.block_cache.specs.declared.cache.Cache.{Cache}
use Rattle.block_cache.specs.Caches.{IsCache, KeepsMagazines, cached_in}
use Rattle.balloc_c.specs.declared.kept.Kept.{Kept}
use Rattle.balloc_c.specs.declared.kept.Kept.TheVariants as kept
use Rattle.balloc_c.specs.declared.lent.LentBlock.{LentBlock}
use Rattle.balloc_c.specs.declared.table.Slot.{Slot}
use Rattle.balloc_c.specs.Kept.{block_of, content_of, is_laid, is_out, seen}
use Rattle.balloc_c.specs.Slots.{block_at, lots_of, no_slot, set_block}
use Rattle.balloc_c.specs.Tended.{HasAll, Stands, Tends, at_home}
use Rattle.balloc_c.proofs.AllBlocks.{home-of, rests}
use Rattle.balloc_c.proofs.Going.{has-made, kept-cached, writes-on}
use Rattle.balloc_c.proofs.Slots.{block-set_other, block-set_same, by_case, vacant-set}
use Rattle.balloc_c.proofs.Tending.{apart-at, held-at, held-of, placed, taken-out, within-of}

-- words that are home or out stay so where those of a block at another place went out last
home-behind :
    (p q : Pass) (x : OutBlock) (place : ℕ) → (view q).lent ≡ x ∷ (view p).lent → place ≢ x.place → IsHome p place → IsHome q place
home-behind p q x place lent apart home zero b at =
    λ same. apart (sym same ∙ ap (λ (y : OutBlock). y.place) (sym (some-injective x b (sym (ap (λ (l : List OutBlock). get_elem? l 0) lent) ∙ at))))
home-behind p q x place lent apart home (suc n) b at = home n b (sym (ap (λ (l : List OutBlock). get_elem? l (suc n)) lent) ∙ at)

stands-behind :
    (h : HeapFields) (p q : Pass) (x : OutBlock) (slot : Option Kept) → (view q).lent ≡ x ∷ (view p).lent
    → ((block : Kept) → slot ≡ Some block → (block_of block).place ≢ x.place) → Stands h p slot → Stands h q slot
stands-behind h p q x None lent apart stands = tt
stands-behind h p q x (Some (kept.Home block)) lent apart home = home-behind p q x block.place lent (apart (kept.Home block) refl) home
stands-behind h p q x (Some (kept.Out out)) lent apart ((n, b, at, there, serves), lies, even) =
    ((suc n, b, ap (λ (l : List OutBlock). get_elem? l (suc n)) lent ∙ at, there, serves), lies, even)
stands-behind h p q x (Some (kept.Resting block)) lent apart home = home-behind p q x block.place lent (apart (kept.Resting block) refl) home
stands-behind h p q x (Some (kept.Laid memory)) lent apart (((n, b, at, there, serves), lies, even), room) =
    (((suc n, b, ap (λ (l : List OutBlock). get_elem? l (suc n)) lent ∙ at, there, serves), lies, even), room)

-- the first word of a block's memory has an address
pub lies-first :
    (h : HeapFields) (place : ℕ) (m : Memory) → IsMemoryOf h m → m.block.place ≡ place → Lies m.words.at (m.words.first + length m.words.places)
    → Lies h.region.at (place + 1)
lies-first h place m is at lies =
    let first : m.words.first ≡ m.block.place + 1 = is.first in
    let room : (m.words.first + length m.words.places) * 8 < 2 ^ 63 = lies.1 in
    (subst InBlock is.at lies.0, omega (arith, first, room, at))

-- the cache tends a table in which the words of a block have gone out
pub out-tends :
    (h : HeapFields) (c d : Cache) (slots middle after : List Slot) (i : ℕ) (block : Block) (lent : LentBlock) (m : Memory) (ns : List ℕ) → Tends h c slots
    → IsIdle c.pass.errand → IsIdle d.pass.errand → i < length slots → block_at slots i ≡ Some (kept.Home block) → middle ≡ set_block slots i None
    → after ≡ set_block middle i (Some (kept.Out lent)) → block_of (kept.Out lent) ≡ block → m.block ≡ block → IsCache h d → KeepsMagazines c d
    → before_taking d.pass block.place ≡ c.pass → IsLastTaken d.pass m ns (view c.pass).lent → Lies h.region.at (lent.place + 1)
    → m.words.first ≡ lent.place + 1 → m.words.first % 2 ≡ 1 → Tends h d after
out-tends h c d slots middle after i block lent m ns tends idle rests_d within is out_is back_is token of is_cache keeps before last lies first odd =
    let none : Slot = record (slice_index_or slots i no_slot) { content = content_of None } in
    let bare = set_block slots i None in
    let vacant = vacant-set slots i within in
    let full : Slot = record (slice_index_or bare i no_slot) { content = content_of (Some (kept.Out lent)) } in
    let whole : after ≡ set_block bare i (Some (kept.Out lent)) = back_is ∙ ap (λ (l : List Slot). set_block l i (Some (kept.Out lent))) out_is in
    let front = taken-out h c.pass slots i (kept.Home block) (cached_in c) within is tends.all in
    let same : at_home c.pass ≡ at_home d.pass = ap at_home (sym before) in
    let over : HasAll h d.pass (block ∷ (lots_of bare ++ cached_in d)) =
    rests h d.pass (block ∷ (lots_of bare ++ cached_in d)) rests_d
    (subst (λ (xs : List Block). HoldsExactly (at_home d.pass) (block ∷ (lots_of bare ++ xs))) (sym (kept-cached c d keeps))
    (subst (λ (p : Pass). HoldsExactly p (block ∷ (lots_of bare ++ cached_in c))) same (front.at_rest idle))) in
    let x : OutBlock = lent_block m.block.place m.block.need ns in
    let place : m.block.place ≡ lent.place = ap (λ (b : Block). b.place) (of ∙ sym token) in
    let need : m.block.need ≡ lent.need = ap (λ (b : Block). b.need) (of ∙ sym token) in
    let even : lent.place % 2 ≡ 0 = omega (arith, first, odd) in
    let taken : IsTaken d.pass lent.place lent.need = (0, x, ap (λ (l : List OutBlock). get_elem? l 0) last, place, need) in
    record {
      cache = is_cache;
      all = subst (λ (l : List Slot). HasAll h d.pass (lots_of l ++ cached_in d)) (sym whole)
          (placed h d.pass bare i (kept.Out lent) (cached_in d) vacant
          (subst (λ (b : Block). HasAll h d.pass (b ∷ (lots_of bare ++ cached_in d))) (sym token) over));
      stand = λ j. subst (λ (l : List Slot). Stands h d.pass (block_at l j)) (sym whole)
          (by_case
          (λ at. subst (λ (k : ℕ). Stands h d.pass (block_at (set_block bare i (Some (kept.Out lent))) k)) (sym at.1)
          (subst (Stands h d.pass) (sym (block-set_same bare i full vacant.0)) (taken, lies, even)))
          (λ apart. subst (Stands h d.pass) (sym (block-set_other bare i j full apart.1 ∙ block-set_other slots i j none apart.1))
          (stands-behind h c.pass d.pass x (block_at slots j) last
          (λ other there at.
          apart-at h c slots i j (kept.Home block) other tends idle within is apart.1 there (at ∙ ap (λ (b : Block). b.place) of))
          (tends.stand j)))
          (eqb_tells j i));
    }

-- and one in which they have come home
pub home-tends :
    (h : HeapFields) (c d : Cache) (slots middle after : List Slot) (i : ℕ) (was : Kept) (at : ℕ) (need : Need) (block : Block) (words : PlainWords) (ns : List ℕ)
    → Tends h c slots → IsIdle c.pass.errand → i < length slots → block_at slots i ≡ Some was → (block_of was).place ≡ at → middle ≡ set_block slots i None
    → after ≡ set_block middle i (Some (kept.Home block)) → block ≡ block_of was → IsCache h d → KeepsMagazines c d
    → LeadsBy (CallsOnWord h) (before_taking c.pass at) (writes_from at need 0 ns) d.pass → Owns d.pass block
    → ((other : Memory) → HasTaken c.pass other → other.block.place ≢ at → HasTaken d.pass other)
    → ((other : Block) → Owns c.pass other → Owns d.pass other) → Tends h d after
home-tends h c d slots middle after i was at need block words ns tends idle within is place out_is back_is token is_cache keeps wrote owned others owns =
    let none : Slot = record (slice_index_or slots i no_slot) { content = content_of None } in
    let bare = set_block slots i None in
    let vacant = vacant-set slots i within in
    let full : Slot = record (slice_index_or bare i no_slot) { content = content_of (Some (kept.Home block)) } in
    let whole : after ≡ set_block bare i (Some (kept.Home block)) = back_is ∙ ap (λ (l : List Slot). set_block l i (Some (kept.Home block))) out_is in
    let front = taken-out h c.pass slots i was (cached_in c) within is tends.all in
    let first : Pass = before_taking c.pass at in
    let made = has-made h first (writes_from at need 0 ns) d.pass (home-of h c.pass tends.cache.hand.of) idle (writes-on at need 0 ns) wrote in
    let over : HasAll h d.pass (block_of was ∷ (lots_of bare ++ cached_in d)) =
    subst (λ (xs : List Block). HasAll h d.pass (block_of was ∷ (lots_of bare ++ xs))) (sym (kept-cached c d keeps))
    (made.all (block_of was ∷ (lots_of bare ++ cached_in c))
    (rests h first (block_of was ∷ (lots_of bare ++ cached_in c)) idle (front.at_rest idle))) in
    record {
      cache = is_cache;
      all = subst (λ (l : List Slot). HasAll h d.pass (lots_of l ++ cached_in d)) (sym whole)
          (placed h d.pass bare i (kept.Home block) (cached_in d) vacant
          (subst (λ (b : Block). HasAll h d.pass (b ∷ (lots_of bare ++ cached_in d))) (sym token) over));
      stand = λ j. subst (λ (l : List Slot). Stands h d.pass (block_at l j)) (sym whole)
          (by_case
          (λ here. subst (λ (k : ℕ). Stands h d.pass (block_at (set_block bare i (Some (kept.Home block))) k)) (sym here.1)
          (subst (Stands h d.pass) (sym (block-set_same bare i full vacant.0)) owned.1))
          (λ apart. subst (Stands h d.pass) (sym (block-set_other bare i j full apart.1 ∙ block-set_other slots i j none apart.1))
          (still j (block_at slots j) refl apart.1 (tends.stand j)))
          (eqb_tells j i));
    }
  where
    still : (j : ℕ) (slot : Option Kept) → block_at slots j ≡ slot → j ≢ i → Stands h c.pass slot → Stands h d.pass slot
    still j None there ne stands = tt
    still j (Some (kept.Home other)) there ne stands =
        (owns other (held-at h c slots j other tends idle (within-of slots j (kept.Home other) there) there).0).1
    still j (Some (kept.Out other)) there ne (taken, lies, even) =
        let apart = apart-at h c slots i j was (kept.Out other) tends idle within is ne there in
        (others (record { block = block_of (kept.Out other); words = words }) taken (λ same. apart (same ∙ sym place)), lies, even)
    still j (Some (kept.Resting other)) there ne home =
        (owns other (held-of h c slots j (kept.Resting other) tends idle (within-of slots j (kept.Resting other) there) there home).0).1
    still j (Some (kept.Laid memory)) there ne ((taken, lies, even), room) =
        let apart = apart-at h c slots i j was (kept.Laid memory) tends idle within is ne there in
        ((others memory taken (λ same. apart (same ∙ sym place)), lies, even), room)

-- what a slot tells of a block whose words are out, and of one whose words are home
pub same-lent : (a b : LentBlock) → Some (kept.Out a) ≡ Some (kept.Out b) → a ≡ b
same-lent a b same = cc

pub home-slot : (slot : Option Kept) → seen slot ≢ None → is_out slot ≡ false → (block : Block) × (slot ≡ Some (kept.Home block))
home-slot None there home = absurd (there refl)
home-slot (Some (kept.Home block)) there home = (block, refl)
home-slot (Some (kept.Out lent)) there home = absurd (true≢false home)
home-slot (Some (kept.Resting block)) there home = absurd (there refl)
home-slot (Some (kept.Laid memory)) there home = absurd (there refl)

pub out-slot : (slot : Option Kept) → is_out slot ≡ true → (lent : LentBlock) × (slot ≡ Some (kept.Out lent))
out-slot None out = absurd (true≢false (sym out))
out-slot (Some (kept.Home block)) out = absurd (true≢false (sym out))
out-slot (Some (kept.Out lent)) out = (lent, refl)
out-slot (Some (kept.Resting block)) out = absurd (true≢false (sym out))
out-slot (Some (kept.Laid memory)) out = absurd (true≢false (sym out))

pub laid-slot : (slot : Option Kept) → is_laid slot ≡ true → (memory : Memory) × (slot ≡ Some (kept.Laid memory))
laid-slot None laid = absurd (true≢false (sym laid))
laid-slot (Some (kept.Home block)) laid = absurd (true≢false (sym laid))
laid-slot (Some (kept.Out lent)) laid = absurd (true≢false (sym laid))
laid-slot (Some (kept.Resting block)) laid = absurd (true≢false (sym laid))
laid-slot (Some (kept.Laid memory)) laid = (memory, refl)

pub same-resting : (a b : Block) → Some (kept.Resting a) ≡ Some (kept.Resting b) → a ≡ b
same-resting a b same = cc

pub same-laid : (a b : Memory) → Some (kept.Laid a) ≡ Some (kept.Laid b) → a ≡ b
same-laid a b same = cc

pub home-not-out : (block : Block) (lent : LentBlock) → Some (kept.Home block) ≡ Some (kept.Out lent) → ⊥
home-not-out block lent same = true≢false (sym (ap is_out same))

pub same-home : (a b : Block) → Some (kept.Home a) ≡ Some (kept.Home b) → a ≡ b
same-home a b same = cc
