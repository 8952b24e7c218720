-- Who alone may store a word of the arena: the owner of the live block whose prefix it is, or the maker of the superblock in which it lies.
use Rattle.std.proofs.Common.{ℕ, Some, None, ◌≡◌, ◌≢◌, ◌<◌, ◌≤◌, ◌+◌, length, refl, arith, ap, sym, subst, inl, inr, ◌∙◌, IsTrue, slice_index_or}
use Rattle.std.specs.List.{AllByRecursion}
use Rattle.std.proofs.lemmas.List.Elements.{recursion_from_All}
use Rattle.std.proofs.lemmas.Bool.{cases_eq}
use Rattle.std.proofs.lemmas.Option.{none-some}
use Rattle.sound_state.proofs.Common.{Geometry, Need, Small, block_count_of, block_place, frame_of, frame_of-block_place, WordName, Site, descriptor_count, Writes, occurs}
use Rattle.sound_state.proofs.Common.{prefix_name, block_at, pool_of, place-found, Point, FitsPoint, State, holds_of, Freed, Handed}
use Rattle.sound_state.proofs.Common.{recalls_of, Lists, IsOwned, IsSoundWith, IsSoundWithoutCounts}
use Rattle.sound_state.proofs.Common.{info_for, is_bound, superblock_of, free_chain, IsLive, TooLarge, usable_words, block-within, IsPlaceFor, IsWellFormed, large-frame}
use Rattle.sound_state.proofs.Common.{class_span, making, IsExcepted}
use Rattle.heap_geometry.specs.declared.need.Need.TheVariants.{Large}
use Rattle.word_table.specs.declared.name.WordName.TheVariants as name
use Rattle.step_parts.specs.declared.superblock.point.BlockPoint.TheVariants as block
use Rattle.pool_model.specs.Pool.{Block}
use Rattle.pool_model.proofs.WellFormedLemmas.{small-frame}
use Rattle.errand_steps.specs.declared.point.Point.TheVariants as point
use Rattle.sound_state.proofs.shared.ListFacts.{written-within}
use Rattle.sound_state.proofs.shared.MakingPlaces.{IsMaking, is-making, making-unbound, making-alone, live-unmade, small-unmade}
use Rattle.sound_state.proofs.shared.OverlapLemmas.{live-apart, free-unlive, formed-at}
use Rattle.sound_state.proofs.shared.OwnerLemmas.{owner-there}
use Rattle.sound_state.proofs.shared.PointLemmas.{fits-at, frees-at, hands-at}
use Rattle.sound_state.proofs.stores.StoreFields.{LoneKept}
use Rattle.sound_state.proofs.stores.StoreReads.{IsBlindTo, IsUnread, links-stay, places-stay, place-stays, lone-kept, unread-stands}
use Rattle.sound_state.proofs.shared.RecallFrame.{Reads}

abbrev arena_word : WordName → ℕ
arena_word (name.Arena place) = place
arena_word n = 0

-- nobody reads the word at the place, but for a caller that hands out or frees the block there
pub record IsLoose (g : Geometry) (s : State) (l : Lists) (p : ℕ) : Type 0 where
  pub chains :
      (d : ℕ) → d < descriptor_count g → IsTrue (is_bound g s l d) → (i : ℕ) → 0 < occurs i (free_chain (superblock_of g s d))
      → block_place (info_for s d).frame (info_for s d).class i ≢ p
  pub ties : (b : Block) → IsLive s p b → IsExcepted g s p
  pub contents :
      (place i v : ℕ) (b : Block) → IsLive s place b → slice_index_or b.contents i None ≡ Some v → place + 1 + i ≢ p
  pub unread : (caller : ℕ) → caller < g.callers → IsUnread (name.Arena p) (s.errand caller).point

-- a write to a place that nobody reads keeps what is read
pub arena-kept :
    (g : Geometry) (s : State) (l : Lists) (p new : ℕ) (words' : WordName → ℕ) → IsSoundWith g s l → IsLoose g s l p
    → Writes s.word (name.Arena p) new words' → LoneKept g s l words'
arena-kept g s l p new words' old loose w =
    let n = name.Arena p in
    let stay : (q : ℕ) → q ≢ p → words' (name.Arena q) ≡ s.word (name.Arena q) =
    λ q differ. w.elsewhere (name.Arena q) (λ is. differ (ap arena_word is)) in
    lone-kept g s l n new words' tt w (links-stay g s l n new words' old w (λ no. no)) (places-stay g s l n new words' old w (λ no. no))
    (record {
      chains = λ d has bound i on. stay (block_place (info_for s d).frame (info_for s d).class i) (loose.chains d has bound i on);
      ties = λ place b live.
          elim (cases_eq place p) [
            | inl is ↦ inl (subst (IsExcepted g s) (sym is) (loose.ties b (subst (λ q. IsLive s q b) is live)))
            | inr differ ↦ inr (stay place differ)
          ];
      contents = λ place i v b live of. stay (place + 1 + i) (loose.contents place i v b live of);
    })
    (place-stays s n new words' w (λ no. no)) loose.unread

-- no written word of a block lies at a place at which a block is live
unwritten-live :
    (g : Geometry) (s : State) (p place i v : ℕ) (b c : Block) → IsSoundWithoutCounts g s → IsLive s p b → IsLive s place c
    → slice_index_or c.contents i None ≡ Some v → place + 1 + i ≢ p
unwritten-live g s p place i v b c sound live at of same =
    let within : i < length c.contents = written-within c.contents i v of in
    let full : length c.contents ≡ usable_words c.need = (formed-at g s place c sound at).full in
    let here : b.place ≡ p = place-found p (pool_of s.history) b live in
    let there : c.place ≡ place = place-found place (pool_of s.history) c at in
    let differ : place ≢ p = λ is. let bad : ⊥ = omega (arith, is, same) in bad in
    elim (live-apart g s sound place p c b at live differ) [
      | inl before ↦ omega (arith, before, here, there, full, within, same)
      | inr after ↦ omega (arith, after, here, there, same)
    ]

-- a written word of a live block that lies in a frame lies in the block's own frame
written-frame :
    (g : Geometry) (s : State) (place i v : ℕ) (b : Block) (n : Need) → IsSoundWithoutCounts g s → IsLive s place b → b.need ≡ n
    → slice_index_or b.contents i None ≡ Some v → frame_of (place + 1 + i) < g.frames → frame_of place ≡ frame_of (place + 1 + i)
written-frame g s place i v b (Small class) sound live of stands below =
    let formed : IsWellFormed g b = formed-at g s place b sound live in
    let placed : IsPlaceFor g (Small class) b.place = subst (λ n. IsPlaceFor g n b.place) of formed.place in
    let here : b.place ≡ place = place-found place (pool_of s.history) b live in
    let within : i < length b.contents = written-within b.contents i v stands in
    let full : length b.contents ≡ usable_words (Small class) = formed.full ∙ ap usable_words of in
    let fits = block-within class placed.1 placed.3 in
    omega (arith, here, placed.4, within, full, class_span class, fits)
written-frame g s place i v b (Large units) sound live of stands below =
    let behind : g.frames ≤ frame_of b.place = large-frame g b.need units b.place of (formed-at g s place b sound live).place in
    let here : b.place ≡ place = place-found place (pool_of s.history) b live in
    absurd (omega (arith, behind, here, below))
written-frame g s place i v b TooLarge sound live of stands below =
    absurd (subst (λ n. IsPlaceFor g n b.place) of (formed-at g s place b sound live).place)

-- a caller makes no superblock in the frame of the place, and owns no block there
pub record LeavesPlace (s : State) (i p : ℕ) : Type 0 where
  pub owns : (n : Need) → IsOwned s i p n → ⊥
  pub makes : (f : ℕ) → IsMaking s i f → frame_of p ≢ f

-- a caller that makes no superblock in the frame of a place, and owns no block there, remembers nothing of the place
unmade-unread :
    (g : Geometry) (s : State) (i p : ℕ) (q : Point) (at : Site) (k : ℕ) → (s.errand i).point ≡ q → holds_of q ≡ making at
    → LeavesPlace s i p → k < block_count_of at.seat.class → prefix_name at.frame at.seat.class k ≢ name.Arena p
unmade-unread g s i p q at k stands holds away lt same =
    away.makes at.frame (is-making s i q at stands holds)
    (ap (λ n. frame_of (arena_word n)) (sym same) ∙ frame_of-block_place at.frame at.seat.class k lt)

-- nor does one that owns no block there remember the prefix word of a block that it owns
owned-unread :
    (s : State) (i p : ℕ) → LeavesPlace s i p → (at : Site) (k : ℕ) → IsOwned s i (block_place at.frame at.seat.class k) (Small at.seat.class)
    → prefix_name at.frame at.seat.class k ≢ name.Arena p
owned-unread s i p away at k owned same = away.owns (Small at.seat.class) (subst (λ n. IsOwned s i (arena_word n) (Small at.seat.class)) same owned)

unread-point :
    (g : Geometry) (s : State) (l : Lists) (i p : ℕ) (q : Point) → IsSoundWith g s l → i < g.callers
    → (s.errand i).point ≡ q → FitsPoint g i q → LeavesPlace s i p → AllByRecursion (Reads (IsBlindTo (name.Arena p))) (recalls_of q)
unfolding holds_of recalls_of
unread-point g s l i p (point.Block (block.LinkBlock at k) o) old has stands fits away =
    grind (arith, fits, λ (j : ℕ). unmade-unread g s i p (point.Block (block.LinkBlock at k) o) at j stands refl away)
unread-point g s l i p (point.Block (block.StoreInfo at) o) old has stands fits away =
    grind (arith, λ (j : ℕ). unmade-unread g s i p (point.Block (block.StoreInfo at) o) at j stands refl away)
unread-point g s l i p (point.Block (block.StoreAnchor at) o) old has stands fits away =
    grind (arith, λ (j : ℕ). unmade-unread g s i p (point.Block (block.StoreAnchor at) o) at j stands refl away)
unread-point g s l i p q old has stands fits away =
    let hands = recursion_from_All (λ (x : Handed). IsOwned s i x.place x.need) (holds_of q).hands (hands-at g s l i q old has stands) in
    let frees = recursion_from_All (λ (x : Freed). IsOwned s i x.place x.need) (holds_of q).frees (frees-at g s l i q old has stands) in
    grind (arith, hands, frees, owned-unread s i p away)

-- nothing of a place is read by a caller that makes no superblock in its frame, and owns no block there
unread-elsewhere :
    (g : Geometry) (s : State) (l : Lists) (i p : ℕ) → IsSoundWith g s l → i < g.callers → LeavesPlace s i p → IsUnread (name.Arena p) (s.errand i).point
unread-elsewhere g s l i p old has away =
    let q = (s.errand i).point in
    unread-stands s i (name.Arena p) q refl (unread-point g s l i p q old has refl (fits-at g s l i q old has refl) away)

-- the owner of a live small block, which everybody excepts, may store its prefix word
pub live-loose :
    (g : Geometry) (s : State) (l : Lists) (caller p class : ℕ) → IsSoundWithoutCounts g s → IsSoundWith g s l → caller < g.callers
    → IsOwned s caller p (Small class) → IsExcepted g s p → IsUnread (name.Arena p) (s.errand caller).point → IsLoose g s l p
live-loose g s l caller p class sound old has owned excepted off = record {
  chains = λ d exists bound i on same.
      none-some owned.block.0
      (sym (free-unlive g s sound l old d i exists bound on) ∙ ap (λ q. block_at q (pool_of s.history)) same ∙ owned.block.1);
  ties = λ b live. excepted;
  contents = λ place i v b live of. unwritten-live g s p place i v owned.block.0 b sound owned.block.1 live of;
  unread = λ i has_i.
      elim (cases_eq i caller) [
        | inl is ↦ subst (λ j. IsUnread (name.Arena p) (s.errand j).point) (sym is) off
        | inr differ ↦
            unread-elsewhere g s l i p old has_i
            (record {
              owns = λ n theirs. differ (sym (owner-there s i p n theirs) ∙ owner-there s caller p (Small class) owned);
              makes = λ f making at.
                  let placed = (formed-at g s p owned.block.0 sound owned.block.1).place in
                  let frame : frame_of owned.block.0.place < g.frames = small-frame g owned.block.0.need class owned.block.0.place owned.block.3 placed in
                  let here : owned.block.0.place ≡ p = place-found p (pool_of s.history) owned.block.0 owned.block.1 in
                  let in_heap : f < g.frames = omega (arith, frame, ap frame_of here, at) in
                  small-unmade g s l i f p class owned.block.0 old has_i in_heap making owned.block.1 owned.block.3 at;
            })
      ];
}

-- the maker of a superblock may store the link of one of its blocks
pub making-loose :
    (g : Geometry) (s : State) (l : Lists) (caller f class i : ℕ) → IsSoundWithoutCounts g s → IsSoundWith g s l → caller < g.callers
    → f < g.frames → i < block_count_of class → IsMaking s caller f → IsUnread (name.Arena (block_place f class i)) (s.errand caller).point
    → IsLoose g s l (block_place f class i)
making-loose g s l caller f class i sound old has in_heap within mine off =
    let p = block_place f class i in
    let frame : frame_of p ≡ f = frame_of-block_place f class i within in
    let unlive : (b : Block) → IsLive s p b → ⊥ =
    λ b live. live-unmade g s l caller f p b b.need sound old has in_heap mine live refl frame in
    record {
      chains = λ d exists bound j on same.
          let inside = (old.chained.chained d exists bound).within j on in
          making-unbound g s l caller f d old has in_heap exists mine bound
          (sym (frame_of-block_place (info_for s d).frame (info_for s d).class j inside) ∙ ap frame_of same ∙ frame);
      ties = λ b live. absurd (unlive b live);
      contents = λ place k v b live of same.
          let there : frame_of (place + 1 + k) ≡ f = ap frame_of same ∙ frame in
          live-unmade g s l caller f place b b.need sound old has in_heap mine live refl
          (written-frame g s place k v b b.need sound live refl of (omega (arith, there, in_heap)) ∙ there);
      unread = λ j has_j.
          elim (cases_eq j caller) [
            | inl is ↦ subst (λ k. IsUnread (name.Arena p) (s.errand k).point) (sym is) off
            | inr differ ↦
                unread-elsewhere g s l j p old has_j
                (record {
                  owns = λ n theirs. unlive theirs.block.0 theirs.block.1;
                  makes = λ e making stands.
                      differ
                      (making-alone g s l caller j f old has has_j in_heap mine (subst (IsMaking s j) (sym stands ∙ frame) making));
                })
          ];
    }
