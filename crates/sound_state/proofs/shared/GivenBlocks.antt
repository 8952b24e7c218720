-- A step that gives its caller a free block of a superblock: its event is legal, and the words still show the pool.
use Rattle.std.proofs.Common.{ℕ, Some, None, ◌≡◌, ◌≢◌, ◌<◌, ◌≤◌, ◌*◌, [], ◌∷◌, ◌++◌, refl, arith, ap, sym, subst, inl, ◌∙◌, ◌⊎◌, All, Any, IsTrue, slice_index_or}
use Rattle.std.proofs.lemmas.Bool.{cases_eq}
use Rattle.std.proofs.lemmas.List.Elements.{All-nil, All-cons}
use Rattle.sound_state.proofs.Common.{Geometry, Need, Small, block_count_of, need_of, block_place, frame_of, frame_of-block_place, Site, IsSiteOf, IsLegalWithoutCounts}
use Rattle.sound_state.proofs.Common.{block_at, pool_of, place-found, sound-of, ErrandFields, State, Moves, holds_of, Lists, IsLocated, IsOwned, IsSoundWithoutCounts}
use Rattle.sound_state.proofs.Common.{IsSoundWith, info_for, is_bound, IsTied, IsLive, TooLarge, usable_words, IsLegalEventWithoutCounts, IsFree, fresh_block, IsPlaceFor}
use Rattle.sound_state.proofs.Common.{IsWellFormed, EachAfter-push, every-found, large-frame, Handed, block_handed, IsBlockOfDesc, IsExcepted}
use Rattle.heap_geometry.specs.declared.need.Need.TheVariants.{Large}
use Rattle.word_table.specs.declared.name.WordName.TheVariants as name
use Rattle.pool_model.specs.declared.event.Event.TheVariants.{Alloc}
use Rattle.pool_model.specs.Legal.{HoldsOnly}
use Rattle.pool_model.specs.Pool.{Block}
use Rattle.pool_model.proofs.FreeLemmas.{clear-block}
use Rattle.sound_state.proofs.shared.FrameLemmas.{one-in-frame}
use Rattle.sound_state.proofs.shared.TieLemmas.{TieWords, IsSmallOf, IsBareHanded, excepts-none, located-stays, none-written, not-live, one-live, small-but, block-stays}

-- the place of the block of an index
abbrev pub place_in : Site → ℕ → ℕ
place_in at i = block_place at.frame at.seat.class i

-- a caller is given the free block of the index, and hands it out
pub record Gives (g : Geometry) (s : State) (l : Lists) (caller : ℕ) (at : Site) (i words : ℕ) (e : ErrandFields) (s' : State) : Type 0 where
  pub in_heap : caller < g.callers
  pub moves : Moves s.errand caller e s'.errand
  pub site : IsSiteOf g caller at
  pub index : i < block_count_of at.seat.class
  pub small : need_of words ≡ Small at.seat.class
  pub bound : IsTrue (is_bound g s l at.desc)
  pub located : IsLocated s at.desc at.frame at.seat.class
  pub history : s'.history ≡ s.history ++ Alloc caller words (place_in at i) ∷ []
  pub none : block_at (place_in at i) (pool_of s.history) ≡ None
  pub here : block_at (place_in at i) (pool_of s'.history) ≡ Some (fresh_block caller words (place_in at i))
  pub there : (p : ℕ) → p ≢ place_in at i → block_at p (pool_of s'.history) ≡ block_at p (pool_of s.history)
  pub tie_words : TieWords s s'
  pub info : (d : ℕ) → info_for s' d ≡ info_for s d
  pub bounds : (d : ℕ) → is_bound g s' l d ≡ is_bound g s l d
  pub bare : IsBareHanded (s.errand caller).point
  pub hands : (holds_of e.point).hands ≡ block_handed at i
  pub frees : (holds_of e.point).frees ≡ []

module _
    {g : Geometry} {s : State} {l : Lists} {caller : ℕ} {at : Site} {i words : ℕ} {e : ErrandFields} {s' : State}
    (h : Gives g s l caller at i words e s') where
  -- a live block in the frame of the superblock is of its class
  class-there :
      IsSoundWithoutCounts g s → IsSoundWith g s l → (place : ℕ) (b : Block) (n : Need) → IsLive s place b → b.need ≡ n → IsPlaceFor g n b.place
      → frame_of b.place ≡ at.frame → b.need ≡ Small at.seat.class
  class-there sound old place b (Small class) live of placed here =
      let tied = old.tied.small place class b live of in
      let d : ℕ = tied.0 in
      let its : IsBlockOfDesc g s l place class d = tied.1 in
      let same : b.place ≡ place = place-found place (pool_of s.history) b live in
      let frame : (info_for s d).frame ≡ at.frame = its.located.frame ∙ ap frame_of (sym same) ∙ here in
      let one : d ≡ at.desc =
      one-in-frame g s l at.frame d at.desc old h.site.frame its.exists h.site.desc its.bound h.bound frame h.located.frame in
      let classes : class ≡ at.seat.class = sym its.located.class ∙ ap (λ k. (info_for s k).class) one ∙ h.located.class in
      of ∙ ap Small classes
  class-there sound old place b (Large units) live of placed here =
      let behind : g.frames ≤ frame_of b.place = large-frame g (Large units) units b.place refl placed in
      let within : at.frame < g.frames = h.site.frame in
      absurd (omega (arith, behind, within, here))
  class-there sound old place b TooLarge live of placed here = absurd placed

  -- the given block was free, so the event is legal
  pub given-legal : IsSoundWithoutCounts g s → IsSoundWith g s l → IsLegalWithoutCounts g s'.history
  given-legal sound old =
      let pool = sound-of g s.history sound.legal in
      let only : HoldsOnly (pool_of s.history) at.frame at.seat.class =
      λ place b found here.
      let formed : IsWellFormed g b = every-found (IsWellFormed g) place (pool_of s.history) b pool.each found in
      class-there sound old place b b.need found refl formed.place here in
      let free : IsFree g (pool_of s.history) (Small at.seat.class) (place_in at i) = record {
        frame = at.frame;
        index = i;
        in_heap = h.site.frame;
        in_frame = h.index;
        is_place = refl;
        same_class = only;
        clear = clear-block g (pool_of s.history) pool at.frame at.seat.class i h.site.frame h.index only h.none;
      } in
      subst (IsLegalWithoutCounts g) (sym h.history)
      (EachAfter-push (IsLegalEventWithoutCounts g) s.history (Alloc caller words (place_in at i)) sound.legal
      (h.in_heap, subst (λ n. IsFree g (pool_of s.history) n (place_in at i)) (sym h.small) free))

  -- the block that is live at the given place is the fresh one, and small
  is-fresh : (place : ℕ) (b : Block) → place ≡ place_in at i → IsLive s' place b → fresh_block caller words (place_in at i) ≡ b
  is-fresh place b same live = one-live s' (place_in at i) place (fresh_block caller words (place_in at i)) b h.here same live

  fresh-small : (place : ℕ) (b : Block) → place ≡ place_in at i → IsLive s' place b → IsSmallOf caller at.seat.class b
  fresh-small place b same live = grind (arith, same, live, is-fresh)

  -- the given block is one of its superblock, and excepted
  fresh-tied :
      (place c : ℕ) (b : Block) → place ≡ place_in at i → IsLive s' place b → b.need ≡ Small c
      → (d : ℕ) × IsBlockOfDesc g s' l place c d × (IsExcepted g s' place ⊎ (s'.word (name.Arena place) ≡ 2 * d))
  fresh-tied place c b same live of =
      let classes : Small at.seat.class ≡ Small c = sym (fresh-small place b same live).need ∙ of in
      let class_same : at.seat.class ≡ c = cc in
      let frame : frame_of place ≡ at.frame = ap frame_of same ∙ frame_of-block_place at.frame at.seat.class i h.index in
      let hands : (holds_of (s'.errand caller).point).hands ≡ block_handed at i =
      ap (λ (o : ErrandFields). (holds_of o.point).hands) h.moves.here ∙ h.hands in
      let first : Handed = record { place = place_in at i; need = Small at.seat.class } in (
        at.desc,
        record {
          exists = h.site.desc;
          bound = subst IsTrue (sym (h.bounds at.desc)) h.bound;
          located =
              subst (λ c. IsLocated s' at.desc (frame_of place) c) class_same
              (subst (λ f. IsLocated s' at.desc f at.seat.class) (sym frame)
              (located-stays s s' at.desc at.frame at.seat.class (h.info at.desc) h.located));
        },
        inl (record {
          caller = (
            caller,
            h.in_heap,
            inl (subst (λ xs. Any (λ (x : Handed). x.place ≡ place) xs) (sym hands) (0, first, omega arith, refl, sym same)),
          );
        }),
      )

  -- the words still show the pool after a block is given
  pub given-tied : IsSoundWith g s l → IsTied g s' l
  given-tied old =
      small-but g s l l caller at.seat.class (λ place. place ≡ place_in at i) e s'
      (record {
        moves = h.moves;
        words = h.tie_words;
        either = λ place. cases_eq place (place_in at i);
        there = h.there;
        before = λ place b same live. absurd (not-live s (place_in at i) place b h.none same live);
        after = fresh-small;
        fresh = λ place k v b same live of.
            none-written (usable_words (need_of words)) k v
            (ap (λ (x : Block). slice_index_or x.contents k None) (is-fresh place b same live) ∙ of);
        small = fresh-tied;
        bound = λ place c b d ne live of. block-stays g s l s' l place c d (h.info d) (subst IsTrue (sym (h.bounds d)));
        excepts = λ place ne excepts. absurd (excepts-none (s.errand caller) place h.bare excepts);
        hands =
            subst (All (λ x. IsOwned s' caller x.place x.need)) (sym h.hands)
            (All-cons (λ x. IsOwned s' caller x.place x.need) (record { place = place_in at i; need = Small at.seat.class }) []
            (record { block = (fresh_block caller words (place_in at i), h.here, refl, h.small) })
            (All-nil (λ x. IsOwned s' caller x.place x.need)));
        frees = subst (All (λ x. IsOwned s' caller x.place x.need)) (sym h.frees) (All-nil (λ x. IsOwned s' caller x.place x.need));
      }) old.tied
