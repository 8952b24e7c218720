-- The words still show the pool after a step that leaves all blocks but one of its caller.
use Rattle.std.proofs.Common.{ℕ, zero, suc, Option, Some, None, ◌≡◌, ◌≢◌, ◌<◌, ◌+◌, ◌*◌, ◌^◌, [], ap, sym, subst, inl, inr, ◌∙◌, ◌⊎◌, ◌↔◌, All, Any, IsTrue, replicate}
use Rattle.std.proofs.Common.{slice_index_or, arith}
use Rattle.std.specs.Int.{bit_at}
use Rattle.std.proofs.lemmas.List.Elements.{All-nil}
use Rattle.std.proofs.lemmas.Option.{none-some}
use Rattle.sound_state.proofs.Common.{Geometry, Need, Small, block_count_of, block_place, frame_of, frame_of-block_place, block_at, pool_of, place-found, sound-of, Point}
use Rattle.sound_state.proofs.Common.{ErrandFields, State, Moves, holds_of, Lists, IsLocated, IsOwned, IsSoundWithoutCounts, info_for, IsTied, IsLive, is_bound, unit_place}
use Rattle.sound_state.proofs.Common.{Caller, IsPlaceFor, IsWellFormed, every-found, IsBlockOfDesc, IsExcepted, IsCovered}
use Rattle.heap_geometry.specs.declared.need.Need.TheVariants.{Large}
use Rattle.word_table.specs.declared.name.WordName.TheVariants as name
use Rattle.pool_model.specs.declared.owner.Owner.TheVariants.{Shelf}
use Rattle.pool_model.specs.Pool.{Block}
use Rattle.sound_state.proofs.shared.CallerLemmas.{each-other}

-- the block at the place is excepted by what this caller hands out or frees
abbrev pub Excepts : ErrandFields → ℕ → Type 0
Excepts e place =
    Any (λ b. b.place ≡ place) (holds_of e.point).hands
    ⊎ Any (λ b. (b.place ≡ place) × IsTrue b.overwritten) (holds_of e.point).frees

-- the prefix word at the place says what it does where nobody excepts the block
pub record IsSaidAt (g : Geometry) (s : State) (l : Lists) (place : ℕ) : Type 0 where
  pub small :
      (class d : ℕ) (b : Block) → IsLive s place b → b.need ≡ Small class → IsBlockOfDesc g s l place class d
      → s.word (name.Arena place) ≡ 2 * d
  pub large : (units : ℕ) (b : Block) → IsLive s place b → b.need ≡ Large units → s.word (name.Arena place) ≡ 2 * units + 1

-- one place has one live block at most
pub one-live : (s : State) (place p : ℕ) (a b : Block) → IsLive s place a → p ≡ place → IsLive s p b → a ≡ b
one-live s place p a b was same live =
    let one : Some a ≡ Some b = sym was ∙ ap (λ q. block_at q (pool_of s.history)) (sym same) ∙ live in cc

pub not-live : (s : State) (place p : ℕ) (b : Block) → block_at place (pool_of s.history) ≡ None → p ≡ place → IsLive s p b → ⊥
not-live s place p b none same live = none-some b (sym none ∙ ap (λ q. block_at q (pool_of s.history)) (sym same) ∙ live)

-- a live small block lies in its frame, with one of the indices of its class
pub small-lies :
    (g : Geometry) (s : State) (place class frame c : ℕ) (b : Block) → IsSoundWithoutCounts g s → IsLive s place b → b.need ≡ Small class
    → frame_of place ≡ frame → class ≡ c → (i : ℕ) × (i < block_count_of c) × (place ≡ block_place frame c i)
small-lies g s place class frame c b sound live of in_frame of_class =
    let formed : IsWellFormed g b = every-found (IsWellFormed g) place (pool_of s.history) b (sound-of g s.history sound.legal).each live in
    let lies : IsPlaceFor g (Small class) b.place = subst (λ (n : Need). IsPlaceFor g n b.place) of formed.place in
    let here : place ≡ block_place lies.0 class lies.1 = sym (place-found place (pool_of s.history) b live) ∙ lies.4 in
    let same : lies.0 ≡ frame = sym (ap frame_of here ∙ frame_of-block_place lies.0 class lies.1 lies.3) ∙ in_frame in (
      lies.1,
      subst (λ k. lies.1 < block_count_of k) of_class lies.3,
      here ∙ ap (λ f. block_place f class lies.1) same ∙ ap (λ k. block_place frame k lies.1) of_class,
    )

-- nothing is written in a fresh block
pub none-written : (n i v : ℕ) → slice_index_or (replicate n None) i None ≡ Some v → ⊥
none-written zero i v is = let bad : ◌≡◌ {A = Option ℕ} None (Some v) = is in cc
none-written (suc n) zero v is = let bad : ◌≡◌ {A = Option ℕ} None (Some v) = is in cc
none-written (suc n) (suc i) v is = none-written n i v is

-- a caller at the point hands out and frees nothing
pub record IsBareHanded (p : Point) : Type 0 where
  pub hands : (holds_of p).hands ≡ []
  pub frees : (holds_of p).frees ≡ []

-- a bare-handed caller excepts nothing
pub excepts-none : (e : ErrandFields) (place : ℕ) → IsBareHanded e.point → Excepts e place → ⊥
excepts-none e place bare is3 = grind (arith, bare, is3)

-- a bare-handed caller owns all that it hands out and frees
pub bare-owns :
    (s : State) (caller : ℕ) (p : Point) → IsBareHanded p
    → All (λ x. IsOwned s caller x.place x.need) (holds_of p).hands × All (λ x. IsOwned s caller x.place x.need) (holds_of p).frees
bare-owns s caller p bare = (
  subst (All (λ x. IsOwned s caller x.place x.need)) (sym bare.hands) (All-nil (λ x. IsOwned s caller x.place x.need)),
  subst (All (λ x. IsOwned s caller x.place x.need)) (sym bare.frees) (All-nil (λ x. IsOwned s caller x.place x.need)),
)

-- what is excepted stays so where the caller that steps excepts it still, or the prefix word says what it does
pub excepted-stays :
    (g : Geometry) (s : State) (l : Lists) (caller : ℕ) (e : ErrandFields) (s' : State) → Moves s.errand caller e s'.errand → (place : ℕ)
    → (Excepts (s.errand caller) place → Excepts e place ⊎ IsSaidAt g s l place) → IsExcepted g s place → IsExcepted g s' place ⊎ IsSaidAt g s l place
excepted-stays g s l caller e s' moves place mine x =
    elim (each-other g (λ j f. Excepts (s.errand j) place → Excepts f place ⊎ IsSaidAt g s l place) s.errand caller e s'.errand moves mine
    (λ j has differ same. inl same) x.caller.0 x.caller.1 x.caller.2) [
      | inl still ↦ inl (record { caller = (x.caller.0, x.caller.1, still) })
      | inr said ↦ inr said
    ]

-- what a prefix word says stays so too
pub tie-stays :
    (g : Geometry) (s : State) (l : Lists) (s' : State) (place w : ℕ) → (IsExcepted g s place → IsExcepted g s' place ⊎ IsSaidAt g s l place)
    → s'.word (name.Arena place) ≡ s.word (name.Arena place) → (IsSaidAt g s l place → s.word (name.Arena place) ≡ w)
    → IsExcepted g s place ⊎ (s.word (name.Arena place) ≡ w) → IsExcepted g s' place ⊎ (s'.word (name.Arena place) ≡ w)
tie-stays g s l s' place w excepted word says (inl x) = elim (excepted x) [ inl still ↦ inl still | inr said ↦ inr (word ∙ says said) ]
tie-stays g s l s' place w excepted word says (inr is) = inr (word ∙ is)

-- a superblock lies where it did where its info word says the same
pub located-stays : (s s' : State) (d f c : ℕ) → info_for s' d ≡ info_for s d → IsLocated s d f c → IsLocated s' d f c
located-stays s s' d f c same k = record { frame = ap (λ x. x.frame) same ∙ k.frame; class = ap (λ x. x.class) same ∙ k.class }

-- a block of a descriptor is one of it still where the superblock lies where it did and is still bound
pub block-stays :
    (g : Geometry) (s : State) (l : Lists) (s' : State) (l' : Lists) (place c d : ℕ) → info_for s' d ≡ info_for s d
    → (IsTrue (is_bound g s l d) → IsTrue (is_bound g s' l' d)) → IsBlockOfDesc g s l place c d → IsBlockOfDesc g s' l' place c d
block-stays g s l s' l' place c d info bound its = record {
  exists = its.exists;
  bound = bound its.bound;
  located = located-stays s s' d (frame_of place) c info its.located;
}

-- a caller that owned a block owns it where it is still live
pub owned-stays :
    (s s' : State) (i place : ℕ) (n : Need) → ((b : Block) → IsLive s place b → IsLive s' place b) → IsOwned s i place n → IsOwned s' i place n
owned-stays s s' i place n still k = record { block = (k.block.0, still k.block.0 k.block.1, k.block.2, k.block.3) }

-- a step leaves all blocks, and their prefix words, but where it changes blocks that its caller owns before and after
pub record TiesBut (g : Geometry) (s : State) (l l' : Lists) (caller : ℕ) (changes : ℕ → Type 0) (e : ErrandFields) (s' : State) : Type 0 where
  pub moves : Moves s.errand caller e s'.errand
  pub either : (place : ℕ) → changes place ⊎ (changes place → ⊥)
  pub there : (place : ℕ) → (changes place → ⊥) → block_at place (pool_of s'.history) ≡ block_at place (pool_of s.history)
  pub before : (place : ℕ) (b : Block) → changes place → IsLive s place b → b.owner ≡ Caller caller
  pub after : (place : ℕ) (b : Block) → changes place → IsLive s' place b → b.owner ≡ Caller caller
  pub arena : (place : ℕ) → (changes place → ⊥) → s'.word (name.Arena place) ≡ s.word (name.Arena place)
  pub shelf : (k : ℕ) → s'.word (name.Shelf k) ≡ s.word (name.Shelf k)
  pub small :
      (place c : ℕ) (b : Block) → changes place → IsLive s' place b → b.need ≡ Small c
      → (d : ℕ) × IsBlockOfDesc g s' l' place c d × (IsExcepted g s' place ⊎ (s'.word (name.Arena place) ≡ 2 * d))
  pub large :
      (place units : ℕ) (b : Block) → changes place → IsLive s' place b → b.need ≡ Large units
      → IsExcepted g s' place ⊎ (s'.word (name.Arena place) ≡ 2 * units + 1)
  pub bound :
      (place c : ℕ) (b : Block) (d : ℕ) → (changes place → ⊥) → IsLive s place b → b.need ≡ Small c → IsBlockOfDesc g s l place c d
      → IsBlockOfDesc g s' l' place c d
  pub units : (unit : ℕ) → unit < g.units → (bit_at (s'.word name.Units) unit ≡ 1) ↔ IsCovered g s' unit
  pub no_more_units : s'.word name.Units < 2 ^ g.units
  pub contents :
      (place i v : ℕ) (b : Block) → IsLive s' place b → slice_index_or b.contents i None ≡ Some v
      → s'.word (name.Arena (place + 1 + i)) ≡ v
  pub excepts : (place : ℕ) → (changes place → ⊥) → Excepts (s.errand caller) place → Excepts e place ⊎ IsSaidAt g s l place
  pub hands : All (λ x. IsOwned s' caller x.place x.need) (holds_of e.point).hands
  pub frees : All (λ x. IsOwned s' caller x.place x.need) (holds_of e.point).frees

no-shelf : (caller k : ℕ) (b : Block) → b.owner ≡ Caller caller → b.owner ≡ Shelf k → ⊥
no-shelf caller k b its of = let bad : Caller caller ≡ Shelf k = sym its ∙ of in absurd (cc)

-- the other callers still own their blocks after a step that changes only its caller's
others-own :
    (g : Geometry) (s : State) (l l' : Lists) (caller : ℕ) (changes : ℕ → Type 0) (e : ErrandFields) (s' : State)
    → TiesBut g s l l' caller changes e s' → (i place : ℕ) (n : Need) → i ≢ caller → IsOwned s i place n → IsOwned s' i place n
others-own g s l l' caller changes e s' h i place n differ k =
    let apart = λ (stands : changes place).
    let both : Caller i ≡ Caller caller = sym k.block.2 ∙ h.before place k.block.0 stands k.block.1 in
    differ (cc) in
    owned-stays s s' i place n (λ b live. h.there place apart ∙ live) k

-- the words still show the pool after such a step
pub ties-but :
    (g : Geometry) (s : State) (l l' : Lists) (caller : ℕ) (changes : ℕ → Type 0) (e : ErrandFields) (s' : State)
    → TiesBut g s l l' caller changes e s' → IsTied g s l → IsTied g s' l'
ties-but g s l l' caller changes e s' h tied =
    let was = λ (place : ℕ) (b : Block) (ne : changes place → ⊥) (live : IsLive s' place b). sym (h.there place ne) ∙ live in
    let stays = λ (place w : ℕ) (ne : changes place → ⊥).
    tie-stays g s l s' place w (excepted-stays g s l caller e s' h.moves place (h.excepts place ne)) (h.arena place ne) in
    record {
      small = λ place c b live of.
          elim (h.either place) [
            | inl stands ↦ h.small place c b stands live of
            | inr ne ↦
                let old = tied.small place c b (was place b ne live) of in (
                  old.0,
                  h.bound place c b old.0 ne (was place b ne live) of old.1,
                  stays place (2 * old.0) ne (λ said. said.small c old.0 b (was place b ne live) of old.1) old.2,
                )
          ];
      large = λ place units b live of.
          elim (h.either place) [
            | inl stands ↦ h.large place units b stands live of
            | inr ne ↦
                stays place (2 * units + 1) ne (λ said. said.large units b (was place b ne live) of)
                (tied.large place units b (was place b ne live) of)
          ];
      units = h.units;
      no_more_units = h.no_more_units;
      shelved = λ k place b has live of.
          let ne = λ (stands : changes place). no-shelf caller k b (h.after place b stands live) of in
          h.shelf k ∙ tied.shelved k place b has (was place b ne live) of;
      bare_shelf = λ k has none.
          h.shelf k
          ∙ tied.bare_shelf k has
          (λ place b live of.
          let ne = λ (stands : changes place). no-shelf caller k b (h.before place b stands live) of in none place b (h.there place ne ∙ live) of);
      contents = h.contents;
      hands =
          each-other g (λ i e. All (λ x. IsOwned s' i x.place x.need) (holds_of e.point).hands) s.errand caller e s'.errand h.moves h.hands
          (λ i has differ k d lt. others-own g s l l' caller changes e s' h i _ _ differ (tied.hands i has k d lt));
      frees =
          each-other g (λ i e. All (λ x. IsOwned s' i x.place x.need) (holds_of e.point).frees) s.errand caller e s'.errand h.moves h.frees
          (λ i has differ k d lt. others-own g s l l' caller changes e s' h i _ _ differ (tied.frees i has k d lt));
    }

-- the words that speak of blocks, which are prefix and usable words, units and shelves, stay
pub record TieWords (s s' : State) : Type 0 where
  pub arena : (place : ℕ) → s'.word (name.Arena place) ≡ s.word (name.Arena place)
  pub units : s'.word name.Units ≡ s.word name.Units
  pub shelf : (k : ℕ) → s'.word (name.Shelf k) ≡ s.word (name.Shelf k)

-- a small block of the class that the caller owns
pub record IsSmallOf (caller class : ℕ) (b : Block) : Type 0 where
  pub owner : b.owner ≡ Caller caller
  pub need : b.need ≡ Small class

-- a step leaves the words of blocks, and all blocks but where it changes a small one of its caller, in which nothing is written after it
pub record SmallBut (g : Geometry) (s : State) (l l' : Lists) (caller class : ℕ) (changes : ℕ → Type 0) (e : ErrandFields) (s' : State) : Type 0 where
  pub moves : Moves s.errand caller e s'.errand
  pub words : TieWords s s'
  pub either : (place : ℕ) → changes place ⊎ (changes place → ⊥)
  pub there : (place : ℕ) → (changes place → ⊥) → block_at place (pool_of s'.history) ≡ block_at place (pool_of s.history)
  pub before : (place : ℕ) (b : Block) → changes place → IsLive s place b → IsSmallOf caller class b
  pub after : (place : ℕ) (b : Block) → changes place → IsLive s' place b → IsSmallOf caller class b
  pub fresh : (place i v : ℕ) (b : Block) → changes place → IsLive s' place b → slice_index_or b.contents i None ≡ Some v → ⊥
  pub small :
      (place c : ℕ) (b : Block) → changes place → IsLive s' place b → b.need ≡ Small c
      → (d : ℕ) × IsBlockOfDesc g s' l' place c d × (IsExcepted g s' place ⊎ (s'.word (name.Arena place) ≡ 2 * d))
  pub bound :
      (place c : ℕ) (b : Block) (d : ℕ) → (changes place → ⊥) → IsLive s place b → b.need ≡ Small c → IsBlockOfDesc g s l place c d
      → IsBlockOfDesc g s' l' place c d
  pub excepts : (place : ℕ) → (changes place → ⊥) → Excepts (s.errand caller) place → Excepts e place ⊎ IsSaidAt g s l place
  pub hands : All (λ x. IsOwned s' caller x.place x.need) (holds_of e.point).hands
  pub frees : All (λ x. IsOwned s' caller x.place x.need) (holds_of e.point).frees

no-run : (caller class units : ℕ) (b : Block) → IsSmallOf caller class b → b.need ≡ Large units → ⊥
no-run caller class units b small of = let bad : Small class ≡ Large units = sym small.need ∙ of in absurd (cc)

-- the words still show the pool after such a step, too
pub small-but :
    (g : Geometry) (s : State) (l l' : Lists) (caller class : ℕ) (changes : ℕ → Type 0) (e : ErrandFields) (s' : State)
    → SmallBut g s l l' caller class changes e s' → IsTied g s l → IsTied g s' l'
small-but g s l l' caller class changes e s' h tied =
    ties-but g s l l' caller changes e s'
    (record {
      moves = h.moves;
      either = h.either;
      there = h.there;
      before = λ place b stands live. (h.before place b stands live).owner;
      after = λ place b stands live. (h.after place b stands live).owner;
      arena = λ place ne. h.words.arena place;
      shelf = h.words.shelf;
      small = h.small;
      large = λ place units b stands live of. absurd (no-run caller class units b (h.after place b stands live) of);
      bound = h.bound;
      units = λ unit has.
          let old = tied.units unit has in (
            λ bit.
                let c = old.0 (ap (λ w. bit_at w unit) (sym h.words.units) ∙ bit) in
                let place : ℕ = unit_place g.frames c.1 in
                let ne = λ (stands : changes place). no-run caller class c.2 c.0 (h.before place c.0 stands c.3) c.4 in
                (c.0, c.1, c.2, h.there place ne ∙ c.3, c.4, c.5, c.6),
            λ c.
                let place : ℕ = unit_place g.frames c.1 in
                let ne = λ (stands : changes place). no-run caller class c.2 c.0 (h.after place c.0 stands c.3) c.4 in
                ap (λ w. bit_at w unit) h.words.units ∙ old.1 (c.0, c.1, c.2, sym (h.there place ne) ∙ c.3, c.4, c.5, c.6),
          );
      no_more_units = subst (λ w. w < 2 ^ g.units) (sym h.words.units) tied.no_more_units;
      contents = λ place i v b live of.
          let ne = λ (stands : changes place). h.fresh place i v b stands live of in
          h.words.arena (place + 1 + i) ∙ tied.contents place i v b (sym (h.there place ne) ∙ live) of;
      excepts = h.excepts;
      hands = h.hands;
      frees = h.frees;
    }) tied

-- the words still show the pool after a step that changes no block
pub blocks-stay :
    (g : Geometry) (s : State) (l l' : Lists) (caller : ℕ) (e : ErrandFields) (s' : State) → Moves s.errand caller e s'.errand → TieWords s s'
    → pool_of s'.history ≡ pool_of s.history
    → ((place c : ℕ) (b : Block) (d : ℕ) → IsLive s place b → b.need ≡ Small c → IsBlockOfDesc g s l place c d → IsBlockOfDesc g s' l' place c d)
    → ((place : ℕ) → Excepts (s.errand caller) place → Excepts e place ⊎ IsSaidAt g s l place)
    → All (λ x. IsOwned s' caller x.place x.need) (holds_of e.point).hands → All (λ x. IsOwned s' caller x.place x.need) (holds_of e.point).frees
    → IsTied g s l → IsTied g s' l'
blocks-stay g s l l' caller e s' moves words pool bound excepts hands frees tied =
    small-but g s l l' caller 0 (λ place. ⊥) e s'
    (record {
      moves = moves;
      words = words;
      either = λ place. inr (λ changed. changed);
      there = λ place ne. ap (block_at place) pool;
      before = λ place b changed live. absurd changed;
      after = λ place b changed live. absurd changed;
      fresh = λ place i v b changed live of. absurd changed;
      small = λ place c b changed live of. absurd changed;
      bound = λ place c b d ne. bound place c b d;
      excepts = λ place ne. excepts place;
      hands = hands;
      frees = frees;
    }) tied
