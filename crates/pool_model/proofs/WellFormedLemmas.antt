-- Every live block of a legal history is well formed, and each two are separate.
use Rattle.std.proofs.Common.{ℕ, ◌≡◌, ◌≢◌, ◌+◌, ◌*◌, ◌<◌, ◌≤◌, ◌↔◌, List, [], ◌∷◌, Some, None, refl, sym, ◌∙◌, ap, subst, inl, inr, arith, length-set}
use Rattle.std.proofs.lemmas.List.{length-replicate}
use Rattle.std.proofs.lemmas.Nat.{pow_pos}
use Rattle.heap_geometry.specs.declared.geometry.Geometry.{Geometry}
use Rattle.heap_geometry.specs.declared.limits.TheConstants.{UNIT_WORDS}
use Rattle.heap_geometry.specs.declared.need.Need.{Need}
use Rattle.heap_geometry.specs.declared.need.Need.TheVariants.{Small, Large, TooLarge}
use Rattle.heap_geometry.specs.Need.{IsNeed, need_of, usable_words, block_words_of}
use Rattle.heap_geometry.specs.Place.{Span, IsApart, unit_place, frame_of, block_span, run_span}
use Rattle.heap_geometry.proofs.PlaceLemmas.{frame_of-block_place}
use Rattle.pool_model.specs.declared.owner.Owner.{Owner}
use Rattle.pool_model.specs.declared.owner.Owner.TheVariants.{Caller, Shelf}
use Rattle.pool_model.specs.declared.event.Event.{Event}
use Rattle.pool_model.specs.declared.event.Event.TheVariants.{Alloc, Looked, Refuse, Free, Write, Put, Take, TakeNone}
use Rattle.pool_model.specs.Histories.{caller_of}
use Rattle.pool_model.specs.Pool.{Block, Pool, block_at, EachBlock, span_of, fresh_block, written, handed_to, with_changed, pool_after, pool_of}
use Rattle.pool_model.specs.Legal.{IsFree, IsAllowed, IsLegalEventWithoutCounts, IsLegalWithoutCounts}
use Rattle.pool_model.specs.WellFormed.{IsOwner, IsPlaceFor, IsWellFormed, IsSeparate}
use Rattle.pool_model.proofs.PoolLemmas.{Every, Pairs, Differ, every-found, every-map, every-both, pairs-map, pairs-found, block_at-here, block_at-past, each-every, every-without, pairs-without, every-changed, pairs-changed}
use Rattle.pool_model.proofs.HistoryLemmas.{kept, pool_of-push}
use Rattle.pool_model.proofs.NeedOfLemmas.{need_of-within}

-- a pool is sound: each block is well-formed, and each two are separate
pub record IsSoundPool (g : Geometry) (pool : Pool) : Type 0 where
  pub each : Every (IsWellFormed g) pool
  pub pairs : Pairs IsSeparate pool

-- spans without a common word begin at different words
pub apart-differ : (a b : Span) → 1 ≤ a.words → 1 ≤ b.words → IsApart a b → a.first ≢ b.first
apart-differ a b one two apart same = elim apart [ inl h ↦ omega arith | inr h ↦ omega arith ]

pub separate-differ : (a b : Block) → IsSeparate a b → Differ a b
separate-differ a b h = apart-differ (span_of a) (span_of b) (omega arith) (omega arith) h.apart

pub sound-differ : (g : Geometry) (pool : Pool) → IsSoundPool g pool → Pairs Differ pool
sound-differ g pool sound = pairs-map IsSeparate Differ pool separate-differ sound.pairs

-- a block's span is the one that its place and its need name
pub class_span : (class : ℕ) → 1 + usable_words (Small class) ≡ block_words_of class
class_span class = omega (arith, pow_pos (class + 1))

pub run_span_words : (units : ℕ) → IsNeed (Large units) → 1 + usable_words (Large units) ≡ UNIT_WORDS * units
run_span_words units is = omega (arith, is.0)

pub apart-same : (a b c : Span) → b.first ≡ a.first → b.words ≡ a.words → IsApart a c → IsApart b c
apart-same a b c first words apart = elim apart [ inl h ↦ inl (omega arith) | inr h ↦ inr (omega arith) ]

-- the words of a block at a free place meet no live block
pub free-apart :
    (g : Geometry) (pool : Pool) (n : Need) (block : Block) → block.need ≡ n → IsNeed n → IsFree g pool n block.place
    → EachBlock (λ other. IsApart (span_of block) (span_of other)) pool
free-apart g pool (Small class) block need within free place other found =
    let words : 1 + usable_words block.need ≡ block_words_of class = rw need (class_span class) in
    apart-same (block_span free.frame class free.index) (span_of block) (span_of other) free.is_place words
    (free.clear place other found)
free-apart g pool (Large units) block need within free place other found =
    let words : 1 + usable_words block.need ≡ UNIT_WORDS * units = rw need (run_span_words units within) in
    apart-same (run_span g.frames free.unit units) (span_of block) (span_of other) free.is_place words
    (free.clear place other found)
free-apart g pool TooLarge block need within free place other found = absurd free

-- a place where a block can be given is one of the heap's places for the need
pub free-place : (g : Geometry) (pool : Pool) (n : Need) (place : ℕ) → IsFree g pool n place → IsPlaceFor g n place
free-place g pool (Small class) place free = (free.frame, free.index, free.in_heap, free.in_frame, free.is_place)
free-place g pool (Large units) place free = (free.unit, free.in_heap, free.is_place)
free-place g pool TooLarge place free = free

-- a small block lies in a frame of the heap, and a run behind all frames
pub small-frame : (g : Geometry) (n : Need) (class place : ℕ) → n ≡ Small class → IsPlaceFor g n place → frame_of place < g.frames
small-frame g n class place small at =
    let placed : IsPlaceFor g (Small class) place = subst (λ (m : Need). IsPlaceFor g m place) small at in
    let same : frame_of place ≡ placed.0 =
    ap frame_of placed.4 ∙ frame_of-block_place placed.0 class placed.1 placed.3 in
    omega arith

pub large-frame : (g : Geometry) (n : Need) (units place : ℕ) → n ≡ Large units → IsPlaceFor g n place → g.frames ≤ frame_of place
large-frame g n units place large at =
    let placed : IsPlaceFor g (Large units) place = subst (λ (m : Need). IsPlaceFor g m place) large at in
    let is : place ≡ unit_place g.frames placed.0 = placed.2 in omega arith

-- a block at a free place is of the class of its frame
pub free-classes :
    (g : Geometry) (pool : Pool) (n : Need) (block other : Block) → block.need ≡ n → IsFree g pool n block.place
    → IsWellFormed g other → (place : ℕ) → block_at place pool ≡ Some other
    → (class : ℕ) → frame_of block.place ≡ frame_of other.place → (block.need ≡ Small class) ↔ (other.need ≡ Small class)
free-classes g pool (Small own) block other need free formed place found class same =
    let here : frame_of block.place ≡ free.frame =
    ap frame_of free.is_place ∙ frame_of-block_place free.frame own free.index free.in_frame in
    let holds : other.need ≡ Small own = free.same_class place other found (sym same ∙ here) in
    (λ h. let e : Small own ≡ Small class = sym need ∙ h in holds ∙ e, λ h. let e : Small own ≡ Small class = sym holds ∙ h in need ∙ e)
free-classes g pool (Large units) block other need free formed place found class same =
    let behind : g.frames ≤ frame_of block.place =
    large-frame g (Large units) units block.place refl (free.unit, free.in_heap, free.is_place) in (
      λ h. absurd (let e : Large units ≡ Small class = sym need ∙ h in cc),
      λ h. absurd (let below : frame_of other.place < g.frames = small-frame g other.need class other.place h formed.place in omega arith),
    )
free-classes g pool TooLarge block other need free formed place found class same = absurd free

pub fresh-separate :
    (g : Geometry) (pool : Pool) (caller need place : ℕ) → IsFree g pool (need_of need) place → IsSoundPool g pool
    → Every (IsSeparate (fresh_block caller need place)) pool
fresh-separate g pool caller need place free sound =
    let block : Block = fresh_block caller need place in
    each-every (IsSeparate (fresh_block caller need place)) pool (sound-differ g pool sound)
    (λ at other found. record {
      apart = free-apart g pool (need_of need) (fresh_block caller need place) refl (need_of-within need) free at other found;
      shelves = λ shelf h. absurd (let e : Caller caller ≡ Shelf shelf = h in cc);
      classes =
          free-classes g pool (need_of need) (fresh_block caller need place) other refl free
          (every-found (IsWellFormed g) at pool other sound.each found) at found;
    })

pub fresh-formed :
    (g : Geometry) (pool : Pool) (caller need place : ℕ) → caller < g.callers → IsFree g pool (need_of need) place
    → IsWellFormed g (fresh_block caller need place)
fresh-formed g pool caller need place below free =
    record {
      need = need_of-within need;
      place = free-place g pool (need_of need) place free;
      owner = below;
      full = length-replicate (usable_words (need_of need)) None;
    }

-- a write into a block keeps a pool sound, and a well-formed block stays so with another owner
pub written-sound :
    (g : Geometry) (pool : Pool) (place i v : ℕ) → IsSoundPool g pool → IsSoundPool g (with_changed place (written i v) pool)
written-sound g pool place i v sound =
    record {
      each =
          every-changed (IsWellFormed g) (IsWellFormed g) place (written i v) pool
          (λ block h. record { need = h.need; place = h.place; owner = h.owner; full = length-set block.contents i (Some v) ∙ h.full })
          (λ block h. h) sound.each;
      pairs =
          pairs-changed IsSeparate (IsWellFormed g) place (written i v) pool
          (λ a b p h. record { apart = h.apart; shelves = h.shelves; classes = h.classes })
          (λ a b p h. record { apart = h.apart; shelves = h.shelves; classes = h.classes }) sound.each sound.pairs;
    }

pub handed-formed : (g : Geometry) (owner : Owner) (block : Block) → IsOwner g owner → IsWellFormed g block → IsWellFormed g (handed_to owner block)
handed-formed g owner block new h = record { need = h.need; place = h.place; owner = new; full = h.full }

-- no block lies on a shelf that the owner is, said block by block
none-on :
    (pool : Pool) (owner : Owner) → ((shelf : ℕ) → owner ≡ Shelf shelf → Every (λ block. block.owner ≢ Shelf shelf) pool)
    → Every (λ block. (shelf : ℕ) → owner ≡ Shelf shelf → block.owner ≢ Shelf shelf) pool
none-on [] owner free = tt
none-on (block ∷ pool) owner free = (λ shelf e. (free shelf e).0, none-on pool owner (λ shelf e. (free shelf e).1))

-- a block handed to an owner that is no shelf, or a shelf that no block lies on, leaves the pool sound
pub handed-sound :
    (g : Geometry) (pool : Pool) (place : ℕ) (owner : Owner) → IsOwner g owner
    → ((shelf : ℕ) → owner ≡ Shelf shelf → Every (λ block. block.owner ≢ Shelf shelf) pool) → IsSoundPool g pool
    → IsSoundPool g (with_changed place (handed_to owner) pool)
handed-sound g pool place owner is free sound =
    record {
      each =
          every-changed (IsWellFormed g) (IsWellFormed g) place (handed_to owner) pool (λ block h. handed-formed g owner block is h)
          (λ block h. h) sound.each;
      pairs =
          pairs-changed IsSeparate (λ block. (shelf : ℕ) → owner ≡ Shelf shelf → block.owner ≢ Shelf shelf) place (handed_to owner) pool
          (λ a b p h. record { apart = h.apart; shelves = p; classes = h.classes })
          (λ a b p h. record { apart = h.apart; shelves = λ shelf e new. p shelf new e; classes = h.classes })
          (none-on pool owner free) sound.pairs;
    }

-- an allowed event keeps a pool sound
pub sound-after :
    (g : Geometry) (before : List Event) (event : Event) → caller_of event < g.callers → IsAllowed g before event
    → IsSoundPool g (pool_of before) → IsSoundPool g (pool_after (pool_of before) event)
sound-after g before (Alloc caller need place) below free sound =
    record {
      each = (fresh-formed g (pool_of before) caller need place below free, sound.each);
      pairs = (fresh-separate g (pool_of before) caller need place free sound, sound.pairs);
    }
sound-after g before (Looked caller class) below allowed sound = sound
sound-after g before (Refuse caller need) below allowed sound = sound
sound-after g before (Free caller place) below allowed sound =
    record {
      each = every-without (IsWellFormed g) place (pool_of before) sound.each;
      pairs = pairs-without IsSeparate place (pool_of before) sound.pairs;
    }
sound-after g before (Write caller place i v) below allowed sound = written-sound g (pool_of before) place i v sound
sound-after g before (Put caller place shelf) below allowed sound =
    handed-sound g (pool_of before) place (Shelf shelf) allowed.1
    (λ other e. each-every (λ block. block.owner ≢ Shelf other) (pool_of before) (sound-differ g (pool_of before) sound)
    (λ at block found on. allowed.2 at block found (on ∙ sym e))) sound
sound-after g before (Take caller shelf place) below allowed sound =
    handed-sound g (pool_of before) place (Caller caller) below (λ other e. absurd (cc)) sound
sound-after g before (TakeNone caller shelf) below allowed sound = sound

pub sound-of : (g : Geometry) (history : List Event) → IsLegalWithoutCounts g history → IsSoundPool g (pool_of history)
sound-of g history legal =
    kept (IsLegalEventWithoutCounts g) (λ h. IsSoundPool g (pool_of h)) history
    (λ before event h sound. rw (pool_of-push before event) (sound-after g before event h.0 h.1 sound)) legal
    (record { each = tt; pairs = tt })

pub separate-turn : (a b : Block) → IsSeparate a b → IsSeparate b a
separate-turn a b h =
    record {
      apart = elim h.apart [ inl before ↦ inr before | inr after ↦ inl after ];
      shelves = λ shelf b_on a_on. h.shelves shelf a_on b_on;
      classes = λ class same. let both = h.classes class (sym same) in (both.1, both.0);
    }

pub separate-found :
    (g : Geometry) (pool : Pool) → IsSoundPool g pool → (p q : ℕ) (a b : Block) → block_at p pool ≡ Some a
    → block_at q pool ≡ Some b → p ≢ q → IsSeparate a b
separate-found g pool sound = pairs-found IsSeparate pool separate-turn sound.pairs

-- each block of the list is the one that a look-up finds
pub found-itself : (pool : Pool) → Pairs Differ pool → Every (λ block. block_at block.place pool ≡ Some block) pool
found-itself [] differ = tt
found-itself (block ∷ pool) differ = (
  block_at-here block.place block pool refl,
  every-map (λ other. Differ block other × (block_at other.place pool ≡ Some other))
      (λ other. block_at other.place (block ∷ pool) ≡ Some other) pool
      (λ other h. block_at-past other.place block pool h.0 ∙ h.1)
      (every-both (Differ block) (λ other. block_at other.place pool ≡ Some other) pool differ.0 (found-itself pool differ.1)),
)
