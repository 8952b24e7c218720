-- What is put on a shelf is what was taken off it, and then what lies there.
use Rattle.std.proofs.Common.{ℕ, true, false, Bool, ◌≡◌, ◌≢◌, ◌≤◌, List, [], ◌∷◌, ◌++◌, length, Some, refl, sym, ◌∙◌, ap, subst, inl, inr, eq-eqb, ne_eqb, eqb-true, append_assoc, append-nil, arith, true≢false}
use Rattle.std.specs.Prelude.{if◌then◌else◌}
use Rattle.std.proofs.lemmas.Bool.{cases_eq, cases_Bool}
use Rattle.heap_geometry.specs.declared.geometry.Geometry.{Geometry}
use Rattle.pool_model.specs.declared.owner.Owner.{Owner}
use Rattle.pool_model.specs.declared.owner.Owner.TheVariants.{Caller, Shelf}
use Rattle.pool_model.specs.declared.event.Event.{Event}
use Rattle.pool_model.specs.declared.event.Event.TheVariants.{Alloc, Looked, Refuse, Free, Write, Put, Take, TakeNone}
use Rattle.pool_model.specs.Pool.{Block, Pool, block_at, fresh_block, written, handed_to, pool_after, pool_from, pool_of, with_changed, without}
use Rattle.pool_model.specs.Legal.{IsAllowed, IsLegalWithoutCounts, IsLegalEventWithoutCounts}
use Rattle.pool_model.specs.WellFormed.{IsSeparate}
use Rattle.pool_model.proofs.PoolLemmas.{Every, Pairs, every-found, every-map, each-every, block_at-here, block_at-past}
use Rattle.pool_model.proofs.HistoryLemmas.{kept, pool_of-push}
use Rattle.pool_model.proofs.WellFormedLemmas.{IsSoundPool, sound-after, sound-differ, sound-of}
use Rattle.pool_model.specs.Parcels.{Parcel, handed, is_put_on, is_shelf, is_take_off, lying_on, parcel_of, parcels, parcels_from, parcels_in, puts_on, takes_off}

-- the parcels of two lists of events joined: those of the first, and those of the second from the pool after it
pub from-append :
    (chosen : Event → Bool) (pool : Pool) (events more : List Event)
    → parcels_from chosen pool (events ++ more) ≡ parcels_from chosen pool events ++ parcels_from chosen (pool_from pool events) more
from-append chosen pool [] more = refl
from-append chosen pool (event ∷ events) more =
    let first : List Parcel = if chosen event then handed pool event else [] in
    ap (λ (l : List Parcel). first ++ l) (from-append chosen (pool_after pool event) events more)
    ∙ sym (append_assoc first (parcels_from chosen (pool_after pool event) events) (parcels_from chosen (pool_from (pool_after pool event) events) more))

pub push :
    (chosen : Event → Bool) (history : List Event) (event : Event)
    → parcels chosen (history ++ event ∷ []) ≡ parcels chosen history ++ (if chosen event then handed (pool_of history) event else [])
push chosen history event =
    from-append chosen [] history (event ∷ [])
    ∙ ap (λ (l : List Parcel). parcels chosen history ++ l) (append-nil (if chosen event then handed (pool_of history) event else []))

pub push-skip :
    (chosen : Event → Bool) (history : List Event) (event : Event) → chosen event ≡ false
    → parcels chosen (history ++ event ∷ []) ≡ parcels chosen history
push-skip chosen history event off =
    push chosen history event
    ∙ ap (λ (b : Bool). parcels chosen history ++ (if b then handed (pool_of history) event else [])) off ∙ append-nil (parcels chosen history)

pub push-add :
    (chosen : Event → Bool) (history : List Event) (event : Event) → chosen event ≡ true
    → parcels chosen (history ++ event ∷ []) ≡ parcels chosen history ++ handed (pool_of history) event
push-add chosen history event on =
    push chosen history event ∙ ap (λ (b : Bool). parcels chosen history ++ (if b then handed (pool_of history) event else [])) on

-- the owner that is a shelf passes the test for that shelf, and no other owner does
pub shelf-off : (shelf : ℕ) (owner : Owner) → owner ≢ Shelf shelf → is_shelf shelf owner ≡ false
shelf-off shelf (Caller caller) ne = refl
shelf-off shelf (Shelf at) ne = ne_eqb at shelf (λ e. ne (ap Shelf e))

pub shelf-on : (shelf : ℕ) (owner : Owner) → owner ≡ Shelf shelf → is_shelf shelf owner ≡ true
shelf-on shelf (Caller caller) is = let e : Caller caller ≡ Shelf shelf = is in absurd (cc)
shelf-on shelf (Shelf at) is = eq-eqb at shelf (let e : Shelf at ≡ Shelf shelf = is in cc)

pub shelf-is : (shelf : ℕ) (owner : Owner) → is_shelf shelf owner ≡ true → owner ≡ Shelf shelf
shelf-is shelf (Caller caller) is = absurd (true≢false (sym is))
shelf-is shelf (Shelf at) is = ap Shelf (eqb-true at shelf is)

-- what lies on a shelf, by whether the first block of the pool lies there
pub lying-off : (shelf : ℕ) (block : Block) (pool : Pool) → block.owner ≢ Shelf shelf → lying_on shelf (block ∷ pool) ≡ lying_on shelf pool
lying-off shelf block pool off = rw (shelf-off shelf block.owner off) refl

pub lying-here :
    (shelf : ℕ) (block : Block) (pool : Pool) → block.owner ≡ Shelf shelf → lying_on shelf (block ∷ pool) ≡ parcel_of block ∷ lying_on shelf pool
lying-here shelf block pool on = rw (shelf-on shelf block.owner on) refl

pub lying-more :
    (shelf : ℕ) (block : Block) (pool new : Pool) → lying_on shelf new ≡ lying_on shelf pool
    → lying_on shelf (block ∷ new) ≡ lying_on shelf (block ∷ pool)
lying-more shelf block pool new same = ap (λ (l : List Parcel). if is_shelf shelf block.owner then parcel_of block ∷ l else l) same

pub lying-none : (shelf : ℕ) (pool : Pool) → Every (λ block. block.owner ≢ Shelf shelf) pool → lying_on shelf pool ≡ []
lying-none shelf [] every = refl
lying-none shelf (block ∷ pool) every = lying-off shelf block pool every.0 ∙ lying-none shelf pool every.1

-- the block that is found at the place of a pool's first block is that first one
first-is : (place : ℕ) (first block : Block) (pool : Pool) → first.place ≡ place → block_at place (first ∷ pool) ≡ Some block → first ≡ block
first-is place first block pool here found =
    let e : block_at place (first ∷ pool) ≡ Some first = block_at-here place first pool here in cc

later-is : (place : ℕ) (first block : Block) (pool : Pool) → first.place ≢ place → block_at place (first ∷ pool) ≡ Some block → block_at place pool ≡ Some block
later-is place first block pool past found = sym (block_at-past place first pool past) ∙ found

-- a change of a block that lies not on a shelf, before or after, leaves what lies there
pub lying-changed :
    (shelf place : ℕ) (change : Block → Block) (pool : Pool) (block : Block) → block_at place pool ≡ Some block → block.owner ≢ Shelf shelf
    → (change block).owner ≢ Shelf shelf → lying_on shelf (with_changed place change pool) ≡ lying_on shelf pool
lying-changed shelf place change [] block found before after = refl
lying-changed shelf place change (first ∷ pool) block found before after =
    elim (cases_eq first.place place) [
      | inl here ↦
          let same : first ≡ block = first-is place first block pool here found in
          rw (eq-eqb first.place place here)
          (lying-off shelf (change first) pool (subst (λ (b : Block). (change b).owner ≢ Shelf shelf) (sym same) after)
          ∙ sym (lying-off shelf first pool (subst (λ (b : Block). b.owner ≢ Shelf shelf) (sym same) before)))
      | inr past ↦
          rw (ne_eqb first.place place past)
          (lying-more shelf first pool (with_changed place change pool)
          (lying-changed shelf place change pool block (later-is place first block pool past found) before after))
    ]

-- the pool without a block that lies not on a shelf has the same blocks on that shelf
pub lying-without :
    (shelf place : ℕ) (pool : Pool) (block : Block) → block_at place pool ≡ Some block → block.owner ≢ Shelf shelf
    → lying_on shelf (without place pool) ≡ lying_on shelf pool
lying-without shelf place [] block found off = refl
lying-without shelf place (first ∷ pool) block found off =
    elim (cases_eq first.place place) [
      | inl here ↦
          let same : first ≡ block = first-is place first block pool here found in
          rw (eq-eqb first.place place here) (sym (lying-off shelf first pool (subst (λ (b : Block). b.owner ≢ Shelf shelf) (sym same) off)))
      | inr past ↦
          rw (ne_eqb first.place place past)
          (lying-more shelf first pool (without place pool) (lying-without shelf place pool block (later-is place first block pool past found) off))
    ]

-- a block that is put on a shelf where none lies is all that lies there
pub lying-put :
    (shelf place : ℕ) (pool : Pool) (block : Block) → Every (λ b. b.owner ≢ Shelf shelf) pool → block_at place pool ≡ Some block
    → lying_on shelf (with_changed place (handed_to (Shelf shelf)) pool) ≡ parcel_of block ∷ []
lying-put shelf place [] block every found = absurd (cc)
lying-put shelf place (first ∷ pool) block every found =
    elim (cases_eq first.place place) [
      | inl here ↦
          let same : first ≡ block = first-is place first block pool here found in
          rw (eq-eqb first.place place here)
          (lying-here shelf (handed_to (Shelf shelf) first) pool refl
          ∙ ap (λ (l : List Parcel). parcel_of first ∷ l) (lying-none shelf pool every.1) ∙ ap (λ (b : Block). parcel_of b ∷ []) same)
      | inr past ↦
          rw (ne_eqb first.place place past)
          (lying-off shelf first (with_changed place (handed_to (Shelf shelf)) pool) every.0
          ∙ lying-put shelf place pool block every.1 (later-is place first block pool past found))
    ]

-- no block that is separate from a block on a shelf lies on that shelf
alone : (shelf : ℕ) (block : Block) (pool : Pool) → Every (IsSeparate block) pool → block.owner ≡ Shelf shelf → Every (λ b. b.owner ≢ Shelf shelf) pool
alone shelf block pool every on = every-map (IsSeparate block) (λ b. b.owner ≢ Shelf shelf) pool (λ b separate. separate.shelves shelf on) every

before-off :
    (shelf place : ℕ) (first block : Block) (pool : Pool) → Every (IsSeparate first) pool → block_at place pool ≡ Some block
    → block.owner ≡ Shelf shelf → first.owner ≢ Shelf shelf
before-off shelf place first block pool every found on off =
    (every-found (IsSeparate first) place pool block every found).shelves shelf off on

pub lying-at :
    (shelf place : ℕ) (pool : Pool) (block : Block) → Pairs IsSeparate pool → block_at place pool ≡ Some block → block.owner ≡ Shelf shelf
    → lying_on shelf pool ≡ parcel_of block ∷ []
lying-at shelf place [] block pairs found on = absurd (cc)
lying-at shelf place (first ∷ pool) block pairs found on =
    elim (cases_eq first.place place) [
      | inl here ↦
          let same : first ≡ block = first-is place first block pool here found in
          let on_first : first.owner ≡ Shelf shelf = ap (λ (b : Block). b.owner) same ∙ on in
          lying-here shelf first pool on_first
          ∙ ap (λ (l : List Parcel). parcel_of first ∷ l) (lying-none shelf pool (alone shelf first pool pairs.0 on_first))
          ∙ ap (λ (b : Block). parcel_of b ∷ []) same
      | inr past ↦
          let found_later = later-is place first block pool past found in
          lying-off shelf first pool (before-off shelf place first block pool pairs.0 found_later on)
          ∙ lying-at shelf place pool block pairs.1 found_later on
    ]

-- nothing lies on a shelf after the block there is taken
pub lying-taken :
    (shelf place caller : ℕ) (pool : Pool) (block : Block) → Pairs IsSeparate pool → block_at place pool ≡ Some block
    → block.owner ≡ Shelf shelf → lying_on shelf (with_changed place (handed_to (Caller caller)) pool) ≡ []
lying-taken shelf place caller [] block pairs found on = refl
lying-taken shelf place caller (first ∷ pool) block pairs found on =
    elim (cases_eq first.place place) [
      | inl here ↦
          let same : first ≡ block = first-is place first block pool here found in
          let on_first : first.owner ≡ Shelf shelf = ap (λ (b : Block). b.owner) same ∙ on in
          rw (eq-eqb first.place place here)
          (lying-off shelf (handed_to (Caller caller) first) pool (λ e. let s : Caller caller ≡ Shelf shelf = e in absurd (cc))
          ∙ lying-none shelf pool (alone shelf first pool pairs.0 on_first))
      | inr past ↦
          let found_later = later-is place first block pool past found in
          rw (ne_eqb first.place place past)
          (lying-off shelf first (with_changed place (handed_to (Caller caller)) pool) (before-off shelf place first block pool pairs.0 found_later on)
          ∙ lying-taken shelf place caller pool block pairs.1 found_later on)
    ]

-- at most one block lies on a shelf
pub lying-few : (shelf : ℕ) (pool : Pool) → Pairs IsSeparate pool → length (lying_on shelf pool) ≤ 1
lying-few shelf [] pairs = omega arith
lying-few shelf (block ∷ pool) pairs =
    elim (cases_Bool (is_shelf shelf block.owner)) [
      | inl on ↦
          let is : lying_on shelf (block ∷ pool) ≡ parcel_of block ∷ [] =
          lying-here shelf block pool (shelf-is shelf block.owner on)
          ∙ ap (λ (l : List Parcel). parcel_of block ∷ l) (lying-none shelf pool (alone shelf block pool pairs.0 (shelf-is shelf block.owner on))) in
          subst (λ (l : List Parcel). length l ≤ 1) (sym is) (omega arith)
      | inr off ↦
          let is : lying_on shelf (block ∷ pool) ≡ lying_on shelf pool = rw off refl in
          subst (λ (l : List Parcel). length l ≤ 1) (sym is) (lying-few shelf pool pairs.1)
    ]

-- a shelf is in order: what was put on it is what was taken off it, and then what lies there
abbrev pub InOrder : ℕ → List Event → Pool → Type 0
InOrder shelf history pool = puts_on shelf history ≡ takes_off shelf history ++ lying_on shelf pool

-- an event that neither puts on a shelf nor takes from it, and leaves what lies there, keeps the shelf in order
still :
    (shelf : ℕ) (before : List Event) (event : Event) (new : Pool) → is_put_on shelf event ≡ false → is_take_off shelf event ≡ false
    → lying_on shelf new ≡ lying_on shelf (pool_of before) → InOrder shelf before (pool_of before) → InOrder shelf (before ++ event ∷ []) new
still shelf before event new put take lies is =
    push-skip (is_put_on shelf) before event put ∙ is
    ∙ ap (λ (l : List Parcel). l ++ lying_on shelf (pool_of before)) (sym (push-skip (is_take_off shelf) before event take))
    ∙ ap (λ (l : List Parcel). takes_off shelf (before ++ event ∷ []) ++ l) (sym lies)

-- a put on a shelf, and a take from a shelf, keep the shelf in order
put-on :
    (shelf : ℕ) (before : List Event) (event : Event) (new : Pool) (parcel : Parcel) → is_put_on shelf event ≡ true → is_take_off shelf event ≡ false
    → handed (pool_of before) event ≡ parcel ∷ [] → lying_on shelf (pool_of before) ≡ [] → lying_on shelf new ≡ parcel ∷ []
    → InOrder shelf before (pool_of before) → InOrder shelf (before ++ event ∷ []) new
put-on shelf before event new parcel put take is_handed lay lies is =
    push-add (is_put_on shelf) before event put ∙ ap (λ (l : List Parcel). puts_on shelf before ++ l) is_handed
    ∙ ap (λ (l : List Parcel). l ++ parcel ∷ []) (is ∙ ap (λ (l : List Parcel). takes_off shelf before ++ l) lay ∙ append-nil (takes_off shelf before))
    ∙ ap (λ (l : List Parcel). l ++ parcel ∷ []) (sym (push-skip (is_take_off shelf) before event take))
    ∙ ap (λ (l : List Parcel). takes_off shelf (before ++ event ∷ []) ++ l) (sym lies)

take-off :
    (shelf : ℕ) (before : List Event) (event : Event) (new : Pool) (parcel : Parcel) → is_put_on shelf event ≡ false → is_take_off shelf event ≡ true
    → handed (pool_of before) event ≡ parcel ∷ [] → lying_on shelf (pool_of before) ≡ parcel ∷ [] → lying_on shelf new ≡ []
    → InOrder shelf before (pool_of before) → InOrder shelf (before ++ event ∷ []) new
take-off shelf before event new parcel put take is_handed lay lies is =
    push-skip (is_put_on shelf) before event put ∙ is ∙ ap (λ (l : List Parcel). takes_off shelf before ++ l) (lay ∙ sym is_handed)
    ∙ sym (push-add (is_take_off shelf) before event take) ∙ sym (append-nil (takes_off shelf (before ++ event ∷ [])))
    ∙ ap (λ (l : List Parcel). takes_off shelf (before ++ event ∷ []) ++ l) (sym lies)

-- an owner that is a caller, or another shelf, is not the shelf
caller-off : (shelf caller : ℕ) (owner : Owner) → owner ≡ Caller caller → owner ≢ Shelf shelf
caller-off shelf caller owner is on = let e : Caller caller ≡ Shelf shelf = sym is ∙ on in absurd (cc)

other-off : (shelf at : ℕ) (owner : Owner) → owner ≡ Shelf at → at ≢ shelf → owner ≢ Shelf shelf
other-off shelf at owner is ne on = ne (let e : Shelf at ≡ Shelf shelf = sym is ∙ on in cc)

after :
    (g : Geometry) (shelf : ℕ) (before : List Event) (event : Event) → IsAllowed g before event → IsSoundPool g (pool_of before)
    → InOrder shelf before (pool_of before) → InOrder shelf (before ++ event ∷ []) (pool_after (pool_of before) event)
after g shelf before (Alloc caller need place) allowed sound is =
    still shelf before (Alloc caller need place) (pool_after (pool_of before) (Alloc caller need place)) refl refl
    (lying-off shelf (fresh_block caller need place) (pool_of before) (caller-off shelf caller (Caller caller) refl)) is
after g shelf before (Looked caller class) allowed sound is = still shelf before (Looked caller class) (pool_after (pool_of before) (Looked caller class)) refl refl refl is
after g shelf before (Refuse caller need) allowed sound is = still shelf before (Refuse caller need) (pool_after (pool_of before) (Refuse caller need)) refl refl refl is
after g shelf before (Free caller place) allowed sound is =
    still shelf before (Free caller place) (pool_after (pool_of before) (Free caller place)) refl refl
    (lying-without shelf place (pool_of before) allowed.0 allowed.1 (caller-off shelf caller allowed.0.owner allowed.2)) is
after g shelf before (Write caller place i v) allowed sound is =
    let off = caller-off shelf caller allowed.0.owner allowed.2 in
    still shelf before (Write caller place i v) (pool_after (pool_of before) (Write caller place i v)) refl refl (lying-changed shelf place (written i v) (pool_of before) allowed.0 allowed.1 off off) is
after g shelf before (Put caller place at) allowed sound is =
    let block = allowed.0.0 in
    elim (cases_eq at shelf) [
      | inl same ↦
          let empty = each-every (λ b. b.owner ≢ Shelf shelf) (pool_of before) (sound-differ g (pool_of before) sound)
          (subst (λ (s : ℕ). (p : ℕ) (b : Block) → block_at p (pool_of before) ≡ Some b → b.owner ≢ Shelf s) same allowed.2) in
          let lies : lying_on shelf (with_changed place (handed_to (Shelf at)) (pool_of before)) ≡ parcel_of block ∷ [] =
          ap (λ (s : ℕ). lying_on shelf (with_changed place (handed_to (Shelf s)) (pool_of before))) same
          ∙ lying-put shelf place (pool_of before) block empty allowed.0.1 in
          put-on shelf before (Put caller place at) (pool_after (pool_of before) (Put caller place at)) (parcel_of block) (eq-eqb at shelf same) refl (ap parcels_in allowed.0.1)
          (lying-none shelf (pool_of before) empty) lies is
      | inr differ ↦
          still shelf before (Put caller place at) (pool_after (pool_of before) (Put caller place at)) (ne_eqb at shelf differ) refl
          (lying-changed shelf place (handed_to (Shelf at)) (pool_of before) block allowed.0.1 (caller-off shelf caller block.owner allowed.0.2)
          (other-off shelf at (Shelf at) refl differ)) is
    ]
after g shelf before (Take caller at place) allowed sound is =
    let block = allowed.0.0 in
    elim (cases_eq at shelf) [
      | inl same ↦
          let on : block.owner ≡ Shelf shelf = allowed.0.2 ∙ ap Shelf same in
          take-off shelf before (Take caller at place) (pool_after (pool_of before) (Take caller at place)) (parcel_of block) refl (eq-eqb at shelf same) (ap parcels_in allowed.0.1)
          (lying-at shelf place (pool_of before) block sound.pairs allowed.0.1 on)
          (lying-taken shelf place caller (pool_of before) block sound.pairs allowed.0.1 on) is
      | inr differ ↦
          still shelf before (Take caller at place) (pool_after (pool_of before) (Take caller at place)) refl (ne_eqb at shelf differ)
          (lying-changed shelf place (handed_to (Caller caller)) (pool_of before) block allowed.0.1 (other-off shelf at block.owner allowed.0.2 differ)
          (caller-off shelf caller (Caller caller) refl)) is
    ]
after g shelf before (TakeNone caller at) allowed sound is = still shelf before (TakeNone caller at) (pool_after (pool_of before) (TakeNone caller at)) refl refl refl is

pub in-order : (g : Geometry) (history : List Event) (shelf : ℕ) → IsLegalWithoutCounts g history → InOrder shelf history (pool_of history)
in-order g history shelf legal =
    (kept (IsLegalEventWithoutCounts g) (λ h. IsSoundPool g (pool_of h) × InOrder shelf h (pool_of h)) history
    (λ before event h parts. (
      rw (pool_of-push before event) (sound-after g before event h.0 h.1 parts.0),
      rw (pool_of-push before event) (after g shelf before event h.1 parts.0 parts.1),
    )) legal (record { each = tt; pairs = tt }, refl)).1

pub at-most-one : (g : Geometry) (history : List Event) (shelf : ℕ) → IsLegalWithoutCounts g history → length (lying_on shelf (pool_of history)) ≤ 1
at-most-one g history shelf legal = lying-few shelf (pool_of history) (sound-of g history legal).pairs
