-- Which put a take answers: what lies on a shelf was put there last, and in turn.
use Rattle.std.proofs.Common.{ℕ, zero, suc, true, false, ◌≡◌, ◌≢◌, List, [], ◌∷◌, ◌++◌, length, Some, None, refl, sym, ◌∙◌, ap, subst, inl, inr, ne_eqb, append_assoc, true≢false}
use Rattle.std.specs.Prelude.{count_by, slice_get}
use Rattle.std.proofs.lemmas.Bool.{cases_eq}
use Rattle.heap_geometry.specs.declared.geometry.Geometry.{Geometry}
use Rattle.pool_model.specs.declared.event.Event.{Event}
use Rattle.pool_model.specs.declared.event.Event.TheVariants.{Alloc, Looked, Refuse, Free, Write, Put, Take, TakeNone}
use Rattle.pool_model.specs.declared.owner.Owner.{Owner}
use Rattle.pool_model.specs.declared.owner.Owner.TheVariants.{Caller, Shelf}
use Rattle.pool_model.specs.Legal.{IsAllowed, IsEmptyShelf, IsLegalWithoutCounts, IsLegalEventWithoutCounts}
use Rattle.pool_model.specs.Parcels.{Parcel, is_put_on, is_take_off, lying_on, puts_on, takes_off}
use Rattle.pool_model.specs.Pool.{Block, Pool, block_at, fresh_block, written, handed_to, pool_after, pool_of, with_changed, without}
use Rattle.pool_model.proofs.HistoryLemmas.{EachAfter-cut, EachAfter-nil, EachAfter-push, kept, pool_of-push}
use Rattle.pool_model.proofs.ParcelLemmas.{in-order}
use Rattle.pool_model.proofs.PoolLemmas.{block_at-here, block_at-past, block_at-without_other, block_at-without_same, block_at-changed_other, block_at-changed_same}
use Rattle.pool_model.proofs.WellFormedLemmas.{separate-found, sound-differ, sound-of}
use Rattle.shelf_laws.specs.Turns.{IsPutInTurn}
use Rattle.shelf_laws.proofs.GrowLemmas.{IsHandOver, count-same, parcels-length, puts-taken}

-- events that pass the tests for a shelf's puts and takes are puts and takes
pub put-on-hands : (shelf : ℕ) (event : Event) → is_put_on shelf event ≡ true → IsHandOver event
put-on-hands shelf (Put caller place at) is = tt
put-on-hands shelf event is = absurd (true≢false (sym is))

pub take-off-hands : (shelf : ℕ) (event : Event) → is_take_off shelf event ≡ true → IsHandOver event
take-off-hands shelf (Take caller at place) is = tt
take-off-hands shelf event is = absurd (true≢false (sym is))

pub puts-counted :
    (g : Geometry) (history : List Event) (shelf : ℕ) → IsLegalWithoutCounts g history
    → length (puts_on shelf history) ≡ count_by (is_put_on shelf) history
puts-counted g history shelf legal = parcels-length g (is_put_on shelf) history (put-on-hands shelf) legal

pub takes-counted :
    (g : Geometry) (history : List Event) (shelf : ℕ) → IsLegalWithoutCounts g history
    → length (takes_off shelf history) ≡ count_by (is_take_off shelf) history
takes-counted g history shelf legal = parcels-length g (is_take_off shelf) history (take-off-hands shelf) legal

-- an empty shelf has had as many puts as takes
even :
    (g : Geometry) (history : List Event) (shelf : ℕ) → IsLegalWithoutCounts g history → IsEmptyShelf (pool_of history) shelf
    → count_by (is_put_on shelf) history ≡ count_by (is_take_off shelf) history
even g history shelf legal empty =
    sym (puts-counted g history shelf legal) ∙ ap (λ (l : List Parcel). length l) (puts-taken g history shelf legal empty)
    ∙ takes-counted g history shelf legal

-- each block that lies on a shelf was put there in turn
abbrev pub LiesInTurn : ℕ → List Event → Pool → Type 0
LiesInTurn shelf history pool =
    (place : ℕ) (block : Block) → block_at place pool ≡ Some block → block.owner ≡ Shelf shelf → IsPutInTurn history shelf place block

-- a block that was put on a shelf in turn stays so after an event that is no take from the shelf
extend :
    (shelf place : ℕ) (block : Block) (before : List Event) (event : Event) → is_take_off shelf event ≡ false
    → IsPutInTurn before shelf place block → IsPutInTurn (before ++ event ∷ []) shelf place block
extend shelf place block before event off is =
    record {
      caller = is.caller;
      before = is.before;
      rest = is.rest ++ event ∷ [];
      put = ap (λ (h : List Event). h ++ event ∷ []) is.put ∙ append_assoc is.before (Put is.caller place shelf ∷ is.rest) (event ∷ []);
      turn = is.turn ∙ sym (count-same (is_take_off shelf) before event off);
      was = is.was;
      found = is.found;
      same = is.same;
    }

-- no owner is both a caller and a shelf
caller-no-shelf : (caller shelf : ℕ) (owner : Owner) → owner ≡ Caller caller → owner ≢ Shelf shelf
caller-no-shelf caller shelf owner is on = let e : Caller caller ≡ Shelf shelf = sym is ∙ on in absurd (cc)

-- a block that lies on a shelf is at another place than a block that was changed to a caller's
changed-elsewhere :
    (at place caller shelf : ℕ) (change : Block → Block) (pool : Pool) (was block : Block) → ((b : Block) → (change b).place ≡ b.place)
    → block_at at pool ≡ Some was → (change was).owner ≡ Caller caller → block_at place (with_changed at change pool) ≡ Some block
    → block.owner ≡ Shelf shelf → place ≢ at
changed-elsewhere at place caller shelf change pool was block keeps found owned now on same =
    let changed : block_at place (with_changed at change pool) ≡ Some (change was) =
    ap (λ (p : ℕ). block_at p (with_changed at change pool)) same ∙ block_at-changed_same at change pool was keeps found in
    let is : change was ≡ block = cc in
    caller-no-shelf caller shelf block.owner (ap (λ (b : Block). b.owner) (sym is) ∙ owned) on

changed-found :
    (at place : ℕ) (change : Block → Block) (pool : Pool) (block : Block) → ((b : Block) → (change b).place ≡ b.place) → place ≢ at
    → block_at place (with_changed at change pool) ≡ Some block → block_at place pool ≡ Some block
changed-found at place change pool block keeps apart now = sym (block_at-changed_other at place change pool keeps apart) ∙ now

-- a block that is put on an empty shelf is put there in turn
put-here :
    (g : Geometry) (before : List Event) (caller at shelf : ℕ) (was : Block) → IsLegalWithoutCounts g before
    → block_at at (pool_of before) ≡ Some was → IsEmptyShelf (pool_of before) shelf
    → IsPutInTurn (before ++ Put caller at shelf ∷ []) shelf at (handed_to (Shelf shelf) was)
put-here g before caller at shelf was legal found empty =
    record {
      caller = caller;
      before = before;
      rest = [];
      put = refl;
      turn = even g before shelf legal empty ∙ sym (count-same (is_take_off shelf) before (Put caller at shelf) refl);
      was = was;
      found = found;
      same = refl;
    }

after-put :
    (g : Geometry) (shelf : ℕ) (before : List Event) (caller at other : ℕ) → IsLegalWithoutCounts g before
    → IsAllowed g before (Put caller at other) → LiesInTurn shelf before (pool_of before)
    → LiesInTurn shelf (before ++ Put caller at other ∷ []) (pool_after (pool_of before) (Put caller at other))
after-put g shelf before caller at other legal allowed lies place block now on =
    let was = allowed.0.0 in
    elim (cases_eq place at) [
      | inl same ↦
          let changed : block_at place (with_changed at (handed_to (Shelf other)) (pool_of before)) ≡ Some (handed_to (Shelf other) was) =
          ap (λ (p : ℕ). block_at p (with_changed at (handed_to (Shelf other)) (pool_of before))) same
          ∙ block_at-changed_same at (handed_to (Shelf other)) (pool_of before) was (λ b. refl) allowed.0.1 in
          let is : handed_to (Shelf other) was ≡ block = cc in
          let owners : Shelf other ≡ Shelf shelf = ap (λ (b : Block). b.owner) is ∙ on in
          let shelves : other ≡ shelf = cc in
          let history = before ++ Put caller at other ∷ [] in
          subst (λ (b : Block). IsPutInTurn history shelf place b) is
          (subst (λ (p : ℕ). IsPutInTurn history shelf p (handed_to (Shelf other) was)) (sym same)
          (subst (λ (s : ℕ). IsPutInTurn history s at (handed_to (Shelf other) was)) shelves
          (put-here g before caller at other was legal allowed.0.1 allowed.2)))
      | inr apart ↦
          extend shelf place block before (Put caller at other) refl
          (lies place block (changed-found at place (handed_to (Shelf other)) (pool_of before) block (λ b. refl) apart now) on)
    ]

after-take :
    (g : Geometry) (shelf : ℕ) (before : List Event) (caller other at : ℕ) → IsLegalWithoutCounts g before
    → IsAllowed g before (Take caller other at) → LiesInTurn shelf before (pool_of before)
    → LiesInTurn shelf (before ++ Take caller other at ∷ []) (pool_after (pool_of before) (Take caller other at))
after-take g shelf before caller other at legal allowed lies place block now on =
    let pool = pool_of before in
    let apart : place ≢ at =
    changed-elsewhere at place caller shelf (handed_to (Caller caller)) pool allowed.0.0 block (λ b. refl) allowed.0.1 refl now on in
    let found = changed-found at place (handed_to (Caller caller)) pool block (λ b. refl) apart now in
    elim (cases_eq other shelf) [
      | inl same ↦
          absurd ((separate-found g pool (sound-of g before legal) place at block allowed.0.0 found allowed.0.1 apart).shelves shelf on
          (allowed.0.2 ∙ ap Shelf same))
      | inr differ ↦ extend shelf place block before (Take caller other at) (ne_eqb other shelf differ) (lies place block found on)
    ]

after :
    (g : Geometry) (shelf : ℕ) (before : List Event) (event : Event) → IsLegalWithoutCounts g before → IsAllowed g before event
    → LiesInTurn shelf before (pool_of before) → LiesInTurn shelf (before ++ event ∷ []) (pool_after (pool_of before) event)
after g shelf before (Alloc caller need at) legal allowed lies place block now on =
    elim (cases_eq at place) [
      | inl same ↦
          let here : block_at place (fresh_block caller need at ∷ pool_of before) ≡ Some (fresh_block caller need at) =
          block_at-here place (fresh_block caller need at) (pool_of before) same in
          let is : fresh_block caller need at ≡ block = cc in
          absurd (caller-no-shelf caller shelf block.owner (ap (λ (b : Block). b.owner) (sym is)) on)
      | inr apart ↦
          extend shelf place block before (Alloc caller need at) refl
          (lies place block (sym (block_at-past place (fresh_block caller need at) (pool_of before) apart) ∙ now) on)
    ]
after g shelf before (Free caller at) legal allowed lies place block now on =
    elim (cases_eq place at) [
      | inl same ↦
          let gone : block_at place (without at (pool_of before)) ≡ None =
          ap (λ (p : ℕ). block_at p (without at (pool_of before))) same
          ∙ block_at-without_same at (pool_of before) (sound-differ g (pool_of before) (sound-of g before legal)) in
          absurd (let e : None ≡ Some block = sym gone ∙ now in cc)
      | inr apart ↦
          extend shelf place block before (Free caller at) refl
          (lies place block (sym (block_at-without_other at place (pool_of before) apart) ∙ now) on)
    ]
after g shelf before (Write caller at i v) legal allowed lies place block now on =
    let apart : place ≢ at =
    changed-elsewhere at place caller shelf (written i v) (pool_of before) allowed.0 block (λ b. refl) allowed.1 allowed.2 now on in
    extend shelf place block before (Write caller at i v) refl
    (lies place block (changed-found at place (written i v) (pool_of before) block (λ b. refl) apart now) on)
after g shelf before (Put caller at other) legal allowed lies place block now on =
    after-put g shelf before caller at other legal allowed lies place block now on
after g shelf before (Take caller other at) legal allowed lies place block now on =
    after-take g shelf before caller other at legal allowed lies place block now on
after g shelf before (Looked caller class) legal allowed lies place block now on =
    extend shelf place block before (Looked caller class) refl (lies place block now on)
after g shelf before (Refuse caller need) legal allowed lies place block now on =
    extend shelf place block before (Refuse caller need) refl (lies place block now on)
after g shelf before (TakeNone caller at) legal allowed lies place block now on =
    extend shelf place block before (TakeNone caller at) refl (lies place block now on)

pub lies-in-turn :
    (g : Geometry) (history : List Event) (shelf : ℕ) → IsLegalWithoutCounts g history → LiesInTurn shelf history (pool_of history)
lies-in-turn g history shelf legal =
    (kept (IsLegalEventWithoutCounts g) (λ h. IsLegalWithoutCounts g h × LiesInTurn shelf h (pool_of h)) history
    (λ before event ok parts. (
      EachAfter-push (IsLegalEventWithoutCounts g) before event parts.0 ok,
      subst (LiesInTurn shelf (before ++ event ∷ [])) (sym (pool_of-push before event)) (after g shelf before event parts.0 ok.1 parts.1),
    )) legal (EachAfter-nil (IsLegalEventWithoutCounts g), λ place block found on. absurd (let e : None ≡ Some block = found in cc))).1

-- a block that is taken from a shelf was put there in turn
pub take-in-turn :
    (g : Geometry) (history rest : List Event) (caller shelf place : ℕ) (block : Block)
    → IsLegalWithoutCounts g (history ++ Take caller shelf place ∷ rest) → block_at place (pool_of history) ≡ Some block
    → IsPutInTurn history shelf place block
take-in-turn g history rest caller shelf place block legal found =
    let owns = (legal history rest (Take caller shelf place) refl).1.0 in
    let before = EachAfter-cut (IsLegalEventWithoutCounts g) history (Take caller shelf place ∷ rest) legal in
    let e : Some owns.0 ≡ Some block = sym owns.1 ∙ found in
    let is : owns.0 ≡ block = cc in
    lies-in-turn g history shelf before place block found (ap (λ (b : Block). b.owner) (sym is) ∙ owns.2)

-- a first part of a list has the list's elements
slice_get-append :
    (xs ys : List Parcel) (i : ℕ) (x : Parcel) → slice_get xs i ≡ Some x → slice_get (xs ++ ys) i ≡ Some x
slice_get-append [] ys i x found = absurd (let e : None ≡ Some x = found in cc)
slice_get-append (y ∷ xs) ys zero x found = found
slice_get-append (y ∷ xs) ys (suc i) x found = slice_get-append xs ys i x found

pub parcel-in-turn :
    (g : Geometry) (history : List Event) (shelf number : ℕ) (parcel : Parcel) → IsLegalWithoutCounts g history
    → slice_get (takes_off shelf history) number ≡ Some parcel → slice_get (puts_on shelf history) number ≡ Some parcel
parcel-in-turn g history shelf number parcel legal found =
    ap (λ (l : List Parcel). slice_get l number) (in-order g history shelf legal)
    ∙ slice_get-append (takes_off shelf history) (lying_on shelf (pool_of history)) number parcel found
