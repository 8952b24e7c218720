-- Quiet pipes: each shelf's parcels are those of its turns, so what was taken begins what was sent.
use Rattle.std.proofs.Common.{ℕ, eqb, Bool, true, false, ◌≡◌, ◌≢◌, ◌⊎◌, ◌+◌, ◌*◌, ◌<◌, ◌≤◌, List, [], ◌∷◌, ◌++◌, length, refl, sym, ◌∙◌, ap, subst, inl, inr, eq-eqb, ne_eqb, eqb-true, append-nil, arith, true≢false}
use Rattle.std.specs.Prelude.{if◌then◌else◌, ◌%◌, count_by}
use Rattle.std.proofs.lemmas.Bool.{and_from, and_parts, cases_Bool, cases_eq}
use Rattle.std.proofs.lemmas.List.{append_cancel_left, length-append}
use Rattle.std.proofs.lemmas.Nat.{div-mul-add}
use Rattle.std.proofs.Math.Nat.{div-lt_iff_lt-mul, mod-lt}
use Rattle.heap_geometry.specs.declared.geometry.Geometry.{Geometry}
use Rattle.pool_model.specs.declared.event.Event.{Event}
use Rattle.pool_model.specs.declared.event.Event.TheVariants.{Alloc, Looked, Refuse, Free, Write, Put, Take, TakeNone}
use Rattle.pool_model.specs.Histories.{EachAfter}
use Rattle.pool_model.specs.Legal.{IsEmptyShelf, IsLegalWithoutCounts, IsLegalEventWithoutCounts}
use Rattle.pool_model.specs.Parcels.{Parcel, handed, is_put_on, is_take_off, lying_on, parcel_of, parcels, puts_on, takes_off}
use Rattle.pool_model.specs.Pool.{pool_of}
use Rattle.pool_model.proofs.HistoryLemmas.{kept}
use Rattle.pool_model.proofs.ParcelLemmas.{in-order, lying-at, push, push-add, push-skip}
use Rattle.pool_model.proofs.WellFormedLemmas.{sound-of}
use Rattle.shelf_laws.specs.Quiet.{IsPrefix, IsQuiet, IsQuietAfter, is_put_of, is_take_of, sender_of, sent, taken, turn_of}
use Rattle.shelf_laws.proofs.GrowLemmas.{IsHandOver, count-more, count-same, handed-one, parcels-length, puts-taken}
use Rattle.shelf_laws.proofs.OwnLemmas.{from-sender}
use Rattle.shelf_laws.proofs.TurnLemmas.{column, column-none, column-push, columns-prefix}

-- a shelf of the pipe is one of its senders'
pub to-sender : (senders shelves shelf : ℕ) → 0 < shelves → shelf < senders * shelves → sender_of shelves shelf < senders
to-sender senders shelves shelf some_shelves within = (div-lt_iff_lt-mul {k = shelves} {x = shelf} {y = senders} some_shelves).1 within

pub turn-home : (shelves sender i : ℕ) → 0 < shelves → sender_of shelves (turn_of shelves sender i) ≡ sender
turn-home shelves sender i some_shelves = div-mul-add sender shelves (i % shelves) (mod-lt i {m = shelves} some_shelves)

-- behind some events, an event is one of a part just where it is one of the whole and its turn there is the shelf's
abbrev pub Goes : (Event → Bool) → (Event → Bool) → (ℕ → ℕ) → ℕ → List Event → Event → Type 0
Goes whole part turn shelf before event =
    ((whole event ≡ false) × (part event ≡ false))
    ⊎ ((whole event ≡ true) × (part event ≡ eqb (turn (count_by whole before)) shelf))

-- a whole hands over a parcel for each of its events, and the part hands over those whose turn is the shelf's
abbrev pub HasColumn : (Event → Bool) → (Event → Bool) → (ℕ → ℕ) → ℕ → List Event → Type 0
HasColumn whole part turn shelf history =
    (length (parcels whole history) ≡ count_by whole history) × (parcels part history ≡ column turn shelf 0 (parcels whole history))

column-off :
    (whole part : Event → Bool) (turn : ℕ → ℕ) (shelf : ℕ) (before : List Event) (event : Event) → whole event ≡ false
    → part event ≡ false → HasColumn whole part turn shelf before → HasColumn whole part turn shelf (before ++ event ∷ [])
column-off whole part turn shelf before event off off_part has =
    let same = push-skip whole before event off in (
      ap (λ (l : List Parcel). length l) same ∙ has.0 ∙ sym (count-same whole before event off),
      push-skip part before event off_part ∙ has.1 ∙ ap (column turn shelf 0) (sym same),
    )

column-on :
    (whole part : Event → Bool) (turn : ℕ → ℕ) (shelf : ℕ) (before : List Event) (event : Event) (parcel : Parcel) → whole event ≡ true
    → part event ≡ eqb (turn (count_by whole before)) shelf → handed (pool_of before) event ≡ parcel ∷ []
    → HasColumn whole part turn shelf before → HasColumn whole part turn shelf (before ++ event ∷ [])
column-on whole part turn shelf before event parcel on turned is has =
    let all = parcels whole before in
    let grown : parcels whole (before ++ event ∷ []) ≡ all ++ parcel ∷ [] =
    push-add whole before event on ∙ ap (λ (l : List Parcel). all ++ l) is in
    let long : length (parcels whole (before ++ event ∷ [])) ≡ length all + 1 =
    ap (λ (l : List Parcel). length l) grown ∙ length-append all (parcel ∷ []) in
    let counted = count-more whole before event on in
    let now : count_by whole before ≡ 0 + length all = omega (arith, has.0) in
    let turned_now : part event ≡ eqb (turn (0 + length all)) shelf = turned ∙ ap (λ (n : ℕ). eqb (turn n) shelf) now in
    let added : parcels part (before ++ event ∷ []) ≡ parcels part before ++ (if eqb (turn (0 + length all)) shelf then parcel ∷ [] else []) =
    push part before event
    ∙ ap (λ (l : List Parcel). parcels part before ++ (if part event then l else [])) is
    ∙ ap (λ (b : Bool). parcels part before ++ (if b then parcel ∷ [] else [])) turned_now in (
      omega (arith, long, counted, has.0),
      added ∙ ap (λ (l : List Parcel). l ++ (if eqb (turn (0 + length all)) shelf then parcel ∷ [] else [])) has.1
          ∙ sym (column-push turn shelf 0 all parcel) ∙ ap (column turn shelf 0) (sym grown),
    )

pub columns-of :
    (g : Geometry) (whole part : Event → Bool) (turn : ℕ → ℕ) (shelf : ℕ) (history : List Event)
    → ((event : Event) → whole event ≡ true → IsHandOver event) → IsLegalWithoutCounts g history
    → EachAfter (Goes whole part turn shelf) history → HasColumn whole part turn shelf history
columns-of g whole part turn shelf history hands legal goes =
    kept (λ before event. IsLegalEventWithoutCounts g before event × Goes whole part turn shelf before event)
    (HasColumn whole part turn shelf) history
    (λ before event both has.
    elim both.1 [
      | inl off ↦ column-off whole part turn shelf before event off.0 off.1 has
      | inr on ↦
          let one = handed-one g before event both.0.1 (hands event on.0) in
          column-on whole part turn shelf before event one.0 on.0 on.1 one.1 has
    ]) (λ before rest event e. (legal before rest event e, goes before rest event e)) (refl, refl)

-- events that pass the tests for a sender's puts and the takes of its messages are puts and takes
pub put-hands : (shelves sender : ℕ) (event : Event) → is_put_of shelves sender event ≡ true → IsHandOver event
put-hands shelves sender (Put caller place shelf) is = tt
put-hands shelves sender event is = absurd (true≢false (sym is))

pub take-hands : (senders shelves sender : ℕ) (event : Event) → is_take_of senders shelves sender event ≡ true → IsHandOver event
take-hands senders shelves sender (Take caller shelf place) is = tt
take-hands senders shelves sender event is = absurd (true≢false (sym is))

-- the puts of a quiet history go by turns, and so do the takes
put-goes :
    (senders shelves shelf : ℕ) (before : List Event) (event : Event) → 0 < shelves → shelf < senders * shelves
    → IsQuietAfter senders shelves before event
    → Goes (is_put_of shelves (sender_of shelves shelf)) (is_put_on shelf) (turn_of shelves (sender_of shelves shelf)) shelf before event
put-goes senders shelves shelf before (Put caller place at) some_shelves within quiet =
    let sender = sender_of shelves shelf in
    elim (cases_Bool (is_put_of shelves sender (Put caller place at))) [
      | inl on ↦
          let parts = and_parts (eqb caller sender) (eqb (sender_of shelves at) sender) on in
          let q = quiet
          (from-sender senders shelves sender at some_shelves (to-sender senders shelves shelf some_shelves within)
          (eqb-true (sender_of shelves at) sender parts.1)) in
          inr (
            on,
            ap (λ (n : ℕ). eqb n shelf)
                (q.1 ∙ ap (λ (c : ℕ). turn_of shelves c (count_by (is_put_of shelves c) before)) (eqb-true caller sender parts.0)),
          )
      | inr off ↦
          inl (
            off,
            elim (cases_eq at shelf) [
              | inl same ↦
                  let home : sender_of shelves at ≡ sender = ap (sender_of shelves) same in
                  let q = quiet (subst (λ (s : ℕ). s < senders * shelves) (sym same) within) in
                  absurd (true≢false (sym
                  (and_from (eqb caller sender) (eqb (sender_of shelves at) sender) (eq-eqb caller sender (q.0 ∙ home))
                  (eq-eqb (sender_of shelves at) sender home)) ∙ off))
              | inr differ ↦ ne_eqb at shelf differ
            ],
          )
    ]
put-goes senders shelves shelf before (Take caller at place) some_shelves within quiet = inl (refl, refl)
put-goes senders shelves shelf before (Alloc caller need place) some_shelves within quiet = inl (refl, refl)
put-goes senders shelves shelf before (Looked caller class) some_shelves within quiet = inl (refl, refl)
put-goes senders shelves shelf before (Refuse caller need) some_shelves within quiet = inl (refl, refl)
put-goes senders shelves shelf before (Free caller place) some_shelves within quiet = inl (refl, refl)
put-goes senders shelves shelf before (Write caller place i v) some_shelves within quiet = inl (refl, refl)
put-goes senders shelves shelf before (TakeNone caller at) some_shelves within quiet = inl (refl, refl)

take-goes :
    (senders shelves shelf : ℕ) (before : List Event) (event : Event) → 0 < shelves → shelf < senders * shelves
    → IsQuietAfter senders shelves before event
    → Goes (is_take_of senders shelves (sender_of shelves shelf)) (is_take_off shelf) (turn_of shelves (sender_of shelves shelf)) shelf
    before event
take-goes senders shelves shelf before (Take caller at place) some_shelves within quiet =
    let sender = sender_of shelves shelf in
    elim (cases_Bool (is_take_of senders shelves sender (Take caller at place))) [
      | inl on ↦
          let parts = and_parts (eqb caller senders) (eqb (sender_of shelves at) sender) on in
          let home : sender_of shelves at ≡ sender = eqb-true (sender_of shelves at) sender parts.1 in
          let q = quiet
          (from-sender senders shelves sender at some_shelves (to-sender senders shelves shelf some_shelves within) home) in
          inr (
            on,
            ap (λ (n : ℕ). eqb n shelf)
                (q.1 ∙ ap (λ (k : ℕ). turn_of shelves k (count_by (is_take_of senders shelves k) before)) home),
          )
      | inr off ↦
          inl (
            off,
            elim (cases_eq at shelf) [
              | inl same ↦
                  let home : sender_of shelves at ≡ sender = ap (sender_of shelves) same in
                  let q = quiet (subst (λ (s : ℕ). s < senders * shelves) (sym same) within) in
                  absurd (true≢false (sym
                  (and_from (eqb caller senders) (eqb (sender_of shelves at) sender) (eq-eqb caller senders q.0)
                  (eq-eqb (sender_of shelves at) sender home)) ∙ off))
              | inr differ ↦ ne_eqb at shelf differ
            ],
          )
    ]
take-goes senders shelves shelf before (Put caller place at) some_shelves within quiet = inl (refl, refl)
take-goes senders shelves shelf before (Alloc caller need place) some_shelves within quiet = inl (refl, refl)
take-goes senders shelves shelf before (Looked caller class) some_shelves within quiet = inl (refl, refl)
take-goes senders shelves shelf before (Refuse caller need) some_shelves within quiet = inl (refl, refl)
take-goes senders shelves shelf before (Free caller place) some_shelves within quiet = inl (refl, refl)
take-goes senders shelves shelf before (Write caller place i v) some_shelves within quiet = inl (refl, refl)
take-goes senders shelves shelf before (TakeNone caller at) some_shelves within quiet = inl (refl, refl)

-- the parcels that go over a shelf of the pipe are its sender's messages of the shelf's turns
pub puts-column :
    (g : Geometry) (history : List Event) (senders shelves shelf : ℕ) → 0 < shelves → shelf < senders * shelves
    → IsLegalWithoutCounts g history → IsQuiet senders shelves history
    → puts_on shelf history ≡ column (turn_of shelves (sender_of shelves shelf)) shelf 0 (sent shelves (sender_of shelves shelf) history)
puts-column g history senders shelves shelf some_shelves within legal quiet =
    (columns-of g (is_put_of shelves (sender_of shelves shelf)) (is_put_on shelf) (turn_of shelves (sender_of shelves shelf)) shelf history
    (put-hands shelves (sender_of shelves shelf)) legal
    (λ before rest event e. put-goes senders shelves shelf before event some_shelves within (quiet before rest event e))).1

pub takes-column :
    (g : Geometry) (history : List Event) (senders shelves shelf : ℕ) → 0 < shelves → shelf < senders * shelves
    → IsLegalWithoutCounts g history → IsQuiet senders shelves history
    → takes_off shelf history
    ≡ column (turn_of shelves (sender_of shelves shelf)) shelf 0 (taken senders shelves (sender_of shelves shelf) history)
takes-column g history senders shelves shelf some_shelves within legal quiet =
    (columns-of g (is_take_of senders shelves (sender_of shelves shelf)) (is_take_off shelf) (turn_of shelves (sender_of shelves shelf)) shelf
    history (take-hands senders shelves (sender_of shelves shelf)) legal
    (λ before rest event e. take-goes senders shelves shelf before event some_shelves within (quiet before rest event e))).1

-- on each shelf the part that was taken begins the part that was sent
one-shelf :
    (g : Geometry) (history : List Event) (senders shelves sender shelf : ℕ) → 0 < shelves → sender < senders
    → IsLegalWithoutCounts g history → IsQuiet senders shelves history → sender_of shelves shelf ≡ sender
    → IsPrefix (column (turn_of shelves sender) shelf 0 (taken senders shelves sender history))
    (column (turn_of shelves sender) shelf 0 (sent shelves sender history))
one-shelf g history senders shelves sender shelf some_shelves below legal quiet is =
    let within = from-sender senders shelves sender shelf some_shelves below is in
    subst
    (λ (k : ℕ). IsPrefix (column (turn_of shelves k) shelf 0 (taken senders shelves k history))
    (column (turn_of shelves k) shelf 0 (sent shelves k history)))
    is (
      lying_on shelf (pool_of history),
      sym (puts-column g history senders shelves shelf some_shelves within legal quiet) ∙ in-order g history shelf legal
          ∙ ap (λ (l : List Parcel). l ++ lying_on shelf (pool_of history))
          (takes-column g history senders shelves shelf some_shelves within legal quiet),
    )

no-shelf :
    (senders shelves sender shelf : ℕ) (shorter longer : List Parcel) → 0 < shelves → sender_of shelves shelf ≢ sender
    → IsPrefix (column (turn_of shelves sender) shelf 0 shorter) (column (turn_of shelves sender) shelf 0 longer)
no-shelf senders shelves sender shelf shorter longer some_shelves ne =
    let never : (i : ℕ) → turn_of shelves sender i ≢ shelf = λ i e.
    ne (sym (ap (sender_of shelves) e) ∙ turn-home shelves sender i some_shelves) in (
      [],
      column-none (turn_of shelves sender) shelf 0 longer never
          ∙ sym (ap (λ (l : List Parcel). l ++ []) (column-none (turn_of shelves sender) shelf 0 shorter never)),
    )

pub taken-prefix :
    (g : Geometry) (history : List Event) (senders shelves sender : ℕ) → 0 < shelves → sender < senders
    → IsLegalWithoutCounts g history → IsQuiet senders shelves history
    → IsPrefix (taken senders shelves sender history) (sent shelves sender history)
taken-prefix g history senders shelves sender some_shelves below legal quiet =
    columns-prefix (turn_of shelves sender) 0 (taken senders shelves sender history) (sent shelves sender history)
    (λ shelf.
    elim (cases_eq (sender_of shelves shelf) sender) [
      | inl is ↦ one-shelf g history senders shelves sender shelf some_shelves below legal quiet is
      | inr ne ↦
          no-shelf senders shelves sender shelf (taken senders shelves sender history) (sent shelves sender history) some_shelves ne
    ])

-- a first part that is as long as the list is the list
whole-prefix : (shorter longer : List Parcel) → IsPrefix shorter longer → length shorter ≡ length longer → shorter ≡ longer
whole-prefix shorter longer ([], is) same = sym (is ∙ append-nil shorter)
whole-prefix shorter longer (parcel ∷ rest, is) same =
    let long : length longer ≡ length shorter + length (parcel ∷ rest) =
    ap (λ (l : List Parcel). length l) is ∙ length-append shorter (parcel ∷ rest) in
    absurd (omega (arith, long, same))

pub taken-all :
    (g : Geometry) (history : List Event) (senders shelves sender : ℕ) → 0 < shelves → sender < senders
    → IsLegalWithoutCounts g history → IsQuiet senders shelves history
    → count_by (is_take_of senders shelves sender) history ≡ count_by (is_put_of shelves sender) history
    → taken senders shelves sender history ≡ sent shelves sender history
taken-all g history senders shelves sender some_shelves below legal quiet as_many =
    whole-prefix (taken senders shelves sender history) (sent shelves sender history)
    (taken-prefix g history senders shelves sender some_shelves below legal quiet)
    (parcels-length g (is_take_of senders shelves sender) history (take-hands senders shelves sender) legal ∙ as_many
    ∙ sym (parcels-length g (is_put_of shelves sender) history (put-hands shelves sender) legal))

pub shelf-empty :
    (g : Geometry) (history : List Event) (senders shelves shelf : ℕ) → 0 < shelves → shelf < senders * shelves
    → IsLegalWithoutCounts g history → IsQuiet senders shelves history
    → count_by (is_take_of senders shelves (sender_of shelves shelf)) history
    ≡ count_by (is_put_of shelves (sender_of shelves shelf)) history
    → IsEmptyShelf (pool_of history) shelf
shelf-empty g history senders shelves shelf some_shelves within legal quiet as_many place block found on =
    let sender = sender_of shelves shelf in
    let all = taken-all g history senders shelves sender some_shelves (to-sender senders shelves shelf some_shelves within) legal quiet as_many in
    let both : takes_off shelf history ++ [] ≡ takes_off shelf history ++ lying_on shelf (pool_of history) =
    append-nil (takes_off shelf history) ∙ takes-column g history senders shelves shelf some_shelves within legal quiet
    ∙ ap (column (turn_of shelves sender) shelf 0) all ∙ sym (puts-column g history senders shelves shelf some_shelves within legal quiet)
    ∙ in-order g history shelf legal in
    let nothing : [] ≡ lying_on shelf (pool_of history) = append_cancel_left (takes_off shelf history) [] (lying_on shelf (pool_of history)) both in
    let one : lying_on shelf (pool_of history) ≡ parcel_of block ∷ [] =
    lying-at shelf place (pool_of history) block (sound-of g history legal).pairs found on in
    absurd (cc)

-- of a sender's shelf that holds no block, the part that was sent begins the part that was taken
drained-shelf :
    (g : Geometry) (history : List Event) (senders shelves sender shelf : ℕ) → 0 < shelves → sender < senders
    → IsLegalWithoutCounts g history → IsQuiet senders shelves history → IsEmptyShelf (pool_of history) shelf
    → sender_of shelves shelf ≡ sender
    → IsPrefix (column (turn_of shelves sender) shelf 0 (sent shelves sender history))
    (column (turn_of shelves sender) shelf 0 (taken senders shelves sender history))
drained-shelf g history senders shelves sender shelf some_shelves below legal quiet empty is =
    let within = from-sender senders shelves sender shelf some_shelves below is in
    let all : puts_on shelf history ≡ takes_off shelf history = puts-taken g history shelf legal empty in
    subst
    (λ (k : ℕ). IsPrefix (column (turn_of shelves k) shelf 0 (sent shelves k history))
    (column (turn_of shelves k) shelf 0 (taken senders shelves k history)))
    is (
      [],
      sym (takes-column g history senders shelves shelf some_shelves within legal quiet) ∙ sym all
          ∙ puts-column g history senders shelves shelf some_shelves within legal quiet
          ∙ sym (append-nil (column (turn_of shelves (sender_of shelves shelf)) shelf 0 (sent shelves (sender_of shelves shelf) history))),
    )

prefix-length : (shorter longer : List Parcel) → IsPrefix shorter longer → length shorter ≤ length longer
prefix-length shorter longer is =
    let long : length longer ≡ length shorter + length is.0 = ap (λ (l : List Parcel). length l) is.1 ∙ length-append shorter is.0 in
    omega (arith, long)

pub taken-drained :
    (g : Geometry) (history : List Event) (senders shelves sender : ℕ) → 0 < shelves → sender < senders
    → IsLegalWithoutCounts g history → IsQuiet senders shelves history
    → ((shelf : ℕ) → sender_of shelves shelf ≡ sender → IsEmptyShelf (pool_of history) shelf)
    → taken senders shelves sender history ≡ sent shelves sender history
taken-drained g history senders shelves sender some_shelves below legal quiet empty =
    let first = taken-prefix g history senders shelves sender some_shelves below legal quiet in
    let back : IsPrefix (sent shelves sender history) (taken senders shelves sender history) =
    columns-prefix (turn_of shelves sender) 0 (sent shelves sender history) (taken senders shelves sender history)
    (λ shelf.
    elim (cases_eq (sender_of shelves shelf) sender) [
      | inl is ↦ drained-shelf g history senders shelves sender shelf some_shelves below legal quiet (empty shelf is) is
      | inr ne ↦
          no-shelf senders shelves sender shelf (sent shelves sender history) (taken senders shelves sender history) some_shelves ne
    ]) in
    let up = prefix-length (taken senders shelves sender history) (sent shelves sender history) first in
    let down = prefix-length (sent shelves sender history) (taken senders shelves sender history) back in
    whole-prefix (taken senders shelves sender history) (sent shelves sender history) first (omega (arith, up, down))

-- a message that is put on the shelf of its turn, or taken off it, leaves the pipe quiet
pub put-turn :
    (senders shelves sender place : ℕ) (events : List Event) → 0 < shelves
    → IsQuietAfter senders shelves events (Put sender place (turn_of shelves sender (count_by (is_put_of shelves sender) events)))
put-turn senders shelves sender place events some_shelves = λ within.
    (sym (turn-home shelves sender (count_by (is_put_of shelves sender) events) some_shelves), refl)

pub take-turn :
    (senders shelves sender place : ℕ) (events : List Event) → 0 < shelves
    → IsQuietAfter senders shelves events (Take senders (turn_of shelves sender (count_by (is_take_of senders shelves sender) events)) place)
take-turn senders shelves sender place events some_shelves = λ within.
    let home = turn-home shelves sender (count_by (is_take_of senders shelves sender) events) some_shelves in
    (refl, ap (λ (k : ℕ). turn_of shelves k (count_by (is_take_of senders shelves k) events)) (sym home))

pub put-is : (shelves sender place shelf : ℕ) → sender_of shelves shelf ≡ sender → is_put_of shelves sender (Put sender place shelf) ≡ true
put-is shelves sender place shelf home =
    and_from (eqb sender sender) (eqb (sender_of shelves shelf) sender) (eq-eqb sender sender refl) (eq-eqb (sender_of shelves shelf) sender home)

pub take-is :
    (senders shelves sender place shelf : ℕ) → sender_of shelves shelf ≡ sender
    → is_take_of senders shelves sender (Take senders shelf place) ≡ true
take-is senders shelves sender place shelf home =
    and_from (eqb senders senders) (eqb (sender_of shelves shelf) sender) (eq-eqb senders senders refl)
    (eq-eqb (sender_of shelves shelf) sender home)

pub take-is-not :
    (senders shelves sender place shelf : ℕ) → sender_of shelves shelf ≢ sender
    → is_take_of senders shelves sender (Take senders shelf place) ≡ false
take-is-not senders shelves sender place shelf away =
    rw (eq-eqb senders senders refl) (ne_eqb (sender_of shelves shelf) sender away)
