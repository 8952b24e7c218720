-- What is handed over a shelf: where a history has one put there and one take, and nothing is live at its end, the block that was taken has the words of the one that was put.
use Rattle.std.proofs.Common.{ℕ, Bool, true, ◌≡◌, List, [], ◌∷◌, ◌++◌, Option, Some, None, refl, sym, ◌∙◌, ap, inl, inr, arith, eq-eqb, append_assoc, append-nil, count_by}
use Rattle.std.proofs.lemmas.Bool.{cases_Bool}
use Rattle.pool_model.specs.declared.event.Event.{Event}
use Rattle.pool_model.specs.declared.event.Event.TheVariants.{Put, Take}
use Rattle.pool_model.specs.declared.owner.Owner.TheVariants.{Shelf}
use Rattle.pool_model.specs.Histories.{Begins}
use Rattle.pool_model.specs.Parcels.{Parcel, handed, is_put_on, is_take_off, lying_on, parcel_of, parcels, parcels_from, parcels_in, puts_on, takes_off}
use Rattle.pool_model.specs.Pool.{Block, Pool, block_at, handed_to, pool_after, pool_of, with_changed}
use Rattle.pool_model.proofs.ParcelLemmas.{from-append}
use Rattle.pool_model.proofs.PoolLemmas.{block_at-changed_same}
use Rattle.worked_programs.proofs.EmbeddedCounts.{count-append, count-first, one-on}

parcels-none : (chosen : Event → Bool) (pool : Pool) (events : List Event) → count_by chosen events ≡ 0 → parcels_from chosen pool events ≡ []
parcels-none chosen pool [] none = refl
parcels-none chosen pool (event ∷ events) none =
    let whole = count-first chosen event events in
    elim (cases_Bool (chosen event)) [
      | inl on ↦ let counted = one-on chosen event on in absurd (omega (arith, whole, counted, none))
      | inr off ↦ rw off (parcels-none chosen (pool_after pool event) events (omega (arith, whole, none)))
    ]

-- one event is chosen alone
parcels-single :
    (chosen : Event → Bool) (before rest : List Event) (event : Event) → chosen event ≡ true → count_by chosen (before ++ event ∷ rest) ≡ 1
    → parcels chosen (before ++ event ∷ rest) ≡ handed (pool_of before) event
parcels-single chosen before rest event on counted =
    let whole = count-append chosen before (event ∷ rest) in
    let more = count-first chosen event rest in
    let alone = one-on chosen event on in
    let none_before : count_by chosen before ≡ 0 = omega (arith, whole, more, alone, counted) in
    let none_after : count_by chosen rest ≡ 0 = omega (arith, whole, more, alone, counted) in
    let left : parcels_from chosen [] before ≡ [] = parcels-none chosen [] before none_before in
    let later : parcels_from chosen (pool_after (pool_of before) event) rest ≡ [] =
    parcels-none chosen (pool_after (pool_of before) event) rest none_after in
    let right : parcels_from chosen (pool_of before) (event ∷ rest) ≡ handed (pool_of before) event =
    rw on (ap (λ (l : List Parcel). handed (pool_of before) event ++ l) later ∙ append-nil (handed (pool_of before) event)) in
    from-append chosen [] before (event ∷ rest)
    ∙ ap (λ (l : List Parcel). l ++ parcels_from chosen (pool_of before) (event ∷ rest)) left
    ∙ right

-- an event that stands last in a part of the history
pub stands-in :
    (before part events : List Event) (event : Event) → part ≡ before ++ event ∷ [] → (begins : Begins part events)
    → events ≡ before ++ event ∷ begins.0
stands-in before part events event last begins =
    begins.1 ∙ ap (λ (xs : List Event). xs ++ begins.0) last ∙ append_assoc before (event ∷ []) begins.0

-- the block that was put and the one that was taken are the same parcel
pub same-parcel :
    (shelf : ℕ) (events before rest until after : List Event) (giver taker place there : ℕ)
    → puts_on shelf events ≡ takes_off shelf events ++ lying_on shelf (pool_of events) → pool_of events ≡ []
    → events ≡ before ++ Put giver place shelf ∷ rest → events ≡ until ++ Take taker shelf there ∷ after
    → count_by (is_put_on shelf) events ≡ 1 → count_by (is_take_off shelf) events ≡ 1
    → parcels_in (block_at place (pool_of before)) ≡ parcels_in (block_at there (pool_of until))
same-parcel shelf events before rest until after giver taker place there order nothing put took puts takes =
    let on : is_put_on shelf (Put giver place shelf) ≡ true = eq-eqb shelf shelf refl in
    let off : is_take_off shelf (Take taker shelf there) ≡ true = eq-eqb shelf shelf refl in
    let given =
    ap (puts_on shelf) put
    ∙ parcels-single (is_put_on shelf) before rest (Put giver place shelf) on (sym (ap (count_by (is_put_on shelf)) put) ∙ puts) in
    let taken =
    ap (takes_off shelf) took
    ∙ parcels-single (is_take_off shelf) until after (Take taker shelf there) off (sym (ap (count_by (is_take_off shelf)) took) ∙ takes) in
    sym given
    ∙ order
    ∙ ap (λ (pool : Pool). takes_off shelf events ++ lying_on shelf pool) nothing
    ∙ append-nil (takes_off shelf events)
    ∙ taken

-- the block that was taken contains the same as the one that was put
pub same-contents :
    (shelf place : ℕ) (pool : Pool) (o : Option Block) (was got : Block) → block_at place pool ≡ o
    → parcels_in o ≡ parcel_of got ∷ []
    → block_at place (with_changed place (handed_to (Shelf shelf)) pool) ≡ Some (handed_to (Shelf shelf) was)
    → got.contents ≡ was.contents
same-contents shelf place pool None was got found parcel lies = absurd (let e : [] ≡ parcel_of got ∷ [] = parcel in cc)
same-contents shelf place pool (Some block) was got found parcel lies =
    let e : parcel_of block ∷ [] ≡ parcel_of got ∷ [] = parcel in
    let same : parcel_of block ≡ parcel_of got = cc in
    let now = sym (block_at-changed_same place (handed_to (Shelf shelf)) pool block (λ b. refl) found) ∙ lies in
    let put : Some (handed_to (Shelf shelf) block) ≡ Some (handed_to (Shelf shelf) was) = now in
    let handed : handed_to (Shelf shelf) block ≡ handed_to (Shelf shelf) was = cc in
    sym (ap (λ (parcel : Parcel). parcel.contents) same) ∙ ap (λ (b : Block). b.contents) handed
