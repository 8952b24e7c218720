-- What a caller owns is changed, given and taken away by its own events alone.
use Rattle.std.proofs.Common.{ℕ, false, ◌≡◌, ◌≢◌, List, [], ◌∷◌, ◌++◌, Option, Some, None, refl, sym, ◌∙◌, ap, subst, inl, inr, eq-eqb, eqb-true, ne_eqb, append-nil, true≢false, true}
use Rattle.std.proofs.lemmas.Bool.{cases_Bool, cases_eq}
use Rattle.std.proofs.lemmas.Option.{none-some}
use Rattle.heap_geometry.specs.declared.geometry.Geometry.{Geometry}
use Rattle.heap_geometry.specs.Need.{need_of}
use Rattle.pool_model.specs.declared.owner.Owner.{Owner}
use Rattle.pool_model.specs.declared.owner.Owner.TheVariants.{Caller, Shelf}
use Rattle.pool_model.specs.declared.event.Event.{Event}
use Rattle.pool_model.specs.declared.event.Event.TheVariants.{Alloc, Looked, Refuse, Free, Write, Put, Take, TakeNone}
use Rattle.pool_model.specs.Histories.{caller_of, own}
use Rattle.pool_model.specs.Pool.{Block, Pool, block_at, fresh_block, written, handed_to, pool_after, pool_of, with_changed}
use Rattle.pool_model.specs.Legal.{IsAllowed, IsFree, IsLegalWithoutCounts, IsLegalEventWithoutCounts}
use Rattle.pool_model.proofs.PoolLemmas.{Differ, Pairs, block_at-here, block_at-past, block_at-without_other, block_at-without_same, block_at-changed_other, block_at-changed_same}
use Rattle.pool_model.proofs.HistoryLemmas.{pool_of-push, push-append, EachAfter-cut}
use Rattle.pool_model.proofs.OwnerLemmas.{free-elsewhere, own-none}
use Rattle.pool_model.proofs.WellFormedLemmas.{sound-of, sound-differ}
use Rattle.pool_model.specs.Owned.{is_of, if_of, owned_at}

-- an owner other than a caller fails the test for that caller
pub of-other : (caller : ℕ) (owner : Owner) → owner ≢ Caller caller → is_of caller owner ≡ false
of-other caller (Caller other) ne = ne_eqb other caller (λ e. ne (ap Caller e))
of-other caller (Shelf shelf) ne = refl

pub if-other : (caller : ℕ) (block : Block) → block.owner ≢ Caller caller → if_of caller (Some block) ≡ None
if-other caller block ne = rw (of-other caller block.owner ne) refl

-- a block that a caller owns is found as the caller's
pub of-self : (caller : ℕ) (block : Block) → block.owner ≡ Caller caller → if_of caller (Some block) ≡ Some block
of-self caller block owned = rw owned (rw (eq-eqb caller caller refl) refl)

of-is : (caller : ℕ) (owner : Owner) → is_of caller owner ≡ true → owner ≡ Caller caller
of-is caller (Caller other) is = ap Caller (eqb-true other caller is)
of-is caller (Shelf shelf) is = absurd (true≢false (sym is))

-- what a caller owns is a block of its own
pub owned-found : (caller : ℕ) (o : Option Block) (block : Block) → if_of caller o ≡ Some block → (o ≡ Some block) × (block.owner ≡ Caller caller)
owned-found caller None block is = absurd (none-some block is)
owned-found caller (Some b) block is =
    elim (cases_Bool (is_of caller b.owner)) [
      | inl on ↦
          let e : Some b ≡ Some block = rw on at is in
          let same : b ≡ block = cc in
          (e, ap (λ (x : Block). x.owner) (sym same) ∙ of-is caller b.owner on)
      | inr off ↦ absurd (none-some block (rw off at is))
    ]

-- a caller owns the same at a place that has another owner's block before and after
pub both-none :
    (caller place : ℕ) (pool new : Pool) (a b : Block) → block_at place pool ≡ Some a → a.owner ≢ Caller caller
    → block_at place new ≡ Some b → b.owner ≢ Caller caller → owned_at caller place new ≡ owned_at caller place pool
both-none caller place pool new a b found before now after =
    ap (if_of caller) now ∙ if-other caller b after ∙ sym (ap (if_of caller) found ∙ if-other caller a before)

-- an owner that is another caller, or a shelf, is not the caller
pub caller-differs : (caller other : ℕ) (owner : Owner) → owner ≡ Caller other → other ≢ caller → owner ≢ Caller caller
caller-differs caller other owner is ne same = ne (let e : Caller other ≡ Caller caller = sym is ∙ same in cc)

pub shelf-differs : (caller shelf : ℕ) (owner : Owner) → owner ≡ Shelf shelf → owner ≢ Caller caller
shelf-differs caller shelf owner is same = let e : Shelf shelf ≡ Caller caller = sym is ∙ same in absurd (cc)

-- no block is live at a place where a block can be given
pub clear-none :
    (g : Geometry) (pool : Pool) (caller need place : ℕ) (o : Option Block) → IsFree g pool (need_of need) place → block_at place pool ≡ o → o ≡ None
clear-none g pool caller need place None free is = refl
clear-none g pool caller need place (Some block) free is = absurd (free-elsewhere g pool caller need place place block free is refl)

changed :
    (caller place at other : ℕ) (change : Block → Block) (pool : Pool) (block : Block) → ((b : Block) → (change b).place ≡ b.place)
    → block_at at pool ≡ Some block → block.owner ≢ Caller caller → (change block).owner ≢ Caller caller
    → owned_at caller place (with_changed at change pool) ≡ owned_at caller place pool
changed caller place at other change pool block keeps found before after =
    elim (cases_eq place at) [
      | inl same ↦
          let found_here : block_at place pool ≡ Some block = ap (λ (p : ℕ). block_at p pool) same ∙ found in
          let now : block_at place (with_changed at change pool) ≡ Some (change block) =
          ap (λ (p : ℕ). block_at p (with_changed at change pool)) same ∙ block_at-changed_same at change pool block keeps found in
          both-none caller place pool (with_changed at change pool) block (change block) found_here before now after
      | inr differ ↦ ap (if_of caller) (block_at-changed_other at place change pool keeps differ)
    ]

-- an event of another caller leaves what a caller owns at a place
pub others-event :
    (g : Geometry) (before : List Event) (event : Event) (caller place : ℕ) → Pairs Differ (pool_of before) → IsAllowed g before event
    → caller_of event ≢ caller → owned_at caller place (pool_after (pool_of before) event) ≡ owned_at caller place (pool_of before)
others-event g before (Alloc other need at) caller place differ allowed ne =
    elim (cases_eq at place) [
      | inl same ↦
          let free : IsFree g (pool_of before) (need_of need) place = subst (λ (p : ℕ). IsFree g (pool_of before) (need_of need) p) same allowed in
          ap (if_of caller) (block_at-here place (fresh_block other need at) (pool_of before) same)
          ∙ if-other caller (fresh_block other need at) (caller-differs caller other (Caller other) refl ne)
          ∙ sym (ap (if_of caller) (clear-none g (pool_of before) other need place (block_at place (pool_of before)) free refl))
      | inr apart ↦ ap (if_of caller) (block_at-past place (fresh_block other need at) (pool_of before) apart)
    ]
others-event g before (Looked other class) caller place differ allowed ne = refl
others-event g before (Refuse other need) caller place differ allowed ne = refl
others-event g before (Free other at) caller place differ allowed ne =
    elim (cases_eq place at) [
      | inl same ↦
          let found_here : block_at place (pool_of before) ≡ Some allowed.0 = ap (λ (p : ℕ). block_at p (pool_of before)) same ∙ allowed.1 in
          ap (if_of caller) (ap (λ (p : ℕ). block_at p (pool_after (pool_of before) (Free other at))) same ∙ block_at-without_same at (pool_of before) differ)
          ∙ sym (ap (if_of caller) found_here ∙ if-other caller allowed.0 (caller-differs caller other allowed.0.owner allowed.2 ne))
      | inr apart ↦ ap (if_of caller) (block_at-without_other at place (pool_of before) apart)
    ]
others-event g before (Write other at i v) caller place differ allowed ne =
    let off = caller-differs caller other allowed.0.owner allowed.2 ne in
    changed caller place at other (written i v) (pool_of before) allowed.0 (λ b. refl) allowed.1 off off
others-event g before (Put other at shelf) caller place differ allowed ne =
    changed caller place at other (handed_to (Shelf shelf)) (pool_of before) allowed.0.0 (λ b. refl) allowed.0.1
    (caller-differs caller other allowed.0.0.owner allowed.0.2 ne) (shelf-differs caller shelf (Shelf shelf) refl)
others-event g before (Take other shelf at) caller place differ allowed ne =
    changed caller place at other (handed_to (Caller other)) (pool_of before) allowed.0.0 (λ b. refl) allowed.0.1
    (shelf-differs caller shelf allowed.0.0.owner allowed.0.2) (caller-differs caller other (Caller other) refl ne)
others-event g before (TakeNone other shelf) caller place differ allowed ne = refl

-- events of other callers leave what a caller owns at a place
pub others-all :
    (g : Geometry) (history rest : List Event) (caller place : ℕ) → IsLegalWithoutCounts g (history ++ rest) → own caller rest ≡ []
    → owned_at caller place (pool_of (history ++ rest)) ≡ owned_at caller place (pool_of history)
others-all g history [] caller place legal none = ap (λ (h : List Event). owned_at caller place (pool_of h)) (append-nil history)
others-all g history (event ∷ rest) caller place legal none =
    let whole : (history ++ event ∷ []) ++ rest ≡ history ++ event ∷ rest = push-append history rest event in
    let parts = own-none caller event rest none in
    let sound = sound-of g history (EachAfter-cut (IsLegalEventWithoutCounts g) history (event ∷ rest) legal) in
    let step : owned_at caller place (pool_of (history ++ event ∷ [])) ≡ owned_at caller place (pool_of history) =
    rw (pool_of-push history event)
    (others-event g history event caller place (sound-differ g (pool_of history) sound) (legal history rest event refl).1 parts.0) in
    subst (λ (h : List Event). owned_at caller place (pool_of h) ≡ owned_at caller place (pool_of history)) whole
    (others-all g (history ++ event ∷ []) rest caller place (subst (IsLegalWithoutCounts g) (sym whole) legal) parts.1 ∙ step)
