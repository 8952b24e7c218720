-- Lists of looks, and what ends them.
use Rattle.std.proofs.Common.{ℕ, zero, suc, Bool, true, false, ◌≡◌, List, [], ◌∷◌, ◌++◌, refl, sym, ap, ◌∙◌, subst}
use Rattle.heap_geometry.specs.declared.need.Need.{Need}
use Rattle.heap_geometry.specs.declared.need.Need.TheVariants.{Small, Large}
use Rattle.heap_geometry.specs.Need.{need_of}
use Rattle.pool_model.specs.declared.event.Event.{Event}
use Rattle.pool_model.specs.declared.event.Event.TheVariants.{Alloc, Looked, Refuse}
use Rattle.pool_model.specs.Calls.{looks, IsGiving, IsRefusing, IsSpending}
use Rattle.sound_laws.specs.events.UnderWay.{HasLooked}

looks-more : (caller class count : ℕ) → looks caller class count ++ Looked caller class ∷ [] ≡ looks caller class (suc count)
looks-more caller class zero = refl
looks-more caller class (suc count) = ap (λ (l : List Event). Looked caller class ∷ l) (looks-more caller class count)

-- events of a caller that is known to have looked, or of which nothing is known, stay so where less is known
pub looked-less :
    (caller class : ℕ) (looked looked' : Bool) (es : List Event) → (looked' ≡ true → looked ≡ true) → HasLooked caller class looked es
    → HasLooked caller class looked' es
looked-less caller class true true es less has = has
looked-less caller class true false es less has = (suc has.0, has.1)
looked-less caller class false true es less has = let e : false ≡ true = less refl in absurd cc
looked-less caller class false false es less has = has

pub looked-any : (caller class : ℕ) (looked : Bool) (es : List Event) → HasLooked caller class looked es → HasLooked caller class false es
looked-any caller class looked es has = looked-less caller class looked false es (λ e. absurd cc) has

-- one look more of a caller that asks for a class
pub looked-more :
    (caller class : ℕ) (looked looked' : Bool) (es : List Event) → HasLooked caller class looked es
    → HasLooked caller class looked' (es ++ Looked caller class ∷ [])
looked-more caller class looked looked' es has =
    more looked' (looked-any caller class looked es has)
  where
    more : (b : Bool) → HasLooked caller class false es → HasLooked caller class b (es ++ Looked caller class ∷ [])
    more true any = (any.0, ap (λ (l : List Event). l ++ Looked caller class ∷ []) any.1 ∙ looks-more caller class any.0)
    more false any = (suc any.0, ap (λ (l : List Event). l ++ Looked caller class ∷ []) any.1 ∙ looks-more caller class any.0)

-- a small allocation that looked is refused; it is given a block; its caller has no turn left
pub refusing :
    (caller n c : ℕ) (es : List Event) → need_of n ≡ Small c → HasLooked caller c true es
    → IsRefusing caller n (need_of n) (es ++ Refuse caller n ∷ [])
refusing caller n c es small has =
    let R : Need → Type 0 = λ m. IsRefusing caller n m (es ++ Refuse caller n ∷ []) in
    subst R (sym small) (has.0, ap (λ (k : List Event). k ++ Refuse caller n ∷ []) has.1)

pub giving :
    (caller n c place : ℕ) (looked : Bool) (es : List Event) → need_of n ≡ Small c → HasLooked caller c looked es
    → IsGiving caller n place (need_of n) (es ++ Alloc caller n place ∷ [])
giving caller n c place looked es small has =
    let l = looked-any caller c looked es has in
    let R : Need → Type 0 = λ m. IsGiving caller n place m (es ++ Alloc caller n place ∷ []) in
    subst R (sym small) (l.0, ap (λ (k : List Event). k ++ Alloc caller n place ∷ []) l.1)

pub spending :
    (caller n c : ℕ) (looked : Bool) (es : List Event) → need_of n ≡ Small c → HasLooked caller c looked es → IsSpending caller (need_of n) es
spending caller n c looked es small has =
    let R : Need → Type 0 = λ m. IsSpending caller m es in subst R (sym small) (looked-any caller c looked es has)

-- a large allocation is refused; it is given a run
pub refusing-run :
    (caller n units : ℕ) (es : List Event) → need_of n ≡ Large units → es ≡ [] → IsRefusing caller n (need_of n) (es ++ Refuse caller n ∷ [])
refusing-run caller n units es large empty =
    let R : Need → Type 0 = λ m. IsRefusing caller n m (es ++ Refuse caller n ∷ []) in
    subst R (sym large) (ap (λ (k : List Event). k ++ Refuse caller n ∷ []) empty)

pub giving-run :
    (caller n units place : ℕ) (es : List Event) → need_of n ≡ Large units → es ≡ []
    → IsGiving caller n place (need_of n) (es ++ Alloc caller n place ∷ [])
giving-run caller n units place es large empty =
    let R : Need → Type 0 = λ m. IsGiving caller n place m (es ++ Alloc caller n place ∷ []) in
    subst R (sym large) (ap (λ (k : List Event). k ++ Alloc caller n place ∷ []) empty)
