-- What a region that is shared owns, and what a seat does. The region lends its words for a lifetime of its own, whose token it keeps, and a `&` to it shows that the lifetime lasts.
-- An invariant holds the borrow of the words that are at home, and a quarter of each seat's view. What is out with a seat, the seat owns.
use Rattle.std.specs.Prelude.{◌≡◌, ℕ, ◌+◌, ◌≤◌, List, [], ◌∷◌, length}
use base.Fraction.{full_share}
use base.Share.{three_quarters}
use base.Stored.{Gv, Coded, coded×, coded_ℕ, coded_via}
use base.Fml.{Lft, Fml, ftrue, fsep, fex, fbor, flent, flft, fshr_bor, finv}
use denote.RawPtr.{Ptr, block_of, count_of, coded_ptr}
use Rattle.atomic_table.specs.Seated.{seen, roster}
use Rattle.plain_words.specs.Places.{Place}
use Rattle.plain_words.specs.Owned.{fact, row, plain_owns, Lies}
use Rattle.atomic_region.specs.Region.{Range, State, Me}

-- Which region it is: where it lies, its length, the name of the views, and its lifetime
pub record RegionId : Type 0 where
  pub at : Ptr
  pub words : ℕ
  pub views_name : ℕ
  pub atom : ℕ

abbrev pub region_id_coded : Coded RegionId
region_id_coded = coded_via (coded× coded_ptr (coded× coded_ℕ (coded× coded_ℕ coded_ℕ))) (λ (z : RegionId). (z.at, (z.words, (z.views_name, z.atom))))
    (λ x y e i. record { at = (e i).0; words = (e i).1.0; views_name = (e i).1.1.0; atom = (e i).1.1.1 })

abbrev pub age : RegionId → Lft
age z = z.atom ∷ []

module _ (z : RegionId) where
  abbrev pub here : List Place → Fml
  here ps = row (block_of z.at) (count_of z.at) 0 ps

  abbrev pub carried : List Range → Fml
  carried [] = ftrue
  carried (x ∷ xs) = fsep (fact (x.0 + length x.1 ≤ z.words)) (fsep (plain_owns z.at x.0 x.1) (carried xs))

  module _ {V : Type 0} (c : V → Gv) where
    abbrev pub mine : ℕ → Me V → Fml
    mine id me = fsep (seen c z.views_name id three_quarters me.0) (carried me.1)

    module _ (holds : State V → Type 0) where
      abbrev pub standing : State V → Fml
      standing s = fsep (here s.places) (fsep (roster c z.views_name 0 s.views) (fact (holds s × (length s.places ≡ z.words))))

      abbrev pub inner : Fml
      inner = fex (State V) standing

      abbrev pub common : Fml
      common = fsep (fact (Lies z.at z.words)) (finv (fbor (age z) inner))

abbrev pub lasts : RegionId → Lft → Fml
lasts z κ = fshr_bor κ (λ q. flft (age z) q)

-- It keeps its argument in sight, where `search` can match it
unfoldable pub seal : (X : Type 1) → X → (X → Fml) → Fml
seal X x F = F x

module _ {V : Type 0} (c : V → Gv) (z : RegionId) (holds : State V → Type 0) where
  abbrev pub region_owns : Fml
  region_owns = seal (State V → Type 0) holds (λ h. fsep (flft (age z) full_share) (fsep (common z c h) (flent (age z) (inner z c h))))

  abbrev pub region_shares : Lft → Fml
  region_shares κ = seal (State V → Type 0) holds (λ h. fsep (lasts z κ) (common z c h))
