-- The front of a list.
use Rattle.std.proofs.Common.{ℕ, ◌≡◌, ◌≢◌, ◌<◌, List, [], ◌∷◌, Option, length, drop, refl, arith}
use Rattle.std.specs.List.{slice_get}
use Rattle.typed_store.specs.declared.store.Popped.TheVariants.{Empty}
use Rattle.typed_store.specs.declared.store.Store.{Store}
use Rattle.typed_store.specs.Links.{Leads}
use Rattle.typed_store.specs.Stores.{HasList, TellsPopped}

-- no pair stands in front where no number leads on
pub none-front :
    (s : Store) (pairs : List (ℕ × ℕ)) → s.head ≡ 0 → HasList s pairs → TellsPopped (slice_get pairs 0) Empty × HasList s (drop 1 pairs)
none-front s [] none has = (refl, has)
none-front s (pair ∷ pairs) none ((slot, next, is, here, left), counted) = absurd (omega (arith, is, none))

pub some-long : (at : ℕ → Option (ℕ × (ℕ × ℕ))) (head : ℕ) (pairs : List (ℕ × ℕ)) → head ≢ 0 → Leads at head pairs 0 → 0 < length pairs
some-long at head [] some leads = absurd (some leads)
some-long at head (pair ∷ pairs) some leads = omega arith
