-- Chains of slots, from number to number.
use Rattle.std.specs.Prelude.{ℕ, suc, ◌≡◌, List, [], ◌∷◌, Option, Some}

-- a number other than 0 is that of a slot plus 1, and in a slot stand the number of the next one and an item. From one number these items lead to another
abbrev pub Leads : {A : Type 0} → (ℕ → Option (ℕ × A)) → ℕ → List A → ℕ → Type 0
Leads at from [] to = from ≡ to
Leads at from (item ∷ items) to = (slot : ℕ) × (next : ℕ) × (from ≡ suc slot) × (at slot ≡ Some (next, item)) × Leads at next items to
