-- Chains of slots: what begins at a number is determined, and stays where no slot on the way is changed.
use Rattle.std.proofs.Common.{ℕ, suc, ◌≡◌, ◌≢◌, ◌<◌, ◌≤◌, ◌+◌, List, [], ◌∷◌, ◌++◌, Option, Some, None, length, length-append, refl, sym, ◌∙◌, ap, subst, arith}
use Rattle.std.proofs.lemmas.Option.{none-some, some_pair_parts}
use Rattle.typed_store.specs.Links.{Leads}

pub leads-append :
    {A : Type 0} (at : ℕ → Option (ℕ × A)) (from mid to : ℕ) (xs ys : List A) → Leads at from xs mid → Leads at mid ys to → Leads at from (xs ++ ys) to
leads-append at from mid to [] ys come left = subst (λ k. Leads at k ys to) (sym come) left
leads-append at from mid to (x ∷ xs) ys (slot, next, is, here, rest) left = (slot, next, is, here, leads-append at next mid to xs ys rest left)

-- two lists that begin at one number are one
pub leads-one : {A : Type 0} (at : ℕ → Option (ℕ × A)) (from : ℕ) (xs ys : List A) → Leads at from xs 0 → Leads at from ys 0 → xs ≡ ys
leads-one at from [] [] p q = refl
leads-one at from [] (y ∷ ys) p (slot, next, is, here, rest) = absurd (omega (arith, p, is))
leads-one at from (x ∷ xs) [] (slot, next, is, here, rest) q = absurd (omega (arith, q, is))
leads-one at from (x ∷ xs) (y ∷ ys) (s, n, is, here, rest) (t, m, too, there, others) =
    let same : s ≡ t = omega (arith, is, too) in
    let both = some_pair_parts n m x y (sym here ∙ (ap at same ∙ there)) in
    let left : xs ≡ ys = leads-one at n xs ys rest (subst (λ k. Leads at k ys 0) (sym both.0) others) in
    ap (λ z. z ∷ xs) both.1 ∙ ap (λ l. y ∷ l) left

-- what stands first on a way that isn't empty
pub leads-first :
    {A : Type 0} (at : ℕ → Option (ℕ × A)) (slot : ℕ) (xs : List A) → 0 < length xs → Leads at (suc slot) xs 0
    → (next : ℕ) × (x : A) × (at slot ≡ Some (next, x))
leads-first at slot [] some leads = absurd (omega (arith, some))
leads-first at slot (x ∷ xs) some (s, next, is, here, rest) =
    let same : slot ≡ s = omega (arith, is) in
    (next, x, ap at same ∙ here)

-- lists of two lengths begin at two slots
pub apart :
    {A : Type 0} (at : ℕ → Option (ℕ × A)) (slot other : ℕ) (xs ys : List A) → Leads at (suc slot) xs 0 → Leads at (suc other) ys 0
    → length xs ≢ length ys → slot ≢ other
apart at slot other xs ys p q differ same =
    differ (ap (λ l. length l) (leads-one at (suc slot) xs ys p (subst (λ k. Leads at (suc k) ys 0) (sym same) q)))

-- a slot where nothing stands is not on the way
pub apart-empty :
    {A : Type 0} (at : ℕ → Option (ℕ × A)) (slot other : ℕ) (xs : List A) → 0 < length xs → Leads at (suc slot) xs 0 → at other ≡ None → slot ≢ other
apart-empty at slot other xs some leads none same =
    let first = leads-first at slot xs some leads in
    none-some (first.0, first.1) (sym none ∙ (ap at (sym same) ∙ first.2))

-- a way stays where each slot on it does
pub leads-kept :
    {A : Type 0} (at now : ℕ → Option (ℕ × A)) (Away : ℕ → Type 0) → ((slot : ℕ) → Away slot → now slot ≡ at slot)
    → (tail : List A) (mid : ℕ) → Leads at mid tail 0 → (from : ℕ) (xs : List A)
    → ((slot n : ℕ) (ys : List A) → Leads at (suc slot) ys 0 → length ys ≡ n + length tail → 0 < n → n ≤ length xs → Away slot)
    → Leads at from xs mid → Leads now from xs mid
leads-kept at now Away keep tail mid end from [] away leads = leads
leads-kept at now Away keep tail mid end from (x ∷ xs) away (slot, next, is, here, rest) =
    let whole : Leads at (suc slot) (x ∷ xs ++ tail) 0 = (slot, next, refl, here, leads-append at next mid 0 xs tail rest end) in
    let long : length (x ∷ xs ++ tail) ≡ length (x ∷ xs) + length tail = length-append (x ∷ xs) tail in (
      slot,
      next,
      is,
      keep slot (away slot (length (x ∷ xs)) (x ∷ xs ++ tail) whole long (omega arith) (omega arith)) ∙ here,
      leads-kept at now Away keep tail mid end next xs
          (λ s n ys leads_s many some few. away s n ys leads_s many some (omega (arith, few))) rest,
    )

-- a way stays where nothing stood in the one slot that is changed
pub leads-new :
    {A : Type 0} (at now : ℕ → Option (ℕ × A)) (changed : ℕ) → at changed ≡ None → ((slot : ℕ) → slot ≢ changed → now slot ≡ at slot)
    → (from : ℕ) (xs : List A) → Leads at from xs 0 → Leads now from xs 0
leads-new at now changed none keep from xs leads =
    leads-kept at now (λ slot. slot ≢ changed) keep [] 0 refl from xs
    (λ slot n ys leads_s many some few. apart-empty at slot changed ys (omega (arith, many, some)) leads_s none) leads

-- a way stays where the slot that is changed stands in front of it
pub leads-behind :
    {A : Type 0} (at now : ℕ → Option (ℕ × A)) (changed : ℕ) (whole : List A) → Leads at (suc changed) whole 0
    → ((slot : ℕ) → slot ≢ changed → now slot ≡ at slot)
    → (from : ℕ) (xs : List A) → length xs < length whole → Leads at from xs 0 → Leads now from xs 0
leads-behind at now changed whole front keep from xs short leads =
    leads-kept at now (λ slot. slot ≢ changed) keep [] 0 refl from xs
    (λ slot n ys leads_s many some few. apart at slot changed ys whole leads_s front (λ e. absurd (omega (arith, e, many, few, short)))) leads

-- a way stays where all slots do
pub leads-same :
    {A : Type 0} (at now : ℕ → Option (ℕ × A)) → ((slot : ℕ) → now slot ≡ at slot) → (from : ℕ) (xs : List A) (to : ℕ)
    → Leads at from xs to → Leads now from xs to
leads-same at now keep from [] to leads = leads
leads-same at now keep from (x ∷ xs) to (slot, next, is, here, rest) =
    (slot, next, is, keep slot ∙ here, leads-same at now keep next xs to rest)
