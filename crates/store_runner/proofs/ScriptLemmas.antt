-- What a round makes of the pairs.
use Rattle.std.proofs.Common.{ℕ, zero, suc, ◌≡◌, ◌≢◌, ◌<◌, ◌≤◌, ◌+◌, ◌%◌, List, ◌∷◌, length, refl, sym, ◌∙◌, ap, arith, eq-eqb, ne_eqb}
use Rattle.std.proofs.Math.Nat.{add-mod_right, div-add-mod}
use Rattle.typed_store.specs.Nodes.{without_first}
use Rattle.store_runner.specs.Scripts.{latest}

-- rounds that are fewer than seven apart have different keys
apart : (n d : ℕ) → 0 < d → d < 7 → n % 7 ≢ (n + d) % 7
apart n d some few same =
    omega (arith, div-add-mod n 7, div-add-mod (n + d) 7, same, some, few)

-- the round that is seven before this one is the last of the latest rounds, and it alone has this key
pub latest-without :
    (a d many : ℕ) → 0 < d → d + suc many ≡ 8 → without_first ((a + d) % 7) (latest a (suc many)) ≡ latest a many
latest-without zero d zero some sum = refl
latest-without zero d (suc m) some sum = refl
latest-without (suc b) d zero some sum =
    let seven : d ≡ 7 = omega (arith, sum) in
    let same : suc b % 7 ≡ (suc b + d) % 7 = sym (ap (λ n. (suc b + n) % 7) seven ∙ add-mod_right (suc b) 7) in
    rw (eq-eqb (suc b % 7) ((suc b + d) % 7) same) refl
latest-without (suc b) d (suc m) some sum =
    let other : suc b % 7 ≢ (suc b + d) % 7 = apart (suc b) d some (omega (arith, sum)) in
    let number : suc b + d ≡ b + suc d = omega arith in
    let rest : without_first ((suc b + d) % 7) (latest b (suc m)) ≡ latest b m =
    ap (λ n. without_first (n % 7) (latest b (suc m))) number ∙ latest-without b (suc d) m (omega arith) (omega (arith, sum)) in
    rw (ne_eqb (suc b % 7) ((suc b + d) % 7) other) (ap (λ (l : List (ℕ × ℕ)). (suc b % 7, suc b) ∷ l) rest)

pub latest-short : (round many : ℕ) → length (latest round many) ≤ many
latest-short round zero = omega arith
latest-short zero (suc many) = omega arith
latest-short (suc round) (suc many) = omega (arith, latest-short round many)
