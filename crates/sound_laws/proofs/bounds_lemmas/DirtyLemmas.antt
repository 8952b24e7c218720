-- Whether another caller has won on a word since a note: what one more win changes, and what it leaves.
use Rattle.std.proofs.Common.{ℕ, false, Option, Some, None, ◌≡◌, ◌<◌, ◌≤◌, List, ◌++◌, length, drop, refl, arith, ap, nat_lt, count_by, IsTrue, lt-ltb, ltb-true}
use Rattle.std.proofs.lemmas.List.{drop_all}
use Rattle.word_table.specs.declared.name.WordName.{WordName}
use Rattle.sound_laws.specs.bounds.Contention.{is_against, dirty_since}
use Rattle.sound_laws.specs.bounds.Wins.{Win}
use Rattle.sound_laws.proofs.bounds_lemmas.CountLemmas.{count-behind}

-- no note is of wins to come
abbrev pub IsPast : List Win → Option ℕ → Type 0
IsPast list o = (wins : ℕ) → o ≡ Some wins → wins ≤ length list

-- a word on which another caller has won since a note stays dirty as wins are added
pub dirty-stays :
    (list more : List Win) (caller : ℕ) (m : WordName) (o : Option ℕ) → IsPast list o → IsTrue (dirty_since list caller m o)
    → IsTrue (dirty_since (list ++ more) caller m o)
dirty-stays list more caller m None past dirty = dirty
dirty-stays list more caller m (Some wins) past dirty =
    let behind = count-behind (is_against caller m) list more wins (past wins refl) in
    let some = ltb-true 0 (count_by (is_against caller m) (drop wins list)) dirty in
    lt-ltb 0 (count_by (is_against caller m) (drop wins (list ++ more))) (omega (arith, behind, some))

-- wins that aren't against the caller on the word leave it as dirty as it was
pub dirty-same :
    (list more : List Win) (caller : ℕ) (m : WordName) (o : Option ℕ) → IsPast list o → count_by (is_against caller m) more ≡ 0
    → dirty_since (list ++ more) caller m o ≡ dirty_since list caller m o
dirty-same list more caller m None past none = refl
dirty-same list more caller m (Some wins) past none =
    let behind = count-behind (is_against caller m) list more wins (past wins refl) in
    let same : count_by (is_against caller m) (drop wins (list ++ more)) ≡ count_by (is_against caller m) (drop wins list) =
    omega (arith, behind, none) in
    ap (nat_lt 0) same

-- a win against the caller on the word makes it dirty since every note
pub dirty-now :
    (list more : List Win) (caller : ℕ) (m : WordName) (wins : ℕ) → wins ≤ length list → 0 < count_by (is_against caller m) more
    → IsTrue (dirty_since (list ++ more) caller m (Some wins))
dirty-now list more caller m wins within some =
    lt-ltb 0 (count_by (is_against caller m) (drop wins (list ++ more)))
    (omega (arith, count-behind (is_against caller m) list more wins within, some))

-- a word is clean since a note of all wins
pub clean-now : (list : List Win) (caller : ℕ) (m : WordName) → dirty_since list caller m (Some (length list)) ≡ false
clean-now list caller m = ap (λ xs. nat_lt 0 (count_by (is_against caller m) xs)) (drop_all (length list) list (omega arith))
