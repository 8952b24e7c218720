-- What no hazard word names, and why there is one in a long list.
use Rattle.std.proofs.Common.{ℕ, suc, true, false, Option, Some, None, ◌≡◌, ◌≢◌, ◌+◌, ◌<◌, ◌≤◌, ◌∙◌, List, [], ◌∷◌, length, get_or, set, arith, ap, sym, refl, length-set, get_or-set_other}
use Rattle.std.specs.Prelude.{All, AllPairs, Contains, ◌==◌, not, count_by, map, nat_le, nat_lt, is_some, IsSome, if◌then◌else◌}
use Rattle.std.proofs.lemmas.Bool.{cond-true, cond-false, lt-ltb, true_from_ne_false, true≢false, cond_both, not-false, not-true, not_from_true, eqb-true, eq-eqb, leb-false, ne_eqb, both_ways}
use Rattle.std.proofs.lemmas.Option.{none-some, same_Some}
use Rattle.std.proofs.lemmas.List.{get_or_default}
use Rattle.std.proofs.lemmas.List.Elements.{All-nil, All-cons, All-head, All-tail}
use Rattle.std.proofs.lemmas.List.Folds.{Any-from_list_any, list_any_at}
use Rattle.std.proofs.lemmas.List.Sums.{sum_by-set}
use Rattle.heap_geometry.specs.declared.geometry.Geometry.{Geometry}
use Rattle.word_table.specs.Counts.{descriptor_count}
use Rattle.step_parts.proofs.hazard_lemmas.RemoveLemmas.{later}
use Rattle.step_parts.specs.hazard.Points.{named_in}
use Rattle.step_parts.specs.hazard.Retired.{is_held, first_unheld}

-- a hazard word names the descriptor
abbrev IsNamed : List ℕ → ℕ → Type 0
IsNamed held d = Contains held (d + 1)

-- a descriptor that passes the test is named by a hazard word
held-Contains : (held : List ℕ) (d : ℕ) → is_held held d ≡ true → IsNamed held d
held-Contains held d e =
    let some = Any-from_list_any (λ word. word == d + 1) held e in
    let is : some.1 ≡ d + 1 = eqb-true some.1 (d + 1) some.4 in
    (some.0, some.2, get_or_default held some.0 (d + 1) some.1 some.2 ∙ some.3 ∙ is)

-- a descriptor that a hazard word names passes the test
Contains-held : (held : List ℕ) (d : ℕ) → IsNamed held d → is_held held d ≡ true
Contains-held held d has =
    list_any_at (λ word. word == d + 1) held has.0 (d + 1) has.1 (eq-eqb (get_or held has.0 (d + 1)) (d + 1) has.2)

-- each descriptor of a list of which none is picked is named by a hazard word
pub none-all : (held ds : List ℕ) → first_unheld held ds ≡ None → All (λ d. Contains held (d + 1)) ds
none-all held [] none = All-nil (IsNamed held)
none-all held (d ∷ ds) none =
    cond_both (not (is_held held d)) (Some d) (first_unheld held ds) (λ o. o ≡ None → All (IsNamed held) (d ∷ ds))
    (λ free some. absurd (none-some d (sym some)))
    (λ taken rest. All-cons (IsNamed held) d ds (held-Contains held d (not-false (is_held held d) taken)) (none-all held ds rest))
    none

-- no descriptor is picked of a list each of which a hazard word names
pub all-none : (held ds : List ℕ) → All (λ d. Contains held (d + 1)) ds → first_unheld held ds ≡ None
all-none held [] all = refl
all-none held (d ∷ ds) all =
    cond-false (not (is_held held d)) (Some d) (first_unheld held ds)
    (not_from_true (is_held held d) (Contains-held held d (All-head (IsNamed held) d ds all)))
    ∙ all-none held ds (All-tail (IsNamed held) d ds all)

-- a descriptor that is picked is one of the list
pub some-listed : (held ds : List ℕ) (d : ℕ) → first_unheld held ds ≡ Some d → Contains ds d
some-listed held [] d some = absurd (none-some d some)
some-listed held (x ∷ ds) d some =
    cond_both (not (is_held held x)) (Some x) (first_unheld held ds) (λ o. o ≡ Some d → Contains (x ∷ ds) d)
    (λ free same. (0, omega arith, same_Some x d same))
    (λ taken rest. later x ds d (some-listed held ds d rest))
    some

-- a descriptor that is picked is named by no hazard word
pub some-free : (held ds : List ℕ) (d : ℕ) → first_unheld held ds ≡ Some d → Contains held (d + 1) → ⊥
some-free held [] d some named = none-some d some
some-free held (x ∷ ds) d some named =
    cond_both (not (is_held held x)) (Some x) (first_unheld held ds) (λ o. o ≡ Some d → ⊥)
    (λ free same.
    let is : x ≡ d = same_Some x d same in
    both_ways (is_held held x) (not-true (is_held held x) free)
    (ap (is_held held) is ∙ Contains-held held d named))
    (λ taken rest. some-free held ds d rest named)
    some

-- a word that is not the cleared one stays
kept : (held : List ℕ) (i w v : ℕ) → i < length held → get_or held i w ≡ w → v ≢ w → Contains held v → Contains (set held i 0) v
kept held i w v within is other has =
    let k = has.0 in
    let apart : k ≢ i = λ e.
    other (sym has.2 ∙ ap (λ n. get_or held n v) e ∙ get_or_default held i v w within ∙ is)
    in
    (k, omega (arith, has.1, length-set held i 0), rw get_or-set_other has.2)

-- different descriptors that are all named are no more than the hazard words in use
named-few :
    (ds held : List ℕ) → AllPairs (λ a b. a ≢ b) ds → All (λ d. Contains held (d + 1)) ds
    → length ds ≤ count_by (λ word. nat_lt 0 word) held
named-few [] held apart named = omega arith
named-few (d ∷ ds) held apart named =
    let has = All-head (IsNamed held) d ds named in
    let i = has.0 in
    let less = set held i 0 in
    let still : All (λ n. Contains less (n + 1)) ds = λ k e within.
    let other = apart 0 (suc k) e (omega arith) (omega arith) in
    kept held i (d + 1) (get_or ds k e + 1) has.1 has.2 (λ same. other (omega arith))
    (All-tail (IsNamed held) d ds named k e within)
    in
    let rest = named-few ds less (λ j k e before within. apart (suc j) (suc k) e (omega arith) (omega arith)) still in
    let word : get_or held i 0 ≡ d + 1 = get_or_default held i 0 (d + 1) has.1 ∙ has.2 in
    let used : ℕ → ℕ = λ n. if nat_lt 0 n then 1 else 0 in
    let one : used (get_or held i 0) ≡ 1 = ap used word ∙ cond-true (nat_lt 0 (d + 1)) 1 0 (lt-ltb 0 (d + 1) (omega arith)) in
    omega (arith, rest, one, sum_by-set used held i 0 0 has.1)

-- an answer that is not some is none
none-from : (o : Option ℕ) → is_some o ≡ false → o ≡ None
none-from None none = refl
none-from (Some x) none = absurd (true≢false none)

-- a descriptor is picked of a list of more different ones than there are hazard words in use
pub some-picked :
    (held ds : List ℕ) → AllPairs (λ a b. a ≢ b) ds → count_by (λ word. nat_lt 0 word) held < length ds
    → IsSome (first_unheld held ds)
some-picked held ds apart more =
    true_from_ne_false (is_some (first_unheld held ds))
    (λ no. let few = named-few ds held apart (none-all held ds (none-from (first_unheld held ds) no)) in omega (arith, few, more))

-- what a word names in the heap names one of the heap's descriptors where the word does
named-same : (g : Geometry) (word d : ℕ) → d < descriptor_count g → (named_in g word == d + 1) ≡ (word == d + 1)
named-same g word d has =
    cond_both (nat_le word (descriptor_count g)) word 0 (λ n. (n == d + 1) ≡ (word == d + 1)) (λ within. refl)
    (λ beyond.
    let other : (word == d + 1) ≡ false = ne_eqb word (d + 1) (λ is. let bad : ⊥ = omega (arith, is, has, leb-false word (descriptor_count g) beyond) in bad) in
    ne_eqb 0 (d + 1) (λ is. let bad : ⊥ = omega (arith, is) in bad) ∙ sym other)

pub named-here : (g : Geometry) (word d : ℕ) → d < descriptor_count g → word ≡ d + 1 → named_in g word ≡ d + 1
named-here g word d has is = eqb-true (named_in g word) (d + 1) (named-same g word d has ∙ eq-eqb word (d + 1) is)

named-held : (g : Geometry) (words : List ℕ) (d : ℕ) → d < descriptor_count g → is_held (map (named_in g) words) d ≡ is_held words d
named-held g [] d has = refl
named-held g (word ∷ words) d has = rw (named-same g word d has, named-held g words d has) refl

-- what is picked of the heap's descriptors is the same by the hazard words and by what they name in the heap
pub named-picked :
    (g : Geometry) (words ds : List ℕ) → All (λ d. d < descriptor_count g) ds
    → first_unheld (map (named_in g) words) ds ≡ first_unheld words ds
named-picked g words [] all = refl
named-picked g words (d ∷ ds) all =
    let here = named-held g words d (All-head (λ x. x < descriptor_count g) d ds all) in
    let rest = named-picked g words ds (All-tail (λ x. x < descriptor_count g) d ds all) in
    rw (here, rest) refl
