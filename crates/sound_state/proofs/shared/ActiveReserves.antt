-- An ACTIVE superblock has a block reserved.
use Rattle.std.proofs.Common.{ℕ, ◌≡◌, ◌≢◌, ◌<◌, ◌≤◌, ◌+◌, List, [], ◌∷◌, refl, arith, ap, subst, inl, inr, ne_eqb, ◌==◌, ◌&&◌, All, IsTrue, if◌then◌else◌}
use Rattle.std.proofs.lemmas.Bool.{cases_eq, cond-false}
use Rattle.std.proofs.lemmas.List.Elements.{All-head, All-tail}
use Rattle.sound_state.proofs.Common.{Geometry, CLASSES, descriptor_count, word_count, Exists, word_name, WordName, occurs, FitsPoint, State, Point, Holding, Kept, Status}
use Rattle.sound_state.proofs.Common.{reserving, waiting, partly_used, on_its_way, holds_of, IsKept, IsPartlyUsed, IsKeptAs, errand_has, full_keeps, word_keeps, Lists}
use Rattle.sound_state.proofs.Common.{IsSoundWith, sum_below, words_sum, callers_sum, anchor_for, is_bound, away_of, errand_away, errand_reserves, word_reserves}
use Rattle.sound_state.proofs.Common.{reserved_of, reserved_among, kept_among, word_name-Exists, same_status}
use Rattle.packed_words.specs.declared.anchor.AnchorState.TheVariants as phase
use Rattle.sound_state.proofs.shared.HasLemmas.{bound-away}
use Rattle.sound_state.proofs.shared.PointLemmas.{fits-at}
use Rattle.sound_state.proofs.shared.SumLemmas.{sum-none, term-sum}

-- the descriptor is kept neither reserving nor waiting
abbrev KeepsNone : ℕ → Holding → Type 0
KeepsNone d h = kept_among reserving d h.kept + kept_among waiting d h.kept ≡ 0

-- a caller at any point that has no block of a superblock reserved keeps it neither reserving nor waiting
point-keeps :
    (g : Geometry) (caller d : ℕ) (p : Point) → FitsPoint g caller p → reserved_among d (holds_of p).credits ≡ 0 → KeepsNone d (holds_of p)
unfolding holds_of
point-keeps g caller d p fits none = grind (arith, fits, none)

-- an ACTIVE superblock isn't partly used, so none is kept so
not-partly : (s : State) (d c : ℕ) → (anchor_for s d).state ≡ phase.Active → IsPartlyUsed s d c → ⊥
not-partly s d c active is = grind (arith, active, is)

one-partly :
    (s : State) (d x class : ℕ) (status : Status) → (anchor_for s d).state ≡ phase.Active → IsKeptAs s status x class
    → ◌≡◌ {A = ℕ} (if (x == d) && same_status status partly_used then 1 else 0) 0
one-partly s d x class reserving active is = grind (arith)
one-partly s d x class waiting active is = grind (arith)
one-partly s d x class on_its_way active is = grind (arith)
one-partly s d x class partly_used active is =
    elim (cases_eq x d) [
      | inl same ↦ absurd (not-partly s d class active (subst (λ k. IsPartlyUsed s k class) same is))
      | inr differ ↦ rw (ne_eqb x d differ) refl
    ]

active-none-partly :
    (s : State) (d : ℕ) (ks : List Kept) → (anchor_for s d).state ≡ phase.Active → All (λ k. IsKeptAs s k.status k.desc k.class) ks
    → kept_among partly_used d ks ≡ 0
active-none-partly s d [] active all = refl
active-none-partly s d (k ∷ ks) active all =
    omega (
      arith,
      one-partly s d k.desc k.class k.status active (All-head (λ k. IsKeptAs s k.status k.desc k.class) k ks all),
      active-none-partly s d ks active (All-tail (λ k. IsKeptAs s k.status k.desc k.class) k ks all),
    )

-- a number that lacks what all of a list have isn't on the list
occurs-none : (P : ℕ → Type 0) (d : ℕ) (xs : List ℕ) → (P d → ⊥) → All P xs → occurs d xs ≡ 0
occurs-none P d [] bad all = refl
occurs-none P d (x ∷ xs) bad all =
    let differ : x ≢ d = λ same. bad (subst P same (All-head P x xs all)) in
    omega (arith, cond-false {A = ℕ} (x == d) 1 0 (ne_eqb x d differ), occurs-none P d xs bad (All-tail P x xs all))

-- no active word or slot holds an ACTIVE superblock of which nothing is reserved
word-keeps-none :
    (g : Geometry) (s : State) (l : Lists) (d : ℕ) (n : WordName) → IsKept g s l → Exists g n → (anchor_for s d).state ≡ phase.Active
    → word_reserves d n (s.word n) ≡ 0 → word_keeps d n (s.word n) ≡ 0
word-keeps-none g s l d n kept has active none = grind (arith, kept, has, active, none, ne_eqb, not-partly)

-- an ACTIVE superblock has a block reserved
pub active-reserves :
    (g : Geometry) (s : State) (l : Lists) (d : ℕ) → IsSoundWith g s l → d < descriptor_count g → IsTrue (is_bound g s l d)
    → (anchor_for s d).state ≡ phase.Active → reserved_of g s d ≡ 0 → ⊥
unfolding words_sum callers_sum
active-reserves g s l d old has bound active none =
    let kept : IsKept g s l = old.kept in
    let out : away_of g s l d ≡ 0 = bound-away g s l d bound in
    let words : words_sum g (word_keeps d) s.word ≡ 0 =
    sum-none (word_count g) (λ k. word_keeps d (word_name g k) (s.word (word_name g k)))
    (λ k lt. word-keeps-none g s l d (word_name g k) kept (word_name-Exists g k lt) active
    (omega (arith, none, term-sum (word_count g) (λ k. word_reserves d (word_name g k) (s.word (word_name g k))) k lt))) in
    let listed : sum_below CLASSES (λ class. occurs d (l.partials class)) ≡ 0 =
    sum-none CLASSES (λ class. occurs d (l.partials class))
    (λ class lt. occurs-none (λ x. IsPartlyUsed s x class) d (l.partials class) (not-partly s d class active) (kept.listed class lt)) in
    let held : callers_sum g (errand_has d) s.errand ≡ 0 =
    sum-none g.callers (λ caller. errand_has d (s.errand caller))
    (λ caller lt.
    let away : errand_away d (s.errand caller) ≤ callers_sum g (errand_away d) s.errand =
    term-sum g.callers (λ j. errand_away d (s.errand j)) caller lt in
    let reserved : errand_reserves d (s.errand caller) ≤ callers_sum g (errand_reserves d) s.errand =
    term-sum g.callers (λ j. errand_reserves d (s.errand j)) caller lt in
    let others = point-keeps g caller d (s.errand caller).point (fits-at g s l caller (s.errand caller).point old lt refl) (omega (arith, reserved, none)) in
    let partly = active-none-partly s d (holds_of (s.errand caller).point).kept active (kept.errand caller lt) in
    omega (arith, away, out, others, partly)) in
    let full : full_keeps (anchor_for s d).state ≡ 0 = ap full_keeps active in
    omega (arith, kept.once d has, words, listed, held, full, out)
