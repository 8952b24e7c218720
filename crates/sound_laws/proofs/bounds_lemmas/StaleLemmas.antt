-- A step of a caller makes no word stale for it, and one that is lost finds a stale word, which is stale no more.
use Rattle.std.proofs.Common.{ℕ, Bool, true, false, ◌≡◌, ◌≢◌, ◌<◌, ◌≤◌, ◌+◌, arith, ap, sym, subst, inl, inr, ◌∙◌, ◌==◌, not, [], Any, ne_eqb, true≢false}
use Rattle.std.specs.List.{list_any}
use Rattle.std.proofs.lemmas.Bool.{cases_Bool, and_parts, and_from}
use Rattle.std.proofs.lemmas.List.Folds.{Any-from_list_any, list_any-from_Any}
use Rattle.sound_state.proofs.Common.{Geometry, WordName, word_count, Exists, word_name, cases_name, counts_lost, settle_of, State, Step, action_at, name_at, word_at}
use Rattle.sound_state.proofs.Common.{found_at, one_if, word_index, word_index-within, word_name-word_index}
use Rattle.sound_laws.specs.bounds.Alone.{is_stale_by, is_stale, stale_words}
use Rattle.errand_steps.specs.tables.Expected.{Expected}
use Rattle.sound_laws.specs.bounds.Expectations.{expects_of}
use Rattle.sound_laws.specs.bounds.Wins.{same_name}
use Rattle.sound_state.proofs.shared.SumLemmas.{sum-least, sum-none, sum-less}
use Rattle.sound_laws.proofs.bounds_lemmas.ExpectLemmas.{some-all}
use Rattle.sound_laws.proofs.bounds_lemmas.NoteLemmas.{ExpectsAfter}
use Rattle.sound_laws.proofs.bounds_lemmas.SameNames.{same-name-is, same-name-one}
use Rattle.sound_laws.proofs.bounds_lemmas.WinDefs.{LosesOn, MayExpect}

-- a word that is stale after a step is so by something that the caller carries or sees
stale-after :
    (s : State) (caller : ℕ) (s' : State) (m : WordName) → Step s caller s' → ExpectsAfter s caller → is_stale s' caller m ≡ true
    → (e : Expected) × MayExpect (s.errand caller).point (action_at s caller) (found_at s caller) e × (e.word ≡ m) × (s'.word m ≢ e.value)
stale-after s caller s' m step expects stale =
    let q = (settle_of (s.errand caller) (found_at s caller)).point in
    let some : Any (λ e. is_stale_by s' m e ≡ true) (expects_of q) =
    subst (λ f. Any (λ e. is_stale_by s' m e ≡ true) (expects_of f.point)) step.errand.here
    (Any-from_list_any (is_stale_by s' m) (expects_of (s'.errand caller).point) stale) in
    let (e, may, is) =
    some-all (MayExpect (s.errand caller).point (action_at s caller) (found_at s caller)) (λ e. is_stale_by s' m e ≡ true) (expects_of q) expects some in
    let both = and_parts (same_name e.word m) (not (s'.word m == e.value)) is in
    (e, may, same-name-is e.word m both.0, λ same. absurd (grind (arith, both.1, same)))

-- a word of which something else is expected is stale
stale-by :
    (s : State) (caller : ℕ) (m : WordName) → Any (λ e. (e.word ≡ m) × (s.word m ≢ e.value)) (expects_of (s.errand caller).point)
    → is_stale s caller m ≡ true
stale-by s caller m (k, e, lt, at, (word, differs)) =
    list_any-from_Any (is_stale_by s m) (expects_of (s.errand caller).point) (
      k,
      e,
      lt,
      at,
      and_from (same_name e.word m) (not (s.word m == e.value)) (same-name-one e.word m word)
          (ap not (ne_eqb (s.word m) e.value differs)),
    )

-- no other word than the step's becomes stale for its caller
stale-apart :
    (s : State) (caller : ℕ) (s' : State) (m : WordName) → Step s caller s' → ExpectsAfter s caller → m ≢ name_at s caller → is_stale s' caller m ≡ true
    → is_stale s caller m ≡ true
stale-apart s caller s' m step expects apart stale =
    let (e, may, word, differs) = stale-after s caller s' m step expects stale in
    elim may [
      | inl carried ↦
          let (k, x, lt, stands, same) = carried.0 in
          stale-by s caller m
          (k, x, lt, stands, (ap (λ y. y.word) same ∙ word, λ is. differs (step.word.elsewhere m apart ∙ is ∙ ap (λ y. y.value) same)))
      | inr seen ↦ absurd (apart (sym word ∙ seen.word))
    ]

-- the word of a caller's step isn't stale for it after the step
pub stale-here : (s : State) (caller : ℕ) (s' : State) → Step s caller s' → ExpectsAfter s caller → is_stale s' caller (name_at s caller) ≡ false
stale-here s caller s' step expects =
    elim (cases_Bool (is_stale s' caller (name_at s caller))) [
      | inl stale ↦
          let (e, may, word, differs) = stale-after s caller s' (name_at s caller) step expects stale in
          elim may [ inl carried ↦ absurd (carried.1 word) | inr seen ↦ absurd (differs (step.word.here ∙ seen.value)) ]
      | inr isnt ↦ isnt
    ]

-- a step makes no word stale for its caller
pub stale-kept :
    (s : State) (caller : ℕ) (s' : State) (m : WordName) → Step s caller s' → ExpectsAfter s caller → is_stale s' caller m ≡ true → is_stale s caller m ≡ true
stale-kept s caller s' m step expects stale =
    elim (cases_name m (name_at s caller)) [
      | inl here ↦ absurd (true≢false (sym (ap (is_stale s' caller) (sym here) ∙ stale) ∙ stale-here s caller s' step expects))
      | inr apart ↦ stale-apart s caller s' m step expects apart stale
    ]

-- a step that counts as lost finds its word stale
pub lost-met :
    (s : State) (caller : ℕ) → LosesOn (s.errand caller).point (word_at s caller) → counts_lost (s.errand caller).point (found_at s caller) ≡ true
    → is_stale s caller (name_at s caller) ≡ true
lost-met s caller loses lost = stale-by s caller (name_at s caller) (loses lost)

one-least : (a b : Bool) → (a ≡ true → b ≡ true) → one_if a ≤ one_if b
one-least a b follows = grind (arith, follows)

-- a caller's stale words grow by none in its step, and are one fewer after a lost one
pub stale-falls :
    (g : Geometry) (s : State) (caller : ℕ) (s' : State) → Exists g (name_at s caller) → Step s caller s' → ExpectsAfter s caller
    → LosesOn (s.errand caller).point (word_at s caller)
    → stale_words g s' caller + one_if (counts_lost (s.errand caller).point (found_at s caller)) ≤ stale_words g s caller
stale-falls g s caller s' exists step expects loses =
    let n = name_at s caller in
    let before = λ (k : ℕ). one_if (is_stale s caller (word_name g k)) in
    let after = λ (k : ℕ). one_if (is_stale s' caller (word_name g k)) in
    let least : (k : ℕ) → k < word_count g → after k ≤ before k =
    λ k lt. one-least (is_stale s' caller (word_name g k)) (is_stale s caller (word_name g k)) (stale-kept s caller s' (word_name g k) step expects) in
    elim (cases_Bool (counts_lost (s.errand caller).point (found_at s caller))) [
      | inl lost ↦
          let i = word_index g n in
          let back : word_name g i ≡ n = word_name-word_index g n exists in
          let was : before i ≡ 1 = ap (λ m. one_if (is_stale s caller m)) back ∙ ap one_if (lost-met s caller loses lost) in
          let is : after i ≡ 0 = ap (λ m. one_if (is_stale s' caller m)) back ∙ ap one_if (stale-here s caller s' step expects) in
          omega (arith, ap one_if lost, sum-less (word_count g) before after i (word_index-within g n exists) least (omega (arith, was, is)))
      | inr kept ↦ omega (arith, ap one_if kept, sum-least (word_count g) after before least)
    ]

-- a caller that expects nothing has no stale word
pub none-stale : (g : Geometry) (s : State) (caller : ℕ) → expects_of (s.errand caller).point ≡ [] → stale_words g s caller ≡ 0
none-stale g s caller none =
    sum-none (word_count g) (λ k. one_if (is_stale s caller (word_name g k))) (λ k lt. ap (λ es. one_if (list_any (is_stale_by s (word_name g k)) es)) none)
