-- A descriptor stands in one active word, or in none.
use Rattle.std.proofs.Common.{ℕ, true, false, Option, Some, None, ◌≡◌, ◌≢◌, ◌<◌, ◌≤◌, ◌+◌, refl, arith, ap, sym, subst, inl, inr, ◌∙◌}
use Rattle.std.specs.Prelude.{◌==◌, ◌⊎◌}
use Rattle.std.proofs.lemmas.Bool.{cases_eq, cases_Bool, cond-true, cond-false, eq-eqb, ne_eqb}
use Rattle.heap_geometry.specs.declared.geometry.Geometry.{Geometry}
use Rattle.heap_geometry.specs.declared.limits.TheConstants.{CLASSES}
use Rattle.packed_words.specs.declared.active.ActiveWord.{ActiveWord}
use Rattle.packed_words.specs.declared.active.ActiveWord.TheVariants.{Null, Held}
use Rattle.word_table.specs.declared.name.WordName.{WordName}
use Rattle.word_table.specs.declared.name.WordName.TheVariants as name
use Rattle.word_table.specs.Counts.{descriptor_count, word_count}
use Rattle.word_table.specs.Table.{Exists, word_index, word_name}
use Rattle.word_table.proofs.TableLemmas.{word_index-within, word_name-word_index, word_index-word_name, word_name-Exists}
use Rattle.errand_steps.specs.Steps.{State}
use Rattle.sound_state.specs.Keepers.{active_keeps, word_keeps}
use Rattle.sound_state.specs.Lists.{Lists}
use Rattle.sound_state.specs.Sums.{sum_below, words_sum}
use Rattle.sound_state.specs.Superblocks.{anchor_for, info_for, offered, word_reserves, is_bound}
use Rattle.sound_state.proofs.shared.SumLemmas.{sum-none, sum-one, two-terms}
use Rattle.heap_census.specs.Census.{IsActiveOf, active_in}
use Rattle.heap_census.specs.Tallies.{is_anchored}
use Rattle.heap_census.proofs.IdleLemmas.{Rests}
use Rattle.heap_census.proofs.SeenLemmas.{active-unanchored, anchored-bound, named-active, named-bound, keeps-named, keeps-itself, bound-seen}

-- no active word names the descriptor
abbrev pub IsUnnamed : Geometry → State → ℕ → Type 0
IsUnnamed g s d = (heap class : ℕ) → heap < g.heaps → class < CLASSES → active_keeps d (active_in s heap class) ≡ 0

-- the descriptor's anchor is FULL or PARTIAL
pub record IsAnchored (g : Geometry) (s : State) (l : Lists) (d : ℕ) : Type 0 where
  pub anchored : is_anchored (anchor_for s d).state ≡ true
  pub bound : is_bound g s l d ≡ true
  pub unnamed : IsUnnamed g s d

-- one active word names the descriptor, of its class
pub record IsOffered (g : Geometry) (s : State) (l : Lists) (d : ℕ) : Type 0 where
  pub anchored : is_anchored (anchor_for s d).state ≡ false
  pub bound : is_bound g s l d ≡ true
  pub by : IsActiveOf g s d
  pub class : (info_for s d).class ≡ by.class
  pub alone :
      (heap class : ℕ) → heap < g.heaps → class < CLASSES → (heap ≡ by.heap → class ≡ by.class → ⊥)
      → active_keeps d (active_in s heap class) ≡ 0

-- the descriptor has no superblock
pub record IsAbsent (g : Geometry) (s : State) (l : Lists) (d : ℕ) : Type 0 where
  pub anchored : is_anchored (anchor_for s d).state ≡ false
  pub bound : is_bound g s l d ≡ false
  pub unnamed : IsUnnamed g s d

-- two words weigh no more than all
two-words :
    (g : Geometry) (weight : WordName → ℕ → ℕ) (words : WordName → ℕ) (n m : WordName) → Exists g n → Exists g m → n ≢ m
    → weight n (words n) + weight m (words m) ≤ words_sum g weight words
unfolding words_sum
two-words g weight words n m has_n has_m differ =
    let f = λ (k : ℕ). weight (word_name g k) (words (word_name g k)) in
    let at_n : f (word_index g n) ≡ weight n (words n) = ap (λ k. weight k (words k)) (word_name-word_index g n has_n) in
    let at_m : f (word_index g m) ≡ weight m (words m) = ap (λ k. weight k (words k)) (word_name-word_index g m has_m) in
    let both =
    two-terms (word_count g) f (word_index g n) (word_index g m) (word_index-within g n has_n) (word_index-within g m has_m)
    (λ same. differ (sym (word_name-word_index g n has_n) ∙ ap (word_name g) same ∙ word_name-word_index g m has_m)) in
    omega (arith, both, at_n, at_m)

-- an active word other than the one that names a descriptor doesn't keep it
others-keep :
    (g : Geometry) (s : State) (l : Lists) (d : ℕ) → Rests g s l → (a : IsActiveOf g s d) → (heap class : ℕ) → heap < g.heaps
    → class < CLASSES → (heap ≡ a.heap → class ≡ a.class → ⊥) → active_keeps d (active_in s heap class) ≡ 0
others-keep g s l d rests a heap class has_heap has_class other =
    let (has, active) = named-active g s l d rests a in
    let here : active_keeps d (active_in s a.heap a.class) ≡ 1 = ap (active_keeps d) a.holds ∙ keeps-itself d a.credits in
    let differ : name.Active heap class ≢ name.Active a.heap a.class = λ same. other (cc) (cc) in
    let both =
    two-words g (word_keeps d) s.word (name.Active heap class) (name.Active a.heap a.class) (has_heap, has_class) (a.in_heap, a.in_class) differ in
    let once = rests.parts.kept.once d has in
    omega (arith, both, here, once)

-- one active word alone names a descriptor
pub named-once :
    (g : Geometry) (s : State) (l : Lists) (d : ℕ) → Rests g s l → (a b : IsActiveOf g s d) → (a.heap ≡ b.heap) × (a.class ≡ b.class)
named-once g s l d rests a b =
    let here : active_keeps d (active_in s a.heap a.class) ≡ 1 = ap (active_keeps d) a.holds ∙ keeps-itself d a.credits in
    let other : (a.heap ≡ b.heap → a.class ≡ b.class → ⊥) → ⊥ =
    λ apart. let none = others-keep g s l d rests b a.heap a.class a.in_heap a.in_class apart in omega (arith, here, none) in
    elim (cases_eq a.heap b.heap) [
      | inl same ↦ elim (cases_eq a.class b.class) [
        | inl of ↦ (same, of)
        | inr differ ↦ absurd (other (λ at of. differ of))
      ]
      | inr differ ↦ absurd (other (λ at of. differ at))
    ]

-- each descriptor is in one of the three states
pub stands :
    (g : Geometry) (s : State) (l : Lists) (d : ℕ) → Rests g s l → d < descriptor_count g
    → IsAnchored g s l d ⊎ IsOffered g s l d ⊎ IsAbsent g s l d
stands g s l d rests has =
    let unnamed : (IsActiveOf g s d → ⊥) → IsUnnamed g s d =
    λ none heap class has_heap has_class. elim (cases_eq (active_keeps d (active_in s heap class)) 0) [
      | inl unheld ↦ unheld
      | inr some ↦ absurd (none (keeps-named g s d heap class has_heap has_class (omega (arith, some))))
    ] in
    elim (cases_Bool (is_anchored (anchor_for s d).state)) [
      | inl anchored ↦ inl (record {
        anchored = anchored;
        bound = anchored-bound g s l d rests anchored;
        unnamed = unnamed (λ a. let bad : false ≡ true = sym (active-unanchored (anchor_for s d).state (named-active g s l d rests a).1.state) ∙ anchored in cc);
      })
      | inr unanchored ↦ elim (cases_Bool (is_bound g s l d)) [
        | inl bound ↦
            let a = bound-seen g s l d rests has bound unanchored in
            inr (inl (record {
              anchored = unanchored;
              bound = bound;
              by = a;
              class = (named-active g s l d rests a).1.class;
              alone = others-keep g s l d rests a;
            }))
        | inr free ↦ inr (inr (record {
          anchored = unanchored;
          bound = free;
          unnamed = unnamed (λ a. let bad : false ≡ true = sym free ∙ named-bound g s l d rests a in cc);
        }))
      ]
    ]

-- what the active words of a class weigh that don't name the descriptor, or of which one does
pub heaps-none :
    (g : Geometry) (s : State) (d class : ℕ) (f : Option ActiveWord → ℕ) → ((o : Option ActiveWord) → active_keeps d o ≡ 0 → f o ≡ 0)
    → ((heap : ℕ) → heap < g.heaps → active_keeps d (active_in s heap class) ≡ 0) → sum_below g.heaps (λ heap. f (active_in s heap class)) ≡ 0
heaps-none g s d class f none unnamed =
    sum-none g.heaps (λ heap. f (active_in s heap class)) (λ heap lt. none (active_in s heap class) (unnamed heap lt))

pub heaps-one :
    (g : Geometry) (s : State) (l : Lists) (d class : ℕ) (f : Option ActiveWord → ℕ)
    → ((o : Option ActiveWord) → active_keeps d o ≡ 0 → f o ≡ 0) → (x : IsOffered g s l d) → class ≡ x.by.class
    → sum_below g.heaps (λ heap. f (active_in s heap class)) ≡ f (Some (Held d x.by.credits))
heaps-one g s l d class f none x same =
    subst (λ k. sum_below g.heaps (λ heap. f (active_in s heap k)) ≡ f (Some (Held d x.by.credits))) (sym same)
    (sum-one g.heaps (λ heap. f (active_in s heap x.by.class)) x.by.heap x.by.in_heap
    (λ heap lt ne. none (active_in s heap x.by.class) (x.alone heap x.by.class lt x.by.in_class (λ here of. ne here)))
    ∙ ap f x.by.holds)

-- an active word that doesn't name a descriptor offers no block of it
pub offers-none : (d : ℕ) (o : Option ActiveWord) → active_keeps d o ≡ 0 → offered d o ≡ 0
offers-none d None none = refl
offers-none d (Some Null) none = refl
offers-none d (Some (Held e credits)) none =
    elim (cases_eq e d) [
      | inl same ↦ absurd (omega (arith, none, cond-true {A = ℕ} (e == d) 1 0 (eq-eqb e d same)))
      | inr differ ↦ cond-false {A = ℕ} (e == d) (credits + 1) 0 (ne_eqb e d differ)
    ]

pub offers-itself : (d credits : ℕ) → offered d (Some (Held d credits)) ≡ credits + 1
offers-itself d credits = cond-true {A = ℕ} (d == d) (credits + 1) 0 (eq-eqb d d refl)

-- the words reserve of a descriptor what the one active word that names it offers, or nothing
unnamed-reserves :
    (g : Geometry) (s : State) (d : ℕ) → IsUnnamed g s d → (n : WordName) → Exists g n → word_reserves d n (s.word n) ≡ 0
unnamed-reserves g s d unnamed (name.Active heap class) exists =
    offers-none d (active_in s heap class) (unnamed heap class exists.0 exists.1)
unnamed-reserves g s d unnamed n exists = refl

pub none-reserved : (g : Geometry) (s : State) (d : ℕ) → IsUnnamed g s d → words_sum g (word_reserves d) s.word ≡ 0
unfolding words_sum
none-reserved g s d unnamed =
    sum-none (word_count g) (λ k. word_reserves d (word_name g k) (s.word (word_name g k)))
    (λ k lt. unnamed-reserves g s d unnamed (word_name g k) (word_name-Exists g k lt))

others-reserve :
    (g : Geometry) (s : State) (l : Lists) (d : ℕ) → (x : IsOffered g s l d) → (n : WordName) → Exists g n → n ≢ name.Active x.by.heap x.by.class
    → word_reserves d n (s.word n) ≡ 0
others-reserve g s l d x (name.Active heap class) exists other =
    offers-none d (active_in s heap class)
    (x.alone heap class exists.0 exists.1 (λ here of. other (ap (λ h. name.Active h class) here ∙ ap (λ c. name.Active x.by.heap c) of)))
others-reserve g s l d x n exists other = refl

pub one-reserved :
    (g : Geometry) (s : State) (l : Lists) (d : ℕ) → (x : IsOffered g s l d) → words_sum g (word_reserves d) s.word ≡ x.by.credits + 1
unfolding words_sum
one-reserved g s l d x =
    let n : WordName = name.Active x.by.heap x.by.class in
    let has : Exists g n = (x.by.in_heap, x.by.in_class) in
    let back : word_name g (word_index g n) ≡ n = word_name-word_index g n has in
    sum-one (word_count g) (λ k. word_reserves d (word_name g k) (s.word (word_name g k))) (word_index g n) (word_index-within g n has)
    (λ k lt ne.
    others-reserve g s l d x (word_name g k) (word_name-Exists g k lt) (λ q. ne (sym (word_index-word_name g k lt) ∙ ap (word_index g) q)))
    ∙ ap (λ m. word_reserves d m (s.word m)) back ∙ ap (offered d) x.by.holds ∙ offers-itself d x.by.credits
