-- Exchanges that are won and lead on, and what the active words hold after a write of one.
use Rattle.std.proofs.Common.{ℕ, true, false, Some, ◌≡◌, ◌<◌, ◌≤◌, refl, arith, ap, sym, subst, inl, inr, ◌∙◌, eq-eqb, IsTrue, IsSome}
use Rattle.sound_state.proofs.Common.{Geometry, Held, active_of, Found, WordName, descriptor_count, Exists, word_name, word_count, Writes}
use Rattle.sound_state.proofs.Common.{cases_name, State, IsKept, word_keeps, Lists}
use Rattle.sound_state.proofs.Common.{sum_below, words_sum, callers_sum, is_bound, away_of, word_index, word_index-within, word_name-word_index}
use Rattle.sound_state.proofs.Common.{IsActive}
use Rattle.word_table.specs.declared.name.WordName.TheVariants as name
use Rattle.sound_state.proofs.shared.SumLemmas.{term-sum, sum-least}
use Rattle.sound_state.proofs.shared.SuperblocksStay.{ActivesKept}

-- a word is no more than all words weigh together
pub word-sum :
    (g : Geometry) (weight : WordName → ℕ → ℕ) (words : WordName → ℕ) (n : WordName) → Exists g n
    → weight n (words n) ≤ words_sum g weight words
unfolding words_sum
word-sum g weight words n exists =
    subst (λ m. weight m (words m) ≤ sum_below (word_count g) (λ k. weight (word_name g k) (words (word_name g k)))) (word_name-word_index g n exists)
    (term-sum (word_count g) (λ k. weight (word_name g k) (words (word_name g k))) (word_index g n) (word_index-within g n exists))

-- a descriptor that stands in an active word or a slot isn't away
pub word-keeps-away :
    (g : Geometry) (s : State) (l : Lists) (d : ℕ) (n : WordName) → IsKept g s l → d < descriptor_count g → Exists g n
    → word_keeps d n (s.word n) ≡ 1 → away_of g s l d ≡ 0
unfolding callers_sum
word-keeps-away g s l d n kept has exists keeps = grind (arith, kept, has, exists, keeps, word-sum, sum-least)

-- an active superblock that isn't away is bound
pub active-bound :
    (g : Geometry) (s : State) (l : Lists) (d class : ℕ) → away_of g s l d ≡ 0 → IsActive s d class → IsTrue (is_bound g s l d)
active-bound g s l d class none active = rw (eq-eqb (away_of g s l d) 0 none, active.state) refl

-- the class of the active word that this is
abbrev active_class : WordName → ℕ
active_class (name.Active heap class) = class
active_class n = 0

slot-apart : (h c heap class : ℕ) → name.Slot h c ≡ name.Active heap class → ⊥
slot-apart h c heap class e = cc

-- a write of an active word that says what belongs there leaves in active words and slots what belongs there
pub actives-written :
    (g : Geometry) (s : State) (l : Lists) (heap class new : ℕ) (words' : WordName → ℕ) → IsKept g s l
    → Writes s.word (name.Active heap class) new words' → IsSome (active_of new)
    → ((d credits : ℕ) → active_of new ≡ Some (Held d credits) → (d < descriptor_count g) × IsActive s d class) → ActivesKept g s words'
actives-written g s l heap class new words' kept w some held = record {
  active_words = λ h c has_heap has_class.
      elim (cases_name (name.Active h c) (name.Active heap class)) [
        | inl is ↦ subst (λ n. IsSome (active_of (words' n))) (sym is) (subst (λ v. IsSome (active_of v)) (sym w.here) some)
        | inr differ ↦
            subst (λ v. IsSome (active_of v)) (sym (w.elsewhere (name.Active h c) differ)) (kept.active_words h c has_heap has_class)
      ];
  slot_words = λ h c has_heap has_class.
      subst (λ v. v ≤ descriptor_count g) (sym (w.elsewhere (name.Slot h c) (λ e. slot-apart h c heap class e))) (kept.slot_words h c has_heap has_class);
  active = λ h c d credits has_heap has_class says.
      elim (cases_name (name.Active h c) (name.Active heap class)) [
        | inl is ↦
            let here : active_of new ≡ Some (Held d credits) = ap active_of (sym w.here) ∙ ap (λ n. active_of (words' n)) (sym is) ∙ says in
            let same : class ≡ c = sym (ap active_class is) in
            let of = held d credits here in (of.0, subst (IsActive s d) same of.1)
        | inr differ ↦ kept.active h c d credits has_heap has_class (ap active_of (sym (w.elsewhere (name.Active h c) differ)) ∙ says)
      ];
  slot = λ h c d has_heap has_class says.
      kept.slot h c d has_heap has_class (sym (w.elsewhere (name.Slot h c) (λ e. slot-apart h c heap class e)) ∙ says);
}

-- what a won exchange finds
abbrev pub won_with : ℕ → Found
won_with word = record { value = word; won = true }

-- what a lost exchange finds
abbrev pub lost_with : ℕ → Found
lost_with word = record { value = word; won = false }
