-- How many words of a class there are: one active word and one slot for each heap.
use Rattle.std.proofs.Common.{ℕ, ◌≡◌, ◌<◌, ◌≤◌, sym, ◌∙◌, ap, arith, inl, inr, ◌⊎◌, ◌==◌, if◌then◌else◌, eq-eqb, ne_eqb}
use Rattle.std.proofs.lemmas.Bool.{cond-true}
use Rattle.sound_state.proofs.Common.{Geometry, WordName, word_count, Exists, word_name, sum_below, word_index, word_name-Exists, word_index-word_name}
use Rattle.word_table.specs.declared.name.WordName.TheVariants as name
use Rattle.sound_state.proofs.shared.SumLemmas.{sum-most, sum-least, sum-swap, sum-once, term-sum}

-- 1 where a word is an active word of the class; 1 where it is a slot of the class
abbrev pub active_one : ℕ → WordName → ℕ
active_one class (name.Active heap c) = if c == class then 1 else 0
active_one class other = 0

abbrev pub slot_one : ℕ → WordName → ℕ
slot_one class (name.Slot heap c) = if c == class then 1 else 0
slot_one class other = 0

-- a word counts as one for some heap, whose word of this name it is, or counts as none
abbrev IsHeapName : Geometry → (ℕ → WordName) → (WordName → ℕ) → WordName → Type 0
IsHeapName g at one n = (one n ≡ 0) ⊎ ((one n ≡ 1) × (heap : ℕ) × (heap < g.heaps) × (n ≡ at heap))

heap-names-most :
    (g : Geometry) (at : ℕ → WordName) (one : WordName → ℕ) → ((n : WordName) → Exists g n → IsHeapName g at one n)
    → sum_below (word_count g) (λ k. one (word_name g k)) ≤ g.heaps
heap-names-most g at one named =
    let here = λ (k heap : ℕ). if word_index g (at heap) == k then 1 else 0 in
    let each : (k : ℕ) → k < word_count g → one (word_name g k) ≤ sum_below g.heaps (here k) = λ k lt.
    elim (named (word_name g k) (word_name-Exists g k lt)) [
      | inl none ↦ omega (arith, none)
      | inr is ↦
          let (single, heap, has, same) = is in
          let there : word_index g (at heap) ≡ k = ap (word_index g) (sym same) ∙ word_index-word_name g k lt in
          omega (
            arith,
            single,
            term-sum g.heaps (here k) heap has,
            cond-true {A = ℕ} (word_index g (at heap) == k) 1 0 (eq-eqb (word_index g (at heap)) k there),
          )
    ] in
    omega (
      arith,
      sum-least (word_count g) (λ k. one (word_name g k)) (λ k. sum_below g.heaps (here k)) each,
      sum-swap (word_count g) g.heaps here,
      sum-most g.heaps (λ heap. sum_below (word_count g) (λ k. here k heap)) 1 (λ heap lt. sum-once (word_count g) (word_index g (at heap))),
    )

-- a word of a heap counts as one for it where it is of the class, and else as none
named-here :
    (g : Geometry) (class c heap : ℕ) (at : ℕ → ℕ → WordName) (one : WordName → ℕ) → heap < g.heaps → one (at heap c) ≡ (if c == class then 1 else 0)
    → IsHeapName g (λ h. at h class) one (at heap c)
named-here g class c heap at one has is = grind (arith, has, is, eq-eqb, ne_eqb)

-- the active words and the slots of a class are one for each heap
active-named : (g : Geometry) (class : ℕ) (n : WordName) → Exists g n → IsHeapName g (λ heap. name.Active heap class) (active_one class) n
active-named g class n exists = grind (arith, exists, named-here)

slot-named : (g : Geometry) (class : ℕ) (n : WordName) → Exists g n → IsHeapName g (λ heap. name.Slot heap class) (slot_one class) n
slot-named g class n exists = grind (arith, exists, named-here)

pub actives-most : (g : Geometry) (class : ℕ) → sum_below (word_count g) (λ k. active_one class (word_name g k)) ≤ g.heaps
actives-most g class = heap-names-most g (λ heap. name.Active heap class) (active_one class) (active-named g class)

pub slots-most : (g : Geometry) (class : ℕ) → sum_below (word_count g) (λ k. slot_one class (word_name g k)) ≤ g.heaps
slots-most g class = heap-names-most g (λ heap. name.Slot heap class) (slot_one class) (slot-named g class)
