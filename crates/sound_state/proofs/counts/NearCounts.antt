-- How often descriptors are near a class: in its active words and slots, and at the callers.
use Rattle.std.proofs.Common.{ℕ, ◌≡◌, ◌<◌, ◌≤◌, ◌+◌, ◌*◌, List, [], ◌∷◌, length, refl, ap, arith, ◌==◌, ◌-◌, if◌then◌else◌, eq-eqb, ne_eqb}
use Rattle.sound_state.proofs.Common.{Geometry, active_of, WordName, descriptor_count, word_count, word_name, Point, ErrandFields, State, Kept, Holding, holds_of}
use Rattle.sound_state.proofs.Common.{sum_below, words_sum, callers_sum, active_keeps}
use Rattle.word_table.specs.declared.name.WordName.TheVariants as name
use Rattle.errand_steps.specs.tables.Holding.{Reserved}
use Rattle.sound_state.proofs.shared.HeapNames.{active_one, slot_one, actives-most, slots-most}
use Rattle.sound_state.proofs.shared.StockLemmas.{active-one, slot-once}
use Rattle.sound_state.proofs.shared.KeptCounts.{named_among, named-most}
use Rattle.sound_state.proofs.shared.WeightSums.{words-together, callers-together}
use Rattle.sound_state.proofs.shared.SumLemmas.{sum-none, sum-plus, sum-once}

-- 1 where an active word or a slot of the class holds d
abbrev pub class_keeps : ℕ → ℕ → WordName → ℕ → ℕ
class_keeps class d (name.Active heap c) word = if c == class then active_keeps d (active_of word) else 0
class_keeps class d (name.Slot heap c) word = if c == class then (if word == d + 1 then 1 else 0) else 0
class_keeps class d other word = 0

-- how often d is among the reserved blocks' descriptors
abbrev pub credited_among : ℕ → List Reserved → ℕ
credited_among d [] = 0
credited_among d (r ∷ rest) = (if r.desc == d then 1 else 0) + credited_among d rest

-- how often a caller keeps d or has reserved blocks of it
abbrev pub errand_nears : ℕ → ErrandFields → ℕ
errand_nears d e = named_among d (holds_of e.point).kept + credited_among d (holds_of e.point).credits

-- how often d is near the class
abbrev pub near_of : Geometry → State → ℕ → ℕ → ℕ
near_of g s class d = words_sum g (class_keeps class d) s.word + callers_sum g (errand_nears d) s.errand

-- a word holds at most one descriptor, and one that is not of the class none for it
of-class-once :
    (n class c : ℕ) (f : ℕ → ℕ) → sum_below n f ≤ 1 → sum_below n (λ d. if c == class then f d else 0) ≤ (if c == class then 1 else 0)
of-class-once n class c f once = grind (arith, once, eq-eqb, ne_eqb, sum-none)

word-nears-once : (n class : ℕ) (w : WordName) (word : ℕ) → sum_below n (λ d. class_keeps class d w word) ≤ active_one class w + slot_one class w
word-nears-once n class (name.Active heap c) word =
    omega (arith, of-class-once n class c (λ d. active_keeps d (active_of word)) (active-one n (active_of word)))
word-nears-once n class (name.Slot heap c) word = omega (arith, of-class-once n class c (λ d. if word == d + 1 then 1 else 0) (slot-once n word))
word-nears-once n class w word = omega (arith, sum-none n (λ d. 0) (λ d lt. refl))

-- the words of a class hold two descriptors a heap at most
words-near-most :
    (g : Geometry) (n class : ℕ) (words : WordName → ℕ) → sum_below n (λ d. words_sum g (class_keeps class d) words) ≤ 2 * g.heaps
words-near-most g n class words =
    let actives = λ (k : ℕ). active_one class (word_name g k) in
    let slots = λ (k : ℕ). slot_one class (word_name g k) in
    omega (
      arith,
      words-together g n (class_keeps class) words (λ w. active_one class w + slot_one class w) (λ w exists. word-nears-once n class w (words w)),
      sum-plus (word_count g) actives slots,
      actives-most g class,
      slots-most g class,
    )

-- descriptors are named no more often than a list is long
credited-most : (n : ℕ) (rs : List Reserved) → sum_below n (λ d. credited_among d rs) ≤ length rs
credited-most n [] = omega (arith, sum-none n (λ d. 0) (λ d lt. refl))
credited-most n (r ∷ rs) =
    omega (
      arith,
      sum-plus n (λ d. if r.desc == d then 1 else 0) (λ d. credited_among d rs),
      sum-once n r.desc,
      credited-most n rs,
    )

-- how many descriptors a caller keeps and has reserved blocks of
abbrev held_count : Holding → ℕ
held_count h = length h.kept + length h.credits

point-holds-two : (p : Point) → held_count (holds_of p) ≤ 2
unfolding holds_of
point-holds-two p = grind (arith)

caller-most : (n : ℕ) (e : ErrandFields) → sum_below n (λ d. errand_nears d e) ≤ held_count (holds_of e.point)
caller-most n e =
    let h = holds_of e.point in
    omega (
      arith,
      sum-plus n (λ d. named_among d h.kept) (λ d. credited_among d h.credits),
      named-most n h.kept,
      credited-most n h.credits,
    )

-- the callers keep two descriptors each at most, and two fewer where one of them has none
callers-near-most :
    (g : Geometry) (n : ℕ) (errands : ℕ → ErrandFields) (caller : ℕ) → caller < g.callers → (holds_of (errands caller).point).kept ≡ []
    → (holds_of (errands caller).point).credits ≡ [] → sum_below n (λ d. callers_sum g (errand_nears d) errands) + 2 ≤ g.callers * 2
callers-near-most g n errands caller has no_kept no_credits =
    callers-together g n errand_nears errands caller 2 has
    (omega (arith, caller-most n (errands caller), ap (length {A = Kept}) no_kept, ap (length {A = Reserved}) no_credits))
    (λ e. omega (arith, caller-most n e, point-holds-two e.point))

-- descriptors are near the class twice for each heap and each other caller, at most
pub near-most :
    (g : Geometry) (s : State) (caller class : ℕ) → caller < g.callers → (holds_of (s.errand caller).point).kept ≡ []
    → (holds_of (s.errand caller).point).credits ≡ []
    → sum_below (descriptor_count g) (near_of g s class) ≤ 2 * g.heaps + 2 * g.callers - 2
near-most g s caller class has no_kept no_credits =
    let n = descriptor_count g in
    let words = λ (d : ℕ). words_sum g (class_keeps class d) s.word in
    let callers = λ (d : ℕ). callers_sum g (errand_nears d) s.errand in
    omega (
      arith,
      sum-plus n words callers,
      words-near-most g n class s.word,
      callers-near-most g n s.errand caller has no_kept no_credits,
    )
