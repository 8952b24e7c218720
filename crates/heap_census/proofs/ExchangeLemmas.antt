-- What is summed over the descriptors with a superblock of a class, summed over those that are FULL or PARTIAL and over the active words.
use Rattle.std.proofs.Common.{ℕ, zero, suc, Bool, true, false, Option, Some, None, ◌≡◌, ◌<◌, ◌+◌, ◌*◌, refl, arith, ap, sym, inl, inr, ◌∙◌}
use Rattle.std.specs.Prelude.{◌==◌, ◌&&◌, if◌then◌else◌}
use Rattle.std.proofs.lemmas.Bool.{cases_eq, cases_Bool, cond-true, cond-false, eq-eqb, eqb-true, ne_eqb, and_parts}
use Rattle.heap_geometry.specs.declared.geometry.Geometry.{Geometry}
use Rattle.heap_geometry.specs.declared.limits.TheConstants.{CLASSES}
use Rattle.heap_geometry.specs.Need.{block_count_of}
use Rattle.packed_words.specs.declared.active.ActiveWord.{ActiveWord}
use Rattle.packed_words.specs.declared.active.ActiveWord.TheVariants.{Null, Held}
use Rattle.word_table.specs.Counts.{descriptor_count}
use Rattle.errand_steps.specs.Steps.{State}
use Rattle.sound_state.specs.Consequences.{live_in}
use Rattle.sound_state.specs.Keepers.{active_keeps}
use Rattle.sound_state.specs.Lists.{Lists}
use Rattle.sound_state.specs.Sums.{sum_below}
use Rattle.sound_state.specs.Superblocks.{anchor_for, info_for, offered, reserved_of, is_bound, superblock_of}
use Rattle.sound_state.proofs.shared.SumLemmas.{sum-same, sum-none, sum-one, sum-plus, sum-swap}
use Rattle.sound_state.proofs.shared.TallyLemmas.{tally}
use Rattle.heap_census.specs.Census.{active_in, counted_of, has_class, offered_of, offers, superblocks_of}
use Rattle.heap_census.specs.Tallies.{anchored_in}
use Rattle.heap_census.proofs.IdleLemmas.{Rests, none-waits, words-reserve}
use Rattle.heap_census.proofs.ActiveLemmas.{stands, heaps-none, heaps-one, offers-none, offers-itself, none-reserved, one-reserved}

-- what an active word that names d weighs, and any that names some descriptor
abbrev weighs : ℕ → ℕ → Option ActiveWord → ℕ
weighs d w None = 0
weighs d w (Some Null) = 0
weighs d w (Some (Held e credits)) = if e == d then w else 0

abbrev pub weighed : (ℕ → ℕ) → Option ActiveWord → ℕ
weighed w None = 0
weighed w (Some Null) = 0
weighed w (Some (Held d credits)) = w d

weighs-none : (d w : ℕ) (o : Option ActiveWord) → active_keeps d o ≡ 0 → weighs d w o ≡ 0
weighs-none d w None none = refl
weighs-none d w (Some Null) none = refl
weighs-none d w (Some (Held e credits)) none =
    elim (cases_eq e d) [
      | inl same ↦ absurd (omega (arith, none, cond-true {A = ℕ} (e == d) 1 0 (eq-eqb e d same)))
      | inr differ ↦ cond-false {A = ℕ} (e == d) w 0 (ne_eqb e d differ)
    ]

weighs-itself : (d w credits : ℕ) → weighs d w (Some (Held d credits)) ≡ w
weighs-itself d w credits = cond-true {A = ℕ} (d == d) w 0 (eq-eqb d d refl)

-- what one descriptor weighs: it is FULL or PARTIAL, or an active word names it, or it has no superblock
either-none : (b : Bool) → ◌≡◌ {A = ℕ} (if b then 0 else 0) 0
either-none true = refl
either-none false = refl

desc-weighs :
    (g : Geometry) (s : State) (l : Lists) (class d w : ℕ) → Rests g s l → class < CLASSES → d < descriptor_count g
    → (if has_class g s l class d then w else 0)
    ≡ (if anchored_in s class d then w else 0) + sum_below g.heaps (λ heap. weighs d w (active_in s heap class))
desc-weighs g s l class d w rests of has =
    let here : Bool = (info_for s d).class == class in
    elim (stands g s l d rests has) [
      | inl x ↦
          omega (
            arith,
            ap (λ b. if b && here then w else 0) x.bound,
            ap (λ b. if b && here then w else 0) x.anchored,
            heaps-none g s d class (weighs d w) (weighs-none d w) (λ heap lt. x.unnamed heap class lt of),
          )
      | inr rest ↦ elim rest [
        | inl x ↦ elim (cases_eq (info_for s d).class class) [
          | inl same ↦
              omega (
                arith,
                ap (λ b. if b && here then w else 0) x.bound,
                ap (λ b. if b && here then w else 0) x.anchored,
                cond-true {A = ℕ} here w 0 (eq-eqb (info_for s d).class class same),
                heaps-one g s l d class (weighs d w) (weighs-none d w) x (sym same ∙ x.class),
                weighs-itself d w x.by.credits,
              )
          | inr differ ↦
              omega (
                arith,
                ap (λ b. if b && here then w else 0) x.bound,
                ap (λ b. if b && here then w else 0) x.anchored,
                cond-false {A = ℕ} here w 0 (ne_eqb (info_for s d).class class differ),
                heaps-none g s d class (weighs d w) (weighs-none d w)
                    (λ heap lt. x.alone heap class lt of (λ at same. differ (x.class ∙ sym same))),
              )
        ]
        | inr x ↦
            omega (
              arith,
              ap (λ b. if b && here then w else 0) x.bound,
              ap (λ b. if b && here then w else 0) x.anchored,
              heaps-none g s d class (weighs d w) (weighs-none d w) (λ heap lt. x.unnamed heap class lt of),
            )
      ]
    ]

-- what an active word weighs is what the descriptors of the heap do that it names
word-weighed :
    (n : ℕ) (w : ℕ → ℕ) (o : Option ActiveWord) → ((d credits : ℕ) → o ≡ Some (Held d credits) → d < n)
    → sum_below n (λ d. weighs d (w d) o) ≡ weighed w o
word-weighed n w None exists = sum-none n (λ d. 0) (λ d lt. refl)
word-weighed n w (Some Null) exists = sum-none n (λ d. 0) (λ d lt. refl)
word-weighed n w (Some (Held e credits)) exists =
    sum-one n (λ d. if e == d then w d else 0) e (exists e credits refl)
    (λ d lt ne. cond-false {A = ℕ} (e == d) (w d) 0 (ne_eqb e d (λ same. ne (sym same))))
    ∙ cond-true {A = ℕ} (e == e) (w e) 0 (eq-eqb e e refl)

word-offers :
    (n : ℕ) (o : Option ActiveWord) → ((d credits : ℕ) → o ≡ Some (Held d credits) → d < n)
    → sum_below n (λ d. offered d o) ≡ offers o
word-offers n None exists = sum-none n (λ d. 0) (λ d lt. refl)
word-offers n (Some Null) exists = sum-none n (λ d. 0) (λ d lt. refl)
word-offers n (Some (Held e credits)) exists =
    sum-one n (λ d. if e == d then credits + 1 else 0) e (exists e credits refl)
    (λ d lt ne. cond-false {A = ℕ} (e == d) (credits + 1) 0 (ne_eqb e d (λ same. ne (sym same))))
    ∙ cond-true {A = ℕ} (e == e) (credits + 1) 0 (eq-eqb e e refl)

word-exists :
    (g : Geometry) (s : State) (l : Lists) (heap class : ℕ) → Rests g s l → heap < g.heaps → class < CLASSES → (d credits : ℕ)
    → active_in s heap class ≡ Some (Held d credits) → d < descriptor_count g
word-exists g s l heap class rests has_heap has_class d credits is = (rests.parts.kept.active heap class d credits has_heap has_class is).0

-- the sum over all descriptors with a superblock of the class is that over the anchored ones and over the active words
pub exchange :
    (g : Geometry) (s : State) (l : Lists) (class : ℕ) (w : ℕ → ℕ) → Rests g s l → class < CLASSES
    → sum_below (descriptor_count g) (λ d. if has_class g s l class d then w d else 0)
    ≡ sum_below (descriptor_count g) (λ d. if anchored_in s class d then w d else 0)
    + sum_below g.heaps (λ heap. weighed w (active_in s heap class))
exchange g s l class w rests of =
    let n = descriptor_count g in
    let anchored = λ (d : ℕ). if anchored_in s class d then w d else 0 in
    let word = λ (d heap : ℕ). weighs d (w d) (active_in s heap class) in
    let each : sum_below n (λ d. if has_class g s l class d then w d else 0) ≡ sum_below n (λ d. anchored d + sum_below g.heaps (word d)) =
    sum-same n (λ d. anchored d + sum_below g.heaps (word d)) (λ d. if has_class g s l class d then w d else 0)
    (λ d lt. desc-weighs g s l class d (w d) rests of lt) in
    let words : sum_below g.heaps (λ heap. sum_below n (λ d. word d heap)) ≡ sum_below g.heaps (λ heap. weighed w (active_in s heap class)) =
    sum-same g.heaps (λ heap. weighed w (active_in s heap class)) (λ heap. sum_below n (λ d. word d heap))
    (λ heap lt. word-weighed n w (active_in s heap class) (word-exists g s l heap class rests lt of)) in
    omega (arith, each, sum-plus n anchored (λ d. sum_below g.heaps (word d)), sum-swap n g.heaps word, words)

-- what is reserved of one superblock of the class is what the active words offer of it
desc-reserved :
    (g : Geometry) (s : State) (l : Lists) (class d : ℕ) → Rests g s l → class < CLASSES → d < descriptor_count g
    → (if has_class g s l class d then reserved_of g s d else 0) ≡ sum_below g.heaps (λ heap. offered d (active_in s heap class))
desc-reserved g s l class d rests of has =
    let here : Bool = (info_for s d).class == class in
    let r : ℕ = reserved_of g s d in
    elim (stands g s l d rests has) [
      | inl x ↦
          let none : reserved_of g s d ≡ 0 = words-reserve g s l d rests ∙ none-reserved g s d x.unnamed in
          ap (λ k. if has_class g s l class d then k else 0) none ∙ either-none (has_class g s l class d)
          ∙ sym (heaps-none g s d class (offered d) (offers-none d) (λ heap lt. x.unnamed heap class lt of))
      | inr rest ↦ elim rest [
        | inl x ↦
            let all : reserved_of g s d ≡ x.by.credits + 1 = words-reserve g s l d rests ∙ one-reserved g s l d x in
            elim (cases_eq (info_for s d).class class) [
              | inl same ↦
                  ap (λ b. if b && here then r else 0) x.bound ∙ cond-true {A = ℕ} here r 0 (eq-eqb (info_for s d).class class same) ∙ all
                  ∙ sym (heaps-one g s l d class (offered d) (offers-none d) x (sym same ∙ x.class) ∙ offers-itself d x.by.credits)
              | inr differ ↦
                  ap (λ b. if b && here then r else 0) x.bound ∙ cond-false {A = ℕ} here r 0 (ne_eqb (info_for s d).class class differ)
                  ∙ sym (heaps-none g s d class (offered d) (offers-none d)
                  (λ heap lt. x.alone heap class lt of (λ at same. differ (x.class ∙ sym same))))
            ]
        | inr x ↦
            ap (λ b. if b && here then r else 0) x.bound
            ∙ sym (heaps-none g s d class (offered d) (offers-none d) (λ heap lt. x.unnamed heap class lt of))
      ]
    ]

reserved-exchange :
    (g : Geometry) (s : State) (l : Lists) (class : ℕ) → Rests g s l → class < CLASSES
    → sum_below (descriptor_count g) (λ d. if has_class g s l class d then reserved_of g s d else 0) ≡ offered_of g s class
reserved-exchange g s l class rests of =
    let n = descriptor_count g in
    let word = λ (d heap : ℕ). offered d (active_in s heap class) in
    sum-same n (λ d. sum_below g.heaps (word d)) (λ d. if has_class g s l class d then reserved_of g s d else 0)
    (λ d lt. desc-reserved g s l class d rests of lt)
    ∙ sum-swap n g.heaps word
    ∙ sum-same g.heaps (λ heap. offers (active_in s heap class)) (λ heap. sum_below n (λ d. word d heap))
    (λ heap lt. word-offers n (active_in s heap class) (word-exists g s l heap class rests lt of))

-- the blocks of one superblock add up
desc-adds :
    (g : Geometry) (s : State) (l : Lists) (class d : ℕ) → Rests g s l → d < descriptor_count g
    → (if has_class g s l class d then (anchor_for s d).count else 0) + (if has_class g s l class d then reserved_of g s d else 0)
    + (if has_class g s l class d then live_in (superblock_of g s d) else 0)
    ≡ (if has_class g s l class d then block_count_of class else 0)
desc-adds g s l class d rests has =
    let b : Bool = has_class g s l class d in
    let count : ℕ = (anchor_for s d).count in
    let r : ℕ = reserved_of g s d in
    let live : ℕ = live_in (superblock_of g s d) in
    let size : ℕ = block_count_of class in
    elim (cases_Bool b) [
      | inl holds ↦
          let both = and_parts (is_bound g s l d) ((info_for s d).class == class) holds in
          let same : (info_for s d).class ≡ class = eqb-true (info_for s d).class class both.1 in
          let sums : count + r + live + 0 ≡ size =
          ap (λ k. count + r + live + k) (sym (none-waits g s l d rests))
          ∙ tally (superblock_of g s d) (rests.parts.chained.chained d has both.0) ∙ ap block_count_of same in
          adds-up count r live size b holds sums
      | inr other ↦
          ap (λ k. (if k then count else 0) + (if k then r else 0) + (if k then live else 0)) other
          ∙ sym (ap (λ k. if k then size else 0) other)
    ]
  where
    adds-up :
        (count r live size : ℕ) (b : Bool) → b ≡ true → count + r + live + 0 ≡ size
        → (if b then count else 0) + (if b then r else 0) + (if b then live else 0) ≡ (if b then size else 0)
    adds-up count r live size true holds sums = omega (arith, sums)
    adds-up count r live size false holds sums = refl

-- a number summed where a test holds is the number times how often it holds
times-if : (b : Bool) (k : ℕ) → (if b then k else 0) ≡ k * (if b then 1 else 0)
times-if true k = omega arith
times-if false k = omega arith

sum-times : (n k : ℕ) (b : ℕ → Bool) → sum_below n (λ j. if b j then k else 0) ≡ k * sum_below n (λ j. if b j then 1 else 0)
sum-times zero k b = omega arith
sum-times (suc n) k b = omega (arith, sum-times n k b, times-if (b n) k)

pub superblocks-times :
    (g : Geometry) (s : State) (l : Lists) (class : ℕ)
    → sum_below (descriptor_count g) (λ d. if has_class g s l class d then block_count_of class else 0)
    ≡ block_count_of class * superblocks_of g s l class
superblocks-times g s l class = sum-times (descriptor_count g) (block_count_of class) (has_class g s l class)

-- the blocks of a class add up
pub class-adds :
    (g : Geometry) (s : State) (l : Lists) (class : ℕ) → Rests g s l → class < CLASSES
    → counted_of g s l class + offered_of g s class
    + sum_below (descriptor_count g) (λ d. if has_class g s l class d then live_in (superblock_of g s d) else 0)
    ≡ block_count_of class * superblocks_of g s l class
class-adds g s l class rests of =
    let n = descriptor_count g in
    let count = λ (d : ℕ). if has_class g s l class d then (anchor_for s d).count else 0 in
    let reserved = λ (d : ℕ). if has_class g s l class d then reserved_of g s d else 0 in
    let live = λ (d : ℕ). if has_class g s l class d then live_in (superblock_of g s d) else 0 in
    let all = λ (d : ℕ). if has_class g s l class d then block_count_of class else 0 in
    let each : sum_below n (λ d. count d + reserved d + live d) ≡ sum_below n all =
    sum-same n all (λ d. count d + reserved d + live d) (λ d lt. desc-adds g s l class d rests lt) in
    joins (sum_below n count) (sum_below n reserved) (sum_below n live) (sum_below n (λ d. count d + reserved d))
    (sum_below n (λ d. count d + reserved d + live d)) (offered_of g s class) (block_count_of class * superblocks_of g s l class)
    (sum-plus n count reserved) (sum-plus n (λ d. count d + reserved d) live) (reserved-exchange g s l class rests of)
    (each ∙ superblocks-times g s l class)
  where
    joins :
        (a b c d e r all : ℕ) → d ≡ a + b → e ≡ d + c → b ≡ r → e ≡ all → a + r + c ≡ all
    joins a b c d e r all first second same whole = omega (arith, first, second, same, whole)
