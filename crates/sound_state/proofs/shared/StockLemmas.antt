-- Descriptors never run out.
use Rattle.std.proofs.Common.{ℕ, Option, Some, None, ◌≡◌, ◌<◌, ◌≤◌, ◌+◌, ◌*◌, List, [], ◌∷◌, length, refl, arith, inl, inr, ◌==◌, ◌&&◌, zero, if◌then◌else◌, All, eq-eqb}
use Rattle.std.proofs.Common.{ne_eqb, suc}
use Rattle.std.proofs.lemmas.Bool.{cases_eq, cond-true, cond-false}
use Rattle.sound_state.proofs.Common.{Geometry, CLASSES, ActiveWord, Null, Held, active_of, info_of, WordName, descriptor_count, word_count, SeatFields, Exists, word_name}
use Rattle.sound_state.proofs.Common.{occurs, Partials, Stacked, next_in, Continuation, Point, FitsPoint, spare_of, ErrandFields, State, Kept, holds_of, word_keeps}
use Rattle.sound_state.proofs.Common.{full_keeps, errand_has, Lists, word_stock, full_stock, errand_stock, stock_among, waits_in, IsSoundWith, IsSoundWithoutCounts}
use Rattle.sound_state.proofs.Common.{sum_below, words_sum, callers_sum, anchor_for, info_for, InfoFields, active_keeps, places_of, stock_of}
use Rattle.word_table.specs.declared.name.WordName.TheVariants as name
use Rattle.step_parts.specs.declared.hazard.point.DescPoint.TheVariants as desc
use Rattle.errand_steps.specs.declared.point.Point.TheVariants as point
use Rattle.sound_state.proofs.shared.HolderLemmas.{zero-active}
use Rattle.sound_state.proofs.shared.KeptCounts.{named_among, named-most, kept-named}
use Rattle.sound_state.proofs.shared.WeightSums.{words-together}
use Rattle.sound_state.proofs.shared.SumLemmas.{sum-same, sum-none, sum-ones, sum-plus, sum-most, sum-least, sum-swap, sum-once, sum-occurs, term-sum}

-- 1 where a word isn't 0
abbrev some_word : ℕ → ℕ
some_word word = if word == 0 then 0 else 1

-- an active word names at most one descriptor, and none where it is 0
pub active-one : (n : ℕ) (o : Option ActiveWord) → sum_below n (λ d. active_keeps d o) ≤ 1
active-one n None = omega (arith, sum-none n (λ d. 0) (λ d lt. refl))
active-one n (Some Null) = omega (arith, sum-none n (λ d. 0) (λ d lt. refl))
active-one n (Some (Held e credits)) = sum-once n e

active-keeps-most : (n word : ℕ) → sum_below n (λ d. active_keeps d (active_of word)) ≤ some_word word
active-keeps-most n word =
    elim (cases_eq word 0) [
      | inl e ↦ omega (arith, sum-none n (λ d. active_keeps d (active_of word)) (λ d lt. rw (e, zero-active) refl))
      | inr ne ↦ omega (arith, cond-false {A = ℕ} (word == 0) 0 1 (ne_eqb word 0 ne), active-one n (active_of word))
    ]

-- a slot names at most one descriptor, and none where it is 0
slot-keeps-most : (n word : ℕ) → sum_below n (λ d. if word == d + 1 then 1 else 0) ≤ some_word word
slot-keeps-most n zero = omega (arith, sum-none n (λ d. if zero == d + 1 then 1 else 0) (λ d lt. grind (arith)))
slot-keeps-most n (suc word) =
    let some : some_word (suc word) ≡ 1 = grind (arith) in
    omega (arith, some, sum-once n word, sum-same n (λ d. if word == d then 1 else 0) (λ d. if suc word == d + 1 then 1 else 0) (λ d lt. grind (arith)))

pub slot-once : (n word : ℕ) → sum_below n (λ d. if word == d + 1 then 1 else 0) ≤ 1
slot-once n word = grind (arith, slot-keeps-most n word)

-- an active word or a slot that isn't 0 is in stock for its class
word-stocked : (class word : ℕ) → (if (class == class) && (word == 0) then 0 else (if class == class then 1 else 0)) ≡ some_word word
word-stocked class word = grind (arith)

word-keeps-once : (g : Geometry) (n : WordName) (word : ℕ) → Exists g n
    → sum_below (descriptor_count g) (λ d. word_keeps d n word) ≤ sum_below CLASSES (λ class. word_stock class n word)
word-keeps-once g (name.Active heap c) word exists =
    omega (
      arith,
      active-keeps-most (descriptor_count g) word,
      word-stocked c word,
      term-sum CLASSES (λ class. word_stock class (name.Active heap c) word) c exists.1,
    )
word-keeps-once g (name.Slot heap c) word exists =
    omega (
      arith,
      slot-keeps-most (descriptor_count g) word,
      word-stocked c word,
      term-sum CLASSES (λ class. word_stock class (name.Slot heap c) word) c exists.1,
    )
word-keeps-once g n word exists = omega (arith, sum-none (descriptor_count g) (λ d. 0) (λ d lt. refl))

-- the descriptors that active words and slots keep are in stock
words-stocked : (g : Geometry) (words : WordName → ℕ)
    → sum_below (descriptor_count g) (λ d. words_sum g (word_keeps d) words) ≤ sum_below CLASSES (λ class. words_sum g (word_stock class) words)
unfolding words_sum
words-stocked g words =
    let stock = λ (class k : ℕ). word_stock class (word_name g k) (words (word_name g k)) in
    omega (
      arith,
      words-together g (descriptor_count g) word_keeps words (λ m. sum_below CLASSES (λ class. word_stock class m (words m)))
          (λ m. word-keeps-once g m (words m)),
      sum-swap CLASSES (word_count g) stock,
    )

-- the lists of the classes have no more descriptors than their lengths
lists-stocked : (n : ℕ) (partials : ℕ → List ℕ)
    → sum_below n (λ d. sum_below CLASSES (λ class. occurs d (partials class))) ≤ sum_below CLASSES (λ class. length (partials class))
lists-stocked n partials =
    omega (
      arith,
      sum-swap n CLASSES (λ d class. occurs d (partials class)),
      sum-least CLASSES (λ class. sum_below n (λ d. occurs d (partials class))) (λ class. length (partials class)) (λ class lt. sum-occurs n (partials class)),
    )

-- the class that an info word says is one of the classes
info-class : (word : ℕ) → (i : InfoFields) → info_of word ≡ Some i → i.class < CLASSES
unfolding info_of
info-class word i is = grind (arith, is)

info-class-of : (s : State) (d : ℕ) (o : Option InfoFields) → info_of (s.word (name.Info d)) ≡ o → (info_for s d).class < CLASSES
info-class-of s d o is = grind (arith, is, info-class)

-- a FULL superblock is in stock for its class
full-class : (s : State) (d : ℕ) → full_stock s (info_for s d).class d ≡ full_keeps (anchor_for s d).state
full-class s d = rw (eq-eqb (info_for s d).class (info_for s d).class refl) refl

full-stocked : (n : ℕ) (s : State)
    → sum_below n (λ d. full_keeps (anchor_for s d).state) ≤ sum_below CLASSES (λ class. sum_below n (full_stock s class))
full-stocked n s =
    omega (
      arith,
      sum-swap CLASSES n (full_stock s),
      sum-least n (λ d. full_keeps (anchor_for s d).state) (λ d. sum_below CLASSES (λ class. full_stock s class d))
          (λ d lt. omega (
            arith,
            full-class s d,
            term-sum CLASSES (λ class. full_stock s class d) (info_for s d).class
                (info-class-of s d (info_of (s.word (name.Info d))) refl),
          )),
    )

-- the kept descriptors are kept for classes that there are
abbrev InClass : List Kept → Type 0
InClass [] = Unit {0}
InClass (k ∷ ks) = (k.class < CLASSES) × InClass ks

stock-least : (ks : List Kept) → InClass ks → length ks ≤ sum_below CLASSES (λ class. stock_among class ks)
stock-least [] all = omega arith
stock-least (k ∷ ks) all =
    omega (
      arith,
      stock-least ks all.1,
      sum-plus CLASSES (λ class. if k.class == class then 1 else 0) (λ class. stock_among class ks),
      term-sum CLASSES (λ class. if k.class == class then 1 else 0) k.class all.0,
      cond-true {A = ℕ} (k.class == k.class) 1 0 (eq-eqb k.class k.class refl),
    )

in-class : (g : Geometry) (caller : ℕ) (p : Point) → FitsPoint g caller p → InClass (holds_of p).kept
unfolding holds_of
in-class g caller p fits = grind (arith, fits)

spare-most : (p : Point) → spare_of p ≤ 1
spare-most p = grind (arith)

-- a caller has no more descriptors than it has retired and keeps
caller-has : (n : ℕ) (e : ErrandFields) → sum_below n (λ d. errand_has d e) ≤ length e.retired + length (holds_of e.point).kept
caller-has n e =
    omega (
      arith,
      sum-same n (λ d. occurs d e.retired + named_among d (holds_of e.point).kept) (λ d. errand_has d e)
          (λ d lt. omega (arith, kept-named d (holds_of e.point).kept)),
      sum-plus n (λ d. occurs d e.retired) (λ d. named_among d (holds_of e.point).kept),
      sum-occurs n e.retired,
      named-most n (holds_of e.point).kept,
    )

-- for how many classes a caller waits for a descriptor
abbrev waits_of : ErrandFields → ℕ
waits_of e = sum_below CLASSES (λ class. waits_in class e.point)

caller-stocked : (g : Geometry) (caller n : ℕ) (e : ErrandFields) → FitsPoint g caller e.point
    → sum_below n (λ d. errand_has d e) + waits_of e ≤ length e.retired + sum_below CLASSES (λ class. errand_stock class e)
caller-stocked g caller n e fits = grind (arith, fits, caller-has, stock-least, in-class, sum-plus)

abbrev retired_of : ErrandFields → ℕ
retired_of e = length e.retired

-- what all callers have, and those that wait, are no more than they have retired and have in stock
callers-stocked : (g : Geometry) (s : State) (l : Lists) (n : ℕ) → IsSoundWith g s l
    → sum_below n (λ d. callers_sum g (errand_has d) s.errand) + callers_sum g waits_of s.errand
    ≤ callers_sum g retired_of s.errand + sum_below CLASSES (λ class. callers_sum g (errand_stock class) s.errand)
unfolding callers_sum
callers-stocked g s l n sound =
    let has = λ (d caller : ℕ). errand_has d (s.errand caller) in
    let stock = λ (class caller : ℕ). errand_stock class (s.errand caller) in
    let waits = λ (caller : ℕ). waits_of (s.errand caller) in
    let retired = λ (caller : ℕ). retired_of (s.errand caller) in
    let each : sum_below g.callers (λ caller. sum_below n (λ d. has d caller) + waits caller)
    ≤ sum_below g.callers (λ caller. retired caller + sum_below CLASSES (λ class. stock class caller)) =
    sum-least g.callers (λ caller. sum_below n (λ d. has d caller) + waits caller) (λ caller. retired caller + sum_below CLASSES (λ class. stock class caller))
    (λ caller lt.
    let own = sound.formed.errands caller lt in
    caller-stocked (s.errand caller).geometry (s.errand caller).caller n (s.errand caller) own.rule.point) in
    omega (
      arith,
      sum-swap n g.callers has,
      sum-swap CLASSES g.callers stock,
      sum-plus g.callers (λ caller. sum_below n (λ d. has d caller)) waits,
      sum-plus g.callers retired (λ caller. sum_below CLASSES (λ class. stock class caller)),
    )

-- no more are retired than all callers' lists hold
retired-most : (g : Geometry) (s : State) (l : Lists) → IsSoundWith g s l → callers_sum g retired_of s.errand ≤ g.callers * (g.callers + 1)
unfolding callers_sum
retired-most g s l sound = grind (arith, sound, sum-most, spare-most)

-- a caller that waits is one of all that do
waits-least : (g : Geometry) (s : State) (caller class : ℕ) → caller < g.callers → class < CLASSES
    → waits_in class (s.errand caller).point ≤ callers_sum g waits_of s.errand
unfolding callers_sum
waits-least g s caller class has is =
    omega (arith, term-sum g.callers (λ i. waits_of (s.errand i)) caller has, term-sum CLASSES (λ c. waits_in c (s.errand caller).point) class is)

-- a sound state with its lists
module _ (g : Geometry) (s : State) (l : Lists) (sound : IsSoundWith g s l) where
  -- all descriptors, and the callers that wait for one, are at most the stocks, the retired and the available ones
  places-all :
      descriptor_count g + callers_sum g waits_of s.errand ≤ sum_below CLASSES (stock_of g s l) + callers_sum g retired_of s.errand + length l.available
  places-all =
      let n = descriptor_count g in
      let words = λ (d : ℕ). words_sum g (word_keeps d) s.word in
      let partials = λ (d : ℕ). sum_below CLASSES (λ class. occurs d (l.partials class)) in
      let available = λ (d : ℕ). occurs d l.available in
      let callers = λ (d : ℕ). callers_sum g (errand_has d) s.errand in
      let full = λ (d : ℕ). full_keeps (anchor_for s d).state in
      let w = λ (class : ℕ). words_sum g (word_stock class) s.word in
      let p = λ (class : ℕ). length (l.partials class) in
      let c = λ (class : ℕ). callers_sum g (errand_stock class) s.errand in
      let f = λ (class : ℕ). sum_below n (full_stock s class) in
      let ones : sum_below n (λ d. 1) ≡ n = sum-ones n in
      let once : sum_below n (places_of g s l) ≡ sum_below n (λ d. 1) = sum-same n (λ d. 1) (places_of g s l) (λ d lt. sound.kept.once d lt) in
      omega (
        arith,
        ones,
        once,
        sum-plus n (λ d. words d + partials d + available d + callers d) full,
        sum-plus n (λ d. words d + partials d + available d) callers,
        sum-plus n (λ d. words d + partials d) available,
        sum-plus n words partials,
        sum-plus CLASSES (λ class. w class + p class + c class) f,
        sum-plus CLASSES (λ class. w class + p class) c,
        sum-plus CLASSES w p,
        words-stocked g s.word,
        lists-stocked n l.partials,
        sum-occurs n l.available,
        callers-stocked g s l n sound,
        full-stocked n s,
      )

  -- no more descriptors are in stock than the classes have
  all-stock-most : sum_below CLASSES (stock_of g s l) ≤ CLASSES * (g.frames + g.heaps + 2 * g.callers)
  all-stock-most = sum-most CLASSES (stock_of g s l) (g.frames + g.heaps + 2 * g.callers) (λ class has. sound.stocked.most class has)

  -- a descriptor is available where a caller waits for one
  available-least : (caller class : ℕ) → caller < g.callers → class < CLASSES → waits_in class (s.errand caller).point ≡ 1 → 1 ≤ length l.available
  unfolding descriptor_count
  available-least caller class has is waits = omega (arith, places-all, all-stock-most, retired-most g s l sound, waits-least g s caller class has is)

-- a stack that isn't empty has a top
stack-top : (next : ℕ → ℕ) (top n : ℕ) (xs : List ℕ) → Stacked next top xs → All (λ d. d < n) xs → 1 ≤ length xs
    → (d : ℕ) × (d < n) × (top ≡ d + 1)
stack-top next top n [] stacked all some = absurd (let no : ⊥ = omega (arith, some) in no)
stack-top next top n (x ∷ xs) stacked all some = (x, all 0 0 (omega arith), stacked.0)

pub waiting-has : (g : Geometry) (s : State) → IsSoundWithoutCounts g s → (caller class : ℕ) → caller < g.callers → class < CLASSES
    → waits_in class (s.errand caller).point ≡ 1 → (d : ℕ) × (d < descriptor_count g) × (s.word name.DescHead ≡ d + 1)
waiting-has g s sound caller class has is waits =
    let l : Lists = sound.parts.0 in
    let with : IsSoundWith g s l = sound.parts.1 in
    stack-top (next_in s.word Partials) (s.word name.DescHead) (descriptor_count g) l.available with.listed.available with.listed.available_exist
    (available-least g s l with caller class has is waits)

-- the seat of a caller at the load of the available ones' head is of a class for which it waits
looks-seat : (g : Geometry) (caller : ℕ) (p : Point) (seat : SeatFields) (o : Continuation) → FitsPoint g caller p → p ≡ point.Desc (desc.LoadDescHead seat) o
    → (seat.class < CLASSES) × (waits_in seat.class p ≡ 1)
looks-seat g caller p seat o fits is = grind (arith, fits, is, eq-eqb)

pub looking-has : (g : Geometry) (s : State) → IsSoundWithoutCounts g s → (caller : ℕ) (seat : SeatFields) (o : Continuation) → caller < g.callers
    → (s.errand caller).point ≡ point.Desc (desc.LoadDescHead seat) o → (d : ℕ) × (d < descriptor_count g) × (s.word name.DescHead ≡ d + 1)
looking-has g s sound caller seat o has is =
    let own = sound.parts.1.formed.errands caller has in
    let seat_is = looks-seat (s.errand caller).geometry (s.errand caller).caller (s.errand caller).point seat o own.rule.point is in
    waiting-has g s sound caller seat.class has seat_is.0 seat_is.1
