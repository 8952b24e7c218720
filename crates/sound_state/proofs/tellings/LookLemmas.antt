-- Where a class's list is empty, fewer descriptors are out for the class than it has.
use Rattle.std.proofs.Common.{ℕ, Bool, true, false, Option, Some, None, ◌≡◌, ◌<◌, ◌≤◌, ◌+◌, ◌*◌, [], length, refl, sym, ◌∙◌, ap, arith, inl, inr, ◌==◌, ◌&&◌, not}
use Rattle.std.proofs.Common.{if◌then◌else◌, IsSome, eq-eqb, ne_eqb}
use Rattle.std.proofs.lemmas.Bool.{cases_eq, cases_Bool, cond-true, cond-false}
use Rattle.sound_state.proofs.Common.{Geometry, ActiveWord, Null, Held, active_of, info_of, is_empty, WordName, descriptor_count, word_count, Exists, word_name, Point}
use Rattle.sound_state.proofs.Common.{State, fills_frame, waiting, holds_of, word_keeps, full_keeps, errand_has, Lists, word_stock, full_stock, errand_stock, stock_among}
use Rattle.sound_state.proofs.Common.{waits_in, IsSoundWith, sum_below, words_sum, callers_sum, anchor_for, info_for, errand_keeps, errand_away, away_of, waiting_of}
use Rattle.sound_state.proofs.Common.{is_bound, word_name-Exists, active_keeps, stock_of}
use Rattle.packed_words.specs.declared.anchor.AnchorState.{AnchorState as Phase}
use Rattle.packed_words.specs.declared.anchor.AnchorState.TheVariants as phase
use Rattle.word_table.specs.declared.name.WordName.TheVariants as name
use Rattle.sound_state.proofs.shared.HeapNames.{slot_one, slots-most}
use Rattle.sound_state.proofs.shared.RecallEffects.{empty-is}
use Rattle.sound_state.proofs.shared.WeightSums.{words-least}
use Rattle.sound_state.proofs.shared.SumLemmas.{sum-none, sum-plus, sum-most, sum-most-but, sum-least, sum-swap, term-sum}
use Rattle.sound_state.proofs.shared.WordFacts.{frame-of-within}

-- 1 where an active word holds d
abbrev active_part : ℕ → WordName → ℕ → ℕ
active_part d (name.Active heap class) word = active_keeps d (active_of word)
active_part d other word = 0

-- an active word that isn't 0 holds a descriptor that there is
active-zero : (word : ℕ) → active_of word ≡ Some Null → word ≡ 0
unfolding active_of
active-zero word is = grind (arith, is)

some-one : (word : ℕ) → (if word == 0 then 0 else 1) ≤ 1
some-one word = grind (arith)

active-counted :
    (n : ℕ) (word : ℕ) (o : Option ActiveWord) → active_of word ≡ o → IsSome o
    → ((d credits : ℕ) → o ≡ Some (Held d credits) → d < n)
    → (if word == 0 then 0 else 1) ≤ sum_below n (λ d. active_keeps d (active_of word))
active-counted n word None is some below = absurd (cc)
active-counted n word (Some Null) is some below = omega (arith, cond-true {A = ℕ} (word == 0) 0 1 (eq-eqb word 0 (active-zero word is)))
active-counted n word (Some (Held e credits)) is some below =
    rw is
    (omega (
      arith,
      some-one word,
      term-sum n (λ d. if e == d then 1 else 0) e (below e credits refl),
      cond-true {A = ℕ} (e == e) 1 0 (eq-eqb e e refl),
    ))

class-word : (class c word : ℕ) → (if (c == class) && (word == 0) then 0 else (if c == class then 1 else 0)) ≤ (if word == 0 then 0 else 1)
class-word class c word = grind (arith)

class-slot : (class c word : ℕ) → (if (c == class) && (word == 0) then 0 else (if c == class then 1 else 0)) ≤ (if c == class then 1 else 0)
class-slot class c word = grind (arith)

-- a word of the class in stock is a slot, or an active word that holds a descriptor
word-parts :
    (g : Geometry) (s : State) (l : Lists) → IsSoundWith g s l → (class : ℕ) (n : WordName) → Exists g n
    → word_stock class n (s.word n) ≤ sum_below (descriptor_count g) (λ d. active_part d n (s.word n)) + slot_one class n
word-parts g s l sound class (name.Active heap c) exists =
    let w = s.word (name.Active heap c) in
    omega (
      arith,
      class-word class c w,
      active-counted (descriptor_count g) w (active_of w) refl (sound.kept.active_words heap c exists.0 exists.1)
          (λ d credits is. (sound.kept.active heap c d credits exists.0 exists.1 is).0),
    )
word-parts g s l sound class (name.Slot heap c) exists = omega (arith, class-slot class c (s.word (name.Slot heap c)))
word-parts g s l sound class n exists = omega arith

words-parts :
    (g : Geometry) (s : State) (l : Lists) → IsSoundWith g s l → (class : ℕ)
    → words_sum g (word_stock class) s.word ≤ sum_below (descriptor_count g) (λ d. words_sum g (active_part d) s.word) + g.heaps
unfolding words_sum
words-parts g s l sound class =
    let n = word_count g in
    let part = λ (d k : ℕ). active_part d (word_name g k) (s.word (word_name g k)) in
    let parts = λ (k : ℕ). sum_below (descriptor_count g) (λ d. part d k) in
    let slots = λ (k : ℕ). slot_one class (word_name g k) in
    omega (
      arith,
      sum-least n (λ k. word_stock class (word_name g k) (s.word (word_name g k))) (λ k. parts k + slots k)
          (λ k lt. word-parts g s l sound class (word_name g k) (word_name-Exists g k lt)),
      sum-plus n parts slots,
      sum-swap (descriptor_count g) n part,
      slots-most g class,
    )

-- an active word keeps the descriptor that it holds, and holds none whose superblock is EMPTY
part-kept : (d : ℕ) (n : WordName) (word : ℕ) → active_part d n word ≤ word_keeps d n word
part-kept d n word = grind (arith)

parts-kept : (g : Geometry) (s : State) (d : ℕ) → words_sum g (active_part d) s.word ≤ words_sum g (word_keeps d) s.word
parts-kept g s d = words-least g (active_part d) (word_keeps d) s.word (λ n exists. part-kept d n (s.word n))

active-not :
    (d : ℕ) (o : Option ActiveWord) → ((credits : ℕ) → o ≡ Some (Held d credits) → ⊥) → active_keeps d o ≡ 0
active-not d None never = refl
active-not d (Some Null) never = refl
active-not d (Some (Held e credits)) never =
    cond-false {A = ℕ} (e == d) 1 0 (ne_eqb e d (λ same. never credits (ap (λ x. Some (Held x credits)) same)))

part-not :
    (g : Geometry) (s : State) (l : Lists) → IsSoundWith g s l → (d : ℕ) → (anchor_for s d).state ≡ phase.Empty → (n : WordName) → Exists g n
    → active_part d n (s.word n) ≡ 0
part-not g s l sound d empty (name.Active heap c) exists =
    active-not d (active_of (s.word (name.Active heap c)))
    (λ credits is.
    let active : (anchor_for s d).state ≡ phase.Active = (sound.kept.active heap c d credits exists.0 exists.1 is).1.state in
    let same : ◌≡◌ {A = Phase} phase.Active phase.Empty = sym active ∙ empty in
    cc)
part-not g s l sound d empty n exists = refl

parts-not :
    (g : Geometry) (s : State) (l : Lists) → IsSoundWith g s l → (d : ℕ) → (anchor_for s d).state ≡ phase.Empty
    → words_sum g (active_part d) s.word ≡ 0
unfolding words_sum
parts-not g s l sound d empty = grind (arith, sound, empty, part-not, sum-none, word_count, word_name, word_name-Exists)

-- callers have a descriptor at least as often as it is away with one of them and waits
nowhere :
    (g : Geometry) (s : State) (d : ℕ)
    → callers_sum g (errand_away d) s.errand + waiting_of g s d ≤ callers_sum g (errand_has d) s.errand
unfolding callers_sum
nowhere g s d =
    let away = λ (i : ℕ). errand_away d (s.errand i) in
    let waits = λ (i : ℕ). errand_keeps waiting d (s.errand i) in
    omega (
      arith,
      sum-plus g.callers away waits,
      sum-least g.callers (λ i. away i + waits i) (λ i. errand_has d (s.errand i)) (λ i lt. omega arith),
    )

fills-one : (bound : Bool) (waits frame : ℕ) → bound ≡ true → waits ≡ 0 → ◌≡◌ {A = ℕ} (if bound && (waits == 0) && (frame == frame) then 1 else 0) 1
fills-one bound waits frame is none = grind (arith, is, none)

bound-one : (away : ℕ) (p : Phase) → away ≡ 0 → is_empty p ≡ false → ((away == 0) && not (is_empty p)) ≡ true
bound-one away p none is = grind (arith, none, is)

-- a superblock that an active word holds, or that is FULL, fills a frame
desc-fills :
    (g : Geometry) (s : State) (l : Lists) → IsSoundWith g s l → (d : ℕ) → d < descriptor_count g
    → words_sum g (active_part d) s.word + full_keeps (anchor_for s d).state ≤ sum_below g.frames (λ f. fills_frame g s l f d)
desc-fills g s l sound d has =
    let p = (anchor_for s d).state in
    let once = sound.kept.once d has in
    let kept = parts-kept g s d in
    elim (cases_Bool (is_empty p)) [
      | inl is ↦
          let empty : p ≡ phase.Empty = empty-is p is in
          omega (arith, parts-not g s l sound d empty, ap full_keeps empty)
      | inr is ↦
          elim (cases_eq (words_sum g (active_part d) s.word + full_keeps p) 0) [
            | inl none ↦ omega (arith, none)
            | inr some ↦
                let all = nowhere g s d in
                let none_away : away_of g s l d ≡ 0 = omega (arith, once, kept, some, all) in
                let none_waits : waiting_of g s d ≡ 0 = omega (arith, once, kept, some, all) in
                let frame = (info_for s d).frame in
                let below : frame < g.frames = frame-of-within g (info_of (s.word (name.Info d))) (sound.chained.infos d has) in
                let bound : is_bound g s l d ≡ true = bound-one (away_of g s l d) p none_away is in
                omega (
                  arith,
                  once,
                  kept,
                  fills-one (is_bound g s l d) (waiting_of g s d) frame bound none_waits,
                  term-sum g.frames (λ f. fills_frame g s l f d) frame below,
                )
          ]
    ]

-- no more superblocks are FULL or held by active words than there are frames
filled-most :
    (g : Geometry) (s : State) (l : Lists) → IsSoundWith g s l
    → sum_below (descriptor_count g) (λ d. words_sum g (active_part d) s.word) + sum_below (descriptor_count g) (λ d. full_keeps (anchor_for s d).state)
    ≤ g.frames
filled-most g s l sound =
    let n = descriptor_count g in
    let active = λ (d : ℕ). words_sum g (active_part d) s.word in
    let full = λ (d : ℕ). full_keeps (anchor_for s d).state in
    omega (
      arith,
      sum-plus n active full,
      sum-least n (λ d. active d + full d) (λ d. sum_below g.frames (λ f. fills_frame g s l f d)) (λ d lt. desc-fills g s l sound d lt),
      sum-swap g.frames n (fills_frame g s l),
      sum-most g.frames (λ f. sum_below n (fills_frame g s l f)) 1 (λ f lt. omega (arith, sound.framed.once f lt)),
    )

full-least : (s : State) (class d : ℕ) → full_stock s class d ≤ full_keeps (anchor_for s d).state
full-least s class d = grind (arith)

-- a caller keeps at most two descriptors for a class, or waits for one
point-stocks-two : (class : ℕ) (p : Point) → stock_among class (holds_of p).kept + waits_in class p ≤ 2
unfolding holds_of
point-stocks-two class p = grind (arith)

callers-two :
    (g : Geometry) (s : State) (caller class : ℕ) → caller < g.callers → errand_stock class (s.errand caller) ≡ 0
    → callers_sum g (errand_stock class) s.errand + 2 ≤ 2 * g.callers
unfolding callers_sum
callers-two g s caller class has none =
    omega (arith, sum-most-but g.callers (λ i. errand_stock class (s.errand i)) 2 caller has none (λ i lt. point-stocks-two class (s.errand i).point))

-- one descriptor more may be out for a class whose list is empty and for which a caller keeps none and waits for none
pub look-stock :
    (g : Geometry) (s : State) (l : Lists) (caller class : ℕ) → IsSoundWith g s l → caller < g.callers → l.partials class ≡ []
    → errand_stock class (s.errand caller) ≡ 0 → stock_of g s l class + 1 ≤ g.frames + g.heaps + 2 * g.callers
look-stock g s l caller class sound has bare none =
    omega (
      arith,
      words-parts g s l sound class,
      ap (length {A = ℕ}) bare,
      callers-two g s caller class has none,
      sum-least (descriptor_count g) (full_stock s class) (λ d. full_keeps (anchor_for s d).state) (λ d lt. full-least s class d),
      filled-most g s l sound,
    )
