-- What a frame weighs: the callers that have it in their hands or are about to pop a block of it, and the active words that offer blocks of it.
use Rattle.std.proofs.Common.{ℕ, Bool, Option, Some, None, ◌≡◌, ◌<◌, ◌≤◌, ◌+◌, ◌*◌, [], length, refl, ap, arith, ◌==◌, ◌&&◌, ◌-◌, if◌then◌else◌, eq-eqb}
use Rattle.sound_state.proofs.Common.{Geometry, CLASSES, ActiveWord, Null, Held, active_of, WordName, word_count, Exists, word_name, occurs, BlockPoint, Point}
use Rattle.sound_state.proofs.Common.{ErrandFields, State, fills_frame, errand_frames, holds_of, Lists, sum_below, words_sum, callers_sum, info_for, is_bound, waiting_of}
use Rattle.sound_state.proofs.Common.{word_name-Exists}
use Rattle.word_table.specs.declared.name.WordName.TheVariants as name
use Rattle.step_parts.specs.declared.superblock.point.BlockPoint.TheVariants as block
use Rattle.errand_steps.specs.declared.point.Point.TheVariants as point
use Rattle.sound_state.proofs.shared.HeapNames.{active_one, actives-most}
use Rattle.sound_state.proofs.shared.WeightSums.{words-together, callers-together}
use Rattle.sound_state.proofs.shared.SumLemmas.{sum-none, sum-plus, sum-most, sum-least, sum-swap, sum-once, sum-occurs, term-sum}

-- the descriptor of which a caller at the point is about to pop a block, if any
abbrev pub popping_block : BlockPoint → Option ℕ
popping_block (block.LoadInfo s d share) = Some d
popping_block (block.LoadAnchor at share) = Some at.desc
popping_block (block.LoadLink at share a) = Some at.desc
popping_block (block.PopBlock at share a prefix) = Some at.desc
popping_block p = None

abbrev pub popping : Point → Option ℕ
popping (point.Block p o) = popping_block p
popping p = None

-- 1 where its superblock fills the frame
abbrev pub popping_fills : Geometry → State → Lists → ℕ → Option ℕ → ℕ
popping_fills g s l f None = 0
popping_fills g s l f (Some d) = fills_frame g s l f d

-- how often a caller has the frame in its hand, or is about to pop a block of it
abbrev pub errand_weighs : Geometry → State → Lists → ℕ → ErrandFields → ℕ
errand_weighs g s l f e = errand_frames f e + popping_fills g s l f (popping e.point)

-- 1 where an active word holds the superblock that fills the frame
abbrev pub held_fills : Geometry → State → Lists → ℕ → Option ActiveWord → ℕ
held_fills g s l f None = 0
held_fills g s l f (Some Null) = 0
held_fills g s l f (Some (Held d credits)) = fills_frame g s l f d

abbrev pub word_weighs : Geometry → State → Lists → ℕ → WordName → ℕ → ℕ
word_weighs g s l f (name.Active heap class) word = held_fills g s l f (active_of word)
word_weighs g s l f other word = 0

-- what a frame weighs, in active words and callers together
abbrev pub frame_weighs : Geometry → State → Lists → ℕ → ℕ
frame_weighs g s l f = callers_sum g (errand_weighs g s l f) s.errand + words_sum g (word_weighs g s l f) s.word

-- a superblock fills one frame at most
fills-there : (a b : Bool) (x f : ℕ) → (if a && b && (x == f) then 1 else 0) ≤ (if x == f then 1 else 0)
fills-there a b x f = grind (arith)

fills-once : (g : Geometry) (s : State) (l : Lists) (d n : ℕ) → sum_below n (λ f. fills_frame g s l f d) ≤ 1
fills-once g s l d n =
    omega (
      arith,
      sum-least n (λ f. fills_frame g s l f d) (λ f. if (info_for s d).frame == f then 1 else 0)
          (λ f lt. fills-there (is_bound g s l d) (waiting_of g s d == 0) (info_for s d).frame f),
      sum-once n (info_for s d).frame,
    )

-- an active word weighs in one frame at most
abbrev any_active : WordName → ℕ
any_active (name.Active heap class) = 1
any_active other = 0

nothing-fills : (n : ℕ) → sum_below n (λ f. 0) ≤ 0
nothing-fills n = omega (arith, sum-none n (λ f. 0) (λ f lt. refl))

held-fills-once : (g : Geometry) (s : State) (l : Lists) (n : ℕ) (o : Option ActiveWord) → sum_below n (λ f. held_fills g s l f o) ≤ 1
held-fills-once g s l n None = omega (arith, nothing-fills n)
held-fills-once g s l n (Some Null) = omega (arith, nothing-fills n)
held-fills-once g s l n (Some (Held d credits)) = fills-once g s l d n

word-weighs-once :
    (g : Geometry) (s : State) (l : Lists) (n : ℕ) (m : WordName) (word : ℕ)
    → sum_below n (λ f. word_weighs g s l f m word) ≤ any_active m
word-weighs-once g s l n (name.Active heap class) word = held-fills-once g s l n (active_of word)
word-weighs-once g s l n m word = nothing-fills n

-- each active word is one of some class
any-class : (g : Geometry) (m : WordName) → Exists g m → any_active m ≤ sum_below CLASSES (λ class. active_one class m)
any-class g m exists = grind (arith, exists, term-sum, eq-eqb)

all-actives : (g : Geometry) → sum_below (word_count g) (λ k. any_active (word_name g k)) ≤ g.heaps * CLASSES
all-actives g =
    omega (
      arith,
      sum-least (word_count g) (λ k. any_active (word_name g k)) (λ k. sum_below CLASSES (λ class. active_one class (word_name g k)))
          (λ k lt. any-class g (word_name g k) (word_name-Exists g k lt)),
      sum-swap (word_count g) CLASSES (λ k class. active_one class (word_name g k)),
      sum-most CLASSES (λ class. sum_below (word_count g) (λ k. active_one class (word_name g k))) g.heaps (λ class lt. actives-most g class),
    )

-- all frames weigh no more in active words than there are active words
words-weigh-most :
    (g : Geometry) (s : State) (l : Lists) (n : ℕ) → sum_below n (λ f. words_sum g (word_weighs g s l f) s.word) ≤ g.heaps * CLASSES
words-weigh-most g s l n =
    omega (
      arith,
      words-together g n (word_weighs g s l) s.word any_active (λ m exists. word-weighs-once g s l n m (s.word m)),
      all-actives g,
    )

-- a caller that is about to pop has a block reserved and no frame in its hand, and no caller has two frames
abbrev pop_one : Option ℕ → ℕ
pop_one None = 0
pop_one (Some d) = 1

pays : (p : Point) → pop_one (popping p) ≤ length (holds_of p).credits
unfolding holds_of
pays p = grind (arith)

one-point : (p : Point) → length (holds_of p).frames + pop_one (popping p) ≤ 1
unfolding holds_of
one-point p = grind (arith)

-- all frames weigh at most one in a caller
popping-once : (g : Geometry) (s : State) (l : Lists) (n : ℕ) (o : Option ℕ) → sum_below n (λ f. popping_fills g s l f o) ≤ pop_one o
popping-once g s l n None = nothing-fills n
popping-once g s l n (Some d) = fills-once g s l d n

caller-weighs :
    (g : Geometry) (s : State) (l : Lists) (n : ℕ) (e : ErrandFields)
    → sum_below n (λ f. errand_weighs g s l f e) ≤ length (holds_of e.point).frames + pop_one (popping e.point)
caller-weighs g s l n e =
    omega (
      arith,
      sum-plus n (λ f. occurs f (holds_of e.point).frames) (λ f. popping_fills g s l f (popping e.point)),
      sum-occurs n (holds_of e.point).frames,
      popping-once g s l n (popping e.point),
    )

-- all frames weigh in the callers one fewer than these are, where one has neither a frame nor a reserved block
callers-weigh-most :
    (g : Geometry) (s : State) (l : Lists) (n caller : ℕ) → caller < g.callers → (holds_of (s.errand caller).point).frames ≡ []
    → (holds_of (s.errand caller).point).credits ≡ [] → sum_below n (λ f. callers_sum g (errand_weighs g s l f) s.errand) + 1 ≤ g.callers
callers-weigh-most g s l n caller has no_frame no_credit =
    omega (
      arith,
      callers-together g n (errand_weighs g s l) s.errand caller 1 has
          (omega (
            arith,
            caller-weighs g s l n (s.errand caller),
            ap (length {A = ℕ}) no_frame,
            pays (s.errand caller).point,
            ap (length {A = _}) no_credit,
          ))
          (λ e. omega (arith, caller-weighs g s l n e, one-point e.point)),
    )

-- all frames weigh no more together than active words and callers, but one
pub frames-weigh :
    (g : Geometry) (s : State) (l : Lists) (caller : ℕ) → caller < g.callers → (holds_of (s.errand caller).point).frames ≡ []
    → (holds_of (s.errand caller).point).credits ≡ [] → sum_below g.frames (frame_weighs g s l) ≤ g.heaps * CLASSES + g.callers - 1
frames-weigh g s l caller has no_frame no_credit =
    omega (
      arith,
      sum-plus g.frames (λ f. callers_sum g (errand_weighs g s l f) s.errand) (λ f. words_sum g (word_weighs g s l f) s.word),
      callers-weigh-most g s l g.frames caller has no_frame no_credit,
      words-weigh-most g s l g.frames,
    )
