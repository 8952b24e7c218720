-- The frames on the stack, and those that superblocks fill.
use Rattle.std.proofs.Common.{ℕ, Bool, true, ◌≡◌, ◌<◌, ◌+◌, length, refl, arith, ap, sym, inl, inr, ◌∙◌}
use Rattle.std.specs.Prelude.{◌==◌, ◌&&◌, if◌then◌else◌}
use Rattle.std.proofs.lemmas.Bool.{cases_Bool, cond-true, cond-false, eq-eqb, ne_eqb}
use Rattle.heap_geometry.specs.declared.geometry.Geometry.{Geometry}
use Rattle.heap_geometry.specs.declared.limits.TheConstants.{CLASSES}
use Rattle.word_table.specs.Counts.{descriptor_count}
use Rattle.word_table.specs.Occurs.{occurs}
use Rattle.errand_steps.specs.Steps.{State}
use Rattle.sound_state.specs.Frames.{fills_frame}
use Rattle.sound_state.specs.Lists.{Lists}
use Rattle.sound_state.specs.Sums.{sum_below}
use Rattle.sound_state.specs.Superblocks.{info_for, is_bound, waiting_of}
use Rattle.sound_state.proofs.large.TouchPrefixes.{info-frame}
use Rattle.sound_state.proofs.shared.ListFacts.{occurring-all}
use Rattle.sound_state.proofs.shared.SumLemmas.{sum-same, sum-none, sum-one, sum-plus, sum-ones, sum-swap}
use Rattle.sound_state.proofs.shared.TallyLemmas.{occurs-all}
use Rattle.heap_census.specs.Census.{has_class, superblocks_of}
use Rattle.heap_census.proofs.IdleLemmas.{Rests, none-waits, none-in-hand}
use Rattle.heap_census.proofs.RestLemmas.{info-class}

-- 1 where a descriptor has a superblock
abbrev has_one : Geometry → State → Lists → ℕ → ℕ
has_one g s l d = if is_bound g s l d then 1 else 0

-- a superblock fills one frame
fills-one : (g : Geometry) (s : State) (l : Lists) (d : ℕ) → Rests g s l → d < descriptor_count g → sum_below g.frames (λ f. fills_frame g s l f d) ≡ has_one g s l d
fills-one g s l d rests has =
    let in_use : Bool = waiting_of g s d == 0 in
    let rest = λ (f : ℕ). (info_for s d).frame == f in
    let waits : in_use ≡ true = eq-eqb (waiting_of g s d) 0 (none-waits g s l d rests) in
    let fills : (f : ℕ) → fills_frame g s l f d ≡ (if is_bound g s l d && true && rest f then 1 else 0) =
    λ f. ap (λ b. if is_bound g s l d && b && rest f then 1 else 0) waits in
    elim (cases_Bool (is_bound g s l d)) [
      | inl bound ↦
          let now : (f : ℕ) → fills_frame g s l f d ≡ (if rest f then 1 else 0) = λ f. fills f ∙ ap (λ b. if b && true && rest f then 1 else 0) bound in
          let its : ℕ = (info_for s d).frame in
          sum-one g.frames (λ f. fills_frame g s l f d) its (info-frame g s l d rests.parts has)
          (λ f lt ne. now f ∙ cond-false {A = ℕ} (its == f) 1 0 (ne_eqb its f (λ same. ne (sym same))))
          ∙ now its ∙ cond-true {A = ℕ} (its == its) 1 0 (eq-eqb its its refl)
          ∙ sym (cond-true {A = ℕ} (is_bound g s l d) 1 0 bound)
      | inr free ↦
          sum-none g.frames (λ f. fills_frame g s l f d) (λ f lt. fills f ∙ ap (λ b. if b && true && rest f then 1 else 0) free)
          ∙ sym (cond-false {A = ℕ} (is_bound g s l d) 1 0 free)
    ]

-- a superblock is of one class
class-one : (g : Geometry) (s : State) (l : Lists) (d : ℕ) → Rests g s l → d < descriptor_count g → sum_below CLASSES (λ class. if has_class g s l class d then 1 else 0) ≡ has_one g s l d
class-one g s l d rests has =
    let its : ℕ = (info_for s d).class in
    let f = λ (class : ℕ). if has_class g s l class d then 1 else 0 in
    elim (cases_Bool (is_bound g s l d)) [
      | inl bound ↦
          let now : (class : ℕ) → f class ≡ (if its == class then 1 else 0) = λ class. ap (λ b. if b && (its == class) then 1 else 0) bound in
          sum-one CLASSES f its (info-class g s l d rests has)
          (λ class lt ne. now class ∙ cond-false {A = ℕ} (its == class) 1 0 (ne_eqb its class (λ same. ne (sym same))))
          ∙ now its ∙ cond-true {A = ℕ} (its == its) 1 0 (eq-eqb its its refl)
          ∙ sym (cond-true {A = ℕ} (is_bound g s l d) 1 0 bound)
      | inr free ↦
          sum-none CLASSES f (λ class lt. ap (λ b. if b && (its == class) then 1 else 0) free)
          ∙ sym (cond-false {A = ℕ} (is_bound g s l d) 1 0 free)
    ]

-- the list of free frames has each of its frames once
frames-listed : (g : Geometry) (s : State) (l : Lists) → Rests g s l → sum_below g.frames (λ f. occurs f l.frames) ≡ length l.frames
frames-listed g s l rests =
    occurs-all g.frames l.frames (λ f on. occurring-all (λ k. k < g.frames) f l.frames rests.parts.listed.frames_exist (omega (arith, on)))

-- each frame is on the stack or filled
pub frames-add :
    (g : Geometry) (s : State) (l : Lists) → Rests g s l → length l.frames + sum_below CLASSES (superblocks_of g s l) ≡ g.frames
frames-add g s l rests =
    let n = descriptor_count g in
    let once : sum_below g.frames (λ f. occurs f l.frames + sum_below n (fills_frame g s l f)) ≡ sum_below g.frames (λ f. 1) =
    sum-same g.frames (λ f. 1) (λ f. occurs f l.frames + sum_below n (fills_frame g s l f))
    (λ f lt. omega (arith, rests.parts.framed.once f lt, none-in-hand g s l f rests)) in
    let filled : sum_below g.frames (λ f. sum_below n (fills_frame g s l f)) ≡ sum_below n (has_one g s l) =
    sum-swap g.frames n (λ f d. fills_frame g s l f d)
    ∙ sum-same n (has_one g s l) (λ d. sum_below g.frames (λ f. fills_frame g s l f d)) (λ d lt. fills-one g s l d rests lt) in
    let classes : sum_below CLASSES (superblocks_of g s l) ≡ sum_below n (has_one g s l) =
    sum-swap CLASSES n (λ class d. if has_class g s l class d then 1 else 0)
    ∙ sum-same n (has_one g s l) (λ d. sum_below CLASSES (λ class. if has_class g s l class d then 1 else 0)) (λ d lt. class-one g s l d rests lt) in
    omega (
      arith,
      once,
      filled,
      classes,
      frames-listed g s l rests,
      sum-ones g.frames,
      sum-plus g.frames (λ f. occurs f l.frames) (λ f. sum_below n (fills_frame g s l f)),
    )
