-- How often an allocation may clear: no more superblocks than are EMPTY and out for its class, and one less after it did.
use Rattle.std.proofs.Common.{ℕ, Bool, true, false, ◌≡◌, ◌<◌, ◌≤◌, ◌+◌, refl, arith, ap, sym, subst, inl, inr, ◌∙◌, ◌==◌, ◌&&◌, if◌then◌else◌, count_by, true≢false, eq-eqb}
use Rattle.std.proofs.lemmas.Bool.{cases_eq, cases_Bool, cond-true}
use Rattle.sound_state.proofs.Common.{Geometry, Site, descriptor_count, occurs, is_empty, Retire, Continuation, Point, Partial, counts_cleared, settle_of, course_of}
use Rattle.sound_state.proofs.Common.{next_of, plan_point_of, asked, State, Step, found_at, partly_used, holds_of, Lists, recalls_of, IsSoundWithoutCounts, IsSoundWith}
use Rattle.sound_state.proofs.Common.{in_turn, sum_below, callers_sum, anchor_for, info_for, errand_away, errand_keeps, away_of, one_if, emptied_out, cleared_of}
use Rattle.sound_state.proofs.Common.{is_small_free}
use Rattle.step_parts.specs.declared.partial.point.PartialPoint.TheVariants as partial
use Rattle.errand_steps.specs.declared.continuation.Continuation.TheVariants as continuation
use Rattle.sound_laws.specs.bounds.Alone.{class_at, away_in, empty_for, emptied_for, clearings}
use Rattle.sound_laws.proofs.bounds_lemmas.AvailableLemmas.{away-is}
use Rattle.sound_laws.proofs.bounds_lemmas.TurnAway.{LeavesOut, step-leaves-out, away_after, next-away}
use Rattle.sound_laws.proofs.bounds_lemmas.TurnWords.{next_ways}
use Rattle.sound_laws.proofs.bounds_lemmas.ClearLemmas.{turn-before, clears-turn}
use Rattle.sound_state.proofs.shared.HasLemmas.{keeps-at, kept-itself, keeps-near}
use Rattle.sound_state.proofs.shared.PointLemmas.{fits-at, recalled-at}
use Rattle.sound_state.proofs.shared.StepLemmas.{found_from}
use Rattle.sound_state.proofs.shared.SumLemmas.{sum-least, term-sum, sum-less}
use Rattle.sound_state.proofs.shared.TurnEffects.{one_if-most}

-- the descriptor isn't away, and its superblock is EMPTY and of the class
record IsOut (g : Geometry) (s : State) (l : Lists) (class d : ℕ) : Type 0 where
  near : away_of g s l d ≡ 0
  empty : is_empty (anchor_for s d).state ≡ true
  of : (info_for s d).class ≡ class

one-test : (away : ℕ) (b : Bool) (k class : ℕ) → (away ≡ 0 → b ≡ true → k ≡ class → ⊥) → one_if ((away == 0) && (b && (k == class))) ≡ 0
one-test away b k class none = grind (arith, none)

-- a descriptor that is EMPTY and out counts as one, any other as none
out-one : (g : Geometry) (s : State) (l : Lists) (class d : ℕ) → IsSoundWith g s l → IsOut g s l class d → empty_for g s class d ≡ 1
out-one g s l class d old out =
    rw (eq-eqb (away_in g s d) 0 (away-is g s l d old ∙ out.near), out.empty, eq-eqb (info_for s d).class class out.of) refl

out-none : (g : Geometry) (s : State) (l : Lists) (class d : ℕ) → IsSoundWith g s l → (IsOut g s l class d → ⊥) → empty_for g s class d ≡ 0
out-none g s l class d old isnt =
    one-test (away_in g s d) (is_empty (anchor_for s d).state) (info_for s d).class class
    (λ near empty of. isnt (record { near = sym (away-is g s l d old) ∙ near; empty = empty; of = of }))

-- a step that leaves what is out makes no descriptor count as out with an EMPTY superblock of the class
empties-least :
    (g : Geometry) (s : State) (l : Lists) (s' : State) (l' : Lists) (class d : ℕ) → IsSoundWith g s l → IsSoundWith g s' l'
    → LeavesOut g s l s' l' → empty_for g s' class d ≤ empty_for g s class d
empties-least g s l s' l' class d old new leaves =
    let go : (IsOut g s l class d → ⊥) → empty_for g s' class d ≡ 0 =
    λ isnt.
    out-none g s' l' class d new
    (λ out.
    isnt (record {
      near = omega (arith, leaves.away d out.empty, out.near);
      empty = leaves.empty d out.empty;
      of = sym (leaves.class d out.near) ∙ out.of;
    })) in
    elim (cases_eq (empty_for g s class d) 0) [
      | inl none ↦ omega (arith, go (λ out. let no : ⊥ = omega (arith, none, out-one g s l class d old out) in no))
      | inr some ↦ let most : empty_for g s' class d ≤ 1 = one_if-most _ in omega (arith, some, most)
    ]

-- a step that clears finds a descriptor that is out with an EMPTY superblock of its class, and retires it
record Clears (g : Geometry) (s : State) (l : Lists) (caller : ℕ) (s' : State) (l' : Lists) : Type 0 where
  desc : ℕ
  exists : desc < descriptor_count g
  out : IsOut g s l (class_at (s.errand caller).point) desc
  away : 1 ≤ away_of g s' l' desc

takes-empty :
    (g : Geometry) (s : State) (l : Lists) (caller : ℕ) (s' : State) (l' : Lists) (site : Site) (o : Continuation) → IsSoundWith g s l → caller < g.callers
    → (s.errand caller).point ≡ Partial (partial.LoadGrantAnchor site) o → is_empty (anchor_for s site.desc).state ≡ true → Step s caller s'
    → Clears g s l caller s' l'
unfolding plan_point_of next_of settle_of course_of holds_of recalls_of callers_sum
takes-empty g s l caller s' l' site o old has stands empty step =
    let p = Partial (partial.LoadGrantAnchor site) o in
    let e = s.errand caller in
    let d = site.desc in
    let fits = fits-at g s l caller p old has stands in
    let (lies, none) = recalled-at g s l caller p old has stands in
    let keeps : 1 ≤ errand_keeps partly_used d e = keeps-at e p partly_used d stands (kept-itself partly_used d site.seat.class) in
    let next : next_of e.point (found_at s caller) ≡ Retire site.seat d (continuation.Look (asked o)) =
    subst (λ r. next_of r (found_from s r) ≡ Retire site.seat d (continuation.Look (asked o))) (sym stands) (rw empty refl) in
    let one : 1 ≤ next_ways d (Retire site.seat d (continuation.Look (asked o))) = omega (arith, cond-true {A = ℕ} (d == d) 1 0 (eq-eqb d d refl)) in
    let retired : occurs d e.retired + 1 ≤ errand_away d (settle_of e (found_at s caller)) =
    subst (λ n. occurs d e.retired + 1 ≤ away_after e n d) (sym next)
    (next-away e (Retire site.seat d (continuation.Look (asked o))) d 1 (λ seat k b is. cc) one) in
    let mine : errand_away d (s'.errand caller) ≤ callers_sum g (errand_away d) s'.errand = term-sum g.callers (λ i. errand_away d (s'.errand i)) caller has in
    record {
      desc = d;
      exists = fits.point.desc;
      out = record { near = keeps-near g s l caller d old has fits.point.desc keeps; empty = empty; of = lies.class ∙ sym (ap class_at stands) };
      away = omega (arith, retired, mine, ap (errand_away d) step.errand.here);
    }

point-clears :
    (g : Geometry) (s : State) (l : Lists) (caller : ℕ) (s' : State) (l' : Lists) (p : Point) → IsSoundWith g s l → caller < g.callers
    → (s.errand caller).point ≡ p → counts_cleared p (found_from s p) ≡ true → Step s caller s' → Clears g s l caller s' l'
unfolding plan_point_of
point-clears g s l caller s' l' (Partial (partial.LoadGrantAnchor site) o) old has stands clears step =
    takes-empty g s l caller s' l' site o old has stands clears step
point-clears g s l caller s' l' p old has stands clears step = absurd (grind (arith, clears))

pub empties-fall :
    (g : Geometry) (s : State) (caller : ℕ) (s' : State) (class d : ℕ) → IsSoundWithoutCounts g s → IsSoundWithoutCounts g s' → caller < g.callers
    → in_turn (s.errand caller).point ≡ true → Step s caller s' → empty_for g s' class d ≤ empty_for g s class d
empties-fall g s caller s' class d sound after has turn step =
    empties-least g s sound.parts.0 s' after.parts.0 class d sound.parts.1 after.parts.1
    (step-leaves-out g s sound.parts.0 caller s' after.parts.0 sound sound.parts.1 after.parts.1 has turn step)

-- after a step of a turn that clears, one less is EMPTY and out for the class, and after any other no more
emptied-falls :
    (g : Geometry) (s : State) (caller : ℕ) (s' : State) → IsSoundWithoutCounts g s → IsSoundWithoutCounts g s' → caller < g.callers
    → in_turn (s.errand caller).point ≡ true → Step s caller s'
    → emptied_for g s' (class_at (s.errand caller).point) + one_if (counts_cleared (s.errand caller).point (found_at s caller))
    ≤ emptied_for g s (class_at (s.errand caller).point)
emptied-falls g s caller s' sound after has turn step =
    let l = sound.parts.0 in
    let l' = after.parts.0 in
    let old = sound.parts.1 in
    let new = after.parts.1 in
    let c = class_at (s.errand caller).point in
    let leaves = step-leaves-out g s l caller s' l' sound old new has turn step in
    let least : (d : ℕ) → d < descriptor_count g → empty_for g s' c d ≤ empty_for g s c d = λ d lt. empties-least g s l s' l' c d old new leaves in
    elim (cases_Bool (counts_cleared (s.errand caller).point (found_at s caller))) [
      | inl clears ↦
          let h = point-clears g s l caller s' l' (s.errand caller).point old has refl clears step in
          let before = out-one g s l c h.desc old h.out in
          let none = out-none g s' l' c h.desc new (λ out. let no : ⊥ = omega (arith, out.near, h.away) in no) in
          omega (
            arith,
            ap one_if clears,
            sum-less (descriptor_count g) (empty_for g s c) (empty_for g s' c) h.desc h.exists least (omega (arith, before, none)),
          )
      | inr not ↦ omega (arith, ap one_if not, sum-least (descriptor_count g) (empty_for g s' c) (empty_for g s c) least)
    ]

-- a number that counts under a condition only is no more than itself
pub cond-most : (b : Bool) (n : ℕ) → (if b then n else 0) ≤ n
cond-most b n = grind (arith)

not-turn : (b : Bool) → (b ≡ true → ⊥) → b ≡ false
not-turn b isnt = grind (arith, isnt)

-- a caller may clear as often after a step of its own as before, and once less where the step cleared
pub clearings-fall :
    (g : Geometry) (s : State) (caller : ℕ) (s' : State) → IsSoundWithoutCounts g s → IsSoundWithoutCounts g s' → caller < g.callers → Step s caller s'
    → clearings g s' caller + one_if (counts_cleared (s.errand caller).point (found_at s caller)) ≤ clearings g s caller
clearings-fall g s caller s' sound after has step =
    let e = s.errand caller in
    let x = found_at s caller in
    let q = (s'.errand caller).point in
    let fits = fits-at g s sound.parts.0 caller e.point sound.parts.1 has refl in
    let goes : in_turn q ≡ true → (in_turn e.point ≡ true) × (class_at (settle_of e x).point ≡ class_at e.point) =
    λ turn. turn-before g caller e x fits (ap (λ f. in_turn f.point) (sym step.errand.here) ∙ turn) in
    let cleared_then : counts_cleared e.point x ≡ true → in_turn e.point ≡ true = λ clears. clears-turn g caller e.point x fits clears in
    elim (cases_Bool (in_turn e.point)) [
      | inl turn ↦
          let before : clearings g s caller ≡ emptied_for g s (class_at e.point) = rw turn refl in
          let falls = emptied-falls g s caller s' sound after has turn step in
          elim (cases_Bool (in_turn q)) [
            | inl still ↦
                let later : clearings g s' caller ≡ emptied_for g s' (class_at e.point) =
                rw still (ap (emptied_for g s') (ap (λ f. class_at f.point) step.errand.here ∙ (goes still).1)) in
                omega (arith, before, later, falls)
            | inr ended ↦ let later : clearings g s' caller ≡ 0 = rw ended refl in omega (arith, before, later, falls)
          ]
      | inr isnt ↦
          let still : in_turn q ≡ false = not-turn (in_turn q) (λ is. true≢false (sym ((goes is).0) ∙ isnt)) in
          let none : counts_cleared e.point x ≡ false = not-turn (counts_cleared e.point x) (λ is. true≢false (sym (cleared_then is) ∙ isnt)) in
          let later : clearings g s' caller ≡ 0 = rw still refl in
          omega (arith, later, ap one_if none)
    ]

-- no more superblocks are EMPTY and out than were freed empty and not cleared
fewer-tests : (a b c : Bool) → one_if (a && (b && c)) ≤ one_if (a && b)
fewer-tests a b c = grind (arith)

pub emptied-freed :
    (g : Geometry) (s : State) (class : ℕ) → IsSoundWithoutCounts g s
    → emptied_for g s class + callers_sum g cleared_of s.errand ≤ count_by (is_small_free g) s.history
emptied-freed g s class sound =
    let l = sound.parts.0 in
    let old = sound.parts.1 in
    let least : sum_below (descriptor_count g) (empty_for g s class) ≤ sum_below (descriptor_count g) (emptied_out g s l) =
    sum-least (descriptor_count g) (empty_for g s class) (emptied_out g s l)
    (λ d lt.
    subst (λ n. empty_for g s class d ≤ one_if ((n == 0) && is_empty (anchor_for s d).state)) (away-is g s l d old)
    (fewer-tests (away_in g s d == 0) (is_empty (anchor_for s d).state) ((info_for s d).class == class))) in
    omega (arith, least, old.turned.emptied)
