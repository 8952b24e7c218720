-- A descriptor on its way stands nowhere else.
use Rattle.std.proofs.Common.{ℕ, Bool, ◌≡◌, ◌<◌, ◌≤◌, arith, sym, subst, inl, inr, ◌==◌, ◌&&◌, IsTrue}
use Rattle.std.proofs.lemmas.Bool.{cases_eq}
use Rattle.sound_state.proofs.Common.{Geometry, CLASSES, descriptor_count, Exists, WordName, occurs, State, Status, reserving, waiting, partly_used, on_its_way, errand_has}
use Rattle.sound_state.proofs.Common.{word_keeps, full_keeps, Lists, IsSoundWith, callers_sum, anchor_for, is_bound, away_of, errand_away, errand_keeps}
use Rattle.sound_state.proofs.shared.CreditLemmas.{word-sum}
use Rattle.sound_state.proofs.shared.HasLemmas.{others-none}
use Rattle.sound_state.proofs.shared.SumLemmas.{term-sum}

-- nobody says of the descriptor that it has a superblock, nor of which class it is
pub record IsUnplaced (g : Geometry) (s : State) (l : Lists) (d : ℕ) : Type 0 where
  pub bound : IsTrue (is_bound g s l d) → ⊥
  pub words : (n : WordName) → Exists g n → word_keeps d n (s.word n) ≡ 0
  pub listed : (class : ℕ) → class < CLASSES → occurs d (l.partials class) ≡ 0
  pub reserving : (caller : ℕ) → caller < g.callers → errand_keeps reserving d (s.errand caller) ≡ 0
  pub waiting : (caller : ℕ) → caller < g.callers → errand_keeps waiting d (s.errand caller) ≡ 0
  pub partly : (caller : ℕ) → caller < g.callers → errand_keeps partly_used d (s.errand caller) ≡ 0
  pub full : full_keeps (anchor_for s d).state ≡ 0

-- a descriptor on its way has no superblock
not-bound : (n : ℕ) (b : Bool) → 1 ≤ n → IsTrue ((n == 0) && b) → ⊥
not-bound n b some bound = grind (arith, some, bound)

pub way-unplaced :
    (g : Geometry) (s : State) (l : Lists) (caller d : ℕ) → IsSoundWith g s l → caller < g.callers → d < descriptor_count g
    → 1 ≤ errand_keeps on_its_way d (s.errand caller) → IsUnplaced g s l d
unfolding callers_sum
way-unplaced g s l caller d old has exists mine =
    let once = old.kept.once d exists in
    let some : errand_has d (s.errand caller) ≤ callers_sum g (errand_has d) s.errand = term-sum g.callers (λ i. errand_has d (s.errand i)) caller has in
    let has_it : 1 ≤ errand_has d (s.errand caller) = omega (arith, mine) in
    let own : errand_has d (s.errand caller) ≤ 1 = omega (arith, once, some) in
    let away : errand_away d (s.errand caller) ≤ callers_sum g (errand_away d) s.errand = term-sum g.callers (λ i. errand_away d (s.errand i)) caller has in
    let none = λ (status : Status) (i : ℕ). errand_keeps status d (s.errand i) ≡ 0 in
    let each : (i : ℕ) → i < g.callers → none reserving i × none waiting i × none partly_used i =
    λ i has_i.
    elim (cases_eq i caller) [
      | inl is ↦
          subst (λ j. none reserving j × none waiting j × none partly_used j) (sym is)
          (omega (arith, own, mine), omega (arith, own, mine), omega (arith, own, mine))
      | inr differ ↦
          let has_none : errand_has d (s.errand i) ≡ 0 =
          others-none g (errand_has d) s.errand caller i has has_i differ has_it (omega (arith, once, some, has_it)) in
          (omega (arith, has_none), omega (arith, has_none), omega (arith, has_none))
    ] in
    record {
      bound = λ bound. not-bound (away_of g s l d) _ (omega (arith, away, mine)) bound;
      words = λ n stands. omega (arith, word-sum g (word_keeps d) s.word n stands, once, some, has_it);
      listed = λ class in_heap.
          omega (arith, once, some, has_it, term-sum CLASSES (λ class. occurs d (l.partials class)) class in_heap);
      reserving = λ i has_i. (each i has_i).0;
      waiting = λ i has_i. (each i has_i).1;
      partly = λ i has_i. (each i has_i).2;
      full = omega (arith, once, some, has_it);
    }
