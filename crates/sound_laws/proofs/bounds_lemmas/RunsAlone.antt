-- What a caller's own turns come to, however many there are.
use Rattle.std.proofs.Common.{ℕ, zero, suc, ◌≡◌, ◌<◌, ◌≤◌, ◌+◌, ◌*◌, ◌^◌, arith, sym, subst, inl, inr, ◌∙◌, ◌-◌, replicate, true≢false, refl}
use Rattle.std.proofs.lemmas.Bool.{cases_Bool}
use Rattle.sound_state.proofs.Common.{Geometry, descriptor_count, counts_lost, counts_cleared, State, Step, found_at, IsSound, in_turn, CALL_STEPS, descriptor_count_within}
use Rattle.sound_state.proofs.Common.{IsIdle, is_idle, Run}
use Rattle.sound_laws.specs.bounds.Alone.{stale_words, empty_for, emptied_for, class_at, clearings, alone_left}
use Rattle.sound_state.proofs.CountedLemmas.{without-counts, steps-counted}
use Rattle.sound_laws.proofs.bounds_lemmas.AloneLemmas.{alone-falls, alone-stale, step-there}
use Rattle.sound_laws.proofs.bounds_lemmas.EmptiedLemmas.{cond-most, clearings-fall}
use Rattle.sound_laws.proofs.bounds_lemmas.RunsShort.{most-left, step-counts, step-spends, Spends, same-spends, then-spends}
use Rattle.sound_laws.proofs.bounds_lemmas.StaleMost.{stale-most}
use Rattle.sound_state.proofs.shared.StepLemmas.{raised-most}
use Rattle.sound_state.proofs.shared.SumLemmas.{sum-most}
use Rattle.sound_state.proofs.shared.TurnEffects.{one_if-most}

-- n steps of a caller alone lead from the one state to the other, by what it lost and cleared, and by what is left
pub record LeadsAlone (g : Geometry) (s : State) (caller n : ℕ) (s' : State) : Type 0 where
  pub left : n + alone_left g s' caller ≤ alone_left g s caller
  pub met : (s'.errand caller).lost + stale_words g s' caller ≤ (s.errand caller).lost + stale_words g s caller
  pub emptied : (s'.errand caller).cleared + clearings g s' caller ≤ (s.errand caller).cleared + clearings g s caller
  pub spends : Spends g (s.errand caller) (s'.errand caller) n 0

-- no steps of a caller lead so alone from a state to itself
stays-alone : (g : Geometry) (s : State) (caller : ℕ) → LeadsAlone g s caller 0 s
stays-alone g s caller = record {
  left = omega arith;
  met = omega arith;
  emptied = omega arith;
  spends = same-spends g (s.errand caller) (s.errand caller) refl;
}

-- some steps of a caller alone and then some more lead so together
then-alone :
    (g : Geometry) (s : State) (caller n : ℕ) (t : State) (m : ℕ) (s' : State) → LeadsAlone g s caller n t → LeadsAlone g t caller m s'
    → LeadsAlone g s caller (n + m) s'
then-alone g s caller n t m s' a b = record {
  left = omega (arith, a.left, b.left);
  met = omega (arith, a.met, b.met);
  emptied = omega (arith, a.emptied, b.emptied);
  spends = then-spends g (s.errand caller) (t.errand caller) (s'.errand caller) n m 0 a.spends b.spends;
}

-- one step of a caller leads so alone, by what it lost and cleared and by what is left
step-alone : (g : Geometry) (s : State) (caller : ℕ) (s' : State) → IsSound g s → caller < g.callers → Step s caller s' → LeadsAlone g s caller 1 s'
step-alone g s caller s' sound has step =
    let e = s.errand caller in
    let plain = without-counts g s sound in
    let after = steps-counted g s caller s' sound has step in
    let b = counts_lost e.point (found_at s caller) in
    let c = counts_cleared e.point (found_at s caller) in
    let counts = step-counts s caller s' step in
    record {
      left = omega (arith, alone-falls g s caller s' sound has step);
      met = omega (arith, counts.0, raised-most b e.lost, alone-stale g s caller s' sound has step);
      emptied = omega (arith, counts.1, raised-most c e.cleared, clearings-fall g s caller s' plain (without-counts g s' after) has step);
      spends = step-spends g s caller s' sound has step;
    }

-- turns of one caller, however many, lead so alone, by what it lost and cleared and by what is left
pub runs-alone :
    (g : Geometry) (turns : ℕ) (s : State) (caller n : ℕ) (s' : State) → IsSound g s → caller < g.callers → Run s (replicate turns caller) n s'
    → LeadsAlone g s caller n s'
runs-alone g zero s caller n s' sound has run =
    subst (λ t. LeadsAlone g s caller n t) (sym run.1) (subst (λ k. LeadsAlone g s caller k s) (sym run.0) (stays-alone g s caller))
runs-alone g (suc turns) s caller n s' sound has (t, first, others, turn, run, total) =
    elim turn [
      | inl idle ↦
          let here : Run s (replicate turns caller) others s' = subst (λ u. Run u (replicate turns caller) others s') idle.2 run in
          let same : others ≡ n = omega (arith, total, idle.1) in
          subst (λ k. LeadsAlone g s caller k s') same (runs-alone g turns s caller others s' sound has here)
      | inr one ↦
          let same : 1 + others ≡ n = omega (arith, total, one.1) in
          subst (λ k. LeadsAlone g s caller k s') same
          (then-alone g s caller 1 t others s' (step-alone g s caller t sound has one.0)
          (runs-alone g turns t caller others s' (steps-counted g s caller t sound has one.0) has run))
    ]

-- a caller that is in no call stays in none by its own turns
pub idle-stays :
    (turns : ℕ) (s : State) (caller n : ℕ) (s' : State) → IsIdle (s.errand caller) → Run s (replicate turns caller) n s' → IsIdle (s'.errand caller)
idle-stays zero s caller n s' idle run = subst (λ t. IsIdle (t.errand caller)) (sym run.1) idle
idle-stays (suc turns) s caller n s' idle (t, first, others, turn, run, total) =
    elim turn [
      | inl none ↦ idle-stays turns s caller others s' idle (subst (λ u. Run u (replicate turns caller) others s') none.2 run)
      | inr one ↦ absurd (true≢false (sym idle ∙ one.0.busy))
    ]

-- a caller that takes as many turns as are left to it ends its call
pub ends-alone :
    (g : Geometry) (turns : ℕ) (s : State) (caller n : ℕ) (s' : State) → IsSound g s → caller < g.callers → alone_left g s caller ≤ turns
    → Run s (replicate turns caller) n s' → IsIdle (s'.errand caller)
ends-alone g zero s caller n s' sound has left run =
    subst (λ t. IsIdle (t.errand caller)) (sym run.1)
    (elim (cases_Bool (is_idle (s.errand caller).point)) [
      | inl idle ↦ idle
      | inr busy ↦ let (t, step) = step-there s caller busy in absurd (omega (arith, left, alone-falls g s caller t sound has step))
    ])
ends-alone g (suc turns) s caller n s' sound has left (t, first, others, turn, run, total) =
    elim turn [
      | inl idle ↦ idle-stays turns s caller others s' idle.0 (subst (λ u. Run u (replicate turns caller) others s') idle.2 run)
      | inr one ↦
          ends-alone g turns t caller others s' (steps-counted g s caller t sound has one.0) has
          (omega (arith, left, alone-falls g s caller t sound has one.0)) run
    ]

-- fewer steps are left to a caller alone than a call's, and as many more for each stale word and superblock to clear
pub alone-most :
    (g : Geometry) (s : State) (caller : ℕ) → IsSound g s → caller < g.callers
    → alone_left g s caller < CALL_STEPS * (1 + stale_words g s caller + clearings g s caller)
alone-most g s caller sound has = omega (arith, most-left g s caller sound has)

-- a caller may clear no more superblocks than there are descriptors, and its steps alone fit a count
clearings-most : (g : Geometry) (s : State) (caller : ℕ) → clearings g s caller ≤ descriptor_count g
clearings-most g s caller =
    let each : emptied_for g s (class_at (s.errand caller).point) ≤ descriptor_count g * 1 =
    sum-most (descriptor_count g) (empty_for g s (class_at (s.errand caller).point)) 1 (λ d lt. one_if-most _) in
    omega (arith, each, cond-most (in_turn (s.errand caller).point) (emptied_for g s (class_at (s.errand caller).point)))

pub alone-below : (g : Geometry) (s : State) (caller : ℕ) → IsSound g s → caller < g.callers → alone_left g s caller < 2 ^ 64
alone-below g s caller sound has =
    omega (arith, alone-most g s caller sound has, stale-most g s caller, clearings-most g s caller, descriptor_count_within g sound.checked)

-- a caller alone makes fewer steps than a call's, and as many more for each exchange that it lost and superblock that it cleared
pub leads-few :
    (g : Geometry) (s : State) (caller n : ℕ) (s' : State) → IsSound g s → caller < g.callers → LeadsAlone g s caller n s'
    → (s'.errand caller).lost + 1 < 2 ^ 64
    → n < CALL_STEPS * (1 + ((s'.errand caller).lost - (s.errand caller).lost) + ((s'.errand caller).cleared - (s.errand caller).cleared))
leads-few g s caller n s' sound has leads room =
    omega (arith, most-left g s caller sound has, leads.spends.lost, leads.spends.cleared, leads.spends.paid (omega (arith, room)))
