-- A caller that moves alone comes to the end of its call.
use Rattle.std.proofs.Common.{ℕ, zero, suc, true, false, ◌≡◌, ◌<◌, ◌≤◌, ◌+◌, refl, arith, ap, inl, inr, ◌==◌, if◌then◌else◌, replicate, eq-eqb, ne_eqb}
use Rattle.std.proofs.lemmas.Bool.{cases_Bool, cond-true, cond-false}
use Rattle.sound_state.proofs.Common.{Geometry, WordName, after_action, counts_lost, settle_of, State, Step, with_event, action_at, name_at, word_at, found_at, IsSound}
use Rattle.sound_state.proofs.Common.{one_if, CALL_STEPS, IsBusy, IsIdle, is_idle, Run, event_at}
use Rattle.sound_laws.specs.bounds.Alone.{is_stale, stale_words, alone_left}
use Rattle.sound_laws.specs.bounds.StepsLeft.{steps_left}
use Rattle.sound_laws.specs.bounds.Wins.{same_name}
use Rattle.sound_state.proofs.CountedLemmas.{without-counts, steps-counted}
use Rattle.sound_laws.proofs.bounds_lemmas.EmptiedLemmas.{clearings-fall}
use Rattle.sound_laws.proofs.bounds_lemmas.LeftMost.{left-most}
use Rattle.sound_laws.proofs.bounds_lemmas.LeftSteps.{steps-go_on}
use Rattle.sound_laws.proofs.bounds_lemmas.StaleLemmas.{stale-kept, lost-met, stale-here, stale-falls}
use Rattle.sound_state.proofs.shared.PointLemmas.{exists-at, fits-at}
use Rattle.sound_laws.proofs.bounds_lemmas.SameNames.{same-name-refl, same-name-differs}
use Rattle.sound_laws.proofs.bounds_lemmas.WonSteps.{expects-after, loses-on}

-- a caller's stale words grow by none in its step, and are one fewer after a lost one
pub alone-stale :
    (g : Geometry) (s : State) (caller : ℕ) (s' : State) → IsSound g s → caller < g.callers → Step s caller s'
    → stale_words g s' caller + one_if (counts_lost (s.errand caller).point (found_at s caller)) ≤ stale_words g s caller
alone-stale g s caller s' sound has step =
    let plain = without-counts g s sound in
    let p = (s.errand caller).point in
    stale-falls g s caller s' (exists-at g s caller p plain has refl) step (expects-after g s caller plain has) (loses-on p (word_at s caller))

-- a caller's step makes no word stale for it, and leaves its own word not stale, which was stale where the step counts as lost
pub stale-before :
    (g : Geometry) (s : State) (caller : ℕ) (s' : State) (m : WordName) → IsSound g s → caller < g.callers → Step s caller s' → is_stale s' caller m ≡ true
    → is_stale s caller m ≡ true
stale-before g s caller s' m sound has step = stale-kept s caller s' m step (expects-after g s caller (without-counts g s sound) has)

pub stale-seen :
    (g : Geometry) (s : State) (caller : ℕ) (s' : State) → IsSound g s → caller < g.callers → Step s caller s' → is_stale s' caller (name_at s caller) ≡ false
stale-seen g s caller s' sound has step = stale-here s caller s' step (expects-after g s caller (without-counts g s sound) has)

pub lost-meets :
    (g : Geometry) (s : State) (caller : ℕ) → IsSound g s → caller < g.callers → counts_lost (s.errand caller).point (found_at s caller) ≡ true
    → is_stale s caller (name_at s caller) ≡ true
lost-meets g s caller sound has = lost-met s caller (loses-on (s.errand caller).point (word_at s caller))

-- fewer steps are left to a caller that moves alone after its step
pub alone-falls :
    (g : Geometry) (s : State) (caller : ℕ) (s' : State) → IsSound g s → caller < g.callers → Step s caller s'
    → alone_left g s' caller < alone_left g s caller
alone-falls g s caller s' sound has step =
    let after = steps-counted g s caller s' sound has step in
    let stale = alone-stale g s caller s' sound has step in
    let clear = clearings-fall g s caller s' (without-counts g s sound) (without-counts g s' after) has step in
    let most : steps_left g (s'.errand caller).point < CALL_STEPS =
    left-most g caller (s'.errand caller).point after.checked (fits-at g s' after.parts.0 caller (s'.errand caller).point after.parts.1 has refl) in
    elim (steps-go_on g s caller s' (without-counts g s sound) has step) [
      | inl lost ↦ omega (arith, stale, clear, most, ap one_if lost)
      | inr rest ↦
          elim rest [ inl clears ↦ omega (arith, stale, clear, most, ap one_if clears) | inr fewer ↦ omega (arith, stale, clear, fewer) ]
    ]

-- a caller that is in a call can make its step
pub step-there : (s : State) (caller : ℕ) → IsBusy (s.errand caller) → (s' : State) × Step s caller s'
step-there s caller busy =
    let n = name_at s caller in
    let new = after_action (action_at s caller) (word_at s caller) in
    let next = settle_of (s.errand caller) (found_at s caller) in (
      record {
        word = λ m. if same_name m n then new else s.word m;
        errand = λ i. if i == caller then next else s.errand i;
        history = with_event s.history (event_at s caller);
      },
      record {
        busy = busy;
        word = record {
          here = cond-true (same_name n n) new (s.word n) (same-name-refl n);
          elsewhere = λ m differ. cond-false (same_name m n) new (s.word m) (same-name-differs m n differ);
        };
        errand = record {
          here = cond-true (caller == caller) next (s.errand caller) (eq-eqb caller caller refl);
          elsewhere = λ i differ. cond-false (i == caller) next (s.errand i) (ne_eqb i caller differ);
        };
        history = refl;
      },
    )

-- a caller's steps alone end its call, within as many as are left to it alone
pub ends-within :
    (g : Geometry) (k : ℕ) (s : State) (caller : ℕ) → IsSound g s → caller < g.callers → alone_left g s caller ≤ k
    → (n : ℕ) × (s' : State) × (n ≤ k) × Run s (replicate n caller) n s' × IsIdle (s'.errand caller)
ends-within g zero s caller sound has left =
    elim (cases_Bool (is_idle (s.errand caller).point)) [
      | inl idle ↦ (0, s, omega arith, (refl, refl), idle)
      | inr busy ↦
          let (s', step) = step-there s caller busy in
          absurd (omega (arith, left, alone-falls g s caller s' sound has step))
    ]
ends-within g (suc k) s caller sound has left =
    elim (cases_Bool (is_idle (s.errand caller).point)) [
      | inl idle ↦ (0, s, omega arith, (refl, refl), idle)
      | inr busy ↦
          let (s', step) = step-there s caller busy in
          let (n, t, few, run, idle) =
          ends-within g k s' caller (steps-counted g s caller s' sound has step) has (omega (arith, left, alone-falls g s caller s' sound has step)) in
          (suc n, t, omega (arith, few), (s', 1, n, inr (step, refl), run, omega arith), idle)
    ]
