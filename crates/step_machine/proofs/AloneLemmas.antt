-- What a caller's own steps have come to so far.
use Rattle.std.proofs.Common.{ℕ, zero, suc, ◌≡◌, ◌<◌, ◌≤◌, ◌+◌, ◌-◌, ◌*◌, ◌^◌, refl, arith, ap, sym, subst, ◌∙◌, inr}
use Rattle.std.specs.Prelude.{All, replicate}
use Rattle.std.proofs.lemmas.Bool.{true≢false}
use Rattle.std.proofs.lemmas.List.Elements.{All-nil, All-cons}
use Rattle.heap_geometry.specs.declared.limits.TheConstants.{CALL_STEPS}
use Rattle.errand_steps.specs.Begins.{IsIdle}
use Rattle.errand_steps.specs.Errands.{ErrandFields, one_more}
use Rattle.errand_steps.specs.Steps.{State, Step, Run}
use Rattle.errand_steps.specs.declared.reply.Progress.{Progress}
use Rattle.sound_laws.specs.bounds.Alone.{alone_left, clearings, stale_words}
use Rattle.sound_laws.specs.bounds.Expectations.{expects_of}
use Rattle.errand_steps.specs.Calls.{Call, begun_by}
use Rattle.sound_state.specs.Sound.{IsSound}
use Rattle.sound_state.proofs.RunLemmas.{runs-sound}
use Rattle.sound_laws.proofs.bounds_lemmas.AloneLemmas.{alone-falls}
use Rattle.sound_laws.proofs.bounds_lemmas.RunsAlone.{LeadsAlone, runs-alone, idle-stays, alone-most, alone-below, leads-few}
use Rattle.sound_laws.proofs.bounds_lemmas.StaleLemmas.{none-stale}
use Rattle.sound_laws.proofs.bounds_lemmas.BegunWins.{begun-expects}
use Rattle.step_machine.specs.Cores.{CoreFields, errand_at, state_of}
use Rattle.step_machine.specs.Steps.{IsStepped, RunsAlone, stepped, counted}

-- the machine was sound, and only this caller has made steps since, and none where it was in no call
pub record IsSoFar (old now : CoreFields) (caller steps : ℕ) : Type 0 where
  pub sound : IsSound old.geometry (state_of old)
  pub geometry : now.geometry ≡ old.geometry
  pub alone : RunsAlone old caller steps now
  pub idle : IsIdle (errand_at old.errands caller) → (steps ≡ 0) × (now ≡ old)

-- a sound machine has come so far from itself in no steps
pub none-so-far : (c : CoreFields) (caller : ℕ) → IsSound c.geometry (state_of c) → IsSoFar c c caller 0
none-so-far c caller sound = record { sound = sound; geometry = refl; alone = ((refl, refl), refl); idle = λ idle. (refl, refl) }

-- what a caller's steps so far, made alone, lead to
pub so-far-leads :
    (old now : CoreFields) (caller steps : ℕ) → caller < old.geometry.callers → IsSoFar old now caller steps
    → LeadsAlone old.geometry (state_of old) caller steps (state_of now)
so-far-leads old now caller steps has h = runs-alone old.geometry steps (state_of old) caller steps (state_of now) h.sound has h.alone.0

-- what is so of a caller is so of each place in a list of that caller alone; the machine is sound after the steps so far
replicate-all : (P : ℕ → Type 0) (n caller : ℕ) → P caller → All P (replicate n caller)
replicate-all P zero caller is = All-nil P
replicate-all P (suc n) caller is = All-cons P caller (replicate n caller) is (replicate-all P n caller is)

so-far-sound :
    (old now : CoreFields) (caller steps : ℕ) → caller < old.geometry.callers → IsSoFar old now caller steps
    → IsSound old.geometry (state_of now)
so-far-sound old now caller steps has h =
    runs-sound old.geometry (state_of old) (replicate steps caller) steps (state_of now) h.sound
    (replicate-all (λ caller. caller < old.geometry.callers) steps caller has) h.alone.0

-- a step of the caller alone leaves it fewer steps to make
pub so-far-falls :
    (old now next : CoreFields) (caller steps : ℕ) → caller < old.geometry.callers → IsSoFar old now caller steps
    → Step (state_of now) caller (state_of next) → next.geometry ≡ now.geometry
    → alone_left next.geometry (state_of next) caller < alone_left now.geometry (state_of now) caller
so-far-falls old now next caller steps has h step same =
    let falls = alone-falls old.geometry (state_of now) caller (state_of next) (so-far-sound old now caller steps has h) has step in
    subst (λ g. alone_left g (state_of next) caller < alone_left now.geometry (state_of now) caller) (sym (same ∙ h.geometry))
    (subst (λ g. alone_left old.geometry (state_of next) caller < alone_left g (state_of now) caller) (sym h.geometry) falls)

-- the steps so far and one more are fewer than 2 ^ 64
pub so-far-room :
    (old now next : CoreFields) (caller steps : ℕ) → caller < old.geometry.callers → IsSoFar old now caller steps
    → Step (state_of now) caller (state_of next) → steps + 1 < 2 ^ 64
so-far-room old now next caller steps has h step =
    let falls = alone-falls old.geometry (state_of now) caller (state_of next) (so-far-sound old now caller steps has h) has step in
    let below = alone-below old.geometry (state_of old) caller h.sound has in
    omega (arith, falls, below, (so-far-leads old now caller steps has h).left)

-- a run of turns of one caller, with one more turn of that caller
run-more :
    (turns : ℕ) (s : State) (caller n : ℕ) (t : State) (s' : State) → Run s (replicate turns caller) n t → Step t caller s'
    → Run s (replicate (suc turns) caller) (n + 1) s'
run-more zero s caller n t s' run step =
    (s', 1, 0, inr (subst (λ u. Step u caller s') run.1 step, refl), (refl, refl), omega (arith, run.0))
run-more (suc turns) s caller n t s' (u, first, others, turn, run, total) step =
    (u, first, others + 1, turn, run-more turns u caller others t s' run step, omega (arith, total))

pub so-far-next :
    (old now next : CoreFields) (caller steps : ℕ) (answer : Progress) → caller < old.geometry.callers → IsSoFar old now caller steps
    → IsStepped now caller answer next → next.geometry ≡ now.geometry → IsSoFar old next caller (steps + 1)
unfolding stepped
so-far-next old now next caller steps answer has h stepped same =
    let turns : suc steps ≡ steps + 1 = omega arith in
    record {
      sound = h.sound;
      geometry = same ∙ h.geometry;
      alone = (
        subst (λ k. Run (state_of old) (replicate k caller) (steps + 1) (state_of next)) turns
            (run-more steps (state_of old) caller steps (state_of now) (state_of next) h.alone.0 stepped.step),
        ap (λ (v : CoreFields). v.steps) stepped.exact
            ∙ ap one_more h.alone.1 ∙ ap (counted old.steps) turns,
      );
      idle = λ idle.
          let still : IsIdle (errand_at now.errands caller) = idle-stays steps (state_of old) caller steps (state_of now) idle h.alone.0 in
          absurd (true≢false (sym still ∙ stepped.step.busy));
    }

-- the steps so far are fewer than the caller's stale words and the superblocks to clear allow
pub so-far-bound :
    (old now : CoreFields) (caller steps : ℕ) → caller < old.geometry.callers → IsSoFar old now caller steps
    → steps < CALL_STEPS * (1 + stale_words old.geometry (state_of old) caller + clearings old.geometry (state_of old) caller)
so-far-bound old now caller steps has h =
    omega (arith, (so-far-leads old now caller steps has h).left, alone-most old.geometry (state_of old) caller h.sound has)

-- the steps so far are fewer than the exchanges lost and the superblocks cleared in them allow
pub so-far-few :
    (old now : CoreFields) (caller steps : ℕ) → caller < old.geometry.callers → IsSoFar old now caller steps
    → (errand_at now.errands caller).lost + 1 < 2 ^ 64
    → steps
    < CALL_STEPS * (1 + ((errand_at now.errands caller).lost - (errand_at old.errands caller).lost)
    + ((errand_at now.errands caller).cleared - (errand_at old.errands caller).cleared))
so-far-few old now caller steps has h room =
    leads-few old.geometry (state_of old) caller steps (state_of now) h.sound has (so-far-leads old now caller steps has h) room

-- what the caller lost in its steps so far, and what it cleared
pub so-far-lost :
    (old now : CoreFields) (caller steps : ℕ) → caller < old.geometry.callers → IsSoFar old now caller steps
    → ((errand_at old.errands caller).lost ≤ (errand_at now.errands caller).lost)
    × ((errand_at now.errands caller).lost ≤ (errand_at old.errands caller).lost + stale_words old.geometry (state_of old) caller)
so-far-lost old now caller steps has h =
    let leads = so-far-leads old now caller steps has h in (leads.spends.lost, omega (arith, leads.met))

pub so-far-first :
    (old now : CoreFields) (caller steps : ℕ) → caller < old.geometry.callers → IsSoFar old now caller steps → (e : ErrandFields) (call : Call)
    → IsIdle e → errand_at old.errands caller ≡ begun_by e call → (errand_at now.errands caller).lost ≡ (errand_at old.errands caller).lost
so-far-first old now caller steps has h e call idle begun =
    let none : stale_words old.geometry (state_of old) caller ≡ 0 =
    none-stale old.geometry (state_of old) caller (ap (λ f. expects_of f.point) begun ∙ begun-expects e call idle) in
    let lost = so-far-lost old now caller steps has h in
    omega (arith, none, lost.0, lost.1)

pub so-far-cleared :
    (old now : CoreFields) (caller steps : ℕ) → caller < old.geometry.callers → IsSoFar old now caller steps
    → ((errand_at old.errands caller).cleared ≤ (errand_at now.errands caller).cleared)
    × ((errand_at now.errands caller).cleared ≤ (errand_at old.errands caller).cleared + clearings old.geometry (state_of old) caller)
so-far-cleared old now caller steps has h =
    let leads = so-far-leads old now caller steps has h in (leads.spends.cleared, omega (arith, leads.emptied))
