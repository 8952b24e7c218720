-- A step of the lists is a step of the state; steps are determined; and runs follow one another.
use Rattle.std.proofs.Common.{ℕ, zero, suc, take, ◌≡◌, ◌<◌, ◌+◌, refl, arith, ap, sym, ◌∙◌, subst, List, [], ◌∷◌, ◌++◌, length, slice_index}
use Rattle.std.proofs.lemmas.List.{length-set, take_more}
use Rattle.word_table.specs.Table.{Exists}
use Rattle.word_table.proofs.WordLemmas.{Writes-set}
use Rattle.errand_steps.specs.Begins.{IsBusy}
use Rattle.errand_steps.specs.Errands.{one_more}
use Rattle.step_machine.specs.Cores.{CoreFields, IsCore, errand_at, state_of}
use Rattle.errand_steps.specs.Steps.{State, Step, ScheduleSlot, Run, IsSame, name_at}
use Rattle.step_machine.specs.Steps.{stepped, counted}
use Rattle.sound_state.specs.Runs.{steps}
use Rattle.sound_laws.proofs.bounds_lemmas.MadeLemmas.{step-one}
use Rattle.step_machine.proofs.CoreLemmas.{moves-set, run-more}

-- what a step makes of the lists is a step of the state
pub step-stepped :
    (c : CoreFields) (caller : ℕ) → IsCore c → caller < c.geometry.callers → IsBusy (errand_at c.errands caller)
    → Exists c.geometry (name_at (state_of c) caller) → Step (state_of c) caller (state_of (stepped c caller))
unfolding stepped
step-stepped c caller core below busy is =
    record {
      busy = busy;
      word = Writes-set c.geometry c.words (name_at (state_of c) caller) _ core.words is;
      errand = moves-set c.errands caller _ (omega (arith, core.errands));
      history = refl;
    }

-- a step leaves the lists of words and of errands as long as they were
lists-stepped :
    (c : CoreFields) (caller : ℕ) → (length (stepped c caller).words ≡ length c.words) × (length (stepped c caller).errands ≡ length c.errands)
unfolding stepped
lists-stepped c caller = (length-set c.words _ _, length-set c.errands caller _)

-- the machine's rule is kept by a step
pub core-stepped :
    (c : CoreFields) (caller : ℕ) → IsCore c → caller < c.geometry.callers → IsBusy (errand_at c.errands caller)
    → Exists c.geometry (name_at (state_of c) caller) → IsCore (stepped c caller)
unfolding stepped
core-stepped c caller core below busy is =
    let before = state_of c in
    let after = state_of (stepped c caller) in
    let step : Step before caller after = step-stepped c caller core below busy is in
    let lists = lists-stepped c caller in
    record {
      words = lists.0 ∙ core.words;
      errands = lists.1 ∙ core.errands;
      run = run-more c.geometry before c.steps (steps caller) after core.run (below, step);
    }

-- a step is determined by the state before it
pub step-determined : (s a b : State) (caller : ℕ) → Step s caller a → Step s caller b → IsSame a b
step-determined s a b caller first second =
    subst (IsSame a) (step-one s a b caller first second) (record { word = λ name. refl; errand = λ other. refl; history = refl })

-- two runs, one after the other
abbrev pub Runs : State → List ℕ → List ℕ → ℕ → State → Type 0
Runs s first rest n t = (m : State) × (a : ℕ) × (b : ℕ) × Run s first a m × Run m rest b t × (n ≡ a + b)

pub run-split : (s t : State) (first rest : List ℕ) (n : ℕ) → Run s (first ++ rest) n t → Runs s first rest n t
run-split s t [] rest n run = (s, 0, n, (refl, refl), run, omega arith)
run-split s t (caller ∷ first) rest n run =
    let others : Runs run.0 first rest run.2 t = run-split run.0 t first rest run.2 run.4 in
    (others.0, run.1 + others.1, others.2, (run.0, run.1, others.1, run.3, others.3, refl), others.4, omega (arith, run.5, others.5))

pub run-join : (s t : State) (first rest : List ℕ) (n : ℕ) → Runs s first rest n t → Run s (first ++ rest) n t
run-join s t [] rest n runs =
    let S : State → Type 0 = λ m. Run m rest n t in
    let N : ℕ → Type 0 = λ k. Run runs.0 rest k t in
    let same : runs.2 ≡ n = omega (arith, runs.3.0, runs.5) in
    subst S runs.3.1 (subst N same runs.4)
run-join s t (caller ∷ first) rest n runs =
    let run = runs.3 in
    (run.0, run.1, run.2 + runs.2, run.3, run-join run.0 t first rest (run.2 + runs.2) (runs.0, run.2, runs.2, run.4, runs.4, refl), omega (arith, run.5, runs.5))

-- a run with one more slot
pub run-push :
    (s m t : State) (first : List ℕ) (caller n k : ℕ) → Run s first n m → ScheduleSlot m caller k t → Run s (first ++ caller ∷ []) (n + k) t
run-push s m t first caller n k run turn =
    run-join s t first (caller ∷ []) (n + k) (m, n, k, run, (t, k, 0, turn, (refl, refl), omega arith), refl)

-- a count that rises some times, and then some more
pub counted-add : (before a b : ℕ) → counted (counted before a) b ≡ counted before (a + b)
counted-add before a zero = let e : a + 0 ≡ a = omega arith in ap (counted before) (sym e)
counted-add before a (suc b) =
    let e : suc (a + b) ≡ a + suc b = omega arith in
    ap one_more (counted-add before a b) ∙ ap (counted before) e

-- a run goes on by the slot of the next caller of a list
pub run-next :
    (s m t : State) (callers : List ℕ) (i caller n k : ℕ) → i < length callers → caller ≡ slice_index callers i → Run s (take i callers) n m
    → ScheduleSlot m caller k t → Run s (take (i + 1) callers) (n + k) t
run-next s m t callers i caller n k within is run turn =
    let T : ℕ → Type 0 = λ w. ScheduleSlot m w k t in
    let R : List ℕ → Type 0 = λ xs. Run s xs (n + k) t in
    subst R (sym (take_more callers i 0 within)) (run-push s m t (take i callers) (slice_index callers i) n k run (subst T is turn))
