-- Every step keeps what was won, noted and lost.
use Rattle.std.proofs.Common.{ℕ, true, ◌≡◌, ◌≢◌, ◌<◌, ◌≤◌, ◌+◌, ◌-◌, ◌*◌, ◌^◌, List, [], ◌∷◌, arith, subst, refl, ◌==◌, not, Any}
use Rattle.std.proofs.lemmas.List.Elements.{All-nil}
use Rattle.sound_state.proofs.Common.{Geometry, WordName, name_of, Exists, Point, Idle, Block, Stack, Desc, Partial, Large, counts_lost, FitsPoint, next_of, plan_point_of}
use Rattle.sound_state.proofs.Common.{State, Step, action_at, name_at, word_at, found_at, IsSound, IsSoundWithoutCounts, one_if, plan-exists}
use Rattle.sound_laws.specs.bounds.Contention.{IsDirty, dirty_pairs}
use Rattle.errand_steps.specs.tables.Expected.{Expected}
use Rattle.sound_laws.specs.bounds.Expectations.{expects_of}
use Rattle.sound_laws.specs.bounds.Wins.{Wins, wins_after}
use Rattle.sound_laws.specs.bounds.Won.{IsWon}
use Rattle.sound_state.proofs.CountedLemmas.{without-counts}
use Rattle.sound_state.proofs.shared.PointLemmas.{exists-at, fits-at}
use Rattle.sound_laws.proofs.bounds_lemmas.BlockExpects.{block-expects}
use Rattle.sound_laws.proofs.bounds_lemmas.ContendLemmas.{pairs-after, step-contended, was-dirty}
use Rattle.sound_laws.proofs.bounds_lemmas.DescExpects.{desc-expects}
use Rattle.sound_laws.proofs.bounds_lemmas.ExpectLemmas.{any-first, lost-differs}
use Rattle.sound_laws.proofs.bounds_lemmas.InstallWins.{step-installed}
use Rattle.sound_laws.proofs.bounds_lemmas.LargeExpects.{large-expects}
use Rattle.sound_laws.proofs.bounds_lemmas.NoteLemmas.{ExpectsAfter, step-noted}
use Rattle.sound_laws.proofs.bounds_lemmas.PartialExpects.{partial-expects}
use Rattle.sound_laws.proofs.bounds_lemmas.SettleExpects.{expects-settled}
use Rattle.sound_laws.proofs.bounds_lemmas.StackExpects.{stack-expects}
use Rattle.sound_laws.proofs.bounds_lemmas.StoreLemmas.{stores-unexpected}
use Rattle.sound_laws.proofs.bounds_lemmas.WinDefs.{ExpectsOn, LosesOn, MayExpect, found_in}
use Rattle.sound_laws.proofs.bounds_lemmas.StepWins.{loses_at, wins_at}

-- a step carries or sees all that its caller expects after it
expects-on : (g : Geometry) (caller : ℕ) (p : Point) (v : ℕ) → FitsPoint g caller p → v < 2 ^ 64 → ExpectsOn p v
unfolding next_of expects_of
expects-on g caller Idle v fits below = All-nil (MayExpect Idle (plan_point_of Idle) (found_in Idle v))
expects-on g caller (Block p o) v fits below = block-expects p o v below
expects-on g caller (Stack p o) v fits below = stack-expects p o v below
expects-on g caller (Desc p o) v fits below = desc-expects g caller p o v fits
expects-on g caller (Partial p o) v fits below = partial-expects g caller p o v fits below
expects-on g caller (Large p o) v fits below = large-expects p o v below

-- the first expectation of a list is of the word, and of another number there
abbrev FirstDiffers : WordName → ℕ → List Expected → Type 0
FirstDiffers n v [] = ⊥
FirstDiffers n v (e ∷ es) = (e.word ≡ n) × (not (v == e.value) ≡ true)

first-differs : (n : WordName) (v : ℕ) (es : List Expected) → FirstDiffers n v es → Any (λ e. (e.word ≡ n) × (v ≢ e.value)) es
first-differs n v [] none = absurd none
first-differs n v (e ∷ es) is = any-first (λ e. (e.word ≡ n) × (v ≢ e.value)) e es (is.0, lost-differs v e.value is.1)

-- a step that counts as lost has first an expectation of its word, of another number there
lost-expects : (p : Point) (v : ℕ) → counts_lost p (found_in p v) ≡ true → FirstDiffers (name_of (plan_point_of p)) v (expects_of p)
unfolding plan_point_of expects_of
lost-expects p v lost = grind (arith, lost)

-- a step that counts as lost expected another number in its word
pub loses-on : (p : Point) (v : ℕ) → LosesOn p v
loses-on p v lost = first-differs (name_of (plan_point_of p)) v (expects_of p) (lost-expects p v lost)

-- a caller in a sound state carries or sees by its step all that it expects after it
pub expects-after : (g : Geometry) (s : State) (caller : ℕ) → IsSoundWithoutCounts g s → caller < g.callers → ExpectsAfter s caller
expects-after g s caller sound has =
    let e = s.errand caller in
    let own = sound.parts.1.formed.errands caller has in
    expects-settled e (found_at s caller) (MayExpect e.point (action_at s caller) (found_at s caller))
    (expects-on e.geometry e.caller e.point (word_at s caller) own.rule.point (sound.parts.1.formed.words (name_at s caller)))

-- a step keeps what was won and noted, and what these bound
pub steps-won :
    (g : Geometry) (s : State) (w : Wins) (caller : ℕ) (s' : State) → IsSoundWithoutCounts g s → IsWon g s w → caller < g.callers → Step s caller s'
    → IsWon g s' (wins_after s caller w)
steps-won g s w caller s' sound won has step =
    let l = sound.parts.0 in
    let old = sound.parts.1 in
    let e = s.errand caller in
    let own = old.formed.errands caller has in
    let expects = expects-after g s caller sound has in
    let exists : Exists g (name_at s caller) =
    subst (λ h. Exists h (name_at s caller)) own.geometry
    (plan-exists e.geometry e.caller e.point own.rule.geometry own.rule.caller own.rule.point) in
    record {
      noted =
          step-noted g s caller s' w has step expects (λ other has_other differ. stores-unexpected g s l caller other old has has_other differ) won.noted;
      contended = step-contended g s caller s' w has exists step (loses-on e.point (word_at s caller)) won.noted won.contended;
      installed = step-installed g s w caller s' has (fits-at g s l caller e.point old has refl) step won.installed expects;
    }

-- the pair of a caller and the word on which it loses was dirty
pub lost-dirty :
    (g : Geometry) (s : State) (w : Wins) (caller : ℕ) → IsWon g s w → caller < g.callers → loses_at s caller ≡ true
    → IsDirty w caller (name_at s caller)
lost-dirty g s w caller won has lost = was-dirty g s caller w won.noted has (loses-on (s.errand caller).point (word_at s caller)) lost

-- the dirty pairs change in a step with what is won and lost
pub step-pairs :
    (g : Geometry) (s : State) (w : Wins) (caller : ℕ) → IsSound g s → IsWon g s w → caller < g.callers
    → dirty_pairs g (wins_after s caller w) + one_if (loses_at s caller) ≤ dirty_pairs g w + (g.callers - 1) * one_if (wins_at s caller)
step-pairs g s w caller sound won has =
    let p = (s.errand caller).point in
    pairs-after g s caller w won.noted has (exists-at g s caller p (without-counts g s sound) has refl) (loses-on p (word_at s caller))
