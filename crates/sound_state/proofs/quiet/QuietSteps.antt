-- Steps that leave their word, from a point that is known: they keep the state sound.
use Rattle.std.proofs.Common.{ℕ, false, None, ◌≡◌, ◌<◌, refl, sym, subst, All}
use Rattle.std.proofs.lemmas.List.Elements.{All-nil, All-from_recursion}
use Rattle.std.specs.List.{AllByRecursion}
use Rattle.sound_state.proofs.Common.{Geometry, name_of, after_action, Next, End, Point, Idle, Reply, counts_cleared, event_of, found_by, next_of, plan_point_of}
use Rattle.sound_state.proofs.Common.{State, Step, Lists, IsSo, recalls_of, IsSoundWithoutCounts, IsSoundWith, point_after}
use Rattle.sound_state.proofs.quiet.QuietLemmas.{HoldsSame, same-point-goes, same-stays}
use Rattle.sound_state.proofs.shared.PointLemmas.{WeighFrom, stays-actives, recalled-at}
use Rattle.sound_state.proofs.shared.StepLemmas.{LeadsOrEnds, PointGoes, found_from}
use Rattle.sound_state.proofs.shared.KeepsSound.{KeepsSound}
use Rattle.sound_state.proofs.SoundSteps.{step-from}

-- the step tells nothing, clears nothing, and leaves its word
pub record IsSilent (s : State) (caller : ℕ) (p : Point) : Type 0 where
  pub event : event_of caller p (found_from s p) ≡ None
  pub cleared : counts_cleared p (found_from s p) ≡ false
  pub word : after_action (plan_point_of p) (s.word (name_of (plan_point_of p))) ≡ s.word (name_of (plan_point_of p))

-- a step after which its caller weighs what it weighed, and may stand where it leads
pub record StepsSteadily (g : Geometry) (s : State) (caller : ℕ) (p : Point) (n : Next) : Type 0 where
  pub plain : LeadsOrEnds n
  pub weighs : (w : ℕ) → WeighFrom (name_of (plan_point_of p)) w w p (point_after n)
  pub goes : (l : Lists) → IsSoundWith g s l → PointGoes g s l caller p (point_after n)

-- a silent step after which its caller weighs the same, and may stand where it leads, keeps the state sound
pub steady-at :
    (g : Geometry) (s : State) (caller : ℕ) (s' : State) (p : Point) → IsSoundWithoutCounts g s → caller < g.callers → (s.errand caller).point ≡ p
    → IsSilent s caller p → StepsSteadily g s caller p (next_of p (found_from s p)) → Step s caller s' → IsSoundWithoutCounts g s'
steady-at g s caller s' p sound has stands silent h step =
    let n = name_of (plan_point_of p) in
    step-from g s caller s' p (next_of p (found_from s p)) h.plain sound has stands
    (λ l old. record {
      next = refl;
      event = silent.event;
      cleared = silent.cleared;
      goes = h.goes l old;
      weigh = subst (λ v. WeighFrom n (s.word n) v p (point_after (next_of p (found_from s p)))) (sym silent.word) (h.weighs (s.word n));
      actives = λ words' w. stays-actives g s l n _ words' old w silent.word;
    })
    step

-- a step that leads where its caller holds what it held, and what it remembers there is so
pub record LeadsQuietly (g : Geometry) (s : State) (caller : ℕ) (p : Point) (n : Next) : Type 0 where
  pub plain : LeadsOrEnds n
  pub holds : HoldsSame p (point_after n)
  pub so : (l : Lists) → IsSoundWith g s l → All (IsSo g s l caller) (recalls_of (point_after n))

-- a step that leads quietly on leaves what its caller weighs, and the caller may stand where it leads
pub quiet-steady :
    (g : Geometry) (s : State) (caller : ℕ) (p : Point) (n : Next) → caller < g.callers → (s.errand caller).point ≡ p → LeadsQuietly g s caller p n
    → StepsSteadily g s caller p n
quiet-steady g s caller p n has stands h =
    let same = h.holds in
    record {
      plain = h.plain;
      weighs = λ w. same-stays (name_of (plan_point_of p)) w p (point_after n) same;
      goes = λ l old.
          subst (λ r. PointGoes g s l caller r (point_after n)) stands
          (same-point-goes g s l caller (point_after n) old has (subst (λ r. HoldsSame r (point_after n)) (sym stands) same) (h.so l old));
    }

-- a silent step that leads quietly on keeps the state sound
pub quiet-at :
    (g : Geometry) (s : State) (caller : ℕ) (s' : State) (p : Point) → IsSoundWithoutCounts g s → caller < g.callers → (s.errand caller).point ≡ p
    → IsSilent s caller p → LeadsQuietly g s caller p (next_of p (found_from s p)) → Step s caller s' → IsSoundWithoutCounts g s'
quiet-at g s caller s' p sound has stands silent h step =
    steady-at g s caller s' p sound has stands silent (quiet-steady g s caller p (next_of p (found_from s p)) has stands h) step

-- a step that leads where its caller holds the same, and remembers nothing new
pub record LeadsOn (p : Point) (n : Next) : Type 0 where
  pub plain : LeadsOrEnds n
  pub holds : HoldsSame p (point_after n)
  pub recalls :
      (g : Geometry) (s : State) (l : Lists) (caller : ℕ) → AllByRecursion (IsSo g s l caller) (recalls_of p)
      → AllByRecursion (IsSo g s l caller) (recalls_of (point_after n))

-- a step that leads where its caller holds the same, and remembers nothing new, leads quietly
pub leads-on :
    (g : Geometry) (s : State) (caller : ℕ) (p : Point) (n : Next) → caller < g.callers → (s.errand caller).point ≡ p → LeadsOn p n
    → LeadsQuietly g s caller p n
leads-on g s caller p n has stands h = record {
  plain = h.plain;
  holds = h.holds;
  so = λ l old.
      All-from_recursion (IsSo g s l caller) (recalls_of (point_after n)) (h.recalls g s l caller (recalled-at g s l caller p old has stands));
}

-- a step that ends the call of a caller that holds nothing leads quietly
pub ends-quietly : (g : Geometry) (s : State) (caller : ℕ) (p : Point) (r : Reply) → HoldsSame p Idle → LeadsQuietly g s caller p (End r)
unfolding recalls_of
ends-quietly g s caller p r holds = record { plain = tt; holds = holds; so = λ l old. All-nil (IsSo g s l caller) }

-- whatever it finds in its word, a step from the point tells nothing, clears nothing, and leaves the word
pub record IsMute (p : Point) : Type 0 where
  pub event : (caller w : ℕ) → event_of caller p (found_by (plan_point_of p) w) ≡ None
  pub cleared : (w : ℕ) → counts_cleared p (found_by (plan_point_of p) w) ≡ false
  pub word : (w : ℕ) → after_action (plan_point_of p) w ≡ w

mute-silent : (s : State) (caller : ℕ) (p : Point) → IsMute p → IsSilent s caller p
mute-silent s caller p mute = record { event = mute.event caller _; cleared = mute.cleared _; word = mute.word _ }

-- a step from a mute point that leads steadily on, or quietly, keeps the state sound
pub steadily :
    (p : Point) → IsMute p
    → ((g : Geometry) (s : State) (caller : ℕ) → caller < g.callers → (s.errand caller).point ≡ p → StepsSteadily g s caller p (next_of p (found_from s p)))
    → KeepsSound p
steadily p mute leads g s caller s' sound has stands step =
    steady-at g s caller s' p sound has stands (mute-silent s caller p mute) (leads g s caller has stands) step

pub quietly :
    (p : Point) → IsMute p
    → ((g : Geometry) (s : State) (caller : ℕ) → caller < g.callers → (s.errand caller).point ≡ p → LeadsQuietly g s caller p (next_of p (found_from s p)))
    → KeepsSound p
quietly p mute leads = steadily p mute (λ g s caller has stands. quiet-steady g s caller p _ has stands (leads g s caller has stands))

-- a step from a mute point that leads on, whatever it finds, keeps the state sound
pub onward : (p : Point) → IsMute p → ((w : ℕ) → LeadsOn p (next_of p (found_by (plan_point_of p) w))) → KeepsSound p
onward p mute leads = quietly p mute (λ g s caller has stands. leads-on g s caller p _ has stands (leads _))
