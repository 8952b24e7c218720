-- What is shown of each step: it keeps the state sound.
use Rattle.std.proofs.Common.{ℕ, ◌≡◌, ◌≢◌, ◌<◌, sym, subst, inl, inr}
use Rattle.std.proofs.lemmas.Bool.{cases_eq}
use Rattle.sound_state.proofs.Common.{Geometry, IsFormed, IsLegalWithoutCounts, IsSoundWith, IsSoundWithoutCounts, Lists, Point, State, Step, WordName}
use Rattle.sound_state.proofs.shared.FormedLemmas.{formed-after}

-- a step from the point keeps every sound state so that is like this
abbrev pub KeepsSoundWhere : Point → (State → Type 0) → Type 0
KeepsSoundWhere p Is =
    (g : Geometry) (s : State) (caller : ℕ) (s' : State) → IsSoundWithoutCounts g s → caller < g.callers → (s.errand caller).point ≡ p → Is s
    → Step s caller s' → IsSoundWithoutCounts g s'

-- a step from the point keeps every sound state so
abbrev pub KeepsSound : Point → Type 0
KeepsSound p =
    (g : Geometry) (s : State) (caller : ℕ) (s' : State) → IsSoundWithoutCounts g s → caller < g.callers → (s.errand caller).point ≡ p
    → Step s caller s' → IsSoundWithoutCounts g s'

-- the state after a step is sound with the lists, where it is so if only it is formed
abbrev pub SoundIfFormed : Geometry → State → Lists → Type 0
SoundIfFormed g s l = IsFormed g s → IsSoundWith g s l

-- a state is sound after a step that leaves a legal history
pub stepped-sound :
    (g : Geometry) (s : State) (caller : ℕ) (s' : State) (l : Lists) → IsSoundWithoutCounts g s → caller < g.callers → Step s caller s'
    → IsLegalWithoutCounts g s'.history → SoundIfFormed g s' l → IsSoundWithoutCounts g s'
stepped-sound g s caller s' l sound has step legal with = record {
  checked = sound.checked;
  legal = legal;
  parts = (l, with (formed-after g s caller s' sound.parts.1.formed has step));
}

-- so it is after one that adds no event
pub silent-sound :
    (g : Geometry) (s : State) (caller : ℕ) (s' : State) (l : Lists) → IsSoundWithoutCounts g s → caller < g.callers → Step s caller s'
    → s'.history ≡ s.history → SoundIfFormed g s' l → IsSoundWithoutCounts g s'
silent-sound g s caller s' l sound has step past with =
    stepped-sound g s caller s' l sound has step (subst (IsLegalWithoutCounts g) (sym past) sound.legal) with

-- an exchange that keeps the state sound where it is won, and where it is lost, keeps it sound
pub either-sound :
    (p : Point) (n : WordName) (expected : ℕ) → KeepsSoundWhere p (λ s. s.word n ≡ expected) → KeepsSoundWhere p (λ s. s.word n ≢ expected) → KeepsSound p
either-sound p n expected won lost g s caller s' sound has stands step =
    elim (cases_eq (s.word n) expected) [
      | inl is ↦ won g s caller s' sound has stands is step
      | inr other ↦ lost g s caller s' sound has stands other step
    ]
