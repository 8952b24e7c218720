-- A step that isn't the caller's store to its own hazard word keeps what it guards.
use Rattle.std.proofs.Common.{ℕ, Some, ◌≡◌, ◌≢◌, ◌<◌, refl, ap, sym, inl, inr, ◌∙◌, Contains}
use Rattle.sound_state.proofs.Common.{Geometry, after_action, cases_name, pushed_by, next_of, plan_point_of, State, Step, action_at, found_at, name_at}
use Rattle.sound_state.proofs.Common.{IsSoundWithoutCounts}
use Rattle.word_table.specs.declared.name.WordName.TheVariants as name
use Rattle.sound_state.specs.Guarding.{IsGuardedBy, StoresHazard}
use Rattle.sound_state.proofs.guards.GuardNexts.{NextNotes, may-store, notes-next}
use Rattle.sound_state.proofs.guards.GuardSettles.{HasNoted, settled-notes, settled-pushes}
use Rattle.sound_state.proofs.shared.CallerLemmas.{each-other}
use Rattle.sound_state.proofs.shared.PointLemmas.{fits-now, retired-exists}

-- a caller's hazard word stays in a step that isn't the caller's own store to it
hazard-stays :
    (g : Geometry) (s : State) (caller other : ℕ) (s' : State) → IsSoundWithoutCounts g s → other < g.callers
    → (other ≡ caller → StoresHazard s caller → ⊥) → Step s other s' → s'.word (name.Hazard caller) ≡ s.word (name.Hazard caller)
hazard-stays g s caller other s' sound has leaves step =
    elim (cases_name (name.Hazard caller) (name_at s other)) [
      | inr differ ↦ step.word.elsewhere (name.Hazard caller) differ
      | inl is ↦
          let p = (s.errand other).point in
          let here : s'.word (name.Hazard caller) ≡ after_action (plan_point_of p) (s.word (name.Hazard caller)) =
          ap s'.word is ∙ step.word.here ∙ ap (λ n. after_action (plan_point_of p) (s.word n)) (sym is) in
          elim (may-store g other caller (s.word (name.Hazard caller)) p (fits-now g s other p sound has refl) (sym is)) [
            | inl same ↦ here ∙ same
            | inr stores ↦ absurd (leaves stores.0 (stores.1, ap (λ i. action_at s i) (sym stores.0) ∙ stores.2))
          ]
    ]

-- the caller that makes the step has noted the guarded descriptor where it goes on
step-notes :
    (g : Geometry) (s : State) (caller d other : ℕ) → IsSoundWithoutCounts g s → caller < g.callers → other < g.callers → IsGuardedBy g s caller d
    → Contains (s.errand other).retired d → NextNotes caller d (next_of (s.errand other).point (found_at s other))
step-notes g s caller d other sound has has_other guarded listed =
    let p = (s.errand other).point in
    let exists = retired-exists g s sound.parts.0 other d sound.parts.1 has_other listed in
    notes-next g other caller d p (found_at s other) sound.checked has exists (fits-now g s other p sound has_other refl)
    (guarded.passed other has_other listed) (λ is. ap s.word is ∙ guarded.word)

pub guarded-stepped :
    (g : Geometry) (s : State) (caller d other : ℕ) (s' : State) → IsSoundWithoutCounts g s → caller < g.callers → other < g.callers
    → (other ≡ caller → StoresHazard s caller → ⊥) → IsGuardedBy g s caller d → Step s other s' → IsGuardedBy g s' caller d
guarded-stepped g s caller d other s' sound has has_other leaves guarded step =
    let e = s.errand other in
    let x = found_at s other in
    let notes = step-notes g s caller d other sound has has_other guarded in
    record {
      word = hazard-stays g s caller other s' sound has_other leaves step ∙ guarded.word;
      pushed =
          each-other g (λ i e. pushed_by e.point ≢ Some d) s.errand other _ s'.errand step.errand
          (settled-pushes caller d e x (guarded.pushed other has_other) notes) (λ i has_i differ. guarded.pushed i has_i);
      passed =
          each-other g (λ i e. HasNoted caller d e) s.errand other _ s'.errand step.errand
          (settled-notes caller d e x (guarded.passed other has_other) notes) (λ i has_i differ. guarded.passed i has_i);
    }
