-- What holds of each caller after one of them has gone on.
use Rattle.std.proofs.Common.{ℕ, ◌≡◌, ◌≢◌, ◌<◌, sym, subst, inl, inr}
use Rattle.std.proofs.lemmas.Bool.{cases_eq}
use Rattle.sound_state.proofs.Common.{Geometry, ErrandFields, Moves}

-- an errand of the caller has the retired list and the counts that the one before it had
pub record KeepsCounts (a b : ErrandFields) : Type 0 where
  pub retired : b.retired ≡ a.retired
  pub turns : b.turns ≡ a.turns
  pub lost : b.lost ≡ a.lost
  pub cleared : b.cleared ≡ a.cleared

-- what holds of the new errand and of those of the other callers holds of each caller's
pub each-other :
    (g : Geometry) (P : ℕ → ErrandFields → Type 0) (errands : ℕ → ErrandFields) (caller : ℕ) (e : ErrandFields) (errands' : ℕ → ErrandFields)
    → Moves errands caller e errands' → P caller e → ((i : ℕ) → i < g.callers → i ≢ caller → P i (errands i))
    → (i : ℕ) → i < g.callers → P i (errands' i)
each-other g P errands caller e errands' m here others i has =
    elim (cases_eq i caller) [
      | inl same ↦ let stands : P caller (errands' caller) = subst (P caller) (sym m.here) here in subst (λ j. P j (errands' j)) (sym same) stands
      | inr differ ↦ subst (P i) (sym (m.elsewhere i differ)) (others i has differ)
    ]

-- what holds of the new errand and of those of the callers before holds of each
pub each-caller :
    (g : Geometry) (P : ℕ → ErrandFields → Type 0) (errands : ℕ → ErrandFields) (caller : ℕ) (e : ErrandFields) (errands' : ℕ → ErrandFields)
    → Moves errands caller e errands' → P caller e → ((i : ℕ) → i < g.callers → P i (errands i))
    → (i : ℕ) → i < g.callers → P i (errands' i)
each-caller g P errands caller e errands' m here others =
    each-other g P errands caller e errands' m here (λ i has differ. others i has)
