-- What a step changes, where its point is known, what it finds and where it leads; and what an exchange changes that is won.
use Rattle.std.proofs.Common.{ℕ, ◌≡◌, ◌≢◌, refl, ap, sym, subst, inl, inr, ◌∙◌, ◌⊎◌, ◌==◌, eq-eqb}
use Rattle.std.proofs.lemmas.Bool.{cond-true}
use Rattle.sound_state.proofs.Common.{AnchorFields, anchor_of, anchor_word, Found, WordName, name_of, after_action, Writes, Next, Reply, At, End, Point, Idle, ErrandFields}
use Rattle.sound_state.proofs.Common.{settle_of, event_of, next_of, plan_point_of, State, Step, Moves, found_at, with_event, anchor_for, IsAnchor, anchor_of-anchor_word}
use Rattle.sound_state.proofs.Common.{Cas, found_by}
use Rattle.word_table.specs.declared.name.WordName.TheVariants as name
use Rattle.sound_state.proofs.shared.CreditLemmas.{won_with}
use Rattle.sound_state.proofs.shared.StepLemmas.{at_point, found_from, settle-at, settle-end}

-- the step leads to the point, or ends the call
abbrev pub LeadsTo : Next → Point → Type 0
LeadsTo n q = (n ≡ At q) ⊎ ((r : Reply) × (n ≡ End r) × (q ≡ Idle))

pub settle-leads : (e : ErrandFields) (x : Found) (q : Point) → LeadsTo (next_of e.point x) q → settle_of e x ≡ at_point e x q
settle-leads e x q leads =
    elim leads [
      | inl stands ↦ settle-at e x q stands
      | inr end ↦ settle-end e x end.0 end.1 ∙ ap (at_point e x) (sym end.2)
    ]

-- what a step from p changes that finds x and leads to q, or ends the call there
pub record StepEffects (s : State) (caller : ℕ) (p : Point) (x : Found) (q : Point) (s' : State) : Type 0 where
  pub moves : Moves s.errand caller (at_point (s.errand caller) x q) s'.errand
  pub writes :
      Writes s.word (name_of (plan_point_of p)) (after_action (plan_point_of p) (s.word (name_of (plan_point_of p)))) s'.word
  pub history : s'.history ≡ with_event s.history (event_of caller p x)

pub step-effects :
    (s : State) (caller : ℕ) (s' : State) (p : Point) (x : Found) (q : Point) → (s.errand caller).point ≡ p → found_from s p ≡ x
    → LeadsTo (next_of p x) q → Step s caller s' → StepEffects s caller p x q s'
step-effects s caller s' p x q here finds leads step =
    let found : found_at s caller ≡ x = ap (found_from s) here ∙ finds in
    let moved : settle_of (s.errand caller) (found_at s caller) ≡ at_point (s.errand caller) x q =
    ap (settle_of (s.errand caller)) found ∙ settle-leads (s.errand caller) x q (subst (λ r. LeadsTo (next_of r x) q) (sym here) leads) in
    record {
      moves = subst (λ f. Moves s.errand caller f s'.errand) moved step.errand;
      writes =
          subst (λ r. Writes s.word (name_of (plan_point_of r)) (after_action (plan_point_of r) (s.word (name_of (plan_point_of r)))) s'.word) here
          step.word;
      history = step.history ∙ ap (with_event s.history) (ap (event_of caller (s.errand caller).point) found ∙ ap (λ r. event_of caller r x) here);
    }

-- what a step from p to q changes whose exchange is won
pub record WonEffects (s : State) (caller : ℕ) (p : Point) (n : WordName) (expected new : ℕ) (q : Point) (s' : State) : Type 0 where
  pub step : StepEffects s caller p (won_with expected) q s'
  pub writes : Writes s.word n new s'.word

pub won-effects :
    (s : State) (caller : ℕ) (s' : State) (p : Point) (n : WordName) (expected new : ℕ) (q : Point) → (s.errand caller).point ≡ p
    → s.word n ≡ expected → plan_point_of p ≡ Cas n expected new → LeadsTo (next_of p (won_with expected)) q → Step s caller s'
    → WonEffects s caller p n expected new q s'
won-effects s caller s' p n expected new q here word plan leads step =
    let found : found_by (Cas n expected new) (s.word n) ≡ won_with expected = rw (word, eq-eqb expected expected refl) refl in
    let effects =
    step-effects s caller s' p (won_with expected) q here (ap (λ c. found_by c (s.word (name_of c))) plan ∙ found) leads step in
    let after : after_action (Cas n expected new) (s.word n) ≡ new =
    cond-true {A = ℕ} (s.word n == expected) new (s.word n) (eq-eqb (s.word n) expected word) in
    let writes : Writes s.word n new s'.word =
    subst (λ v. Writes s.word n v s'.word) after
    (subst (λ c. Writes s.word (name_of c) (after_action c (s.word (name_of c))) s'.word) plan effects.writes) in
    record { step = effects; writes = writes }

-- what a step from p to q changes whose exchange of an anchor is won
pub record AnchorWon (s : State) (caller : ℕ) (p : Point) (d : ℕ) (a b : AnchorFields) (q : Point) (s' : State) : Type 0 where
  pub step : StepEffects s caller p (won_with (anchor_word a)) q s'
  pub before : anchor_for s d ≡ a
  pub after : anchor_for s' d ≡ b
  pub elsewhere : (n : WordName) → n ≢ name.Anchor d → s'.word n ≡ s.word n

pub anchor-won :
    (s : State) (caller : ℕ) (s' : State) (p : Point) (d : ℕ) (a b : AnchorFields) (q : Point) → (s.errand caller).point ≡ p
    → s.word (name.Anchor d) ≡ anchor_word a → IsAnchor a → IsAnchor b → plan_point_of p ≡ Cas (name.Anchor d) (anchor_word a) (anchor_word b)
    → LeadsTo (next_of p (won_with (anchor_word a))) q → Step s caller s' → AnchorWon s caller p d a b q s'
anchor-won s caller s' p d a b q here word fits new plan leads step =
    let won =
    won-effects s caller s' p (name.Anchor d) (anchor_word a) (anchor_word b) q here word plan leads step in
    record {
      step = won.step;
      before = ap anchor_of word ∙ anchor_of-anchor_word a fits;
      after = ap anchor_of won.writes.here ∙ anchor_of-anchor_word b new;
      elsewhere = won.writes.elsewhere;
    }
