-- The five actions, each at the place of its word, where what the step is the first to use is laid.
use Rattle.std.proofs.Common.{ℕ, ◌≡◌, [], ◌∷◌, refl, sym, ap, ◌∙◌, subst}
use Rattle.std.specs.Prelude.{bit_and, ◌==◌}
use prog.Atomic.{either}
use Rattle.atomic_region.specs.Region as region
use Rattle.heap_geometry.specs.declared.geometry.Geometry.{Geometry}
use Rattle.heap_geometry.specs.Geometry.{IsChecked}
use Rattle.word_table.specs.declared.action.Action.{Action}
use Rattle.word_table.specs.declared.action.Action.TheVariants.{Load, Store, Cas, Swap, And}
use Rattle.word_table.specs.declared.name.WordName.{WordName}
use Rattle.word_table.specs.Actions.{name_of, after_action}
use Rattle.word_table.specs.Table.{word_index}
use Rattle.live_heap.specs.placement.Places.{place}
use Rattle.errand_steps.specs.Begins.{IsBusy}
use Rattle.errand_steps.specs.Errands.{ErrandFields, plan_of}
use Rattle.live_heap.specs.declared.view.Standing.{Standing}
use Rattle.live_heap.specs.declared.view.View.{View}
use Rattle.live_heap.specs.Pieces.{IsReady, PiecesHold}
use Rattle.live_heap.specs.Sights.{AreApart, IsBegun, SawByRule}
use Rattle.live_heap.specs.Shelves.{AllowedWords, PutsByRule}
use Rattle.live_heap.proofs.Memory.{may-memory}

module _ {rule : AllowedWords} (key g : Geometry) (size id : ℕ) (me : region.Me View) (before : Standing) (e f : ErrandFields) (w : WordName) (index : ℕ)
    (same : key ≡ g) (named : f ≡ e) (checked : IsChecked g) (one : me.0.callers ≡ before ∷ []) (apart : AreApart me.0 f) (b : IsBegun me.0.seen before.errand f) (busy : IsBusy f)
    (ready : IsReady g f.point me.0) (puts : PutsByRule rule me.0.seen f) (there : index ≡ place g (word_index g w)) where
  may : (a : Action) → name_of a ≡ w → plan_of f ≡ a → region.Allows (PiecesHold rule key) size id me index (after_action a) (λ n. SawByRule rule e n me)
  may a on is =
      let A : Action → Type 0 = λ x. region.Allows (PiecesHold rule g) size id me (place g (word_index g (name_of x))) (after_action x) (λ n. SawByRule rule e n me) in
      let I : ℕ → Type 0 = λ i. region.Allows (PiecesHold rule g) size id me i (after_action a) (λ n. SawByRule rule e n me) in
      let K : Geometry → Type 0 = λ k. region.Allows (PiecesHold rule k) size id me index (after_action a) (λ n. SawByRule rule e n me) in
      subst K (sym same)
      (subst I (ap (λ (n : WordName). place g (word_index g n)) on ∙ sym there)
      (subst A (ap plan_of (sym named) ∙ is)
      (may-memory g size id me before e checked one (subst (AreApart me.0) named apart) (subst (IsBegun me.0.seen before.errand) named b) (subst IsBusy named busy)
      (subst (λ (x : ErrandFields). IsReady g x.point me.0) named ready) (subst (PutsByRule rule me.0.seen) named puts))))

  pub may-load : plan_of f ≡ Load w → region.Allows (PiecesHold rule key) size id me index (λ n. n) (λ n. SawByRule rule e n me)
  may-load is = may (Load w) refl is

  pub may-store : (x : ℕ) → plan_of f ≡ Store w x → region.Allows (PiecesHold rule key) size id me index (λ _. x) (λ _ m. (k : ℕ) × SawByRule rule e k me m)
  may-store x is s h long at = let t = may (Store w x) refl is s h long at in (t.0, λ small. let r = t.1 small in (r.0, r.1, r.2, r.3, (_, r.4)))

  pub may-swap : (x : ℕ) → plan_of f ≡ Swap w x → region.Allows (PiecesHold rule key) size id me index (λ _. x) (λ n. SawByRule rule e n me)
  may-swap x is = may (Swap w x) refl is

  pub may-and : (x : ℕ) → plan_of f ≡ And w x → region.Allows (PiecesHold rule key) size id me index (λ n. bit_and n x) (λ n. SawByRule rule e n me)
  may-and x is = may (And w x) refl is

  pub may-exchange : (x y : ℕ) → plan_of f ≡ Cas w x y → region.Allows (PiecesHold rule key) size id me index (λ n. either (n == x) y n) (λ n. SawByRule rule e n me)
  may-exchange x y is = may (Cas w x y) refl is
