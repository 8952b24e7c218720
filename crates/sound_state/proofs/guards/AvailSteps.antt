-- The available descriptors gain only what a caller pushes.
use Rattle.std.proofs.Common.{ℕ, Some, ◌≡◌, ◌≢◌, ◌<◌, List, [], ◌∷◌, refl, arith, ap, sym, subst, inl, inr, ◌∙◌, ◌==◌, Contains, IfSome, ne_eqb}
use Rattle.std.proofs.lemmas.Bool.{cond-false}
use Rattle.sound_state.proofs.Common.{Geometry, WordName, after_action, descriptor_count, SeatFields, cases_name, occurs, Stacked, next_in, Partials, Continuation}
use Rattle.sound_state.proofs.Common.{pushed_by, plan_point_of, State, Step, name_at, errand_has, Lists, recalls_of, IsSoundWithoutCounts, IsSoundWith, callers_sum}
use Rattle.sound_state.proofs.Common.{occurs-here, occurs-more}
use Rattle.word_table.specs.declared.name.WordName.TheVariants as name
use Rattle.step_parts.specs.declared.hazard.point.DescPoint.TheVariants as desc
use Rattle.errand_steps.specs.declared.point.Point.TheVariants as point
use Rattle.sound_state.specs.Guarding.{IsAvailable}
use Rattle.sound_state.proofs.guards.AvailPoints.{PopsAvailable, HeadGoes, head-point, next-point}
use Rattle.sound_state.proofs.shared.ListFacts.{contains-occurs, occurring-all}
use Rattle.sound_state.proofs.shared.PointLemmas.{recalled-at}
use Rattle.sound_state.proofs.shared.StackedLemmas.{stacked-same, stacked-agrees}
use Rattle.sound_state.proofs.shared.SumLemmas.{term-sum}

-- a caller of a state, and its step
module _ (g : Geometry) (s : State) (caller : ℕ) where
  -- no caller has an available descriptor
  unavailable : (l : Lists) (e : ℕ) → IsSoundWith g s l → caller < g.callers → 0 < occurs e l.available → errand_has e (s.errand caller) ≡ 0
  unfolding callers_sum
  unavailable l e old has on =
      let exists : e < descriptor_count g = occurring-all (λ d. d < descriptor_count g) e l.available old.listed.available_exist on in
      omega (arith, old.kept.once e exists, on, term-sum g.callers (λ i. errand_has e (s.errand i)) caller has)

  -- a step leaves the next words of available descriptors
  nexts-stay :
      (l : Lists) (s' : State) → IsSoundWith g s l → caller < g.callers → Step s caller s' → (e : ℕ) → 0 < occurs e l.available
      → s'.word (name.Next e) ≡ s.word (name.Next e)
  nexts-stay l s' old has step e on =
      let p = (s.errand caller).point in
      let none = unavailable l e old has on in
      elim (cases_name (name.Next e) (name_at s caller)) [
        | inr differ ↦ step.word.elsewhere (name.Next e) differ
        | inl is ↦
            let here : s'.word (name.Next e) ≡ after_action (plan_point_of p) (s.word (name.Next e)) =
            ap s'.word is ∙ step.word.here ∙ ap (λ n. after_action (plan_point_of p) (s.word n)) (sym is) in
            elim (next-point e (s.word (name.Next e)) p (sym is)) [
              | inl same ↦ here ∙ same
              | inr held ↦
                  elim held [
                    | inl pushes ↦
                        let listed : Contains (s.errand caller).retired e =
                        subst (λ o. IfSome o (λ d. Contains (s.errand caller).retired d)) pushes (old.formed.errands caller has).rule.pushed in
                        let bad : ⊥ = omega (arith, none, contains-occurs (s.errand caller).retired e listed) in absurd bad
                    | inr keeps ↦ let bad : ⊥ = omega (arith, none, keeps) in absurd bad
                  ]
            ]
      ]

  -- a won pop leaves as the head of the available descriptors what their next word says
  pub noted-below :
      (d next : ℕ) (seat : SeatFields) (o : Continuation) → IsSoundWithoutCounts g s → caller < g.callers
      → (s.errand caller).point ≡ point.Desc (desc.PopDesc seat d next) o → IsAvailable g s d → s.word (name.Next d) ≡ next
  unfolding recalls_of
  noted-below d next seat o sound has stands there =
      let l = sound.parts.0 in
      let old = sound.parts.1 in
      let (so_next, rest) = recalled-at g s l caller (point.Desc (desc.PopDesc seat d next) o) old has stands in
      let same : there.lists.available ≡ l.available =
      stacked-same _ _ there.lists.available l.available there.listed.available old.listed.available in
      so_next (subst (λ xs. 0 < occurs d xs) same there.here)

  -- the next word of a descriptor that is pushed says the top that was read
  pushed-below :
      (l : Lists) (d top : ℕ) (seat : SeatFields) (o : Continuation) → IsSoundWith g s l → caller < g.callers
      → (s.errand caller).point ≡ point.Desc (desc.PushDesc seat d top) o → s.word (name.Next d) ≡ top
  unfolding recalls_of
  pushed-below l d top seat o old has stands = let (said, rest) = recalled-at g s l caller (point.Desc (desc.PushDesc seat d top) o) old has stands in said.1

  -- after a won pop of an available descriptor the list is the rest of the one before it
  popped-gains :
      (l : Lists) (d : ℕ) (words' : WordName → ℕ) (xs : List ℕ) → IsSoundWithoutCounts g s → IsSoundWith g s l → caller < g.callers
      → PopsAvailable (s.errand caller).point (s.word name.DescHead) (words' name.DescHead) → Stacked (next_in words' Partials) (s.word name.DescHead) xs
      → xs ≡ l.available → (ys : List ℕ) → Stacked (next_in words' Partials) (words' name.DescHead) ys
      → ((e : ℕ) → 0 < occurs e xs → words' (name.Next e) ≡ s.word (name.Next e)) → 0 < occurs d ys → 0 < occurs d xs
  popped-gains l d words' [] sound old has pop stack is ys after still on = absurd (omega (arith, stack, pop.before))
  popped-gains l d words' (x ∷ xs) sound old has pop stack is ys after still on =
      let first : pop.d ≡ x = omega (arith, stack.0, pop.before) in
      let here : 0 < occurs x (x ∷ xs) = omega (arith, occurs-here x xs) in
      let there : IsAvailable g s pop.d =
      record { lists = l; listed = old.listed; here = subst (λ zs. 0 < occurs pop.d zs) is (subst (λ e. 0 < occurs e (x ∷ xs)) (sym first) here) } in
      let next : s.word (name.Next pop.d) ≡ pop.next = noted-below pop.d pop.next pop.seat pop.continuation sound has pop.at there in
      let top : words' name.DescHead ≡ words' (name.Next x) =
      pop.after ∙ sym next ∙ ap (λ e. s.word (name.Next e)) first ∙ sym (still x here) in
      let rest : Stacked (next_in words' Partials) (words' name.DescHead) xs =
      subst (λ w. Stacked (next_in words' Partials) w xs) (sym top) stack.1 in
      let same : ys ≡ xs = stacked-same _ _ ys xs after rest in
      omega (arith, occurs-more d x xs, subst (λ zs. 0 < occurs d zs) same on)

  -- a step makes no descriptor available that its caller doesn't push
  pub available-stepped :
      (d : ℕ) (s' : State) → IsSoundWithoutCounts g s → caller < g.callers → Step s caller s' → pushed_by (s.errand caller).point ≢ Some d → IsAvailable g s' d
      → IsAvailable g s d
  available-stepped d s' sound has step free there =
      let l = sound.parts.0 in
      let old = sound.parts.1 in
      let p = (s.errand caller).point in
      let still = nexts-stay l s' old has step in
      let stack : Stacked (next_in s'.word Partials) (s.word name.DescHead) l.available =
      stacked-agrees (next_in s.word Partials) (next_in s'.word Partials) (s.word name.DescHead) l.available still old.listed.available in
      let gives = λ (on : 0 < occurs d l.available). let a : IsAvailable g s d = record { lists = l; listed = old.listed; here = on } in a in
      let same_head = λ (same : s'.word name.DescHead ≡ s.word name.DescHead).
      gives (subst (λ xs. 0 < occurs d xs) (stacked-same _ _ there.lists.available l.available there.listed.available
      (subst (λ w. Stacked (next_in s'.word Partials) w l.available) (sym same) stack)) there.here) in
      elim (cases_name name.DescHead (name_at s caller)) [
        | inr differ ↦ same_head (step.word.elsewhere name.DescHead differ)
        | inl is ↦
            let here : s'.word name.DescHead ≡ after_action (plan_point_of p) (s.word name.DescHead) =
            ap s'.word is ∙ step.word.here ∙ ap (λ n. after_action (plan_point_of p) (s.word n)) (sym is) in
            elim (subst (HeadGoes p (s.word name.DescHead)) (sym here) (head-point p (s.word name.DescHead) (sym is))) [
              | inl same ↦ same_head same
              | inr won ↦
                  elim won [
                    | inl pop ↦
                        gives (popped-gains l d s'.word l.available sound old has pop stack refl there.lists.available there.listed.available still
                        there.here)
                    | inr push ↦
                        let mine : pushed_by p ≡ Some push.d = ap pushed_by push.at in
                        let differ : push.d ≢ d = λ same. free (mine ∙ ap Some same) in
                        let below : s'.word (name.Next push.d) ≡ s.word name.DescHead =
                        step.word.elsewhere (name.Next push.d) (λ same. cc)
                        ∙ pushed-below l push.d push.top push.seat push.continuation old has push.at ∙ sym push.before in
                        let all : Stacked (next_in s'.word Partials) (s'.word name.DescHead) (push.d ∷ l.available) =
                        (push.after, subst (λ w. Stacked (next_in s'.word Partials) w l.available) (sym below) stack) in
                        let same : there.lists.available ≡ push.d ∷ l.available =
                        stacked-same _ _ there.lists.available (push.d ∷ l.available) there.listed.available all in
                        gives (omega (arith, cond-false {A = ℕ} (push.d == d) 1 0 (ne_eqb push.d d differ), subst (λ xs. 0 < occurs d xs) same there.here))
                  ]
            ]
      ]
