-- An effect after which its caller guards nothing new, pushes nothing and scans nothing keeps the guards.
use Rattle.std.proofs.Common.{ℕ, None, ◌≡◌, ◌<◌, ◌≤◌, length, arith, sym, subst, ◌∙◌, Bool, true, false, Contains, IfSome, inl}
use Rattle.std.proofs.lemmas.Option.{none-some}
use Rattle.sound_state.proofs.Common.{Geometry, descriptor_count, occurs, DescPoint, ErrandFields, spare_of, pushed_by, State, Moves, IsGuarded, IsGuard, IsHazard}
use Rattle.sound_state.proofs.Common.{passed_by, held_by, holds_of, errand_has, Lists, IsSoundWith, callers_sum, errand_away, clear}
use Rattle.word_table.specs.declared.name.WordName.TheVariants as name
use Rattle.step_parts.specs.declared.hazard.point.DescPoint.TheVariants as desc
use Rattle.sound_state.proofs.shared.ListFacts.{contains-occurs}
use Rattle.sound_state.proofs.shared.ShownLemmas.{IsUnretired, guarded-goes}
use Rattle.sound_state.proofs.shared.SumLemmas.{term-sum}
use Rattle.sound_state.proofs.shared.TurnEffects.{IsQuiet}

-- a caller goes on, and no hazard word changes: its own may be what it may be before, and it guards, pushes and scans nothing new
pub record GuardEffects (g : Geometry) (s : State) (caller : ℕ) (e : ErrandFields) (s' : State) : Type 0 where
  pub in_heap : caller < g.callers
  pub moves : Moves s.errand caller e s'.errand
  pub words : (i : ℕ) → s'.word (name.Hazard i) ≡ s.word (name.Hazard i)
  pub hazard : (w : ℕ) → IsHazard (holds_of (s.errand caller).point).hazard w → IsHazard (holds_of e.point).hazard w
  pub guard : IsGuard (holds_of e.point).hazard → IsGuard (holds_of (s.errand caller).point).hazard
  pub pushed : pushed_by e.point ≡ None
  pub passed : passed_by e.point ≡ 0
  pub unread : length (held_by e.point) ≡ 0
  pub spare : spare_of e.point ≡ 0

-- an effect after which its caller guards, pushes and scans nothing new keeps the guards
pub guarded-after :
    (g : Geometry) (s : State) (caller : ℕ) (e : ErrandFields) (s' : State) → GuardEffects g s caller e s' → IsGuarded g s → IsGuarded g s'
guarded-after g s caller e s' h guarded =
    guarded-goes g s caller e s' h.moves (λ i differ. h.words i)
    (record {
      hazard = subst (IsHazard (holds_of e.point).hazard) (sym (h.words caller)) (h.hazard (s.word (name.Hazard caller)) (guarded.words caller h.in_heap));
      guard = λ d is guard. inl (record { word = sym (h.words caller) ∙ is; guard = h.guard guard });
      pushed = λ i d has guards is. absurd (none-some d (sym h.pushed ∙ is));
      passed = λ i d has guards listed below. let bad : ⊥ = omega (arith, below, h.passed) in absurd bad;
      unread = λ k from below. let bad : ⊥ = omega (arith, below, h.unread) in absurd bad;
    })
    (λ is. let bad : ⊥ = omega (arith, is, h.spare) in absurd bad) guarded

-- an effect of a caller that guards nothing before it and after it keeps the guards
pub guarded-clear :
    (g : Geometry) (s : State) (caller : ℕ) (e : ErrandFields) (s' : State) → caller < g.callers → Moves s.errand caller e s'.errand
    → ((i : ℕ) → s'.word (name.Hazard i) ≡ s.word (name.Hazard i)) → (holds_of (s.errand caller).point).hazard ≡ clear
    → (holds_of e.point).hazard ≡ clear → IsQuiet e.point → IsGuarded g s → IsGuarded g s'
guarded-clear g s caller e s' has moves words was_clear is_clear quiet =
    guarded-after g s caller e s'
    (record {
      in_heap = has;
      moves = moves;
      words = words;
      hazard = λ w. subst (λ x. IsHazard x w) (was_clear ∙ sym is_clear);
      guard = λ guard. absurd (subst IsGuard is_clear guard);
      pushed = quiet.pushed;
      passed = quiet.passed;
      unread = quiet.unread;
      spare = quiet.spare;
    })

-- what occurs in no caller's list is retired nowhere, and nobody pushes it
pub unretired :
    (g : Geometry) (s : State) (l : Lists) (d : ℕ) → IsSoundWith g s l
    → ((other : ℕ) → other < g.callers → occurs d (s.errand other).retired ≡ 0) → IsUnretired g s d
unretired g s l d old none =
    let listed = λ (other : ℕ) (has : other < g.callers) (in_list : Contains (s.errand other).retired d).
    let bad : ⊥ = omega (arith, contains-occurs (s.errand other).retired d in_list, none other has) in bad in
    record {
      pushed = λ other has is.
          listed other has (subst (λ o. IfSome o (λ k. Contains (s.errand other).retired k)) is (old.formed.errands other has).rule.pushed);
      listed = listed;
    }

-- a descriptor that is available is retired nowhere, and nobody pushes it
pub available-unretired :
    (g : Geometry) (s : State) (l : Lists) (d : ℕ) → IsSoundWith g s l → d < descriptor_count g → 1 ≤ occurs d l.available
    → IsUnretired g s d
unfolding callers_sum
available-unretired g s l d old exists on =
    unretired g s l d old
    (λ other has.
    let once = old.kept.once d exists in
    let mine : errand_has d (s.errand other) ≤ callers_sum g (errand_has d) s.errand = term-sum g.callers (λ i. errand_has d (s.errand i)) other has in
    omega (arith, once, mine, on))

-- a descriptor that has a superblock is retired nowhere, and nobody pushes it
pub bound-unretired :
    (g : Geometry) (s : State) (l : Lists) (d : ℕ) → IsSoundWith g s l → callers_sum g (errand_away d) s.errand ≡ 0 → IsUnretired g s d
unfolding callers_sum
bound-unretired g s l d old none =
    unretired g s l d old
    (λ other has.
    let mine : errand_away d (s.errand other) ≤ callers_sum g (errand_away d) s.errand = term-sum g.callers (λ i. errand_away d (s.errand i)) other has in
    omega (arith, mine, none))

-- whether a hazard word is read at the point, by a scan
abbrev pub scans : DescPoint → Bool
scans (desc.ReadHazard s held at) = true
scans p = false
