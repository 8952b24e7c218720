-- A step after which the state shows the same keeps it sound: by the errand after it, by the points before and after it, by an exchange that is won.
use Rattle.std.proofs.Common.{ℕ, true, false, None, ◌≡◌, ◌<◌, ap, sym, subst, eq-eqb, ◌==◌, ◌∙◌, arith}
use Rattle.std.proofs.lemmas.Bool.{cond-true}
use Rattle.word_table.specs.declared.name.WordName.TheVariants as name
use Rattle.sound_state.proofs.Common.{Geometry, At, next_of, event_of, plan_point_of}
use Rattle.sound_state.proofs.shared.StepLemmas.{HazardsAfter, LeadsOrEnds, PointGoes, StepsMost, at_point, found_from, goes-guards, may-step}
use Rattle.sound_state.proofs.shared.StepLemmas.{settle-next}
use Rattle.sound_state.proofs.Common.{Cas, ErrandFields, Exists, IsFormed, IsSoundWith, IsSoundWithoutCounts, Lists, Moves, Next, Point, State, Step, WordName}
use Rattle.sound_state.proofs.Common.{Writes, action_at, after_action, counts_cleared, found_at, found_by, name_at, name_of, plan-exists}
use Rattle.sound_state.proofs.Common.{point_after, raised, with_event, word_at}
use Rattle.sound_state.proofs.shared.ShownLemmas.{ShowsSame}
use Rattle.sound_state.proofs.shared.AlikeLemmas.{GoesAlike}
use Rattle.sound_state.proofs.shared.PointLemmas.{WeighFrom, from-weighs}
use Rattle.sound_state.proofs.SoundAfter.{IsSoundBut, shown-sound, sound-but_one}
use Rattle.sound_state.proofs.shared.CreditLemmas.{won_with}
use Rattle.sound_state.proofs.shared.KeepsSound.{silent-sound}
use Rattle.sound_state.proofs.shared.SuperblocksStay.{ActivesKept}
use Rattle.sound_state.proofs.shared.WeighLemmas.{WeighAlike, alike-most, hazards-stay, weigh-alike, weigh-emptied}

-- a state after that shows the same, and what was available is
shows-alike :
    (g : Geometry) (s : State) (l : Lists) (caller : ℕ) (e : ErrandFields) (s' : State) → GoesAlike g s l caller e s' → IsSoundBut g s l caller
    → ShowsSame g s l caller e s' l.available
shows-alike g s l caller e s' go sound = grind (arith, go, sound)

-- a caller that goes on alike makes sound a state that is so but for what it remembers and how often it was answered
pub sound-but :
    (g : Geometry) (s : State) (l : Lists) (caller : ℕ) (e : ErrandFields) (s' : State) → GoesAlike g s l caller e s' → IsSoundBut g s l caller
    → IsFormed g s' → IsSoundWith g s' l
sound-but g s l caller e s' go sound formed = shown-sound (shows-alike g s l caller e s' go sound) sound formed

-- a step after which a state shows the same keeps it sound
pub sound-alike :
    (g : Geometry) (s : State) (l : Lists) (caller : ℕ) (e : ErrandFields) (s' : State) → GoesAlike g s l caller e s' → IsSoundWith g s l
    → IsFormed g s' → IsSoundWith g s' l
sound-alike g s l caller e s' go sound = sound-but g s l caller e s' go (sound-but_one g s l caller sound)

-- a step after which its caller stands at the point keeps the state sound
pub step-most :
    (g : Geometry) (s : State) (caller : ℕ) (s' : State) (q : Point) → IsSoundWithoutCounts g s → caller < g.callers
    → ((l : Lists) → IsSoundWith g s l → StepsMost g s l caller q) → ((l : Lists) → IsSoundWith g s l → ActivesKept g s s'.word)
    → ((l : Lists) → IsSoundWith g s l → HazardsAfter g s caller q s'.word) → Step s caller s' → IsSoundWithoutCounts g s'
step-most g s caller s' q sound has steps actives hazards step =
    let l = sound.parts.0 in
    let old = sound.parts.1 in
    let to = steps l old in
    let words = hazards l old in
    let e = at_point (s.errand caller) (found_at s caller) q in
    let own = old.formed.errands caller has in
    let exists : Exists g (name_at s caller) =
    subst (λ h. Exists h (name_at s caller)) own.geometry
    (plan-exists (s.errand caller).geometry (s.errand caller).caller (s.errand caller).point own.rule.geometry own.rule.caller own.rule.point) in
    let moves : Moves s.errand caller e s'.errand =
    subst (λ f. Moves s.errand caller f s'.errand) to.after step.errand in
    let past : s'.history ≡ s.history = step.history ∙ ap (with_event s.history) to.event in
    silent-sound g s caller s' l sound has step past
    (sound-alike g s l caller e s'
    (record {
      in_heap = has;
      moves = moves;
      alike = weigh-alike g s l caller (name_at s caller) _ e s' exists has step.word moves past to.weigh;
      may = may-step g s l caller (found_at s caller) q old has to.cleared to.stands;
      others = words.others;
      guards = words.guards;
      actives = actives l old;
      emptied =
          let same : raised (counts_cleared (s.errand caller).point (found_at s caller)) (s.errand caller).cleared ≡ (s.errand caller).cleared =
          ap (λ b. raised b (s.errand caller).cleared) to.cleared in
          omega (arith, weigh-emptied g s l caller (name_at s caller) _ e s' has step.word moves to.weigh, same);
    })
    old)

-- a step from p that leads there, and what the active words and the slots hold after it
pub record StepsFrom (g : Geometry) (s : State) (l : Lists) (caller : ℕ) (p : Point) (n : Next) : Type 0 where
  pub next : next_of p (found_from s p) ≡ n
  pub event : event_of caller p (found_from s p) ≡ None
  pub cleared : counts_cleared p (found_from s p) ≡ false
  pub goes : PointGoes g s l caller p (point_after n)
  pub weigh :
      WeighFrom (name_of (plan_point_of p)) (s.word (name_of (plan_point_of p)))
      (after_action (plan_point_of p) (s.word (name_of (plan_point_of p)))) p (point_after n)
  pub actives :
      (words' : WordName → ℕ)
      → Writes s.word (name_of (plan_point_of p)) (after_action (plan_point_of p) (s.word (name_of (plan_point_of p)))) words'
      → ActivesKept g s words'

-- a step from a point that is known keeps the state sound
pub step-from :
    (g : Geometry) (s : State) (caller : ℕ) (s' : State) (p : Point) (n : Next) → LeadsOrEnds n → IsSoundWithoutCounts g s → caller < g.callers
    → (s.errand caller).point ≡ p → ((l : Lists) → IsSoundWith g s l → StepsFrom g s l caller p n) → Step s caller s' → IsSoundWithoutCounts g s'
step-from g s caller s' p n plain sound has at h step =
    let e = s.errand caller in
    let q = point_after n in
    let moved = λ (l : Lists) (old : IsSoundWith g s l). subst (λ r. StepsFrom g s l caller r n) (sym at) (h l old) in
    let weighs : (l : Lists) (old : IsSoundWith g s l)
    → WeighAlike (name_at s caller) (word_at s caller) (after_action (action_at s caller) (word_at s caller)) e (at_point e (found_at s caller) q) =
    λ l old. let m : StepsFrom g s l caller e.point n = moved l old in from-weighs _ _ _ e (found_at s caller) q m.weigh in
    step-most g s caller s' q sound has
    (λ l old.
    let m : StepsFrom g s l caller e.point n = moved l old in
    record {
      after = settle-next e (found_at s caller) n plain m.next;
      event = m.event;
      cleared = m.cleared;
      stands = m.goes.stands;
      weigh = alike-most (name_at s caller) _ _ e (at_point e (found_at s caller) q) (weighs l old);
    })
    (λ l old. let m : StepsFrom g s l caller e.point n = moved l old in m.actives s'.word step.word)
    (λ l old.
    let m : StepsFrom g s l caller e.point n = moved l old in
    let stay = hazards-stay s.word (name_at s caller) _ s'.word step.word (weighs l old).still in
    record {
      others = λ i differ. stay i;
      guards = goes-guards g s l caller q e.retired (s'.word (name.Hazard caller)) old.guarded has (stay caller) m.goes;
    })
    step

-- an exchange from p to q that is won, and after which the caller may stand and weighs what it did
pub record WinsTo (g : Geometry) (s : State) (caller : ℕ) (p q : Point) (n : WordName) (expected new : ℕ) : Type 0 where
  pub plan : plan_point_of p ≡ Cas n expected new
  pub next : next_of p (won_with (s.word n)) ≡ At q
  pub event : event_of caller p (won_with (s.word n)) ≡ None
  pub cleared : counts_cleared p (won_with (s.word n)) ≡ false
  pub weighs : WeighFrom n expected new p q
  pub goes : (l : Lists) → IsSoundWith g s l → PointGoes g s l caller p q
  pub actives : (l : Lists) → IsSoundWith g s l → (words' : WordName → ℕ) → Writes s.word n new words' → ActivesKept g s words'

-- an exchange that is won and leads on keeps the state sound
pub won-at :
    (g : Geometry) (s : State) (caller : ℕ) (s' : State) (p q : Point) (n : WordName) (expected new : ℕ) → IsSoundWithoutCounts g s → caller < g.callers
    → (s.errand caller).point ≡ p → WinsTo g s caller p q n expected new → s.word n ≡ expected → Step s caller s' → IsSoundWithoutCounts g s'
won-at g s caller s' p q n expected new sound has stands h is step =
    let won : (s.word n == expected) ≡ true = eq-eqb (s.word n) expected is in
    let found : found_from s p ≡ won_with (s.word n) =
    ap (λ a. found_by a (s.word (name_of a))) h.plan ∙ ap (λ b. record { value = s.word n; won = b }) won in
    let after : after_action (Cas n expected new) (s.word n) ≡ new = cond-true {A = ℕ} (s.word n == expected) new (s.word n) won in
    step-from g s caller s' p (At q) tt sound has stands
    (λ l old. record {
      next = ap (next_of p) found ∙ h.next;
      event = ap (event_of caller p) found ∙ h.event;
      cleared = ap (counts_cleared p) found ∙ h.cleared;
      goes = h.goes l old;
      weigh = rw (h.plan, after, is) h.weighs;
      actives = λ words' w.
          h.actives l old words'
          (subst (λ v. Writes s.word n v words') after
          (subst (λ a. Writes s.word (name_of a) (after_action a (s.word (name_of a))) words') h.plan w));
    })
    step
