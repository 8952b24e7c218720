-- A step that leaves all words and tells a look or a refusal.
use Rattle.std.proofs.Common.{ℕ, Some, ◌≡◌, ◌<◌, ◌≤◌, ◌+◌, ◌*◌, [], ◌∷◌, ◌++◌, refl, arith, ap, sym, subst, ◌∙◌}
use Rattle.sound_state.proofs.Common.{Geometry, CLASSES, anchor_of, info_of, WordName, descriptor_count, after_action, Event, IsLegalWithoutCounts, ErrandFields, settle_of}
use Rattle.sound_state.proofs.Common.{State, Step, Moves, action_at, name_at, word_at, found_at, with_event, errand_frames, waiting, on_its_way, word_keeps, errand_has}
use Rattle.sound_state.proofs.Common.{full_keeps, Lists, IsSoundWith, IsSoundWithoutCounts, word_stock, full_stock, errand_stock, sum_below, info_or_zero, word_reserves}
use Rattle.sound_state.proofs.Common.{errand_reserves, errand_keeps, errand_away, away_of, emptied_out, caller_of, IsAllowed, IsLegalEventWithoutCounts, EachAfter-push}
use Rattle.sound_state.proofs.Common.{event_at, stock_of, IsFormed}
use Rattle.word_table.specs.declared.name.WordName.TheVariants as name
use Rattle.sound_state.proofs.shared.AlikeLemmas.{Alike}
use Rattle.sound_state.proofs.shared.ShownLemmas.{MayGoOn, MayGuard}
use Rattle.sound_state.proofs.shared.StepLemmas.{actives-stay, words-stay}
use Rattle.sound_state.proofs.shared.SumLemmas.{words-same, callers-moved, sum-same}
use Rattle.sound_state.proofs.tellings.TellLemmas.{IsTold, told_state}
use Rattle.sound_state.proofs.shared.KeepsSound.{stepped-sound}
use Rattle.sound_state.proofs.SoundAfter.{told-sound, IsSoundBut}
use Rattle.sound_state.proofs.SoundSteps.{sound-but}

-- the new errand weighs what the old one did; it may have retired what was on its way
pub record WeighTold (a b : ErrandFields) : Type 0 where
  pub reserves : (d : ℕ) → errand_reserves d b ≡ errand_reserves d a
  pub waits : (d : ℕ) → errand_keeps waiting d b ≡ errand_keeps waiting d a
  pub ways : (d : ℕ) → errand_keeps on_its_way d b ≤ errand_keeps on_its_way d a
  pub away : (d : ℕ) → errand_away d b ≡ errand_away d a
  pub places : (d : ℕ) → errand_has d b ≡ errand_has d a
  pub frames : (f : ℕ) → errand_frames f b ≡ errand_frames f a

-- the class has a descriptor for what a caller keeps or waits for after the step
abbrev pub StockFor : Geometry → State → Lists → ErrandFields → ErrandFields → Type 0
StockFor g s l a b =
    (class : ℕ) → class < CLASSES
    → stock_of g s l class + errand_stock class b ≤ g.frames + g.heaps + 2 * g.callers + errand_stock class a

-- a caller tells the event and goes on with this errand
pub record TellsOn (g : Geometry) (s : State) (l : Lists) (caller : ℕ) (event : Event) (e : ErrandFields) : Type 0 where
  pub told : IsTold g caller event
  pub weigh : WeighTold (s.errand caller) e
  pub may : MayGoOn g (told_state s event) l caller (s.errand caller) e
  pub guards : MayGuard g (told_state s event) caller e.point e.retired (s.word (name.Hazard caller))
  pub cleared : e.cleared ≡ (s.errand caller).cleared
  pub stock : StockFor g s l (s.errand caller) e

-- as many descriptors are away after a step that tells a look or a refusal
told-away :
    (g : Geometry) (s : State) (l : Lists) (caller : ℕ) (e : ErrandFields) (s' : State) → caller < g.callers → Moves s.errand caller e s'.errand
    → WeighTold (s.errand caller) e → (d : ℕ) → away_of g s' l d ≡ away_of g s l d
told-away g s l caller e s' has m weigh d = omega (arith, callers-moved g (errand_away d) s.errand caller e s'.errand has m, weigh.away d)

told-alike :
    (g : Geometry) (s : State) (l : Lists) (caller : ℕ) (event : Event) (e : ErrandFields) (s' : State) → caller < g.callers
    → ((n : WordName) → s'.word n ≡ s.word n) → Moves s.errand caller e s'.errand → s'.history ≡ s.history ++ event ∷ []
    → WeighTold (s.errand caller) e → StockFor g s l (s.errand caller) e → Alike g (told_state s event) l s'
told-alike g s l caller event e s' has same m past weigh room =
    let words = λ (weight : WordName → ℕ → ℕ). words-same g weight s.word s'.word same in
    let callers = λ (weight : ErrandFields → ℕ). callers-moved g weight s.errand caller e s'.errand has m in
    let anchor = λ (d : ℕ). ap anchor_of (same (name.Anchor d)) in
    record {
      word = λ n plain. same n;
      history = past;
      reserved = λ d. omega (arith, words (word_reserves d), callers (errand_reserves d), weigh.reserves d);
      waits = λ d. omega (arith, callers (errand_keeps waiting d), weigh.waits d);
      ways = λ d. omega (arith, callers (errand_keeps on_its_way d), weigh.ways d);
      bound = λ d. rw (told-away g s l caller e s' has m weigh d, anchor d) refl;
      places = λ d. omega (arith, words (word_keeps d), callers (errand_has d), weigh.places d, ap (λ a. full_keeps a.state) (anchor d));
      frames = λ f. omega (arith, callers (errand_frames f), weigh.frames f);
      stock = λ stocked.
          record {
            most = λ class is.
                let full : sum_below (descriptor_count g) (full_stock s' class) ≡ sum_below (descriptor_count g) (full_stock s class) =
                sum-same (descriptor_count g) (full_stock s class) (full_stock s' class)
                (λ d lt. rw (anchor d, ap (λ x. info_or_zero (info_of x)) (same (name.Info d))) refl) in
                omega (arith, words (word_stock class), callers (errand_stock class), full, room class is);
          };
    }

-- the state after a step that tells the event and leaves all words is sound
tells-on :
    (g : Geometry) (s : State) (l : Lists) (caller : ℕ) (event : Event) (e : ErrandFields) (s' : State) → IsSoundWith g s l → caller < g.callers
    → ((n : WordName) → s'.word n ≡ s.word n) → Moves s.errand caller e s'.errand → s'.history ≡ s.history ++ event ∷ []
    → TellsOn g s l caller event e → IsFormed g s' → IsSoundWith g s' l
tells-on g s l caller event e s' sound has same m past tells formed =
    let t = told_state s event in
    let but : IsSoundBut g t l caller = told-sound g s l caller event tells.told has sound in
    sound-but g t l caller e s'
    (record {
      in_heap = has;
      moves = record { here = m.here; elsewhere = m.elsewhere };
      alike = told-alike g s l caller event e s' has same m past tells.weigh tells.stock;
      may = tells.may;
      others = λ i differ. same (name.Hazard i);
      guards = subst (λ w. MayGuard g t caller e.point e.retired w) (sym (same (name.Hazard caller))) tells.guards;
      actives = actives-stay g t l s'.word but.kept same;
      emptied =
          let out : sum_below (descriptor_count g) (emptied_out g s' l) ≡ sum_below (descriptor_count g) (emptied_out g s l) =
          sum-same (descriptor_count g) (emptied_out g s l) (emptied_out g s' l)
          (λ d lt. rw (told-away g s l caller e s' has m tells.weigh d, ap anchor_of (same (name.Anchor d))) refl) in
          omega (arith, out, tells.cleared);
    })
    but formed

-- a step that tells such an event keeps the state sound
pub step-tells :
    (g : Geometry) (s : State) (caller : ℕ) (event : Event) (e : ErrandFields) (s' : State) → IsSoundWithoutCounts g s → caller < g.callers
    → settle_of (s.errand caller) (found_at s caller) ≡ e → event_at s caller ≡ Some event
    → after_action (action_at s caller) (word_at s caller) ≡ word_at s caller → IsAllowed g s.history event
    → ((l : Lists) → IsSoundWith g s l → TellsOn g s l caller event e) → Step s caller s' → IsSoundWithoutCounts g s'
step-tells g s caller event e s' sound has after said stays allowed tells step =
    let l = sound.parts.0 in
    let old = sound.parts.1 in
    let to = tells l old in
    let past : s'.history ≡ s.history ++ event ∷ [] = step.history ∙ ap (with_event s.history) said in
    let moves : Moves s.errand caller e s'.errand = subst (λ f. Moves s.errand caller f s'.errand) after step.errand in
    let mine : caller_of event < g.callers = subst (λ i. i < g.callers) (sym to.told.number) has in
    stepped-sound g s caller s' l sound has step
    (subst (IsLegalWithoutCounts g) (sym past) (EachAfter-push (IsLegalEventWithoutCounts g) s.history event sound.legal (mine, allowed)))
    (tells-on g s l caller event e s' old has (words-stay s.word (name_at s caller) _ s'.word step.word stays) moves past to)
