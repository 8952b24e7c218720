-- A credit is taken, and reserved blocks are offered.
use Rattle.std.proofs.Common.{ℕ, zero, suc, false, Some, ◌≡◌, ◌≢◌, ◌<◌, ◌+◌, ◌-◌, [], refl, arith, ap, sym, subst, ◌∙◌, eq-eqb, ne_eqb, ◌==◌, All, IsTrue}
use Rattle.std.proofs.Common.{if◌then◌else◌}
use Rattle.std.proofs.lemmas.Bool.{cond-true, cond-false}
use Rattle.std.proofs.lemmas.List.Elements.{All-nil, All-cons, All-head}
use Rattle.sound_state.proofs.Common.{Geometry, IsChecked, Null, Held, active_word, active_of, Site, descriptor_count, SeatFields, active_name, Exists, Credit}
use Rattle.sound_state.proofs.Common.{LastCredit, Continuation, Point, Block, At, event_of, next_of, plan_point_of, State, Step, Kept, holds_of, reserving, IsKeptAs}
use Rattle.sound_state.proofs.Common.{word_keeps, Lists, IsSo, recalls_of, IsSoundWithoutCounts, IsSoundWith, is_bound, IsActiveWord, Cas, heap_of, IsActive}
use Rattle.step_parts.specs.declared.superblock.point.BlockPoint.TheVariants as block
use Rattle.sound_state.proofs.shared.PointLemmas.{alike-goes, fits-at, fits-now, goes-on}
use Rattle.sound_state.proofs.quiet.QuietExchanges.{lost-onward}
use Rattle.sound_state.proofs.shared.CreditLemmas.{actives-written, active-bound, word-keeps-away}
use Rattle.sound_state.proofs.shared.WordFacts.{held-fits, held-said, held-not-zero, null-none, null-said, seat-active, held-desc}
use Rattle.sound_state.proofs.shared.KeepsSound.{KeepsSound, KeepsSoundWhere, either-sound}
use Rattle.sound_state.proofs.SoundSteps.{won-at}

-- the active word that gives a credit held an active, bound superblock of its class
credit-held :
    (g : Geometry) (s : State) (l : Lists) (caller : ℕ) (seat : SeatFields) (d credits : ℕ) (o : Continuation) → IsChecked g → IsSoundWith g s l
    → caller < g.callers → (s.errand caller).point ≡ Block (block.TakeCredit seat d credits) o
    → s.word (active_name seat) ≡ active_word (Held d credits)
    → Exists g (active_name seat) × IsActiveWord (Held d credits) × (d < descriptor_count g) × IsActive s d seat.class × IsTrue (is_bound g s l d)
credit-held g s l caller seat d credits o checked old has stands is =
    let fit = (fits-at g s l caller (Block (block.TakeCredit seat d credits) o) old has stands).point in
    let exists : Exists g (active_name seat) = seat-active g caller seat checked fit.0.seat in
    let word : IsActiveWord (Held d credits) = held-fits g d credits checked fit.0.desc fit.1 in
    let says : active_of (s.word (active_name seat)) ≡ Some (Held d credits) = ap active_of is ∙ held-said d credits word in
    let active = old.kept.active (heap_of seat) seat.class d credits exists.0 exists.1 says in
    let keeps : word_keeps d (active_name seat) (s.word (active_name seat)) ≡ 1 = rw says (cond-true {A = ℕ} (d == d) 1 0 (eq-eqb d d refl)) in (
      exists,
      word,
      active.0,
      active.1,
      active-bound g s l d seat.class (word-keeps-away g s l d (active_name seat) old.kept active.0 exists keeps) active.1,
    )

-- the won take of the last credit keeps the state sound: the word becomes null, and the caller keeps the descriptor
take_credit-last :
    (seat : SeatFields) (d : ℕ) (o : Continuation)
    → KeepsSoundWhere (Block (block.TakeCredit seat d 0) o) (λ s. s.word (active_name seat) ≡ active_word (Held d 0))
unfolding plan_point_of next_of event_of holds_of recalls_of
take_credit-last seat d o g s caller s' sound has stands is step =
    let p : Point = Block (block.TakeCredit seat d 0) o in
    let fit = credit-held g s sound.parts.0 caller seat d 0 o sound.checked sound.parts.1 has stands is in
    let null = null-said in
    let held = held-said d 0 fit.1 in
    let some = held-not-zero d 0 in
    won-at g s caller s' p (Block (block.LoadInfo seat d LastCredit) o) (active_name seat) (active_word (Held d 0)) (active_word Null) sound has stands
    (record {
      plan = refl;
      next = refl;
      event = refl;
      cleared = refl;
      weighs = record {
        still = λ plain. absurd plain;
        reserves = λ e. rw (null, held) (grind (arith));
        waits = λ e. grind (arith);
        ways = λ e. grind (arith);
        places = λ e. rw (null, held) (grind (arith));
        frames = λ f. refl;
        stock = λ class. rw (null-none, some) (grind (arith));
      };
      goes = λ l old.
          let old_fit = credit-held g s l caller seat d 0 o sound.checked old has stands is in
          alike-goes g s l caller p _ old has stands (grind (arith))
          (All-cons (λ (k : Kept). IsKeptAs s k.status k.desc k.class) (record { desc = d; class = seat.class; status = reserving }) []
          old_fit.3 (All-nil _))
          (All-cons (IsSo g s l caller) _ [] (old_fit.4, old_fit.3.class) (All-nil (IsSo g s l caller)));
      actives = λ l old words' w.
          actives-written g s l (heap_of seat) seat.class (active_word Null) words' old.kept w (rw null refl)
          (λ e credits says. absurd (let bad : Some Null ≡ Some (Held e credits) = sym null ∙ says in cc));
    })
    is step

-- the won take of a credit that isn't the last one keeps the state sound
take_credit-more :
    (g : Geometry) (s : State) (caller : ℕ) (s' : State) (seat : SeatFields) (d credits : ℕ) (o : Continuation) → IsSoundWithoutCounts g s → caller < g.callers
    → (s.errand caller).point ≡ Block (block.TakeCredit seat d credits) o → s.word (active_name seat) ≡ active_word (Held d credits)
    → credits ≢ 0 → Step s caller s' → IsSoundWithoutCounts g s'
unfolding plan_point_of next_of event_of holds_of recalls_of
take_credit-more g s caller s' seat d credits o sound has stands is some_left step =
    let left : ℕ = credits - 1 in
    let one : credits ≡ left + 1 = omega (arith, some_left) in
    let none : (credits == 0) ≡ false = ne_eqb credits 0 some_left in
    let p : Point = Block (block.TakeCredit seat d credits) o in
    let fit = credit-held g s sound.parts.0 caller seat d credits o sound.checked sound.parts.1 has stands is in
    let fit_less : IsActiveWord (Held d left) = (fit.1.0, omega (arith, fit.1.1)) in
    let less = held-said d left fit_less in
    let held = held-said d credits fit.1 in
    let some = held-not-zero d credits in
    let some_less = held-not-zero d left in
    won-at g s caller s' p (Block (block.LoadInfo seat d Credit) o) (active_name seat) (active_word (Held d credits)) (active_word (Held d left))
    sound has stands
    (record {
      plan = ap (Cas (active_name seat) (active_word (Held d credits))) (cond-false {A = ℕ} (credits == 0) (active_word Null) (active_word (Held d left)) none);
      next = ap (λ b. At (Block (block.LoadInfo seat d (if b then LastCredit else Credit)) o)) none;
      event = refl;
      cleared = refl;
      weighs = record {
        still = λ plain. absurd plain;
        reserves = λ e. rw (less, held) (grind (arith, one));
        waits = λ e. refl;
        ways = λ e. refl;
        places = λ e. rw (less, held) (grind (arith, one));
        frames = λ f. refl;
        stock = λ class. rw (some_less, some) (grind (arith));
      };
      goes = λ l old.
          let old_fit = credit-held g s l caller seat d credits o sound.checked old has stands is in
          alike-goes g s l caller p _ old has stands (grind (arith)) (All-nil _)
          (All-cons (IsSo g s l caller) _ [] (old_fit.4, old_fit.3.class) (All-nil (IsSo g s l caller)));
      actives = λ l old words' w.
          let old_fit = credit-held g s l caller seat d credits o sound.checked old has stands is in
          actives-written g s l (heap_of seat) seat.class (active_word (Held d left)) words' old.kept w (rw less refl)
          (λ e others says.
          let same : d ≡ e = held-desc d left e others (sym less ∙ says) in
          (subst (λ k. k < descriptor_count g) same old_fit.2, subst (λ k. IsActive s k seat.class) same old_fit.3));
    })
    is step

-- the won take of a credit, the last one or not, keeps the state sound
take_credit-won :
    (seat : SeatFields) (d credits : ℕ) (o : Continuation)
    → KeepsSoundWhere (Block (block.TakeCredit seat d credits) o) (λ s. s.word (active_name seat) ≡ active_word (Held d credits))
take_credit-won seat d zero o = take_credit-last seat d o
take_credit-won seat d (suc left) o =
    λ g s caller s' sound has stands is step.
    take_credit-more g s caller s' seat d (suc left) o sound has stands is (omega arith) step

pub take_credit-sound : (seat : SeatFields) (d credits : ℕ) (o : Continuation) → KeepsSound (Block (block.TakeCredit seat d credits) o)
unfolding plan_point_of next_of event_of holds_of recalls_of
take_credit-sound seat d credits o =
    either-sound _ _ _ (take_credit-won seat d credits o) (lost-onward _ _ _ _ refl (λ w. refl) (λ w. grind (arith)))

-- the won offer of reserved blocks keeps the state sound: they and the descriptor go into the word
install_credits-won :
    (site : Site) (i more : ℕ) (o : Continuation)
    → KeepsSoundWhere (Block (block.InstallCredits site i more) o) (λ s. s.word (active_name site.seat) ≡ active_word Null)
unfolding plan_point_of next_of event_of holds_of recalls_of
install_credits-won site i more o g s caller s' sound has stands is step =
    let p : Point = Block (block.InstallCredits site i more) o in
    let d : ℕ = site.desc in
    let fit = (fits-now g s caller p sound has stands).point in
    let word : IsActiveWord (Held d (more - 1)) = held-fits g d (more - 1) sound.checked fit.0.site.desc (omega (arith, fit.1.0, fit.1.1)) in
    let some_more : more ≡ more - 1 + 1 = omega (arith, fit.1.0) in
    let null = null-said in
    let held = held-said d (more - 1) word in
    let some = held-not-zero d (more - 1) in
    won-at g s caller s' p (Block (block.StorePrefix site i) o) (active_name site.seat) (active_word Null) (active_word (Held d (more - 1))) sound has stands
    (record {
      plan = refl;
      next = refl;
      event = refl;
      cleared = refl;
      weighs = record {
        still = λ plain. absurd plain;
        reserves = λ e. rw (null, held) (grind (arith, some_more));
        waits = λ e. grind (arith);
        ways = λ e. grind (arith);
        places = λ e. rw (null, held) (grind (arith));
        frames = λ f. refl;
        stock = λ class. rw (null-none, some) (grind (arith));
      };
      goes = λ l old.
          alike-goes g s l caller p _ old has stands (grind (arith)) (All-nil _)
          (goes-on g s l caller p (recalls_of (Block (block.StorePrefix site i) o)) old has stands (λ so. grind (arith, so)));
      actives = λ l old words' w.
          let kept : IsActive s d site.seat.class =
          All-head (λ (k : Kept). IsKeptAs s k.status k.desc k.class) (record { desc = d; class = site.seat.class; status = reserving }) []
          (subst (λ r. All (λ k. IsKeptAs s k.status k.desc k.class) (holds_of r).kept) stands (old.kept.errand caller has)) in
          actives-written g s l (heap_of site.seat) site.seat.class (active_word (Held d (more - 1))) words' old.kept w (rw held refl)
          (λ e credits says.
          let same : d ≡ e = held-desc d (more - 1) e credits (sym held ∙ says) in
          (subst (λ k. k < descriptor_count g) same fit.0.site.desc, subst (λ k. IsActive s k site.seat.class) same kept));
    })
    is step

pub install_credits-sound : (site : Site) (i more : ℕ) (o : Continuation) → KeepsSound (Block (block.InstallCredits site i more) o)
unfolding plan_point_of next_of event_of holds_of recalls_of
install_credits-sound site i more o =
    either-sound _ _ _ (install_credits-won site i more o) (lost-onward _ _ _ _ refl (λ w. refl) (λ w. grind (arith)))
