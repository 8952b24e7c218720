-- A step keeps what bounds the turns by the installs.
use Rattle.std.proofs.Common.{ℕ, false, Some, ◌≡◌, ◌≢◌, ◌<◌, ◌≤◌, ◌+◌, List, length, take, drop, refl, arith, ap, sym, subst, inl, inr, ◌∙◌, ◌&&◌, not, Any, count_by}
use Rattle.std.proofs.Common.{IsTrue, eq-eqb, ne_eqb, take_all}
use Rattle.std.proofs.lemmas.Bool.{cases_Bool, cond-true, cond-false}
use Rattle.sound_state.proofs.Common.{Geometry, Null, active_word, after_action, cases_name, ErrandFields, FitsPoint, State, Step, action_at, name_at, word_at, found_at}
use Rattle.sound_state.proofs.Common.{turn_stage_of, one_if, gives_small, refuses_small, is_seeking, turn_unanswered, errand_discards, with_errands}
use Rattle.errand_steps.specs.tables.Expected.{Expected}
use Rattle.sound_laws.specs.bounds.Expectations.{expects_of}
use Rattle.sound_laws.specs.bounds.Installs.{IsInstalled, HoldsSince, IsInstalledSince, IsActiveName, installs_by, installs_against, installs_on, errand_offers}
use Rattle.sound_laws.specs.bounds.Wins.{Win, Wins, win_at, wins_after, win_list_after, found_none_by, is_between}
use Rattle.sound_state.proofs.shared.CallerLemmas.{each-other}
use Rattle.sound_state.proofs.shared.ListFacts.{any-none}
use Rattle.sound_laws.proofs.bounds_lemmas.ActiveChanges.{active-change, seeks-inside}
use Rattle.sound_laws.proofs.bounds_lemmas.InstallCounts.{on-against, other-install, installs-there}
use Rattle.sound_laws.proofs.bounds_lemmas.CountLemmas.{counted, count-win, take-win, drop-win}
use Rattle.sound_laws.proofs.bounds_lemmas.InstallPoints.{looks-only, found_none-looks, found_none-seeks, found_none-from, LosesNew, loses-new}
use Rattle.sound_laws.proofs.bounds_lemmas.TurnWins.{settled, Turned, step-turned, own-after, stay-after, own-turns}
use Rattle.sound_laws.proofs.bounds_lemmas.StepWins.{list-least}
use Rattle.sound_laws.proofs.bounds_lemmas.ExpectLemmas.{in-all}
use Rattle.sound_laws.proofs.bounds_lemmas.WinDefs.{IsCarried, IsSeen, offers_new, looks_active}
use Rattle.sound_laws.proofs.bounds_lemmas.NoteLemmas.{ExpectsAfter}

-- what the step sees or leaves of an active word is as expected
seen-installed :
    (s : State) (caller : ℕ) (s' : State) (list : List Win) (n : ℕ) (e : Expected) → Step s caller s'
    → IsSeen (action_at s caller) (found_at s caller) e → IsInstalledSince s' list caller n e
seen-installed s caller s' list n e step seen = λ active null differs. absurd (differs (ap s'.word seen.word ∙ step.word.here ∙ seen.value))

-- what a caller expected of another active word than the step's is as expected, or another has installed there since
carried-installed :
    (s : State) (w : Wins) (caller : ℕ) (s' : State) (n : ℕ) (e : Expected) → Step s caller s' → HoldsSince s w caller n
    → IsCarried (s.errand caller).point (name_at s caller) e → IsInstalledSince s' (win_list_after s caller w.list) caller n e
carried-installed s w caller s' n e step since carried = λ active null differs.
    let same : s'.word e.word ≡ s.word e.word = step.word.elsewhere e.word carried.1 in
    let before : 0 < count_by (installs_on caller e.word) (drop n w.list) =
    in-all (IsInstalledSince s w.list caller n) (expects_of (s.errand caller).point) e since.installed carried.0 active null (λ is. differs (same ∙ is)) in
    omega (arith, before, drop-win (installs_on caller e.word) n w.list (win_at s caller) since.past)

-- the discards of a caller are at most the installs of others since its note, after its step
discards-after :
    (s : State) (w : Wins) (caller : ℕ) (s' : State) (n : ℕ) → Turned s caller s' → HoldsSince s w caller n
    → errand_discards (settled s caller) ≤ count_by (installs_against caller) (drop n (win_list_after s caller w.list))
discards-after s w caller s' n h since =
    let p = (s.errand caller).point in
    let longer = drop-win (installs_against caller) n w.list (win_at s caller) since.past in
    elim (cases_Bool (offers_new p && not (found_at s caller).won)) [
      | inl lost ↦
          let loses : LosesNew p (word_at s caller) (IsInstalledSince s w.list caller n) =
          loses-new p (word_at s caller) (IsInstalledSince s w.list caller n) lost since.installed in
          let before : 0 < count_by (installs_on caller (name_at s caller)) (drop n w.list) = loses.expected loses.active refl loses.some in
          let one : one_if (offers_new p && not (found_at s caller).won) ≡ 1 = ap one_if lost in
          omega (arith, h.settles.to.discards, h.goes.discards, loses.discards, one, before, on-against caller (name_at s caller) (drop n w.list), longer)
      | inr kept ↦
          let none : one_if (offers_new p && not (found_at s caller).won) ≡ 0 = ap one_if kept in
          omega (arith, h.settles.to.discards, h.goes.discards, none, since.discards, longer)
    ]

-- what HoldsSince says, where the caller's errand is this one
abbrev pub SinceBy : State → Wins → ℕ → ℕ → ErrandFields → Type 0
SinceBy s w caller n e = HoldsSince (with_errands s (λ i. e)) w caller n

-- what HoldsSince says of an errand holds of the caller's own
pub holds-since : (s : State) (w : Wins) (caller n : ℕ) → SinceBy s w caller n (s.errand caller) → HoldsSince s w caller n
holds-since s w caller n h = record { past = h.past; turns = h.turns; installed = h.installed; discards = h.discards }

-- a caller that still is in its turn after a step keeps what held since its note
still-since :
    (s : State) (w : Wins) (caller : ℕ) (s' : State) (n : ℕ) → Turned s caller s' → Step s caller s' → HoldsSince s w caller n
    → is_between (settled s caller).point ≡ false → ExpectsAfter s caller → SinceBy s' (wins_after s caller w) caller n (settled s caller)
still-since s w caller s' n h step since inside expects = record {
  past = omega (arith, since.past, list-least s caller w.list);
  turns = rw (take-win n w.list (win_at s caller) since.past) (stay-after s caller s' (count_by (installs_against caller) (take n w.list)) h inside since.turns);
  installed = λ k d lt.
      elim (expects k d lt) [
        | inl carried ↦ carried-installed s w caller s' n _ step since carried
        | inr seen ↦ seen-installed s caller s' (win_list_after s caller w.list) n _ step seen
      ];
  discards = discards-after s w caller s' n h since;
}

-- a caller that finds no superblock active now notes so, and it holds since
newly-since :
    (g : Geometry) (s : State) (w : Wins) (caller : ℕ) (s' : State) → caller < g.callers → Turned s caller s' → Step s caller s' → IsInstalled g s w
    → IsTrue (looks_active (s.errand caller).point) → ExpectsAfter s caller
    → SinceBy s' (wins_after s caller w) caller (length (win_list_after s caller w.list)) (settled s caller)
newly-since g s w caller s' has h step old looks expects =
    let list = win_list_after s caller w.list in
    let only = looks-only (s.errand caller).point looks in
    record {
      past = omega arith;
      turns = rw (take_all (length list) list (omega arith)) (own-turns g s w caller s' has h old);
      installed = λ k d lt.
          elim (expects k d lt) [
            | inl carried ↦ absurd (any-none (λ x. x ≡ _) (subst (Any (λ x. x ≡ _)) only.expects carried.0))
            | inr seen ↦ seen-installed s caller s' list (length list) _ step seen
          ];
      discards =
          let none : one_if (offers_new (s.errand caller).point && not (found_at s caller).won) ≡ 0 = ap (λ b. one_if (b && not (found_at s caller).won)) only.offer in
          omega (arith, h.settles.to.discards, h.goes.discards, only.discards, none);
    }

-- a step leaves what another caller expects of an active word, or installs a superblock there
other-installed :
    (s : State) (w : Wins) (caller : ℕ) (s' : State) (i n : ℕ) (e : Expected) → Step s caller s' → i ≢ caller → n ≤ length w.list
    → IsInstalledSince s w.list i n e → IsInstalledSince s' (win_list_after s caller w.list) i n e
other-installed s w caller s' i n e step ne past installed active null differs =
    let longer = drop-win (installs_on i e.word) n w.list (win_at s caller) past in
    elim (cases_name e.word (name_at s caller)) [
      | inl is ↦
          let some : after_action (action_at s caller) (word_at s caller) ≢ active_word Null = λ same. differs (ap s'.word is ∙ step.word.here ∙ same ∙ sym null) in
          elim (active-change (s.errand caller).point (word_at s caller) (subst IsActiveName is active) some) [
            | inl was ↦ omega (arith, installed active null (λ same. was (sym (ap s.word is) ∙ same ∙ null)), longer)
            | inr won ↦
                let one : counted (installs_on i e.word) (win_at s caller) ≡ 1 =
                subst (λ m. counted (installs_on i m) (win_at s caller) ≡ 1) (sym is) (installs-there s caller i ne won.0 won.1) in
                omega (arith, one, longer)
          ]
      | inr apart ↦ omega (arith, installed active null (λ same. differs (step.word.elsewhere e.word apart ∙ same)), longer)
    ]

-- a step keeps what holds since another caller's note
other-since :
    (s : State) (w : Wins) (caller : ℕ) (s' : State) (i n : ℕ) → Turned s caller s' → Step s caller s' → i ≢ caller → HoldsSince s w i n
    → SinceBy s' (wins_after s caller w) i n (s.errand i)
other-since s w caller s' i n h step ne since = record {
  past = omega (arith, since.past, list-least s caller w.list);
  turns = rw (take-win n w.list (win_at s caller) since.past) (omega (arith, since.turns, h.gives i, h.refuses i));
  installed = λ k d lt. other-installed s w caller s' i n _ step ne since.past (since.installed k d lt);
  discards = omega (arith, since.discards, drop-win (installs_against i) n w.list (win_at s caller) since.past);
}

-- what its caller has noted after a step of finding none active; what another caller has noted
found_none-own :
    (s : State) (w : Wins) (caller n : ℕ) → (wins_after s caller w).found_none caller ≡ Some n
    → (is_between (settled s caller).point ≡ false)
    × (found_none_by (s.errand caller).point (found_at s caller) (length (win_list_after s caller w.list)) (w.found_none caller) ≡ Some n)
found_none-own s w caller n is =
    let own = rw (eq-eqb caller caller refl) at is in
    elim (cases_Bool (is_between (settled s caller).point)) [
      | inl between ↦ let none = rw between at own in absurd (cc)
      | inr inside ↦ (inside, rw inside at own)
    ]

-- what its caller notes in a step is its note afterwards; another caller's note stays
own-note :
    (s : State) (w : Wins) (caller n : ℕ) → is_between (settled s caller).point ≡ false
    → found_none_by (s.errand caller).point (found_at s caller) (length (win_list_after s caller w.list)) (w.found_none caller) ≡ Some n
    → (wins_after s caller w).found_none caller ≡ Some n
own-note s w caller n inside is = cond-true _ _ _ (eq-eqb caller caller refl) ∙ cond-false _ _ _ inside ∙ is

other-note : (s : State) (w : Wins) (caller i : ℕ) → i ≢ caller → (wins_after s caller w).found_none i ≡ w.found_none i
other-note s w caller i ne = cond-false _ _ _ (ne_eqb i caller ne)

-- what a caller has noted after its step holds since so many wins
own-since :
    (g : Geometry) (s : State) (w : Wins) (caller : ℕ) (s' : State) (n : ℕ) → caller < g.callers → Turned s caller s' → Step s caller s' → IsInstalled g s w
    → ExpectsAfter s caller → (wins_after s caller w).found_none caller ≡ Some n → SinceBy s' (wins_after s caller w) caller n (settled s caller)
own-since g s w caller s' n has h step old expects is =
    let own = found_none-own s w caller n is in
    elim (found_none-from (s.errand caller).point (found_at s caller) (length (win_list_after s caller w.list)) (w.found_none caller) n own.1) [
      | inl before ↦ still-since s w caller s' n h step (old.since caller n has before) own.0 expects
      | inr looks ↦
          subst (λ m. SinceBy s' (wins_after s caller w) caller m (settled s caller)) (sym looks.1)
          (newly-since g s w caller s' has h step old looks.0 expects)
    ]

-- a caller that seeks a superblock after its step has noted when it found none active
own-seeking :
    (g : Geometry) (s : State) (w : Wins) (caller : ℕ) (s' : State) → caller < g.callers → Turned s caller s' → IsInstalled g s w
    → IsTrue (is_seeking (turn_stage_of (settled s caller).point)) → (n : ℕ) × ((wins_after s caller w).found_none caller ≡ Some n)
own-seeking g s w caller s' has h old seeks =
    let inside = seeks-inside (settled s caller).point seeks in
    let list = win_list_after s caller w.list in
    elim (h.goes.seeks (h.settles.to.seeks seeks)) [
      | inl sought ↦
          let noted = old.found caller has sought in (
            noted.0,
            own-note s w caller noted.0 inside
                (found_none-seeks (s.errand caller).point (found_at s caller) (length list) (w.found_none caller) sought ∙ noted.1),
          )
      | inr looks ↦ (
        length list,
        own-note s w caller (length list) inside
            (found_none-looks (s.errand caller).point (found_at s caller) (length list) (w.found_none caller) looks.0 looks.1),
      )
    ]

-- each step keeps what bounds turns by installs, where what its caller expects after it is carried or seen
pub step-installed :
    (g : Geometry) (s : State) (w : Wins) (caller : ℕ) (s' : State) → caller < g.callers → FitsPoint g caller (s.errand caller).point → Step s caller s'
    → IsInstalled g s w → ExpectsAfter s caller → IsInstalled g s' (wins_after s caller w)
step-installed g s w caller s' has fits step old expects =
    let h = step-turned g s caller s' fits step in
    let list = win_list_after s caller w.list in
    record {
      own =
          each-other g (λ i e. count_by (installs_by i) list + errand_offers e ≤ count_by (gives_small i) s'.history)
          s.errand caller (settled s caller) s'.errand step.errand
          (own-after g s w caller s' has h old)
          (λ i has_i ne. omega (arith, old.own i has_i, h.gives i, count-win (installs_by i) w.list (win_at s caller), other-install s caller i ne));
      turns =
          each-other g
          (λ i e. e.turns ≤ count_by (gives_small i) s'.history + count_by (refuses_small i) s'.history + count_by (installs_against i) list + turn_unanswered e)
          s.errand caller (settled s caller) s'.errand step.errand
          (own-turns g s w caller s' has h old)
          (λ i has_i ne. omega (arith, old.turns i has_i, h.gives i, h.refuses i, count-win (installs_against i) w.list (win_at s caller)));
      found =
          each-other g (λ i e. IsTrue (is_seeking (turn_stage_of e.point)) → (n : ℕ) × ((wins_after s caller w).found_none i ≡ Some n))
          s.errand caller (settled s caller) s'.errand step.errand
          (own-seeking g s w caller s' has h old)
          (λ i has_i ne seeks. let noted = old.found i has_i seeks in (noted.0, other-note s w caller i ne ∙ noted.1));
      since = λ i n has_i is.
          holds-since s' (wins_after s caller w) i n
          (each-other g (λ i e. (n : ℕ) → (wins_after s caller w).found_none i ≡ Some n → SinceBy s' (wins_after s caller w) i n e)
          s.errand caller (settled s caller) s'.errand step.errand
          (λ n is. own-since g s w caller s' n has h step old expects is)
          (λ i has_i ne n is. other-since s w caller s' i n h step ne (old.since i n has_i (sym (other-note s w caller i ne) ∙ is))) i has_i n is);
    }
