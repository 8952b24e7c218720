-- A step keeps what the callers have noted of each other's wins.
use Rattle.std.proofs.Common.{ℕ, Bool, true, false, Option, ◌≡◌, ◌≢◌, ◌<◌, ◌+◌, ◌-◌, ◌^◌, List, ◌++◌, length, refl, arith, ap, sym, subst, inl, inr, ◌∙◌, min, count_by}
use Rattle.std.proofs.Common.{option_to_list, All, IsTrue, eq-eqb, ne_eqb}
use Rattle.std.proofs.lemmas.Bool.{cases_Bool, cases_eq}
use Rattle.std.proofs.lemmas.List.Elements.{All-append}
use Rattle.sound_state.proofs.Common.{Geometry, WordName, cases_name, settle_of, raised, State, Step, action_at, name_at, word_at, found_at}
use Rattle.sound_laws.specs.bounds.Contention.{IsExpected, IsNoted, IsDirty, is_by, is_against, dirty_since}
use Rattle.errand_steps.specs.tables.Expected.{Expected}
use Rattle.sound_laws.specs.bounds.Expectations.{expects_of}
use Rattle.sound_laws.specs.bounds.Wins.{Win, Wins, win_at, win_list_after, note_at, wins_after}
use Rattle.sound_state.proofs.shared.CallerLemmas.{each-other}
use Rattle.sound_laws.proofs.bounds_lemmas.CountLemmas.{count-append}
use Rattle.sound_laws.proofs.bounds_lemmas.DirtyLemmas.{IsPast, dirty-stays, dirty-now}
use Rattle.sound_laws.proofs.bounds_lemmas.ExpectLemmas.{in-all}
use Rattle.sound_laws.proofs.bounds_lemmas.StepWins.{IsStore, word-stays, the_win, list-least, all-win, no-count, no-won, one-count, against-other, noted-others, noted-apart}
use Rattle.sound_laws.proofs.bounds_lemmas.StepWins.{noted-own, note-seen, confirms_at, fails_at, wins_at}
use Rattle.sound_laws.proofs.bounds_lemmas.WinDefs.{IsSeen, MayExpect}

-- the step carries or sees all that its caller expects after it
abbrev pub ExpectsAfter : State → ℕ → Type 0
ExpectsAfter s caller =
    All (MayExpect (s.errand caller).point (action_at s caller) (found_at s caller)) (expects_of (settle_of (s.errand caller) (found_at s caller)).point)

-- a step that stores is into a word of which no other caller expects anything
abbrev pub StoresAlone : Geometry → State → ℕ → Type 0
StoresAlone g s caller =
    (other : ℕ) → other < g.callers → other ≢ caller
    → All (λ e. IsStore (action_at s caller) → e.word ≢ name_at s caller) (expects_of (s.errand other).point)

-- the caller's count of its wins after its step
own-won : (s : State) (caller : ℕ) (s' : State) → Step s caller s' → (s'.errand caller).won ≡ raised (wins_at s caller) (s.errand caller).won
unfolding settle_of
own-won s caller s' step = ap (λ e. e.won) step.errand.here

-- a count of wins goes on being their number, up to its end, where a step wins one or none
won-more :
    (b : Bool) (before after list list' : ℕ) → after ≡ raised b before → before ≡ min list (2 ^ 64 - 1) → (b ≡ true → list' ≡ list + 1)
    → (b ≡ false → list' ≡ list) → after ≡ min list' (2 ^ 64 - 1)
won-more b before after list list' is was more same = grind (arith, is, was, more, same)

-- a caller's win is by that caller
is-own : (s : State) (caller : ℕ) → is_by caller (the_win s caller) ≡ true
is-own s caller = eq-eqb caller caller refl

-- each caller counts its own wins after a step
won-after :
    (g : Geometry) (s : State) (caller : ℕ) (s' : State) (w : Wins) → caller < g.callers → Step s caller s' → IsNoted g s w → (i : ℕ) → i < g.callers
    → (s'.errand i).won ≡ min (count_by (is_by i) (win_list_after s caller w.list)) (2 ^ 64 - 1)
won-after g s caller s' w has step old =
    let more = option_to_list (win_at s caller) in
    let both = λ (i : ℕ). count-append (is_by i) w.list more in
    each-other g (λ i e. e.won ≡ min (count_by (is_by i) (w.list ++ more)) (2 ^ 64 - 1)) s.errand caller (s'.errand caller) s'.errand
    (record { here = refl; elsewhere = step.errand.elsewhere })
    (won-more (wins_at s caller) (s.errand caller).won (s'.errand caller).won (count_by (is_by caller) w.list)
    (count_by (is_by caller) (w.list ++ more)) (own-won s caller s' step) (old.won caller has)
    (λ won. omega (arith, both caller, one-count (is_by caller) s caller won (is-own s caller)))
    (λ none. omega (arith, both caller, no-won (is_by caller) s caller none)))
    (λ i has_i other. omega (arith, both i, no-count (is_by i) s caller (ne_eqb caller i (λ is. other (sym is))), old.won i has_i))

-- no note is of wins to come after a step
note-past :
    (s : State) (caller : ℕ) (list : List Win) (old : Option ℕ) → IsPast list old
    → IsPast (win_list_after s caller list) (note_at s caller (length (win_list_after s caller list)) old)
note-past s caller list old past =
    let after = win_list_after s caller list in
    let longer = list-least s caller list in
    elim (cases_Bool (fails_at s caller)) [
      | inl lost ↦ rw lost (λ wins is. absurd (cc))
      | inr kept ↦
          elim (cases_Bool (confirms_at s caller)) [
            | inl same ↦ rw (kept, same) (λ wins is. omega (arith, longer, past wins is))
            | inr new ↦ rw (kept, new) (λ wins is. let one : length after ≡ wins = cc in omega (arith, one))
          ]
    ]

pub past-after :
    (g : Geometry) (s : State) (caller : ℕ) (w : Wins) → IsNoted g s w → (i : ℕ) (m : WordName)
    → IsPast (win_list_after s caller w.list) ((wins_after s caller w).noted i m)
past-after g s caller w old i m =
    let longer = list-least s caller w.list in
    let still : IsPast (win_list_after s caller w.list) (w.noted i m) = λ wins is. omega (arith, longer, old.past i m wins is) in
    elim (cases_eq i caller) [
      | inr other ↦ subst (IsPast (win_list_after s caller w.list)) (sym (noted-others s caller w i m other)) still
      | inl is ↦
          elim (cases_name m (name_at s caller)) [
            | inr differ ↦ subst (IsPast (win_list_after s caller w.list)) (sym (noted-apart s caller w i m differ)) still
            | inl here ↦
                let P : ℕ → Type 0 = λ k. IsPast (win_list_after s caller w.list) ((wins_after s caller w).noted k m) in
                subst P (sym is)
                (subst (IsPast (win_list_after s caller w.list)) (sym (noted-own s caller w m here)) (note-past s caller w.list (w.noted caller m) (old.past caller m)))
          ]
    ]

-- a pair that is dirty stays so where its note stays
still-dirty :
    (g : Geometry) (s : State) (caller : ℕ) (w : Wins) → IsNoted g s w → (i : ℕ) (m : WordName)
    → (wins_after s caller w).noted i m ≡ w.noted i m → IsDirty w i m → IsDirty (wins_after s caller w) i m
still-dirty g s caller w old i m same dirty =
    subst (λ o. IsTrue (dirty_since (win_list_after s caller w.list) i m o)) (sym same)
    (dirty-stays w.list (option_to_list (win_at s caller)) i m (w.noted i m) (old.past i m) dirty)

-- what another caller expects is still noted and as expected, or dirty, after the step
expected-others :
    (g : Geometry) (s : State) (caller : ℕ) (s' : State) (w : Wins) → Step s caller s' → IsNoted g s w → (i : ℕ) → i ≢ caller → (e : Expected)
    → (IsStore (action_at s caller) → e.word ≢ name_at s caller) → IsExpected s w i e → IsExpected s' (wins_after s caller w) i e
expected-others g s caller s' w step old i other e store h =
    let same = noted-others s caller w i e.word other in
    record {
      wins = h.wins;
      noted = same ∙ h.noted;
      so = elim h.so [
        | inr dirty ↦ inr (still-dirty g s caller w old i e.word same dirty)
        | inl is ↦
            elim (cases_name e.word (name_at s caller)) [
              | inr differ ↦ inl (step.word.elsewhere e.word differ ∙ is)
              | inl here ↦
                  elim (cases_Bool (wins_at s caller)) [
                    | inr none ↦
                        inl
                        (ap s'.word here ∙ (step.word.here
                        ∙ (word-stays (action_at s caller) (word_at s caller) none (λ stores. store stores here) ∙ (sym (ap s.word here) ∙ is))))
                    | inl won ↦
                        let once = one-count (is_against i e.word) s caller won (against-other s caller i e.word other here) in
                        inr
                        (subst (λ o. IsTrue (dirty_since (win_list_after s caller w.list) i e.word o)) (sym (same ∙ h.noted))
                        (dirty-now w.list (option_to_list (win_at s caller)) i e.word h.wins (old.past i e.word h.wins h.noted) (omega (arith, once))))
                  ]
            ]
      ];
    }

-- what its caller expected of another word than the step's is still noted and as expected, or dirty
expected-carried :
    (g : Geometry) (s : State) (caller : ℕ) (s' : State) (w : Wins) → Step s caller s' → IsNoted g s w → (e : Expected)
    → e.word ≢ name_at s caller → IsExpected s w caller e → IsExpected s' (wins_after s caller w) caller e
expected-carried g s caller s' w step old e differ h =
    let same = noted-apart s caller w caller e.word differ in
    record {
      wins = h.wins;
      noted = same ∙ h.noted;
      so = elim h.so [
        | inl is ↦ inl (step.word.elsewhere e.word differ ∙ is)
        | inr dirty ↦ inr (still-dirty g s caller w old caller e.word same dirty)
      ];
    }

-- what a step sees is expected rightly after it
expected-seen :
    (s : State) (caller : ℕ) (s' : State) (w : Wins) → Step s caller s' → (e : Expected) → IsSeen (action_at s caller) (found_at s caller) e
    → IsExpected s' (wins_after s caller w) caller e
expected-seen s caller s' w step e seen = record {
  wins = length (win_list_after s caller w.list);
  noted = noted-own s caller w e.word seen.word ∙ note-seen s caller (length (win_list_after s caller w.list)) (w.noted caller e.word) seen.kept seen.noted;
  so = inl (ap s'.word seen.word ∙ (step.word.here ∙ seen.value));
}

expected-own :
    (g : Geometry) (s : State) (caller : ℕ) (s' : State) (w : Wins) → caller < g.callers → Step s caller s' → IsNoted g s w → (e : Expected)
    → MayExpect (s.errand caller).point (action_at s caller) (found_at s caller) e → IsExpected s' (wins_after s caller w) caller e
expected-own g s caller s' w has step old e may =
    elim may [
      | inl carried ↦
          expected-carried g s caller s' w step old e carried.1
          (in-all (IsExpected s w caller) (expects_of (s.errand caller).point) e (old.expected caller has) carried.0)
      | inr seen ↦ expected-seen s caller s' w step e seen
    ]

expected-after :
    (g : Geometry) (s : State) (caller : ℕ) (s' : State) (w : Wins) → caller < g.callers → Step s caller s' → ExpectsAfter s caller → StoresAlone g s caller
    → IsNoted g s w → (i : ℕ) → i < g.callers → All (IsExpected s' (wins_after s caller w) i) (expects_of (s'.errand i).point)
expected-after g s caller s' w has step expects stores old =
    each-other g (λ i e. All (IsExpected s' (wins_after s caller w) i) (expects_of e.point)) s.errand caller (settle_of (s.errand caller) (found_at s caller))
    s'.errand step.errand (λ k d within. expected-own g s caller s' w has step old _ (expects k d within))
    (λ i has_i other k d within.
    expected-others g s caller s' w step old i other _ (stores i has_i other k d within) (old.expected i has_i k d within))

-- a step keeps what the callers have noted, where what its caller expects is carried or seen and it stores alone
pub step-noted :
    (g : Geometry) (s : State) (caller : ℕ) (s' : State) (w : Wins) → caller < g.callers → Step s caller s' → ExpectsAfter s caller → StoresAlone g s caller
    → IsNoted g s w → IsNoted g s' (wins_after s caller w)
step-noted g s caller s' w has step expects stores old = record {
  callers =
      All-append (λ x. x.caller < g.callers) w.list (option_to_list (win_at s caller)) old.callers
      (all-win (λ x. x.caller < g.callers) s caller has);
  won = won-after g s caller s' w has step old;
  past = past-after g s caller w old;
  expected = expected-after g s caller s' w has step expects stores old;
}
