-- What a step adds to the wins, and what its caller notes then.
use Rattle.std.proofs.Common.{ℕ, Bool, true, false, Option, Some, None, ◌≡◌, ◌≢◌, ◌≤◌, ◌+◌, List, [], ◌∷◌, ◌++◌, length, refl, arith, ap, sym, subst, inl, inr, ◌∙◌}
use Rattle.std.proofs.Common.{length-append, append-nil, ◌==◌, not, count_by, option_to_list, All, eq-eqb, ne_eqb, eqb-true}
use Rattle.std.proofs.lemmas.Bool.{cases_Bool, and_from, and_right}
use Rattle.std.proofs.lemmas.List.Elements.{All-cons, All-nil}
use Rattle.sound_state.proofs.Common.{Action, Store, WordName, after_action, State, action_at, name_at, found_at, found_by, counts_won, is_lost_exchange, counts_lost}
use Rattle.sound_laws.specs.bounds.Contention.{is_against}
use Rattle.sound_laws.specs.bounds.Wins.{Win, Wins, same_name, offers, win_at, win_list_after, note_at, is_self_exchange, wins_after}
use Rattle.sound_laws.proofs.bounds_lemmas.CountLemmas.{count-one, count-other}
use Rattle.sound_laws.proofs.bounds_lemmas.SameNames.{same-name-one, same-name-differs}

-- whether the action is a store
abbrev pub IsStore : Action → Type 0
IsStore (Store name new) = Unit {0}
IsStore a = ⊥

-- an action that isn't a store, and wins nothing, leaves its word
pub word-stays : (a : Action) (v : ℕ) → counts_won a (found_by a v) ≡ false → (IsStore a → ⊥) → after_action a v ≡ v
word-stays a v won store = grind (arith, won, store, eqb-true)

-- whether a caller's next step wins; whether it is an exchange that is lost; whether it exchanges a number for itself; whether it counts as lost
abbrev pub wins_at : State → ℕ → Bool
wins_at s caller = counts_won (action_at s caller) (found_at s caller)

abbrev pub fails_at : State → ℕ → Bool
fails_at s caller = is_lost_exchange (action_at s caller) (found_at s caller)

abbrev pub confirms_at : State → ℕ → Bool
confirms_at s caller = is_self_exchange (action_at s caller)

abbrev pub loses_at : State → ℕ → Bool
loses_at s caller = counts_lost (s.errand caller).point (found_at s caller)

-- what a caller wins by its step, should it win
abbrev pub the_win : State → ℕ → Win
the_win s caller = record { caller = caller; word = name_at s caller; install = offers (s.errand caller).point }

pub win-some : (s : State) (caller : ℕ) → wins_at s caller ≡ true → win_at s caller ≡ Some (the_win s caller)
win-some s caller won = rw won refl

pub win-none : (s : State) (caller : ℕ) → wins_at s caller ≡ false → win_at s caller ≡ None
win-none s caller none = rw none refl

-- the list of wins stays where a step wins nothing, has one more where it wins, and never gets shorter
pub list-stays : (s : State) (caller : ℕ) (list : List Win) → wins_at s caller ≡ false → win_list_after s caller list ≡ list
list-stays s caller list none = ap (λ o. list ++ option_to_list o) (win-none s caller none) ∙ append-nil list

pub list-longer : (s : State) (caller : ℕ) (list : List Win) → wins_at s caller ≡ true → length (win_list_after s caller list) ≡ length list + 1
list-longer s caller list won =
    ap (λ o. length (list ++ option_to_list o)) (win-some s caller won) ∙ length-append list (the_win s caller ∷ [])

pub list-least : (s : State) (caller : ℕ) (list : List Win) → length list ≤ length (win_list_after s caller list)
list-least s caller list = omega (arith, length-append list (option_to_list (win_at s caller)))

-- what holds of a caller's win, should it win, holds of all that its step adds
pub all-win : (P : Win → Type 0) (s : State) (caller : ℕ) → P (the_win s caller) → All P (option_to_list (win_at s caller))
all-win P s caller h =
    elim (cases_Bool (wins_at s caller)) [
      | inl won ↦ subst (λ o. All P (option_to_list o)) (sym (win-some s caller won)) (All-cons P (the_win s caller) [] h (All-nil P))
      | inr none ↦ subst (λ o. All P (option_to_list o)) (sym (win-none s caller none)) (All-nil P)
    ]

-- a step whose win isn't of a kind adds none of that kind
pub no-count : (p : Win → Bool) (s : State) (caller : ℕ) → p (the_win s caller) ≡ false → count_by p (option_to_list (win_at s caller)) ≡ 0
no-count p s caller h =
    elim (cases_Bool (wins_at s caller)) [
      | inl won ↦ ap (λ o. count_by p (option_to_list o)) (win-some s caller won) ∙ count-other p (the_win s caller) h
      | inr none ↦ ap (λ o. count_by p (option_to_list o)) (win-none s caller none)
    ]

-- a step that wins nothing adds no win of any kind
pub no-won : (p : Win → Bool) (s : State) (caller : ℕ) → wins_at s caller ≡ false → count_by p (option_to_list (win_at s caller)) ≡ 0
no-won p s caller none = ap (λ o. count_by p (option_to_list o)) (win-none s caller none)

-- a step that wins, and whose win is of the kind, adds one of that kind
pub one-count :
    (p : Win → Bool) (s : State) (caller : ℕ) → wins_at s caller ≡ true → p (the_win s caller) ≡ true
    → count_by p (option_to_list (win_at s caller)) ≡ 1
one-count p s caller won h = ap (λ o. count_by p (option_to_list o)) (win-some s caller won) ∙ count-one p (the_win s caller) h

-- a caller's win isn't against itself, nor on another word against anyone; on its word it is against every other caller
pub against-own : (s : State) (caller : ℕ) (m : WordName) → is_against caller m (the_win s caller) ≡ false
against-own s caller m = rw (eq-eqb caller caller refl) refl

pub against-apart : (s : State) (caller i : ℕ) (m : WordName) → m ≢ name_at s caller → is_against i m (the_win s caller) ≡ false
against-apart s caller i m differ =
    and_right (not (caller == i)) (same_name (name_at s caller) m) (same-name-differs (name_at s caller) m (λ is. differ (sym is)))

pub against-other : (s : State) (caller i : ℕ) (m : WordName) → i ≢ caller → m ≡ name_at s caller → is_against i m (the_win s caller) ≡ true
against-other s caller i m other is =
    and_from (not (caller == i)) (same_name (name_at s caller) m) (ap not (ne_eqb caller i (λ same. other (sym same))))
    (same-name-one (name_at s caller) m (sym is))

-- the notes of other callers, and of other words, stay
pub noted-others : (s : State) (caller : ℕ) (w : Wins) (i : ℕ) (m : WordName) → i ≢ caller → (wins_after s caller w).noted i m ≡ w.noted i m
noted-others s caller w i m other = rw (ne_eqb i caller other) refl

pub noted-apart : (s : State) (caller : ℕ) (w : Wins) (i : ℕ) (m : WordName) → m ≢ name_at s caller → (wins_after s caller w).noted i m ≡ w.noted i m
noted-apart s caller w i m differ = rw (and_right (i == caller) (same_name m (name_at s caller)) (same-name-differs m (name_at s caller) differ)) refl

-- a caller notes its step's word
pub noted-own :
    (s : State) (caller : ℕ) (w : Wins) (m : WordName) → m ≡ name_at s caller
    → (wins_after s caller w).noted caller m ≡ note_at s caller (length (win_list_after s caller w.list)) (w.noted caller m)
noted-own s caller w m is = rw (eq-eqb caller caller refl, same-name-one m (name_at s caller) is) refl

-- a caller notes all wins where it sees or changes its word, and none where it lost an exchange
pub note-seen :
    (s : State) (caller wins : ℕ) (old : Option ℕ) → fails_at s caller ≡ false → confirms_at s caller ≡ false → note_at s caller wins old ≡ Some wins
note-seen s caller wins old kept new = rw (kept, new) refl

pub note-lost : (s : State) (caller wins : ℕ) (old : Option ℕ) → fails_at s caller ≡ true → note_at s caller wins old ≡ None
note-lost s caller wins old lost = rw lost refl

-- a caller keeps its note of a word in an exchange of a number for itself that isn't lost
pub note-confirmed :
    (s : State) (caller wins : ℕ) (old : Option ℕ) → fails_at s caller ≡ false → confirms_at s caller ≡ true → note_at s caller wins old ≡ old
note-confirmed s caller wins old kept same = rw (kept, same) refl
