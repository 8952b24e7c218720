-- Counts of events, and a caller's own events, after one event more.
use Rattle.std.proofs.Common.{ℕ, Bool, false, cond, ◌≡◌, ◌≢◌, ◌+◌, List, [], ◌∷◌, ◌++◌, arith, ◌∙◌, append-nil, eq-eqb, append_assoc, count_by, ne_eqb}
use Rattle.std.proofs.lemmas.Bool.{cond-false}
use Rattle.std.proofs.lemmas.List.Sums.{sum_by_push}
use Rattle.sound_state.proofs.Common.{need_of, Small, own, Event, own-append, caller_of, EndsWith, Looked, Refuse, EndsRefused}

-- a count of events after one more is that of before and what the event counts
pub told-counts : (P : Event → Bool) (history : List Event) (event : Event) → count_by P (history ++ event ∷ []) ≡ count_by P history + cond (P event) 1 0
told-counts P history event = sum_by_push (λ e. cond (P e) 1 0) history event

-- the count of events stays after one that isn't counted
pub counted-not : (P : Event → Bool) (history : List Event) (event : Event) → P event ≡ false → count_by P (history ++ event ∷ []) ≡ count_by P history
counted-not P history event none = omega (arith, told-counts P history event, cond-false {A = ℕ} (P event) 1 0 none)

-- another caller's event leaves a caller's own events, and its own is added to them
pub told-own : (i : ℕ) (history : List Event) (event : Event) → caller_of event ≢ i → own i (history ++ event ∷ []) ≡ own i history
told-own i history event other =
    own-append i history (event ∷ []) ∙ rw (ne_eqb (caller_of event) i other) (append-nil (own i history))

-- a caller's own events end with a look and a refusal, where it is refused behind a look
pub refused-ends :
    (caller : ℕ) (history : List Event) (words class : ℕ) → need_of words ≡ Small class → EndsWith (own caller history) (Looked caller class)
    → EndsRefused (own caller (history ++ Refuse caller words ∷ [])) caller class
refused-ends caller history words class served ends = grind (arith, served, ends, append_assoc, eq-eqb, own-append)
