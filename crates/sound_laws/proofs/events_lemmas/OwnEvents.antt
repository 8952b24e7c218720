-- A step adds an event to its caller's own, and none to another's.
use Rattle.std.proofs.Common.{ℕ, ◌≡◌, ◌≢◌, List, [], ◌∷◌, ◌++◌, Option, Some, None, refl, ◌∙◌, sym, append_assoc, eq-eqb}
use Rattle.sound_state.proofs.Common.{Event, own, with_event, caller_of, own-append}
use Rattle.sound_state.proofs.shared.EventFacts.{told-own}

pub own-with_event :
    (caller : ℕ) (history : List Event) (event : Option Event) → ((e : Event) → event ≡ Some e → caller_of e ≡ caller)
    → own caller (with_event history event) ≡ with_event (own caller history) event
own-with_event caller history None is = refl
own-with_event caller history (Some e) is = own-append caller history (e ∷ []) ∙ rw (eq-eqb (caller_of e) caller (is e refl)) refl

pub own-of_others :
    (caller other : ℕ) (history : List Event) (event : Option Event) → ((e : Event) → event ≡ Some e → caller_of e ≡ other) → other ≢ caller
    → own caller (with_event history event) ≡ own caller history
own-of_others caller other history None is apart = refl
own-of_others caller other history (Some e) is apart = told-own caller history e (λ same. apart (sym (is e refl) ∙ same))

-- an event that comes behind added ones is added too
pub added-event :
    (before added : List Event) (event : Option Event) → with_event (before ++ added) event ≡ before ++ with_event added event
added-event before added None = refl
added-event before added (Some e) = append_assoc before added (e ∷ [])
