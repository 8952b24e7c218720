-- Quiet histories grow by events, and each caller's own events say whether a history is quiet.
use Rattle.std.proofs.Common.{ℕ, eqb, Bool, true, false, cond, ◌≡◌, ◌+◌, ◌*◌, ◌<◌, List, [], ◌∷◌, ◌++◌, refl, sym, ◌∙◌, ap, subst, inl, inr, eq-eqb, eqb-true, append-nil, arith, true≢false}
use Rattle.std.specs.Prelude.{All, count_by}
use Rattle.std.proofs.lemmas.Bool.{and_parts, cases_Bool}
use Rattle.std.proofs.lemmas.List.Elements.{All-head, All-tail}
use Rattle.std.proofs.Math.Nat.{div-lt_iff_lt-mul}
use Rattle.pool_model.specs.declared.event.Event.{Event}
use Rattle.pool_model.specs.declared.event.Event.TheVariants.{Alloc, Looked, Refuse, Free, Write, Put, Take, TakeNone}
use Rattle.pool_model.specs.Histories.{caller_of, own}
use Rattle.pool_model.proofs.HistoryLemmas.{EachAfter-nil, EachAfter-push, kept, own-append, push-append}
use Rattle.shelf_laws.specs.Quiet.{IsOutside, IsQuiet, IsQuietAfter, is_put_of, is_take_of, sender_of, turn_of}
use Rattle.shelf_laws.proofs.GrowLemmas.{count-cons, count-same}

-- a shelf of a sender is one of the pipe's
pub from-sender :
    (senders shelves sender shelf : ℕ) → 0 < shelves → sender < senders → sender_of shelves shelf ≡ sender → shelf < senders * shelves
from-sender senders shelves sender shelf some_shelves below is =
    (div-lt_iff_lt-mul {k = shelves} {x = shelf} {y = senders} some_shelves).0 (subst (λ (k : ℕ). k < senders) (sym is) below)

-- the caller of a put of a sender's messages, and that of a take of them
pub put-caller : (shelves sender : ℕ) (event : Event) → is_put_of shelves sender event ≡ true → caller_of event ≡ sender
put-caller shelves sender (Put caller place shelf) is = eqb-true caller sender (and_parts (eqb caller sender) (eqb (sender_of shelves shelf) sender) is).0
put-caller shelves sender event is = absurd (true≢false (sym is))

pub take-caller :
    (senders shelves sender : ℕ) (event : Event) → is_take_of senders shelves sender event ≡ true → caller_of event ≡ senders
take-caller senders shelves sender (Take caller shelf place) is =
    eqb-true caller senders (and_parts (eqb caller senders) (eqb (sender_of shelves shelf) sender) is).0
take-caller senders shelves sender event is = absurd (true≢false (sym is))

-- a caller's own events, by whether the first event is the caller's or another's
own-hers : (caller : ℕ) (event : Event) (events : List Event) → caller_of event ≡ caller → own caller (event ∷ events) ≡ event ∷ own caller events
own-hers caller event events hers = rw (eq-eqb (caller_of event) caller hers) refl

own-other :
    (caller : ℕ) (event : Event) (events : List Event) → eqb (caller_of event) caller ≡ false → own caller (event ∷ events) ≡ own caller events
own-other caller event events other = rw other refl

-- events that are one caller's are as many among its own events as among all
pub count-own :
    (chosen : Event → Bool) (caller : ℕ) (events : List Event) → ((event : Event) → chosen event ≡ true → caller_of event ≡ caller)
    → count_by chosen (own caller events) ≡ count_by chosen events
count-own chosen caller [] whose = refl
count-own chosen caller (event ∷ events) whose =
    let rest = count-own chosen caller events whose in
    elim (cases_Bool (eqb (caller_of event) caller)) [
      | inl hers ↦
          ap (count_by chosen) (own-hers caller event events (eqb-true (caller_of event) caller hers))
          ∙ count-cons chosen event (own caller events) ∙ ap (λ (n : ℕ). cond (chosen event) 1 0 + n) rest
          ∙ sym (count-cons chosen event events)
      | inr other ↦
          let off : chosen event ≡ false =
          elim (cases_Bool (chosen event)) [
            | inl on ↦ absurd (true≢false (sym (eq-eqb (caller_of event) caller (whose event on)) ∙ other))
            | inr off ↦ off
          ] in
          let whole : count_by chosen (event ∷ events) ≡ 0 + count_by chosen events =
          count-cons chosen event events ∙ ap (λ (b : Bool). cond b 1 0 + count_by chosen events) off in
          ap (count_by chosen) (own-other caller event events other) ∙ rest ∙ omega (arith, whole)
    ]

-- an event that is quiet behind some events is quiet behind others with the same turns
same-turns :
    (senders shelves : ℕ) (before other : List Event) (event : Event)
    → count_by (is_put_of shelves (caller_of event)) before ≡ count_by (is_put_of shelves (caller_of event)) other
    → ((sender : ℕ) → caller_of event ≡ senders
    → count_by (is_take_of senders shelves sender) before ≡ count_by (is_take_of senders shelves sender) other)
    → IsQuietAfter senders shelves before event → IsQuietAfter senders shelves other event
same-turns senders shelves before other (Put caller place shelf) puts takes quiet = λ within.
    let q = quiet within in
    (q.0, q.1 ∙ ap (turn_of shelves caller) puts)
same-turns senders shelves before other (Take caller shelf place) puts takes quiet = λ within.
    let q = quiet within in
    (q.0, q.1 ∙ ap (turn_of shelves (sender_of shelves shelf)) (takes (sender_of shelves shelf) q.0))
same-turns senders shelves before other (Alloc caller need place) puts takes quiet = tt
same-turns senders shelves before other (Looked caller class) puts takes quiet = tt
same-turns senders shelves before other (Refuse caller need) puts takes quiet = tt
same-turns senders shelves before other (Free caller place) puts takes quiet = tt
same-turns senders shelves before other (Write caller place i v) puts takes quiet = tt
same-turns senders shelves before other (TakeNone caller shelf) puts takes quiet = tt

pub puts-own :
    (shelves sender : ℕ) (history : List Event)
    → count_by (is_put_of shelves sender) (own sender history) ≡ count_by (is_put_of shelves sender) history
puts-own shelves sender history = count-own (is_put_of shelves sender) sender history (put-caller shelves sender)

pub takes-own :
    (senders shelves sender : ℕ) (history : List Event)
    → count_by (is_take_of senders shelves sender) (own senders history) ≡ count_by (is_take_of senders shelves sender) history
takes-own senders shelves sender history =
    count-own (is_take_of senders shelves sender) senders history (take-caller senders shelves sender)

own-takes :
    (senders shelves caller : ℕ) (history : List Event) (sender : ℕ) → caller ≡ senders
    → count_by (is_take_of senders shelves sender) history ≡ count_by (is_take_of senders shelves sender) (own caller history)
own-takes senders shelves caller history sender is =
    sym (takes-own senders shelves sender history)
    ∙ ap (λ (c : ℕ). count_by (is_take_of senders shelves sender) (own c history)) (sym is)

pub quiet-own :
    (senders shelves : ℕ) (history : List Event) → IsQuiet senders shelves history → (caller : ℕ) → IsQuiet senders shelves (own caller history)
quiet-own senders shelves history quiet caller =
    kept (IsQuietAfter senders shelves) (λ h. IsQuiet senders shelves (own caller h)) history
    (λ before event last each.
    let joined = own-append caller before (event ∷ []) in
    elim (cases_Bool (eqb (caller_of event) caller)) [
      | inl hers ↦
          let is : caller_of event ≡ caller = eqb-true (caller_of event) caller hers in
          let grown : own caller (before ++ event ∷ []) ≡ own caller before ++ event ∷ [] =
          joined ∙ ap (λ (l : List Event). own caller before ++ l) (own-hers caller event [] is) in
          let turns : IsQuietAfter senders shelves (own (caller_of event) before) event =
          same-turns senders shelves before (own (caller_of event) before) event (sym (puts-own shelves (caller_of event) before))
          (own-takes senders shelves (caller_of event) before) last in
          subst (IsQuiet senders shelves) (sym grown)
          (EachAfter-push (IsQuietAfter senders shelves) (own caller before) event each
          (subst (λ (c : ℕ). IsQuietAfter senders shelves (own c before) event) is turns))
      | inr other ↦
          let grown : own caller (before ++ event ∷ []) ≡ own caller before =
          joined ∙ ap (λ (l : List Event). own caller before ++ l) (own-other caller event [] other) ∙ append-nil (own caller before) in
          subst (IsQuiet senders shelves) (sym grown) each
    ]) quiet (EachAfter-nil (IsQuietAfter senders shelves))

pub quiet-each :
    (senders shelves : ℕ) (history : List Event) → ((caller : ℕ) → IsQuiet senders shelves (own caller history))
    → IsQuiet senders shelves history
quiet-each senders shelves history each before rest event e =
    let caller = caller_of event in
    let split : own caller history ≡ own caller before ++ event ∷ own caller rest =
    ap (own caller) e ∙ own-append caller before (event ∷ rest)
    ∙ ap (λ (l : List Event). own caller before ++ l) (own-hers caller event rest refl) in
    same-turns senders shelves (own caller before) before event (puts-own shelves caller before)
    (λ sender is. sym (own-takes senders shelves caller before sender is))
    (each caller (own caller before) (own caller rest) event split)

-- an event that touches no shelf of the pipe leaves it quiet
pub outside-quiet :
    (senders shelves : ℕ) (before : List Event) (event : Event) → IsOutside senders shelves event → IsQuietAfter senders shelves before event
outside-quiet senders shelves before (Put caller place shelf) out = λ within. absurd (omega (arith, within, out))
outside-quiet senders shelves before (Take caller shelf place) out = λ within. absurd (omega (arith, within, out))
outside-quiet senders shelves before (Alloc caller need place) out = tt
outside-quiet senders shelves before (Looked caller class) out = tt
outside-quiet senders shelves before (Refuse caller need) out = tt
outside-quiet senders shelves before (Free caller place) out = tt
outside-quiet senders shelves before (Write caller place i v) out = tt
outside-quiet senders shelves before (TakeNone caller shelf) out = tt

pub quiet-more :
    (senders shelves : ℕ) (events more : List Event) → IsQuiet senders shelves events → All (IsOutside senders shelves) more
    → IsQuiet senders shelves (events ++ more)
quiet-more senders shelves events [] quiet out = subst (IsQuiet senders shelves) (sym (append-nil events)) quiet
quiet-more senders shelves events (event ∷ more) quiet out =
    let last = outside-quiet senders shelves events event (All-head (IsOutside senders shelves) event more out) in
    subst (IsQuiet senders shelves) (push-append events more event)
    (quiet-more senders shelves (events ++ event ∷ []) more (EachAfter-push (IsQuietAfter senders shelves) events event quiet last)
    (All-tail (IsOutside senders shelves) event more out))

-- an event that touches no shelf of the pipe is no put of a sender, and no take from one
outside-put :
    (senders shelves sender : ℕ) (event : Event) → 0 < shelves → sender < senders → IsOutside senders shelves event
    → is_put_of shelves sender event ≡ false
outside-put senders shelves sender (Put caller place shelf) some_shelves below out =
    elim (cases_Bool (is_put_of shelves sender (Put caller place shelf))) [
      | inl on ↦
          let home : sender_of shelves shelf ≡ sender =
          eqb-true (sender_of shelves shelf) sender (and_parts (eqb caller sender) (eqb (sender_of shelves shelf) sender) on).1 in
          let within = from-sender senders shelves sender shelf some_shelves below home in
          absurd (omega (arith, within, out))
      | inr off ↦ off
    ]
outside-put senders shelves sender (Take caller shelf place) some_shelves below out = refl
outside-put senders shelves sender (Alloc caller need place) some_shelves below out = refl
outside-put senders shelves sender (Looked caller class) some_shelves below out = refl
outside-put senders shelves sender (Refuse caller need) some_shelves below out = refl
outside-put senders shelves sender (Free caller place) some_shelves below out = refl
outside-put senders shelves sender (Write caller place i v) some_shelves below out = refl
outside-put senders shelves sender (TakeNone caller shelf) some_shelves below out = refl

outside-take :
    (senders shelves sender : ℕ) (event : Event) → 0 < shelves → sender < senders → IsOutside senders shelves event
    → is_take_of senders shelves sender event ≡ false
outside-take senders shelves sender (Take caller shelf place) some_shelves below out =
    elim (cases_Bool (is_take_of senders shelves sender (Take caller shelf place))) [
      | inl on ↦
          let home : sender_of shelves shelf ≡ sender =
          eqb-true (sender_of shelves shelf) sender (and_parts (eqb caller senders) (eqb (sender_of shelves shelf) sender) on).1 in
          let within = from-sender senders shelves sender shelf some_shelves below home in
          absurd (omega (arith, within, out))
      | inr off ↦ off
    ]
outside-take senders shelves sender (Put caller place shelf) some_shelves below out = refl
outside-take senders shelves sender (Alloc caller need place) some_shelves below out = refl
outside-take senders shelves sender (Looked caller class) some_shelves below out = refl
outside-take senders shelves sender (Refuse caller need) some_shelves below out = refl
outside-take senders shelves sender (Free caller place) some_shelves below out = refl
outside-take senders shelves sender (Write caller place i v) some_shelves below out = refl
outside-take senders shelves sender (TakeNone caller shelf) some_shelves below out = refl

count-outside :
    (chosen : Event → Bool) (P : Event → Type 0) (events more : List Event) → ((event : Event) → P event → chosen event ≡ false)
    → All P more → count_by chosen (events ++ more) ≡ count_by chosen events
count-outside chosen P events [] never out = ap (count_by chosen) (append-nil events)
count-outside chosen P events (event ∷ more) never out =
    ap (count_by chosen) (sym (push-append events more event))
    ∙ count-outside chosen P (events ++ event ∷ []) more never (All-tail P event more out)
    ∙ count-same chosen events event (never event (All-head P event more out))

pub turns-stay :
    (senders shelves sender : ℕ) (events more : List Event) → 0 < shelves → sender < senders → All (IsOutside senders shelves) more
    → (count_by (is_put_of shelves sender) (events ++ more) ≡ count_by (is_put_of shelves sender) events)
    × (count_by (is_take_of senders shelves sender) (events ++ more) ≡ count_by (is_take_of senders shelves sender) events)
turns-stay senders shelves sender events more some_shelves below out = (
  count-outside (is_put_of shelves sender) (IsOutside senders shelves) events more
      (λ event is. outside-put senders shelves sender event some_shelves below is) out,
  count-outside (is_take_of senders shelves sender) (IsOutside senders shelves) events more
      (λ event is. outside-take senders shelves sender event some_shelves below is) out,
)
