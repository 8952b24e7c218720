-- What a caller owned, the events of its calls leave it; and a block that one hands out is none of those that it owned.
use Rattle.std.proofs.Common.{ℕ, zero, suc, true, false, eqb, ◌≡◌, ◌≢◌, inl, inr, List, [], ◌∷◌, ◌++◌, Option, Some, refl, sym, ap, ◌∙◌, subst, append_assoc}
use Rattle.std.specs.Prelude.{IfSome}
use Rattle.std.proofs.lemmas.Bool.{cases_Bool}
use Rattle.std.proofs.lemmas.Option.{none-some}
use Rattle.heap_geometry.specs.declared.geometry.Geometry.{Geometry}
use Rattle.heap_geometry.specs.declared.need.Need.{Need}
use Rattle.heap_geometry.specs.declared.need.Need.TheVariants.{Small, Large, TooLarge}
use Rattle.heap_geometry.specs.Need.{need_of}
use Rattle.pool_model.specs.declared.event.Event.{Event}
use Rattle.pool_model.specs.declared.event.Event.TheVariants.{Alloc, Take}
use Rattle.pool_model.specs.declared.owner.Owner.TheVariants.{Caller, Shelf}
use Rattle.pool_model.specs.Calls.{Ended, EventsOf, IsGiving, looks}
use Rattle.pool_model.specs.Calls as ended
use Rattle.pool_model.specs.Histories.{own, caller_of}
use Rattle.pool_model.specs.Legal.{IsAllowed, IsLegal, IsLegalEventWithoutCounts, IsLegalWithoutCounts}
use Rattle.pool_model.specs.Pool.{pool_of}
use Rattle.pool_model.proofs.HistoryLemmas.{EachAfter-cut, legal-weaker}
use Rattle.pool_model.proofs.OwnerLemmas.{free-elsewhere, owner-one}
use Rattle.errand_steps.specs.declared.reply.Reply.{Reply}
use Rattle.errand_steps.specs.declared.reply.Reply.TheVariants as reply
use Rattle.errand_steps.specs.Calls.{Call, alloc, free, put, take}
use Rattle.sound_laws.specs.events.Ends.{HasEnded, end_of}
use Rattle.step_machine.specs.Cores.{OwnsAfter}
use Rattle.step_machine.specs.Keeping.{AllSpare, LeavesPlace, LeavesAtEnd}
use Rattle.step_machine.proofs.KeepLemmas.{owns-rest}
use Rattle.step_machine.proofs.SpareLemmas.{events-spare}

-- the longer list has, behind the shorter one, just these events of the caller
abbrev pub Adds : ℕ → List Event → List Event → List Event → Type 0
Adds caller before after added = (rest : List Event) × (after ≡ before ++ rest) × (own caller rest ≡ added)

-- a block stays its owner's where the events that its owner adds spare it
pub owns-on :
    (g : Geometry) (caller place : ℕ) (need : Need) (before after added : List Event) → IsLegal g after → Adds caller before after added
    → AllSpare place added → OwnsAfter before caller place need → OwnsAfter after caller place need
owns-on g caller place need before after added legal adds spares owns =
    subst (λ (l : List Event). OwnsAfter l caller place need) (sym adds.1)
    (owns-rest g before adds.0 caller place need (subst (IsLegalWithoutCounts g) adds.1 (legal-weaker g after legal))
    (subst (AllSpare place) (sym adds.2) spares) owns)

-- a call that gives no block away at a place has an end that gives none away there
leaves-some : (call : Call) (answer : Reply) (place : ℕ) → LeavesPlace call place → IfSome (end_of call answer) (λ end. LeavesAtEnd end place)
leaves-some (free at need) reply.Freed place leaves = leaves
leaves-some (put at need shelf) reply.Put place leaves = leaves
leaves-some call reply.Refused place leaves = tt
leaves-some call answer place leaves = tt

pub ended-spares :
    (caller place : ℕ) (call : Call) (answer : Reply) (added : List Event) → LeavesPlace call place → HasEnded caller call answer added
    → AllSpare place added
ended-spares caller place call answer added leaves h =
    events-spare place caller h.ended.0 added
    (subst (λ (o : Option Ended). IfSome o (λ end. LeavesAtEnd end place)) h.ended.1 (leaves-some call answer place leaves)) h.ended.2

-- the event stands in the list, and behind these events of the caller
abbrev pub Splits : ℕ → List Event → List Event → Event → Type 0
Splits caller xs front event =
    (before : List Event) × (after : List Event) × (xs ≡ before ++ event ∷ after) × (own caller before ≡ front)

-- a split list stays split behind an event of another caller, and behind one more of this one
splits-past :
    (caller : ℕ) (x : Event) (xs front : List Event) (event : Event) → eqb (caller_of x) caller ≡ false → Splits caller xs front event
    → Splits caller (x ∷ xs) front event
splits-past caller x xs front event other (before, after, is, mine) = (x ∷ before, after, ap (λ (l : List Event). x ∷ l) is, rw other mine)

splits-more :
    (caller : ℕ) (x f : Event) (xs front : List Event) (event : Event) → eqb (caller_of x) caller ≡ true → x ≡ f → Splits caller xs front event
    → Splits caller (x ∷ xs) (f ∷ front) event
splits-more caller x f xs front event hers same (before, after, is, mine) = (
  x ∷ before,
  after,
  ap (λ (l : List Event). x ∷ l) is,
  rw hers (ap (λ (l : List Event). x ∷ l) mine ∙ ap (λ (y : Event). y ∷ front) same),
)

splits-here : (caller : ℕ) (x : Event) (xs : List Event) (event : Event) → x ≡ event → Splits caller (x ∷ xs) [] event
splits-here caller x xs event same = ([], xs, ap (λ (y : Event). y ∷ xs) same, refl)

first-same : (x y : Event) (xs ys : List Event) → x ∷ xs ≡ y ∷ ys → x ≡ y
first-same x y xs ys e = cc

pub others-same : (x y : Event) (xs ys : List Event) → x ∷ xs ≡ y ∷ ys → xs ≡ ys
others-same x y xs ys e = cc

-- where the events of a caller end with one, that stands in the list behind the others
pub own-split : (caller : ℕ) (xs front : List Event) (event : Event) → own caller xs ≡ front ++ event ∷ [] → Splits caller xs front event
own-split caller [] [] event e = absurd (let t : [] ≡ event ∷ [] = e in cc)
own-split caller [] (f ∷ fs) event e = absurd (let t : [] ≡ f ∷ (fs ++ event ∷ []) = e in cc)
own-split caller (x ∷ xs) [] event e =
    elim (cases_Bool (eqb (caller_of x) caller)) [
      | inl hers ↦ splits-here caller x xs event (first-same x event (own caller xs) [] (rw hers at e))
      | inr other ↦ splits-past caller x xs [] event other (own-split caller xs [] event (rw other at e))
    ]
own-split caller (x ∷ xs) (f ∷ fs) event e =
    elim (cases_Bool (eqb (caller_of x) caller)) [
      | inl hers ↦
          let s : x ∷ own caller xs ≡ f ∷ (fs ++ event ∷ []) = rw hers at e in
          splits-more caller x f xs fs event hers (first-same x f (own caller xs) (fs ++ event ∷ []) s)
          (own-split caller xs fs event (others-same x f (own caller xs) (fs ++ event ∷ []) s))
      | inr other ↦ splits-past caller x xs (f ∷ fs) event other (own-split caller xs (f ∷ fs) event (rw other at e))
    ]

-- at the last event that the caller adds the block is still its own
abbrev OwnsUntil : Geometry → ℕ → ℕ → Need → Event → Type 0
OwnsUntil g caller place need event =
    (before : List Event) × IsAllowed g before event × OwnsAfter before caller place need

owns-at :
    (g : Geometry) (caller place : ℕ) (need : Need) (before after front : List Event) (event : Event) → IsLegal g after
    → Adds caller before after (front ++ event ∷ []) → AllSpare place front → OwnsAfter before caller place need
    → OwnsUntil g caller place need event
owns-at g caller place need before after front event legal adds spares owns =
    let t = own-split caller adds.0 front event adds.2 in
    let whole : after ≡ (before ++ t.0) ++ event ∷ t.1 =
    adds.1 ∙ (ap (λ (l : List Event). before ++ l) t.2 ∙ sym (append_assoc before t.0 (event ∷ t.1))) in
    let weaker : IsLegalWithoutCounts g ((before ++ t.0) ++ event ∷ t.1) = subst (IsLegalWithoutCounts g) whole (legal-weaker g after legal) in
    let until : IsLegalWithoutCounts g (before ++ t.0) = EachAfter-cut (IsLegalEventWithoutCounts g) (before ++ t.0) (event ∷ t.1) weaker in (
      before ++ t.0,
      (weaker (before ++ t.0) t.1 event refl).1,
      owns-rest g before t.0 caller place need until (subst (AllSpare place) (sym t.3) spares) owns,
    )

-- the looks before a block is given spare every block
looks-spare : (place caller class count : ℕ) → AllSpare place (looks caller class count)
looks-spare place caller class zero = tt
looks-spare place caller class (suc count) = (tt, looks-spare place caller class count)

pub giving-last :
    (caller words place at : ℕ) (n : Need) (events : List Event) → IsGiving caller words place n events
    → (front : List Event) × (events ≡ front ++ Alloc caller words place ∷ []) × AllSpare at front
giving-last caller words place at (Small class) events h = (looks caller class h.0, h.1, looks-spare at caller class h.0)
giving-last caller words place at (Large units) events h = ([], h, tt)
giving-last caller words place at TooLarge events h = absurd h

-- a block that is given is none that the caller owned
pub given-apart :
    (g : Geometry) (caller place at : ℕ) (need n : Need) (call : Call) (before after added : List Event) → IsLegal g after
    → Adds caller before after added → HasEnded caller call (reply.Given place n) added → OwnsAfter before caller at need → at ≢ place
given-apart g caller place at need n (alloc words) before after added legal adds h owns =
    let is : Some (ended.alloc_given words place) ≡ Some h.ended.0 = h.ended.1 in
    let end : ended.alloc_given words place ≡ h.ended.0 = cc in
    let giving : IsGiving caller words place (need_of words) added = subst (λ x. EventsOf caller x added) (sym end) h.ended.2 in
    let split = giving-last caller words place at (need_of words) added giving in
    let t =
    owns-at g caller at need before after split.0 (Alloc caller words place) legal (subst (Adds caller before after) split.1 adds) split.2 owns in
    λ same. free-elsewhere g (pool_of t.0) caller words place at t.2.0 t.1 t.2.1 (sym same)
given-apart g caller place at need n call before after added legal adds h owns = absurd (none-some h.ended.0 h.ended.1)

-- a block that a caller takes from a shelf is none that it owned
pub got-apart :
    (g : Geometry) (caller place at : ℕ) (need n : Need) (call : Call) (before after added : List Event) → IsLegal g after
    → Adds caller before after added → HasEnded caller call (reply.Got place n) added → OwnsAfter before caller at need → at ≢ place
got-apart g caller place at need n (take shelf) before after added legal adds h owns =
    let is : Some (ended.take_got shelf place) ≡ Some h.ended.0 = h.ended.1 in
    let end : ended.take_got shelf place ≡ h.ended.0 = cc in
    let taking : added ≡ Take caller shelf place ∷ [] = subst (λ x. EventsOf caller x added) (sym end) h.ended.2 in
    let t = owns-at g caller at need before after [] (Take caller shelf place) legal (subst (Adds caller before after) taking adds) tt owns in
    owner-one (pool_of t.0) (Caller caller) (Shelf shelf) place at t.2.0 t.1.0 t.2.1 t.2.2 (λ e. let s : Shelf shelf ≡ Caller caller = e in cc)
got-apart g caller place at need n call before after added legal adds h owns = absurd (none-some h.ended.0 h.ended.1)
