-- Passes that go on without a hand-over.
use Rattle.std.proofs.Common.{ℕ, suc, ◌≡◌, ◌<◌, ◌+◌, ◌++◌, Bool, cond, false, List, [], ◌∷◌, Some, refl, sym, ap, ◌∙◌, subst, arith, append_assoc}
use Rattle.std.specs.Prelude.{All, count_by}
use Rattle.std.proofs.lemmas.List.{append_cancel_left, append-nil}
use Rattle.std.proofs.lemmas.List.Elements.{All-append, All-cons, All-head, All-nil, All-tail}
use Rattle.pool_model.specs.declared.event.Event.{Event}
use Rattle.pool_model.specs.declared.event.Event.TheVariants.{Alloc, Looked, Refuse, Free, Write, Put, Take, TakeNone}
use Rattle.pool_model.specs.Calls.{Ended}
use Rattle.pool_model.specs.Histories.{own}
use Rattle.pool_model.proofs.HistoryLemmas.{own-append}
use Rattle.shelf_laws.specs.Quiet.{HandsNothingOver, IsOutside, IsQuiet, is_put_of, is_take_of, sent, taken}
use Rattle.shelf_laws.proofs.CallLemmas.{ended-outside}
use Rattle.shelf_laws.proofs.GrowLemmas.{count-cons, parcels-none}
use Rattle.shelf_laws.proofs.OwnLemmas.{puts-own, quiet-more, takes-own, turns-stay}
use Rattle.errand_steps.specs.declared.reply.Reply.{Reply}
use Rattle.errand_steps.specs.Calls.{Call}
use Rattle.sound_laws.specs.events.Ends.{end_of}
use Rattle.live_heap.specs.Heaps.{HeapFields}
use Rattle.live_heap.specs.declared.pass.Pass.{Pass}
use Rattle.live_heap.specs.Calls.{HasCalled}
use Rattle.live_heap.specs.Passes.{seen}
use Rattle.live_heap.specs.Whole.{IsWhole, by_steps, at_once}
use Rattle.live_heap.proofs.laws_for_builders.Events.{called-grows}
use Rattle.pipe_runner.specs.Moves.{PassGoesOn, StaysHome}

-- an event that is outside of each pipe stays home, and so does each of a list
one-home : (event : Event) → ((n m : ℕ) → IsOutside n m event) → StaysHome event
one-home (Alloc caller need place) out = tt
one-home (Looked caller class) out = tt
one-home (Refuse caller need) out = tt
one-home (Free caller place) out = tt
one-home (Write caller place i v) out = tt
one-home (Put caller place shelf) out = absurd (omega (arith, out (suc shelf) 1))
one-home (Take caller shelf place) out = absurd (omega (arith, out (suc shelf) 1))
one-home (TakeNone caller shelf) out = tt

all-home : (events : List Event) → ((n m : ℕ) → All (IsOutside n m) events) → All StaysHome events
all-home [] out = All-nil StaysHome
all-home (event ∷ events) out =
    All-cons StaysHome event events (one-home event (λ n m. All-head (IsOutside n m) event events (out n m)))
    (all-home events (λ n m. All-tail (IsOutside n m) event events (out n m)))

-- an event that stays home is outside of each pipe, and so is each of a list
one-outside : (n m : ℕ) (event : Event) → StaysHome event → IsOutside n m event
one-outside n m (Alloc caller need place) home = tt
one-outside n m (Looked caller class) home = tt
one-outside n m (Refuse caller need) home = tt
one-outside n m (Free caller place) home = tt
one-outside n m (Write caller place i v) home = tt
one-outside n m (Put caller place shelf) home = absurd home
one-outside n m (Take caller shelf place) home = absurd home
one-outside n m (TakeNone caller shelf) home = tt

pub home-outside : (n m : ℕ) (events : List Event) → All StaysHome events → All (IsOutside n m) events
home-outside n m [] home = All-nil (IsOutside n m)
home-outside n m (event ∷ events) home =
    All-cons (IsOutside n m) event events (one-outside n m event (All-head StaysHome event events home))
    (home-outside n m events (All-tail StaysHome event events home))

-- no event that stays home is chosen where a chosen event is a hand-over
pub home-none :
    (chosen : Event → Bool) (events : List Event) → ((event : Event) → StaysHome event → chosen event ≡ false) → All StaysHome events
    → count_by chosen events ≡ 0
home-none chosen [] off home = refl
home-none chosen (event ∷ events) off home =
    let first : chosen event ≡ false = off event (All-head StaysHome event events home) in
    let rest = home-none chosen events off (All-tail StaysHome event events home) in
    let whole = count-cons chosen event events in
    let none : count_by chosen (event ∷ events) ≡ 0 + count_by chosen events = whole ∙ ap (λ (b : Bool). cond b 1 0 + count_by chosen events) first in
    omega (arith, none, rest)

pub no-put : (m k : ℕ) (event : Event) → StaysHome event → is_put_of m k event ≡ false
no-put m k (Alloc caller need place) home = refl
no-put m k (Looked caller class) home = refl
no-put m k (Refuse caller need) home = refl
no-put m k (Free caller place) home = refl
no-put m k (Write caller place i v) home = refl
no-put m k (Put caller place shelf) home = absurd home
no-put m k (Take caller shelf place) home = absurd home
no-put m k (TakeNone caller shelf) home = refl

pub no-take : (n m k : ℕ) (event : Event) → StaysHome event → is_take_of n m k event ≡ false
no-take n m k (Alloc caller need place) home = refl
no-take n m k (Looked caller class) home = refl
no-take n m k (Refuse caller need) home = refl
no-take n m k (Free caller place) home = refl
no-take n m k (Write caller place i v) home = refl
no-take n m k (Put caller place shelf) home = absurd home
no-take n m k (Take caller shelf place) home = absurd home
no-take n m k (TakeNone caller shelf) home = refl

-- a call that hands nothing over
pub called-goes :
    (p q : Pass) (call : Call) (steps : ℕ) (answer : Reply) (end : Ended) → HasCalled p call steps answer q → end_of call answer ≡ Some end
    → HandsNothingOver end → PassGoesOn p q
called-goes p q call steps answer end called is home =
    let c = p.errand.caller in
    let grows = called-grows p q call steps answer called in
    let mine : own c grows.0 ≡ called.added =
    append_cancel_left (own c (seen p)) (own c grows.0) called.added
    (sym (own-append c (seen p) grows.0) ∙ ap (own c) (sym grows.1) ∙ called.events) in
    let told = called.ended.ended in
    let both : Some end ≡ Some told.0 = sym is ∙ told.1 in
    let same : end ≡ told.0 = cc in
    record {
      caller = called.caller;
      more = grows.0;
      grows = grows.1;
      home = subst (All StaysHome) (sym mine)
          (all-home called.added (λ n m. ended-outside n m c told.0 called.added (subst HandsNothingOver same home) told.2));
    }

pub goes-here : (p q : Pass) → q ≡ p → PassGoesOn p q
goes-here p q same = record {
  caller = ap (λ (x : Pass). x.errand.caller) same;
  more = [];
  grows = ap seen same ∙ sym (append-nil (seen p));
  home = All-nil StaysHome;
}

pub goes-trans : (p q r : Pass) → PassGoesOn p q → PassGoesOn q r → PassGoesOn p r
goes-trans p q r a b =
    let c = p.errand.caller in
    record {
      caller = b.caller ∙ a.caller;
      more = a.more ++ b.more;
      grows = b.grows ∙ ap (λ (l : List Event). l ++ b.more) a.grows ∙ append_assoc (seen p) a.more b.more;
      home = subst (All StaysHome) (sym (own-append c a.more b.more))
          (All-append StaysHome (own c a.more) (own c b.more) a.home (subst (λ (k : ℕ). All StaysHome (own k b.more)) a.caller b.home));
    }

pub whole-goes :
    (h : HeapFields) (p q : Pass) (call : Call) (answer : Reply) (end : Ended) → IsWhole h p call answer h q → end_of call answer ≡ Some end
    → HandsNothingOver end → PassGoesOn p q
whole-goes h p q call answer end (by_steps made, may, same, is) there home =
    called-goes p q call made.0 answer end made.1 there home
whole-goes h p q call answer end (at_once words is_alloc spent once, may, same, is) there home = goes-here p q once.same

-- what a pass that goes on has seen of its own, and what of that counts
pub goes-own : (p q : Pass) (g : PassGoesOn p q) → own p.errand.caller (seen q) ≡ own p.errand.caller (seen p) ++ own p.errand.caller g.more
goes-own p q g = ap (own p.errand.caller) g.grows ∙ own-append p.errand.caller (seen p) g.more

pub goes-quiet :
    (n m : ℕ) (p q : Pass) → PassGoesOn p q → IsQuiet n m (own p.errand.caller (seen p)) → IsQuiet n m (own p.errand.caller (seen q))
goes-quiet n m p q g quiet =
    let c = p.errand.caller in
    subst (IsQuiet n m) (sym (goes-own p q g)) (quiet-more n m (own c (seen p)) (own c g.more) quiet (home-outside n m (own c g.more) g.home))

pub goes-turns :
    (n m k : ℕ) (p q : Pass) → 0 < m → k < n → PassGoesOn p q
    → (count_by (is_put_of m k) (own p.errand.caller (seen q)) ≡ count_by (is_put_of m k) (own p.errand.caller (seen p)))
    × (count_by (is_take_of n m k) (own p.errand.caller (seen q)) ≡ count_by (is_take_of n m k) (own p.errand.caller (seen p)))
goes-turns n m k p q some_shelves below g =
    let c = p.errand.caller in
    let stay = turns-stay n m k (own c (seen p)) (own c g.more) some_shelves below (home-outside n m (own c g.more) g.home) in
    (ap (count_by (is_put_of m k)) (goes-own p q g) ∙ stay.0, ap (count_by (is_take_of n m k)) (goes-own p q g) ∙ stay.1)

pub goes-sent : (m k : ℕ) (p q : Pass) → p.errand.caller ≡ k → PassGoesOn p q → sent m k (seen q) ≡ sent m k (seen p)
goes-sent m k p q caller g =
    let none : count_by (is_put_of m k) g.more ≡ 0 =
    sym (puts-own m k g.more)
    ∙ home-none (is_put_of m k) (own k g.more) (no-put m k) (subst (λ (c : ℕ). All StaysHome (own c g.more)) caller g.home) in
    ap (sent m k) g.grows ∙ parcels-none (is_put_of m k) (seen p) g.more none

pub goes-taken : (n m k : ℕ) (p q : Pass) → p.errand.caller ≡ n → PassGoesOn p q → taken n m k (seen q) ≡ taken n m k (seen p)
goes-taken n m k p q caller g =
    let none : count_by (is_take_of n m k) g.more ≡ 0 =
    sym (takes-own n m k g.more)
    ∙ home-none (is_take_of n m k) (own n g.more) (no-take n m k) (subst (λ (c : ℕ). All StaysHome (own c g.more)) caller g.home) in
    ap (taken n m k) g.grows ∙ parcels-none (is_take_of n m k) (seen p) g.more none
