-- What a call makes of the blocks of its pass's caller.
use Rattle.std.proofs.Common.{ℕ, Bool, true, false, suc, ◌≡◌, ◌≢◌, ◌++◌, List, [], ◌∷◌, Option, Some, None, refl, sym, ◌∙◌, ap, subst, inl, inr, append_assoc}
use Rattle.std.specs.Prelude.{option_map}
use Rattle.std.proofs.lemmas.List.{same_from_push}
use Rattle.std.proofs.lemmas.Option.{none-some}
use Rattle.heap_geometry.specs.declared.geometry.Geometry.{Geometry}
use Rattle.heap_geometry.specs.declared.need.Need.{Need}
use Rattle.heap_geometry.specs.declared.need.Need.TheVariants.{Small, Large, TooLarge}
use Rattle.heap_geometry.specs.Need.{need_of}
use Rattle.pool_model.specs.declared.event.Event.{Event}
use Rattle.pool_model.specs.declared.event.Event.TheVariants.{Alloc, Free, Put, Refuse, Take, Write}
use Rattle.pool_model.specs.declared.owner.Owner.TheVariants.{Caller, Shelf}
use Rattle.pool_model.specs.Calls.{Ended, EventsOf, IsGiving, IsRefusing, IsSpending, looks}
use Rattle.pool_model.specs.Calls as ended
use Rattle.pool_model.specs.Histories.{EndsWith, caller_of, own}
use Rattle.pool_model.specs.Legal.{IsLegalWithoutCounts}
use Rattle.pool_model.specs.Pool.{Block, block_at, fresh_block, handed_to, pool_after, pool_of, written}
use Rattle.pool_model.proofs.OwnedLemmas.{clear-none, if-other, of-self, shelf-differs}
use Rattle.pool_model.proofs.HistoryLemmas.{last_cases, legal-weaker, own-append, pool_of-push, push-append}
use Rattle.pool_model.proofs.PoolLemmas.{block_at-changed_other, block_at-changed_same, block_at-here, block_at-past, block_at-without_other, block_at-without_same}
use Rattle.pool_model.proofs.WellFormedLemmas.{sound-differ, sound-of}
use Rattle.pool_model.specs.Owned.{if_of}
use Rattle.errand_steps.specs.declared.reply.Reply.{Reply}
use Rattle.errand_steps.specs.declared.reply.Reply.TheVariants as reply
use Rattle.errand_steps.specs.Calls.{Call, alloc, free, put, read, take, write}
use Rattle.sound_laws.specs.events.Ends.{HasEnded, end_of}
use Rattle.errand_steps.specs.tables.CallStage.{StageOfCall, asking, asking_run, freed, freeing, given, putting, reading, refused, taking, writing}
use Rattle.sound_laws.specs.events.Stages.{stage_of}
use Rattle.sound_laws.specs.events.UnderWay.{HasLooked, SoFar}
use Rattle.live_heap.specs.Heaps.{HeapFields}
use Rattle.live_heap.specs.declared.pass.Pass.{Pass}
use Rattle.live_heap.specs.Calls.{HasCalled, IsCalling}
use Rattle.live_heap.specs.Contents.{HasChanged, HasChangedSoFar, HasGot, HasPut, IsGiven, OwnsBut, OwnsSame, owned_after, owned_in, tells_last}
use Rattle.live_heap.specs.Endings.{ClosedFields, HasTakenIn, IsResting}
use Rattle.live_heap.specs.Passes.{IsOf, seen}
use Rattle.live_heap.specs.Whole.{IsWhole, at_once, by_steps}
use Rattle.live_heap.proofs.Growing.{own-kept, rest-none}
use Rattle.live_heap.proofs.Last.{called-last}
use Rattle.live_heap.proofs.LawsClosed.{closed-legal}
use Rattle.step_machine.proofs.ApartLemmas.{Adds}
use Rattle.live_heap.proofs.LawsKept.{called-adds, calling-adds}
use Rattle.live_heap.proofs.Owned.{AllQuiet, IsChange, changes, looks-quiet, quiet-all, quiet-append}

-- the events of an allocation that is given a block: looks, and then its own
giving-front :
    (caller words place : ℕ) (n : Need) (events : List Event) → IsGiving caller words place n events
    → (front : List Event) × (events ≡ front ++ Alloc caller words place ∷ []) × AllQuiet front
giving-front caller words place (Small class) events h = (looks caller class h.0, h.1, looks-quiet caller class h.0)
giving-front caller words place (Large units) events h = ([], h, tt)
giving-front caller words place TooLarge events h = absurd h

-- the events of an allocation that is refused, or spent, change nothing
refusing-quiet : (caller words : ℕ) (n : Need) (events : List Event) → IsRefusing caller words n events → AllQuiet events
refusing-quiet caller words (Small class) events h =
    subst AllQuiet (sym h.1)
    (quiet-append (looks caller class (suc h.0)) (Refuse caller words ∷ []) (looks-quiet caller class (suc h.0)) ((λ pool. refl), tt))
refusing-quiet caller words (Large units) events h = subst AllQuiet (sym h) ((λ pool. refl), tt)
refusing-quiet caller words TooLarge events h = absurd h

spending-quiet : (caller : ℕ) (n : Need) (events : List Event) → IsSpending caller n events → AllQuiet events
spending-quiet caller (Small class) events h = subst AllQuiet (sym h.1) (looks-quiet caller class h.0)
spending-quiet caller (Large units) events h = absurd h
spending-quiet caller TooLarge events h = absurd h

none-quiet : (events : List Event) → events ≡ [] → AllQuiet events
none-quiet events is = subst AllQuiet (sym is) tt

no-last : (xs : List Event) (x : Event) → xs ++ x ∷ [] ≢ []
no-last [] x is = let t : x ∷ [] ≡ [] = is in cc
no-last (y ∷ xs) x is = let t : y ∷ (xs ++ x ∷ []) ≡ [] = is in cc

-- a list that ends with an event of the caller has nothing behind the caller's last one
last-none :
    (caller : ℕ) (xs ys : List Event) (event : Event) → caller_of event ≡ caller → EndsWith (xs ++ ys) event → own caller ys ≡ [] → ys ≡ []
last-none caller xs ys event hers ends none =
    elim (last_cases ys) [
      | inl nothing ↦ nothing
      | inr more ↦
          let zs = more.0 in
          let z = more.1 in
          let whole : (xs ++ zs) ++ z ∷ [] ≡ ends.0 ++ event ∷ [] =
          append_assoc xs zs (z ∷ []) ∙ ap (λ (l : List Event). xs ++ l) (sym more.2) ∙ ends.1 in
          let same : z ≡ event = (same_from_push (xs ++ zs) ends.0 z event whole).1 in
          let mine : own caller (z ∷ []) ≡ z ∷ [] = subst (λ c. own c (z ∷ []) ≡ z ∷ []) (ap caller_of same ∙ hers) (own-kept z) in
          let parts : own caller zs ++ z ∷ [] ≡ [] =
          ap (λ (l : List Event). own caller zs ++ l) (sym mine) ∙ sym (own-append caller zs (z ∷ [])) ∙ sym (ap (own caller) more.2) ∙ none in
          absurd (no-last (own caller zs) z parts)
    ]

-- the pass q has seen what p had, and behind it just these events of their caller
module _
    (g : Geometry) (p q : Pass) (added : List Event) (legal : IsLegalWithoutCounts g (seen q)) (same : q.errand.caller ≡ p.errand.caller)
    (adds : Adds p.errand.caller (seen p) (seen q) added) where
  abbrev caller : ℕ
  caller = p.errand.caller

  here-now : (place : ℕ) (o : Option Block) → owned_after (seen q) caller place ≡ o → owned_in q place ≡ o
  here-now place o is = ap (λ (c : ℕ). owned_after (seen q) c place) same ∙ is

  quiet-same : AllQuiet added → OwnsSame p q
  quiet-same quiet place =
      here-now place (owned_in p place)
      (ap (λ (l : List Event). owned_after l caller place) adds.1
      ∙ quiet-all g (seen p) adds.0 caller place (subst (IsLegalWithoutCounts g) adds.1 legal) (subst AllQuiet (sym adds.2) quiet))

  change-by : (front : List Event) (event : Event) → caller_of event ≡ caller → added ≡ front ++ event ∷ [] → AllQuiet front
      → IsChange g caller (seen p) (seen q) event
  change-by front event hers is quiet = changes g caller (seen p) adds.0 (seen q) front event legal adds.1 hers (adds.2 ∙ is) quiet

  -- what is owned at a place behind a change, and at the others
  but :
      (event : Event) (place : ℕ) (now : Option Block) (c : IsChange g caller (seen p) (seen q) event)
      → if_of caller (block_at place (pool_after (pool_of c.moment) event)) ≡ now
      → ((other : ℕ) → other ≢ place → block_at other (pool_after (pool_of c.moment) event) ≡ block_at other (pool_of c.moment))
      → OwnsBut p q place now
  but event place now c here others =
      record {
        here = here-now place now (c.is place ∙ here);
        others = λ other ne. here-now other (owned_in p other) (c.is other ∙ ap (if_of caller) (others other ne) ∙ c.was other);
      }

  -- where the last event is that of the change, nothing is behind it
  at-last :
      (event : Event) (c : IsChange g caller (seen p) (seen q) event) → caller_of event ≡ caller → EndsWith (seen q) event
      → seen q ≡ c.moment ++ event ∷ []
  at-last event c hers last =
      let whole : seen q ≡ (c.moment ++ event ∷ []) ++ c.more = c.whole ∙ sym (push-append c.moment c.more event) in
      let none : c.more ≡ [] = last-none caller (c.moment ++ event ∷ []) c.more event hers (subst (λ (l : List Event). EndsWith l event) whole last) c.not_own in
      c.whole ∙ ap (λ (l : List Event). c.moment ++ event ∷ l) none

  given-new : (words place : ℕ) → IsGiving caller words place (need_of words) added → IsGiven p words place q
  given-new words place giving =
      let front = giving-front caller words place (need_of words) added giving in
      let c = change-by front.0 (Alloc caller words place) refl front.1 front.2 in
      let fresh = fresh_block caller words place in
      record {
        nothing = sym (c.was place) ∙ ap (if_of caller) (clear-none g (pool_of c.moment) caller words place (block_at place (pool_of c.moment)) c.allowed refl);
        given = but (Alloc caller words place) place (Some fresh) c
            (ap (if_of caller) (block_at-here place fresh (pool_of c.moment) refl) ∙ of-self caller fresh refl)
            (λ other ne. block_at-past other fresh (pool_of c.moment) (λ e. ne (sym e)));
      }

  freed-gone : (place : ℕ) → added ≡ Free caller place ∷ [] → OwnsBut p q place None
  freed-gone place is =
      let c = change-by [] (Free caller place) refl is tt in
      but (Free caller place) place None c
      (ap (if_of caller) (block_at-without_same place (pool_of c.moment) (sound-differ g (pool_of c.moment) (sound-of g c.moment c.legal))))
      (λ other ne. block_at-without_other place other (pool_of c.moment) ne)

  wrote-one : (place i v : ℕ) → added ≡ Write caller place i v ∷ [] → OwnsBut p q place (option_map (written i v) (owned_in p place))
  wrote-one place i v is =
      let event = Write caller place i v in
      let c = change-by [] event refl is tt in
      let block = c.allowed.0 in
      let was : owned_in p place ≡ Some block = sym (c.was place) ∙ ap (if_of caller) c.allowed.1 ∙ of-self caller block c.allowed.2 in
      subst (OwnsBut p q place) (sym (ap (option_map (written i v)) was))
      (but event place (Some (written i v block)) c
      (ap (if_of caller) (block_at-changed_same place (written i v) (pool_of c.moment) block (λ b. refl) c.allowed.1) ∙ of-self caller (written i v block) c.allowed.2)
      (λ other ne. block_at-changed_other place other (written i v) (pool_of c.moment) (λ b. refl) ne))

  put-there : (place shelf : ℕ) → added ≡ Put caller place shelf ∷ [] → EndsWith (seen q) (Put caller place shelf) → HasPut p place shelf q
  put-there place shelf is last =
      let event = Put caller place shelf in
      let c = change-by [] event refl is tt in
      let block = c.allowed.0.0 in
      let lies = block_at-changed_same place (handed_to (Shelf shelf)) (pool_of c.moment) block (λ b. refl) c.allowed.0.1 in
      let end : seen q ≡ c.moment ++ event ∷ [] = at-last event c refl last in
      record {
        gone = but event place None c
            (ap (if_of caller) lies ∙ if-other caller (handed_to (Shelf shelf) block) (shelf-differs caller shelf (Shelf shelf) refl))
            (λ other ne. block_at-changed_other place other (handed_to (Shelf shelf)) (pool_of c.moment) (λ b. refl) ne);
        block = block;
        was = sym (c.was place) ∙ ap (if_of caller) c.allowed.0.1 ∙ of-self caller block c.allowed.0.2;
        last = last;
        lies = ap (λ (l : List Event). block_at place (pool_of l)) end ∙ ap (block_at place) (pool_of-push c.moment event) ∙ lies;
      }

  got-there : (shelf place : ℕ) → added ≡ Take caller shelf place ∷ [] → EndsWith (seen q) (Take caller shelf place) → HasGot p shelf place q
  got-there shelf place is last =
      let event = Take caller shelf place in
      let c = change-by [] event refl is tt in
      let block = c.allowed.0.0 in
      record {
        nothing =
            sym (c.was place) ∙ ap (if_of caller) c.allowed.0.1
            ∙ if-other caller block (shelf-differs caller shelf block.owner c.allowed.0.2);
        before = c.moment;
        last = at-last event c refl last;
        block = block;
        lay = c.allowed.0.1;
        on = c.allowed.0.2;
        got = but event place (Some (handed_to (Caller caller) block)) c
            (ap (if_of caller) (block_at-changed_same place (handed_to (Caller caller)) (pool_of c.moment) block (λ b. refl) c.allowed.0.1)
            ∙ of-self caller (handed_to (Caller caller) block) refl)
            (λ other ne. block_at-changed_other place other (handed_to (Caller caller)) (pool_of c.moment) (λ b. refl) ne);
      }

-- the events of a call that has ended so
events-of :
    (caller : ℕ) (call : Call) (answer : Reply) (end : Ended) (added : List Event) → end_of call answer ≡ Some end → HasEnded caller call answer added
    → EventsOf caller end added
events-of caller call answer end added is h =
    let e : Some h.ended.0 ≡ Some end = sym h.ended.1 ∙ is in
    let same : h.ended.0 ≡ end = cc in
    subst (λ (x : Ended). EventsOf caller x added) same h.ended.2

never-ended :
    {A : Type 0} → (by : ℕ) (call : Call) (answer : Reply) (added : List Event) → end_of call answer ≡ None → HasEnded by call answer added → A
never-ended by call answer added is h = absurd (none-some h.ended.0 (sym is ∙ h.ended.1))

module _
    (g : Geometry) (p q : Pass) (added : List Event) (legal : IsLegalWithoutCounts g (seen q)) (same : q.errand.caller ≡ p.errand.caller)
    (adds : Adds p.errand.caller (seen p) (seen q) added) where
  abbrev by : ℕ
  by = p.errand.caller

  ended-changes :
      (call : Call) (answer : Reply) → HasEnded by call answer added
      → ((event : Event) → tells_last by call answer ≡ Some event → EndsWith (seen q) event) → HasChanged p call answer q
  ended-changes (alloc words) (reply.Given place need) h last =
      given-new g p q added legal same adds words place (events-of by (alloc words) _ (ended.alloc_given words place) added refl h)
  ended-changes (alloc words) reply.Refused h last =
      quiet-same g p q added legal same adds
      (refusing-quiet by words (need_of words) added (events-of by (alloc words) _ (ended.alloc_refused words) added refl h))
  ended-changes (alloc words) reply.Spent h last =
      quiet-same g p q added legal same adds
      (spending-quiet by (need_of words) added (events-of by (alloc words) _ (ended.alloc_spent words) added refl h))
  ended-changes (free place need) reply.Freed h last =
      freed-gone g p q added legal same adds place (events-of by (free place need) _ (ended.freed place) added refl h)
  ended-changes (write place need i v) reply.Wrote h last =
      wrote-one g p q added legal same adds place i v (events-of by (write place need i v) _ (ended.wrote place i v) added refl h)
  ended-changes (read place need i) (reply.Word word) h last =
      quiet-same g p q added legal same adds (none-quiet added (events-of by (read place need i) _ ended.read added refl h))
  ended-changes (put place need shelf) reply.Put h last =
      put-there g p q added legal same adds place shelf (events-of by (put place need shelf) _ (ended.put_done place shelf) added refl h)
      (last (Put by place shelf) refl)
  ended-changes (put place need shelf) (reply.Full found) h last =
      quiet-same g p q added legal same adds (none-quiet added (events-of by (put place need shelf) _ ended.put_full added refl h))
  ended-changes (take shelf) (reply.Got place need) h last =
      got-there g p q added legal same adds shelf place (events-of by (take shelf) _ (ended.take_got shelf place) added refl h)
      (last (Take by shelf place) refl)
  ended-changes (take shelf) reply.Empty h last =
      quiet-same g p q added legal same adds
      (subst AllQuiet (sym (events-of by (take shelf) _ (ended.take_empty shelf) added refl h)) ((λ pool. refl), tt))
  ended-changes (take shelf) (reply.Missed expected found) h last =
      quiet-same g p q added legal same adds (none-quiet added (events-of by (take shelf) _ ended.take_missed added refl h))
  ended-changes call answer h last = never-ended by call answer added refl h

  looked-quiet : (class : ℕ) (looked : Bool) → HasLooked by class looked added → AllQuiet added
  looked-quiet class false h = subst AllQuiet (sym h.1) (looks-quiet by class h.0)
  looked-quiet class true h = subst AllQuiet (sym h.1) (looks-quiet by class (suc h.0))

  so_far-changes : (call : Call) (at : StageOfCall) → SoFar by call at added → HasChangedSoFar p call at q
  so_far-changes (alloc n) (asking words class looked) so = quiet-same g p q added legal same adds (looked-quiet class looked so.2)
  so_far-changes (alloc n) (asking_run words units) so = quiet-same g p q added legal same adds (none-quiet added so.2)
  so_far-changes (alloc n) refused so = quiet-same g p q added legal same adds (refusing-quiet by n (need_of n) added so)
  so_far-changes (alloc n) (given place need) so = given-new g p q added legal same adds n place so.1
  so_far-changes (free place n) (freeing at need) so = quiet-same g p q added legal same adds (none-quiet added so.2)
  so_far-changes (free place n) freed so = freed-gone g p q added legal same adds place so
  so_far-changes (write place n j v) (writing at i value) so = quiet-same g p q added legal same adds (none-quiet added so.3)
  so_far-changes (read place n j) (reading at i) so = quiet-same g p q added legal same adds (none-quiet added so.2)
  so_far-changes (put place n k) (putting at need shelf) so = quiet-same g p q added legal same adds (none-quiet added so.3)
  so_far-changes (take k) (taking shelf) so = quiet-same g p q added legal same adds (none-quiet added so.1)
  so_far-changes call at so = absurd so

pub called-changes :
    (h : HeapFields) (p q : Pass) (call : Call) (steps : ℕ) (answer : Reply) → IsOf h q → HasCalled p call steps answer q → HasChanged p call answer q
called-changes h p q call steps answer of called =
    ended-changes h.layout p q called.added (legal-weaker h.layout (seen q) of.served.legal) called.caller (called-adds p q call steps answer called)
    call answer called.ended (λ event. called-last p q call steps answer event called)

pub calling-changes :
    (h : HeapFields) (p q : Pass) (call : Call) (steps : ℕ) → IsOf h q → IsCalling p call steps q → HasChangedSoFar p call (stage_of q.errand.point) q
calling-changes h p q call steps of calling =
    so_far-changes h.layout p q calling.added (legal-weaker h.layout (seen q) of.served.legal) calling.caller (calling-adds p q call steps calling)
    call (stage_of q.errand.point) calling.under_way

-- what a whole call, however often it was interrupted, has made of what its caller owns
pub whole-changes :
    (h k : HeapFields) (p q : Pass) (call : Call) (answer : Reply) → IsWhole h p call answer k q → HasChanged p call answer q
whole-changes h k p q call answer (by_steps made, may, same, is) = called-changes k p q call made.0 answer is.0 made.1
whole-changes h k p q call answer (at_once words is_alloc spent once, may, same, is) =
    let stays : OwnsSame p q = λ place. ap (λ (r : Pass). owned_in r place) once.same in
    subst (λ (c : Call). HasChanged p c answer q) (sym is_alloc) (subst (λ (a : Reply). HasChanged p (alloc words) a q) (sym spent) stays)

-- a closed heap has what each pass owned, and nothing else of its caller's
pub closed-owned :
    (c : ClosedFields) (p : Pass) (place : ℕ) → IsResting c → HasTakenIn c p → owned_after c.events p.errand.caller place ≡ owned_in p place
closed-owned c p place rests t =
    let caller = p.errand.caller in
    let rest = t.seen_before.0 in
    let none : own caller rest ≡ [] = rest-none caller (seen p) rest (sym t.events ∙ ap (own caller) t.seen_before.1) in
    ap (λ (l : List Event). owned_after l caller place) t.seen_before.1
    ∙ quiet-all c.geometry (seen p) rest caller place
    (subst (IsLegalWithoutCounts c.geometry) t.seen_before.1 (legal-weaker c.geometry c.events (closed-legal c rests))) (subst AllQuiet (sym none) tt)
