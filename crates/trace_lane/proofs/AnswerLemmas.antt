-- What a step of a caller's call came to, over events alone: the call goes on, or it has ended as its answer says.
use Rattle.std.proofs.Common.{ℕ, true, false, ◌≡◌, ◌≢◌, ◌<◌, ◌≤◌, ◌^◌, ◌∷◌, ◌++◌, List, [], Option, Some, None, refl, sym, ap, ◌∙◌, subst, inl, inr, arith, append-nil, append_assoc}
use Rattle.trace_lane.proofs.Common.{Geometry, Need, Small, Event, Take, EventsOf, Call, Progress, Reply, HasEnded, IsMoment, IsServed, OwnsAfter, IsNeed, Shelf, Block}
use Rattle.trace_lane.proofs.Common.{IsLegal, IsWellFormed, IsHeapBlock, IsIdle, IsBusy, ErrandFields, IsUnderWay, IsFullShelf, IsWord, alloc, free, write, read, put, take}
use Rattle.trace_lane.proofs.Common.{begun_by, end_of, true≢false, cases_Bool, eq-eqb, slice_index_or, own, done-told, handed_to, block_at, pool_of, pool_of-push}
use Rattle.trace_lane.proofs.Common.{own-append, legal-weaker, every-found, sound-of, alloc_answer, is_spent, event_of, is_idle, with_event, spent-begins, put-offers}
use Rattle.heap_geometry.specs.Need.{need_of}
use Rattle.pool_model.specs.declared.owner.Owner.TheVariants.{Caller}
use Rattle.pool_model.specs.Calls as ended
use Rattle.pool_model.specs.Legal.{IsLegalEvent}
use Rattle.pool_model.specs.WellFormed.{IsPlaceFor}
use Rattle.pool_model.proofs.HistoryLemmas.{EachAfter-last}
use Rattle.pool_model.proofs.PoolLemmas.{block_at-changed_same, place-found}
use Rattle.word_table.specs.Actions.{is_won}
use Rattle.word_table.specs.declared.action.Found.{Found}
use Rattle.step_parts.specs.declared.large.point.LargePoint.{LargePoint}
use Rattle.step_parts.specs.declared.large.point.LargePoint.TheVariants as large
use Rattle.errand_steps.specs.Begins.{begins_alloc, alloc_begun, free_begun, write_begun, read_begun, put_begun, take_begun}
use Rattle.errand_steps.specs.Errands.{IsErrand, plan_of, settle_of, answer_of, begins_turn, after_list, counts_lost, raised}
use Rattle.errand_steps.specs.Nexts.{next_of}
use Rattle.errand_steps.specs.Offers.{offered_at}
use Rattle.errand_steps.specs.Steps.{found_at, event_at, name_at}
use Rattle.errand_steps.specs.declared.next.Next.{Next}
use Rattle.errand_steps.specs.declared.point.Point.TheVariants as point
use Rattle.errand_steps.specs.declared.reply.Begun.TheVariants as begun
use Rattle.errand_steps.specs.declared.reply.Offer.{Offer}
use Rattle.errand_steps.specs.declared.reply.Progress.TheVariants as progress
use Rattle.errand_steps.specs.declared.reply.Reply.TheVariants as reply
use Rattle.errand_steps.proofs.EventLemmas.{event_own}
use Rattle.errand_steps.proofs.SpentLemmas.{ends-spent, begins-at_limit}
use Rattle.sound_laws.specs.events.UnderWay.{IsAboutBlock}
use Rattle.sound_laws.proofs.events_lemmas.AnswerLemmas.{step-goes_on, step-ends}
use Rattle.sound_laws.proofs.events_lemmas.BeginsLemmas.{call-begins, started-busy, other-busy}
use Rattle.sound_state.specs.Answers.{StandsAt}
use Rattle.sound_state.specs.Recalls.{IsOwned}
use Rattle.sound_state.proofs.shared.StepLemmas.{raised-least}
use Rattle.sound_state.proofs.CountedLemmas.{steps-counted}
use Rattle.sound_laws.proofs.events_lemmas.OwnEvents.{own-with_event}
use Rattle.step_machine.proofs.MomentAnswers.{moment-meant, settle-caller, settle-geometry}

-- what every step does: more events are seen, of which the caller's own are these; its number and its heap stay, what it lost does not fall, and its turns stay where they are all begun
pub record HasMovedOn (e f : ErrandFields) (before after more : List Event) : Type 0 where
  pub rest : List Event
  pub seen : after ≡ before ++ rest
  pub own_rest : own e.caller rest ≡ more
  pub own_events : own e.caller after ≡ own e.caller before ++ more
  pub same_caller : f.caller ≡ e.caller
  pub same_geometry : f.geometry ≡ e.geometry
  pub lost : e.lost ≤ f.lost
  pub at_limit : e.turns ≡ e.geometry.turn_limit → f.turns ≡ e.geometry.turn_limit

-- the call under way goes on: more events are seen, and its caller is busy with it still
pub record CallGoesOn (e f : ErrandFields) (call : Call) (before after added : List Event) : Type 0 where
  pub more : List Event
  pub moved_on : HasMovedOn e f before after more
  pub busy : IsBusy f
  pub under_way : IsUnderWay e.caller call f.point (added ++ more)

-- the allocation is given this block, which serves what was asked for and is the caller's
pub record EndsGiven (e f : ErrandFields) (words place : ℕ) (need : Need) (before after added : List Event) : Type 0 where
  pub serves : need ≡ need_of words
  pub owned : OwnsAfter after e.caller place need

-- the word of the caller's live block was read; it is what the block holds there, where that was written
pub record EndsRead (e f : ErrandFields) (place i word : ℕ) (before after added : List Event) : Type 0 where
  pub block : Block
  pub live : block_at place (pool_of after) ≡ Some block
  pub is_word : IsWord (slice_index_or block.contents i None) word

-- a block lies on the shelf, and the caller has its own back
pub record EndsFull (e f : ErrandFields) (place : ℕ) (need : Need) (shelf back : ℕ) (back_need : Need) (before after added : List Event) : Type 0 where
  pub same_place : back ≡ place
  pub same_need : back_need ≡ need
  pub full : IsFullShelf (pool_of after) shelf

-- the block that lay on the shelf just before is the caller's
pub record EndsGot (e f : ErrandFields) (shelf place : ℕ) (need : Need) (before after added : List Event) : Type 0 where
  pub between : List Event
  pub not_own : own e.caller between ≡ []
  pub last : after ≡ (before ++ between) ++ Take e.caller shelf place ∷ []
  pub block : Block
  pub lay : block_at place (pool_of (before ++ between)) ≡ Some block
  pub block_need : block.need ≡ need

-- a step of a caller, over events: its errand goes on by what its action found, and the events gain that of the step behind those of others
pub record IsSettled (e f : ErrandFields) (before after : List Event) (answer : Progress) : Type 0 where
  pub x : Found
  pub rule : IsErrand e
  pub lost : e.lost < 2 ^ 64
  pub busy : IsBusy e
  pub word : x.value < 2 ^ 64
  pub won : x.won ≡ is_won (plan_of e) x.value
  pub settled : f ≡ settle_of e x
  pub answers : answer ≡ answer_of e x
  pub between : List Event
  pub not_own : own e.caller between ≡ []
  pub seen : after ≡ with_event (before ++ between) (event_of e.caller e.point x)

pub settled-of :
    (e f : ErrandFields) (before after : List Event) (answer : Progress) → IsMoment e f before after answer
    → IsSettled e f before after answer
settled-of e f before after answer m =
    let x = found_at m.state e.caller in
    let own_errand = m.sound.parts.1.formed.errands e.caller m.has in
    record {
      x = x;
      rule = subst IsErrand m.here own_errand.rule;
      lost = subst (λ (d : ErrandFields). d.lost < 2 ^ 64) m.here own_errand.lost;
      busy = subst IsBusy m.here m.step.busy;
      word = m.sound.parts.1.formed.words (name_at m.state e.caller);
      won = subst (λ (d : ErrandFields). x.won ≡ is_won (plan_of d) x.value) m.here refl;
      settled = sym m.there ∙ m.step.errand.here ∙ ap (λ (d : ErrandFields). settle_of d x) m.here;
      answers = m.answers;
      between = m.between;
      not_own = m.not_own;
      seen =
          sym m.now ∙ m.step.history ∙ ap (λ h. with_event h (event_at m.state e.caller)) m.seen
          ∙ ap (λ (d : ErrandFields). with_event (before ++ m.between) (event_of e.caller d.point x)) m.here;
    }

-- an event behind a list
pub behind : (events : List Event) (event : Option Event) → with_event events event ≡ events ++ with_event [] event
behind events None = sym (append-nil events)
behind events (Some event) = refl

-- a caller without a turn left begins none
no-turn : (e : ErrandFields) (n : Next) → is_spent e ≡ true → begins_turn e n ≡ false
no-turn e n spent = grind (arith)

settled-lost : (e : ErrandFields) (x : Found) → e.lost < 2 ^ 64 → e.lost ≤ (settle_of e x).lost
unfolding settle_of
settled-lost e x small = raised-least (counts_lost e.point x) e.lost small

settled-limit :
    (e : ErrandFields) (x : Found) → e.turns ≡ e.geometry.turn_limit → (settle_of e x).turns ≡ e.geometry.turn_limit
unfolding settle_of
settled-limit e x is =
    ap (λ b. raised b e.turns) (no-turn e (after_list e (next_of e.point x)) (eq-eqb e.turns e.geometry.turn_limit is)) ∙ is

-- a step moves its caller on, by the event of the step if it has one
pub moved-on :
    (e f : ErrandFields) (before after : List Event) (answer : Progress) (s : IsSettled e f before after answer)
    → HasMovedOn e f before after (with_event [] (event_of e.caller e.point s.x))
moved-on e f before after answer s =
    let event = event_of e.caller e.point s.x in
    let own_more : own e.caller (with_event [] event) ≡ with_event [] event =
    own-with_event e.caller [] event (λ ev is. event_own e.caller e.point s.x ev is) in
    let own_rest : own e.caller (s.between ++ with_event [] event) ≡ with_event [] event =
    own-append e.caller s.between (with_event [] event) ∙ ap (λ xs. xs ++ own e.caller (with_event [] event)) s.not_own ∙ own_more in
    let seen : after ≡ before ++ (s.between ++ with_event [] event) =
    s.seen ∙ behind (before ++ s.between) event ∙ append_assoc before s.between (with_event [] event) in
    record {
      rest = s.between ++ with_event [] event;
      seen = seen;
      own_rest = own_rest;
      own_events =
          ap (own e.caller) seen ∙ own-append e.caller before (s.between ++ with_event [] event)
          ∙ ap (λ xs. own e.caller before ++ xs) own_rest;
      same_caller = ap (λ (d : ErrandFields). d.caller) s.settled ∙ settle-caller e s.x;
      same_geometry = ap (λ (d : ErrandFields). d.geometry) s.settled ∙ settle-geometry e s.x;
      lost = subst (λ (d : ErrandFields). e.lost ≤ d.lost) (sym s.settled) (settled-lost e s.x s.lost);
      at_limit = λ is. ap (λ (d : ErrandFields). d.turns) s.settled ∙ settled-limit e s.x is;
    }

-- a call that the step doesn't end goes on
pub goes-on :
    (e f : ErrandFields) (call : Call) (before after added : List Event) (answer : Progress)
    → ((r : Reply) → answer ≢ progress.Done r) → IsMoment e f before after answer → IsUnderWay e.caller call e.point added
    → CallGoesOn e f call before after added
goes-on e f call before after added answer on moment way =
    let s = settled-of e f before after answer moment in
    let busy : IsBusy (settle_of e s.x) =
    elim (cases_Bool (is_idle (settle_of e s.x).point)) [
      | inl idle ↦ let done = (done-told e s.x s.busy).0 idle in absurd (on done.0 (s.answers ∙ done.1))
      | inr going ↦ going
    ] in
    let under = step-goes_on e s.x call added s.rule s.word s.won way busy in
    record {
      more = with_event [] (event_of e.caller e.point s.x);
      moved_on = moved-on e f before after answer s;
      busy = subst IsBusy (sym s.settled) busy;
      under_way =
          subst (λ (d : ErrandFields). IsUnderWay e.caller call d.point (added ++ with_event [] (event_of e.caller e.point s.x))) (sym s.settled)
          (subst (IsUnderWay e.caller call (settle_of e s.x).point) (behind added (event_of e.caller e.point s.x)) under);
    }

-- a call that ends answers one of its own answers
pub has-ended :
    (e f : ErrandFields) (call : Call) (before after added : List Event) (r : Reply) (s : IsSettled e f before after (progress.Done r))
    → IsUnderWay e.caller call e.point added → HasEnded e.caller call r (with_event added (event_of e.caller e.point s.x))
has-ended e f call before after added r s way = step-ends e s.x call added r s.rule s.word s.won way (sym s.answers)

pub ends-not :
    (e f : ErrandFields) (call : Call) (before after added : List Event) (r : Reply) → end_of call r ≡ None
    → IsMoment e f before after (progress.Done r) → IsUnderWay e.caller call e.point added → ⊥
ends-not e f call before after added r none moment way =
    let ended = has-ended e f call before after added r (settled-of e f before after (progress.Done r) moment) way in
    let both : Some ended.ended.0 ≡ None = sym ended.ended.1 ∙ none in cc

-- a block that the caller owns in the state after the step
owned-after :
    (e f : ErrandFields) (before after : List Event) (answer : Progress) (m : IsMoment e f before after answer) (place : ℕ) (need : Need)
    → IsOwned m.next e.caller place need → OwnsAfter after e.caller place need
owned-after e f before after answer m place need owned = subst (λ h. OwnsAfter h e.caller place need) m.now owned.block

-- the call under way stands where its caller does
stands-at :
    (e f : ErrandFields) (before after added : List Event) (answer : Progress) (call : Call) (m : IsMoment e f before after answer)
    (p : LargePoint) (stands : StandsAt m.state e.caller p) → IsUnderWay e.caller call e.point added
    → IsUnderWay e.caller call (point.Large p stands.0) added
stands-at e f before after added answer call m p stands way =
    subst (λ q. IsUnderWay e.caller call q added) (sym (ap (λ (d : ErrandFields). d.point) m.here) ∙ stands.1) way

-- the number of a word that was read
word-read : (word : Option ℕ) (v : ℕ) → ((w : ℕ) → word ≡ Some w → v ≡ w) → IsWord word v
word-read None v is = tt
word-read (Some w) v is = is w refl

pub ends-read :
    (e f : ErrandFields) (before after added : List Event) (place : ℕ) (need : Need) (i v : ℕ)
    → IsMoment e f before after (progress.Done (reply.Word v)) → IsUnderWay e.caller (read place need i) e.point added
    → EndsRead e f place i v before after added
ends-read e f before after added place need i v m way =
    let says = moment-meant e f before after _ m (reply.Word v) refl in
    let at = stands-at e f before after added _ (read place need i) m (large.LoadWord says.0 says.1) says.3 way in
    let live : block_at place (pool_of after) ≡ Some says.2 =
    subst (λ p. block_at p (pool_of after) ≡ Some says.2) at.0 (subst (λ h. block_at says.0 (pool_of h) ≡ Some says.2) m.now says.4) in
    record {
      block = says.2;
      live = live;
      is_word =
          subst (λ k. IsWord (slice_index_or says.2.contents k None) v) at.1
          (word-read (slice_index_or says.2.contents says.1 None) v says.8);
    }

pub ends-full :
    (e f : ErrandFields) (before after added : List Event) (place : ℕ) (need : Need) (shelf found back : ℕ) (back_need : Need)
    → IsMoment e f before after (progress.Done (reply.Full found)) → offered_at e.point ≡ Some (record { place = back; need = back_need })
    → IsUnderWay e.caller (put place need shelf) e.point added → EndsFull e f place need shelf back back_need before after added
ends-full e f before after added place need shelf found back back_need m offered way =
    let says = moment-meant e f before after _ m (reply.Full found) refl in
    let at = stands-at e f before after added _ (put place need shelf) m _ says.3 way in
    let offers = put-offers e.caller place need shelf e.point added way in
    let offer : Offer = record { place = place; need = need } in
    let other : Offer = record { place = back; need = back_need } in
    let same : other ≡ offer = let both : Some other ≡ Some offer = sym offered ∙ offers in cc in
    record {
      same_place = ap (λ (o : Offer). o.place) same;
      same_need = ap (λ (o : Offer). o.need) same;
      full =
          record {
            block = says.5.0;
            live = subst (λ h. block_at says.5.0.place (pool_of h) ≡ Some says.5.0) m.now says.5.1;
            shelved = says.5.2 ∙ ap Shelf at.2;
          };
    }

pub ends-got :
    (e f : ErrandFields) (before after added : List Event) (shelf place : ℕ) (need : Need)
    → IsMoment e f before after (progress.Done (reply.Got place need)) → IsUnderWay e.caller (take shelf) e.point added
    → EndsGot e f shelf place need before after added
ends-got e f before after added shelf place need m way =
    let says = moment-meant e f before after _ m (reply.Got place need) refl in
    let at = stands-at e f before after added _ (take shelf) m (large.TakeBlock says.0 place need) says.1.0 way in
    let event : Event = Take e.caller shelf place in
    let seen : List Event = before ++ m.between in
    let last : after ≡ seen ++ event ∷ [] =
    sym m.now ∙ m.step.history ∙ ap (λ h. with_event h (event_at m.state e.caller)) m.seen ∙ ap (with_event seen) says.1.1
    ∙ ap (λ k. seen ++ Take e.caller k place ∷ []) at.0 in
    let sound = steps-counted e.geometry m.state e.caller m.next m.sound m.has m.step in
    let legal : IsLegal e.geometry (seen ++ event ∷ []) = subst (IsLegal e.geometry) (sym (sym last ∙ sym m.now)) sound.legal in
    let lay = (EachAfter-last (IsLegalEvent e.geometry) seen event legal).0.1.0 in
    let owned = owned-after e f before after _ m place need says.2 in
    let handed : block_at place (pool_of after) ≡ Some (handed_to (Caller e.caller) lay.0) =
    ap (λ h. block_at place (pool_of h)) last ∙ ap (block_at place) (pool_of-push seen event)
    ∙ block_at-changed_same place (handed_to (Caller e.caller)) (pool_of seen) lay.0 (λ b. refl) lay.1 in
    let same : handed_to (Caller e.caller) lay.0 ≡ owned.0 =
    let both : Some (handed_to (Caller e.caller) lay.0) ≡ Some owned.0 = sym handed ∙ owned.1 in cc in
    record {
      between = m.between;
      not_own = m.not_own;
      last = last;
      block = lay.0;
      lay = lay.1;
      block_need = ap (λ (b : Block). b.need) same ∙ owned.3;
    }

pub ends-given :
    (e f : ErrandFields) (before after added : List Event) (words place : ℕ) (need : Need)
    → IsMoment e f before after (progress.Done (reply.Given place need)) → IsUnderWay e.caller (alloc words) e.point added
    → EndsGiven e f words place need before after added
ends-given e f before after added words place need m way =
    let r : Reply = reply.Given place need in
    record {
      serves = (has-ended e f (alloc words) before after added r (settled-of e f before after (progress.Done r) m) way).serves;
      owned = owned-after e f before after _ m place need (moment-meant e f before after _ m r refl).3;
    }

-- an allocation that found no turn left has taken them all
pub ends-spent_call :
    (e f : ErrandFields) (before after : List Event) → IsMoment e f before after (progress.Done reply.Spent) → f.turns ≡ e.geometry.turn_limit
ends-spent_call e f before after m =
    let s = settled-of e f before after (progress.Done reply.Spent) m in
    ap (λ (d : ErrandFields). d.turns) s.settled ∙ (ends-spent e s.x (sym s.answers)).1

-- a caller may begin a call: the block that it is about is its own; an allocation has a turn, if it wants one
abbrev pub MayCall : ErrandFields → List Event → Call → Type 0
MayCall e events (alloc words) = alloc_answer e words ≡ begun.Started
MayCall e events (free place need) = OwnsAfter events e.caller place need
MayCall e events (write place need i value) = OwnsAfter events e.caller place need
MayCall e events (read place need i) = OwnsAfter events e.caller place need
MayCall e events (put place need shelf) = OwnsAfter events e.caller place need
MayCall e events (take shelf) = Unit {0}

-- a call that begins leaves the caller's number, its heap and what it lost, and takes no turn of one that has none left
pub record IsKeptBy (e f : ErrandFields) : Type 0 where
  pub same_caller : f.caller ≡ e.caller
  pub same_geometry : f.geometry ≡ e.geometry
  pub lost : f.lost ≡ e.lost
  pub at_limit : e.turns ≡ e.geometry.turn_limit → f.turns ≡ e.geometry.turn_limit

-- a caller with this errand has begun the call
pub record HasBegun (e f : ErrandFields) (call : Call) : Type 0 where
  pub busy : IsBusy f
  pub under_way : IsUnderWay e.caller call f.point []
  pub kept : IsKeptBy e f

-- a block of the caller's is one of its heap's
pub heap-block :
    (g : Geometry) (events : List Event) (caller place : ℕ) (need : Need) → IsLegal g events → OwnsAfter events caller place need
    → IsHeapBlock g place need
heap-block g events caller place need legal owned =
    let well : IsWellFormed g owned.0 =
    every-found (IsWellFormed g) place (pool_of events) owned.0 (sound-of g events (legal-weaker g events legal)).each owned.1 in (
      subst IsNeed owned.3 well.need,
      subst (λ n. IsPlaceFor g n place) owned.3 (subst (IsPlaceFor g owned.0.need) (place-found place (pool_of events) owned.0 owned.1) well.place),
    )

-- the need of a block that a caller owns is one that blocks have
pub owned-need :
    (g : Geometry) (events : List Event) (caller place : ℕ) (need : Need) → IsLegal g events → OwnsAfter events caller place need → IsNeed need
owned-need g events caller place need legal owned = (heap-block g events caller place need legal owned).0

about-block :
    (g : Geometry) (e : ErrandFields) (events : List Event) (call : Call) → e.geometry ≡ g → IsLegal g events → MayCall e events call
    → IsAboutBlock e.geometry call
about-block g e events (free place need) same legal may = subst (λ h. IsHeapBlock h place need) (sym same) (heap-block g events e.caller place need legal may)
about-block g e events (write place need i value) same legal may = subst (λ h. IsHeapBlock h place need) (sym same) (heap-block g events e.caller place need legal may)
about-block g e events (read place need i) same legal may = subst (λ h. IsHeapBlock h place need) (sym same) (heap-block g events e.caller place need legal may)
about-block g e events (put place need shelf) same legal may = subst (λ h. IsHeapBlock h place need) (sym same) (heap-block g events e.caller place need legal may)
about-block g e events call same legal may = tt

-- a call that may begin does, and keeps the rest of the errand
call-busy :
    (e : ErrandFields) (events : List Event) (call : Call) → IsAboutBlock e.geometry call → MayCall e events call → IsBusy (begun_by e call)
call-busy e events (alloc words) about may = started-busy e words may
call-busy e events call about may = other-busy e call about (λ words is. cc)

alloc-kept : (e : ErrandFields) (words : ℕ) (need : Need) → IsKeptBy e (begins_alloc e words need)
alloc-kept e words (Small class) =
    elim (cases_Bool (is_spent e)) [
      | inl spent ↦ rw spent (record { same_caller = refl; same_geometry = refl; lost = refl; at_limit = λ is. is })
      | inr left ↦ rw left (record {
        same_caller = refl;
        same_geometry = refl;
        lost = refl;
        at_limit = λ is. absurd (true≢false (sym (eq-eqb e.turns e.geometry.turn_limit is) ∙ left));
      })
    ]
alloc-kept e words need = record { same_caller = refl; same_geometry = refl; lost = refl; at_limit = λ is. is }

call-kept : (e : ErrandFields) (call : Call) → IsKeptBy e (begun_by e call)
unfolding alloc_begun free_begun write_begun read_begun put_begun take_begun
call-kept e (alloc words) = alloc-kept e words (need_of words)
call-kept e call = record { same_caller = refl; same_geometry = refl; lost = refl; at_limit = λ is. is }

pub call-begun :
    (g : Geometry) (caller : ℕ) (e : ErrandFields) (events : List Event) (call : Call) → IsServed g caller e events → IsIdle e
    → MayCall e events call → HasBegun e (begun_by e call) call
call-begun g caller e events call served idle may =
    let about = about-block g e events call served.own_errand.geometry served.legal may in
    let busy = call-busy e events call about may in
    record { busy = busy; under_way = call-begins e call idle about busy; kept = call-kept e call }

-- an allocation whose caller has no turn left has not begun
pub record HasNotBegun (e f : ErrandFields) (words : ℕ) : Type 0 where
  pub same : f ≡ e
  pub limit : e.turns ≡ e.geometry.turn_limit
  pub all : EventsOf e.caller (ended.alloc_spent words) []

pub alloc-not_begun : (e : ErrandFields) (words : ℕ) → alloc_answer e words ≡ begun.Spent → HasNotBegun e (begun_by e (alloc words)) words
alloc-not_begun e words spent =
    let stays = spent-begins e words spent in record { same = stays.0; limit = begins-at_limit e words spent; all = stays.1 }
